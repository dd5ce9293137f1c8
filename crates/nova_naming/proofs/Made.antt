-- A policy is what its lines say.
use Rattle.std.proofs.Common.{◌≡◌, ℕ, true, ◌&&◌, List, [], ◌∷◌, ◌++◌, flat_map, Option, Some, None, Result, Ok, Err, refl, ap, sym, subst, ◌∙◌, append_assoc, append-nil}
use Rattle.std.specs.Prelude.{is_ok}
use Rattle.std.specs.List.{list_all}
use Rattle.nova_text.specs.Line.{Row, lines}
use Rattle.nova_naming.specs.Statements.{Stated}
use Rattle.nova_naming.specs.Policy.{FitBehind, MakePolicy, and_then, clash, is_right, joined, policy_of, said_if_any, said_in, stated_in, with_lines, with_said}
use Rattle.nova_naming.specs.declared.fault.PolicyWhy.{PolicyWhy}

-- the policy behind these lines
record Made (before : List Stated) (rows : List Row) (policy : List Stated) : Type 0 where
  right : list_all is_right rows ≡ true
  said : policy ≡ before ++ flat_map stated_in rows
  fit : FitBehind before (flat_map stated_in rows)

-- what comes of a line, by what it says, and whether that clashes
module _ (before policy : List Stated) (row : Row) (rows : List Row) where
  abbrev Next : Result (Option Stated) PolicyWhy → Type 0
  Next r = and_then row.number (with_said before r) (λ (more : List Stated). with_lines more rows) ≡ Ok policy

  abbrev NextBy : Stated → Option PolicyWhy → Type 0
  NextBy s c = and_then row.number (joined before s c) (λ (more : List Stated). with_lines more rows) ≡ Ok policy

  with_one : (s : Stated) → said_in row ≡ Ok (Some s) → (c : Option PolicyWhy) → clash before s ≡ c → NextBy s c
      → ((more : List Stated) → with_lines more rows ≡ Ok policy → Made more rows policy) → Made before (row ∷ rows) policy
  with_one s says (Some why) clashes is later = absurd (let none : Err (record { line = row.number; why = why }) ≡ Ok policy = is in cc)
  with_one s says None fits is later =
      let rest = later (before ++ s ∷ []) is in
      let these : flat_map stated_in (row ∷ rows) ≡ s ∷ flat_map stated_in rows = ap (λ r. said_if_any r ++ flat_map stated_in rows) says in
      record {
        right = ap (λ r. is_ok r && list_all is_right rows) says ∙ rest.right;
        said = rest.said ∙ append_assoc before (s ∷ []) (flat_map stated_in rows) ∙ ap (λ xs. before ++ xs) (sym these);
        fit = subst (FitBehind before) (sym these) (fits, rest.fit);
      }

  with_next : (r : Result (Option Stated) PolicyWhy) → said_in row ≡ r → Next r → ((more : List Stated) → with_lines more rows ≡ Ok policy → Made more rows policy)
      → Made before (row ∷ rows) policy
  with_next (Err why) says is later = absurd (let none : Err (record { line = row.number; why = why }) ≡ Ok policy = is in cc)
  with_next (Ok None) says is later =
      let rest = later before is in
      let these : flat_map stated_in (row ∷ rows) ≡ flat_map stated_in rows = ap (λ r. said_if_any r ++ flat_map stated_in rows) says in
      record {
        right = ap (λ r. is_ok r && list_all is_right rows) says ∙ rest.right;
        said = rest.said ∙ ap (λ xs. before ++ xs) (sym these);
        fit = subst (FitBehind before) (sym these) rest.fit;
      }
  with_next (Ok (Some s)) says is later = with_one s says (clash before s) refl is later

made : (before policy : List Stated) (rows : List Row) → with_lines before rows ≡ Ok policy → Made before rows policy
made before policy [] is = let same : before ≡ policy = cc in record { right = refl; said = sym same ∙ sym (append-nil before); fit = tt }
made before policy (row ∷ rows) is = with_next before policy row rows (said_in row) refl is (λ more left. made more policy rows left)

-- and the other way round
module _ (before : List Stated) (row : Row) (rows : List Row) (later : (more : List Stated) → list_all is_right rows ≡ true → FitBehind more (flat_map stated_in rows)
    → with_lines more rows ≡ Ok (more ++ flat_map stated_in rows)) where
  back_by : (r : Result (Option Stated) PolicyWhy) → said_in row ≡ r → (is_ok r && list_all is_right rows) ≡ true → FitBehind before (said_if_any r ++ flat_map stated_in rows)
      → with_lines before (row ∷ rows) ≡ Ok (before ++ (said_if_any r ++ flat_map stated_in rows))
  back_by (Err why) says right fit = absurd (cc)
  back_by (Ok None) says right fit = ap (λ r. and_then row.number (with_said before r) (λ (more : List Stated). with_lines more rows)) says ∙ later before right fit
  back_by (Ok (Some s)) says right fit =
      ap (λ r. and_then row.number (with_said before r) (λ (more : List Stated). with_lines more rows)) says
      ∙ ap (λ c. and_then row.number (joined before s c) (λ (more : List Stated). with_lines more rows)) fit.0
      ∙ later (before ++ s ∷ []) right fit.1 ∙ ap Ok (append_assoc before (s ∷ []) (flat_map stated_in rows))

back : (before : List Stated) (rows : List Row) → list_all is_right rows ≡ true → FitBehind before (flat_map stated_in rows) → with_lines before rows ≡ Ok (before ++ flat_map stated_in rows)
back before [] right fit = ap Ok (sym (append-nil before))
back before (row ∷ rows) right fit = back_by before row rows (λ more r f. back more rows r f) (said_in row) refl right fit

pub lines_make : (text : List ℕ) (policy : List Stated) → policy_of text ≡ Ok policy → MakePolicy (lines text) policy
unfolding policy_of
lines_make text policy is =
    let all = made [] policy (lines text) is in record { right = all.right; said = all.said; fit = subst (FitBehind []) (sym all.said) all.fit }

pub makes : (text : List ℕ) (policy : List Stated) → MakePolicy (lines text) policy → policy_of text ≡ Ok policy
unfolding policy_of
makes text policy is = back [] (lines text) is.right (subst (FitBehind []) is.said is.fit) ∙ ap Ok (sym is.said)
