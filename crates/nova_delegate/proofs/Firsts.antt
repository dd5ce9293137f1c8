-- The derivation that covers a place, and the first of a line that lies in a protection domain.
use Rattle.std.proofs.Common.{◌≡◌, ℕ, List, [], ◌∷◌, ◌++◌, ap, sym, ◌∙◌, subst, refl}
use Rattle.std.specs.Prelude.{◌≢◌, Bool, true, false, ◌==◌, Contains, nat_lt, nat_le, Some, None}
use Rattle.std.specs.List.{AllByRecursion, find}
use Rattle.std.proofs.lemmas.Bool.{and_parts, and_from, leb-true, ltb-true, le-leb, lt-ltb, eqb-true, eq-eqb, ne_eqb}
use Rattle.nova_range.specs.Ranges.{end_of}
use Rattle.nova_range.specs.declared.range.Range.{Range}
use Rattle.nova_model.specs.Delegations.{Delegations, range_of, covers, has_place}
use Rattle.nova_model.specs.Forest.{IsForest}
use Rattle.nova_model.specs.Lines.{line}
use Rattle.nova_model.specs.Translations.{nearest}
use Rattle.nova_model.specs.declared.delegation.Derivation.{Derivation}
use Rattle.law_forest.proofs.Members.{in_from_contains}
use Rattle.nova_nodes.proofs.Found.{find_only}
use Rattle.nova_nodes.proofs.Indexed.{in_space, passes_space, meeting}
use Rattle.nova_delegate.specs.Answered.{Holds, IsNearest}

-- WHICH DERIVATION HOLDS IT

pub holds_from : (giver : ℕ) (r : Range) (d : Derivation) → covers r.kind giver r.base d ≡ true → Holds giver r d
holds_from giver r d h =
    let s = in_space giver r.kind (has_place (range_of d) r.base) d h in
    let t = and_parts (nat_le d.base r.base) (nat_lt r.base (end_of (range_of d))) s.passes in
    record { pd = s.domain; kind = s.space; base = record { from_base = leb-true _ _ t.0; before_end = ltb-true _ _ t.1 } }

pub covers_from : (giver : ℕ) (r : Range) (d : Derivation) → Holds giver r d → covers r.kind giver r.base d ≡ true
covers_from giver r d h =
    passes_space giver r.kind (has_place (range_of d) r.base) d h.pd h.kind
    (and_from (nat_le d.base r.base) (nat_lt r.base (end_of (range_of d))) (le-leb _ _ h.base.from_base) (lt-ltb _ _ h.base.before_end))

-- only one does
pub held_found : (f : Delegations) (giver : ℕ) (r : Range) (d : Derivation) → IsForest f → Contains f.list d → Holds giver r d → find (covers r.kind giver r.base) f.list ≡ Some d
held_found f giver r d forest there h =
    let i = in_from_contains f.list d there in
    let c = covers_from giver r d h in
    let s = in_space giver r.kind (has_place (range_of d) r.base) d c in
    find_only (covers r.kind giver r.base) f.list d i c
    (λ b j g. let t = in_space giver r.kind (has_place (range_of b) r.base) b g in
    meeting f b d r.base forest j i (t.domain ∙ sym s.domain) (t.space ∙ sym s.space) t.passes s.passes)

-- THE FIRST OF A LINE

record IsFirst (xs : List Derivation) (pd : ℕ) (a : Derivation) : Type 0 where
  before : List Derivation
  after : List Derivation
  is : xs ≡ before ++ a ∷ after
  domain : a.pd ≡ pd
  others : AllByRecursion (λ b. b.pd ≢ pd) before

first_found : (xs : List Derivation) (pd : ℕ) (a : Derivation) → find (λ b. b.pd == pd) xs ≡ Some a → IsFirst xs pd a
first_found [] pd a h = absurd (cc)
first_found (x ∷ xs) pd a h = by_test (x.pd == pd) refl (λ g. first_found xs pd a g)
  where
    by_test : (t : Bool) → (x.pd == pd) ≡ t → (find (λ b. b.pd == pd) xs ≡ Some a → IsFirst xs pd a) → IsFirst (x ∷ xs) pd a
    by_test true t rest =
        let g : Some x ≡ Some a = rw t at h in
        let same : x ≡ a = cc in
        record { before = []; after = xs; is = ap (λ (y : Derivation). y ∷ xs) same; domain = subst (λ (y : Derivation). y.pd ≡ pd) same (eqb-true x.pd pd t); others = tt }
    by_test false t rest =
        let g : find (λ b. b.pd == pd) xs ≡ Some a = rw t at h in
        let r = rest g in
        record {
          before = x ∷ r.before;
          after = r.after;
          is = ap (λ (l : List Derivation). x ∷ l) r.is;
          domain = r.domain;
          others = (λ e. let s = eq-eqb x.pd pd e in absurd (cc), r.others);
        }

first_is : (before after : List Derivation) (pd : ℕ) (a : Derivation) → a.pd ≡ pd → AllByRecursion (λ b. b.pd ≢ pd) before → find (λ b. b.pd == pd) (before ++ a ∷ after) ≡ Some a
first_is [] after pd a domain others = rw (eq-eqb a.pd pd domain) refl
first_is (x ∷ xs) after pd a domain others = rw (ne_eqb x.pd pd others.0) (first_is xs after pd a domain others.1)

pub none_first : (xs : List Derivation) (pd : ℕ) → AllByRecursion (λ b. b.pd ≢ pd) xs → find (λ b. b.pd == pd) xs ≡ None
none_first [] pd others = refl
none_first (x ∷ xs) pd others = rw (ne_eqb x.pd pd others.0) (none_first xs pd others.1)

pub no_first : (xs : List Derivation) (pd : ℕ) → find (λ b. b.pd == pd) xs ≡ None → AllByRecursion (λ b. b.pd ≢ pd) xs
no_first [] pd none = tt
no_first (x ∷ xs) pd none = by_test (x.pd == pd) refl (λ g. no_first xs pd g)
  where
    by_test : (t : Bool) → (x.pd == pd) ≡ t → (find (λ b. b.pd == pd) xs ≡ None → AllByRecursion (λ b. b.pd ≢ pd) xs) → AllByRecursion (λ b. b.pd ≢ pd) (x ∷ xs)
    by_test true t rest = let g : Some x ≡ None = rw t at none in absurd (cc)
    by_test false t rest = let g : find (λ b. b.pd == pd) xs ≡ None = rw t at none in (λ e. let s = eq-eqb x.pd pd e in absurd (cc), rest g)

pub nearest_from : (list : List Derivation) (d a : Derivation) (receiver : ℕ) → nearest list d receiver ≡ Some a → IsNearest list d receiver a
nearest_from list d a receiver h =
    let r = first_found (line list d) receiver a h in
    record { before = r.before; after = r.after; is = r.is; pd = r.domain; others = r.others }

pub nearest_is : (list : List Derivation) (d a : Derivation) (receiver : ℕ) → IsNearest list d receiver a → nearest list d receiver ≡ Some a
nearest_is list d a receiver n = ap (find (λ b. b.pd == receiver)) n.is ∙ first_is n.before n.after receiver a n.pd n.others
