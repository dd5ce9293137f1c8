-- Two tables that have the same at the numbers of a set, and after the same edits of both.
use Rattle.std.proofs.Common.{◌≡◌, ℕ, zero, suc, List, [], ◌∷◌, refl, sym, ap, ap₂, ◌∙◌, subst, inl, inr}
use Rattle.std.specs.Prelude.{◌≢◌, slice_get, slice_set, option_map, Option, Some, None, if◌then◌else◌}
use Rattle.nova_model.specs.Semaphores.{Semaphores, changed, changed_by, semaphore_at}
use Rattle.nova_model.specs.State.{Contexts, Semaphore, context_in, ec_in, ec_of, entry}
use Rattle.nova_model.specs.declared.context.EcState.{EcState}
use Rattle.nova_model.specs.declared.context.Mark.TheVariants as mark
use Rattle.nova_model.specs.declared.context.State.TheVariants.{Exiting, Granting, Parked, Ready}
use Rattle.nova_model.specs.declared.times.Deadline.{Deadline}
use Rattle.law_forest.specs.Effects.{Answers, Becomes, Edit, Edits, Moves, Parks, Raises, Recalled, Resumes, Serves, Stays, all_edited, deadlines_with, edit_at, edited, joined, put, semaphores_with}
use Rattle.law_turns.proofs.Links.{place}
use Rattle.law_turns.proofs.Setting.{get_other}
use Rattle.law_flow.specs.Flow.{Front, front_of, fronts}
use Rattle.law_flow.proofs.Seeing.{front_in}
use Rattle.std.proofs.lemmas.Option.{same_Some}

-- TABLES

-- two tables have the same at these numbers
abbrev pub AreSame : {T : Type 0} → (ℕ → Type 0) → List T → List T → Type 0
AreSame P xs ys = (n : ℕ) → P n → slice_get ys n ≡ slice_get xs n

pub set_itself : {T : Type 0} (xs : List T) (n : ℕ) (x : T) → slice_get (slice_set xs n x) n ≡ option_map (λ (y : T). x) (slice_get xs n)
set_itself [] n x = refl
set_itself (y ∷ xs) zero x = refl
set_itself (y ∷ xs) (suc n) x = set_itself xs n x

pub set_same : {T : Type 0} (P : ℕ → Type 0) (xs ys : List T) (n : ℕ) (x y : T) → AreSame P xs ys → (P n → y ≡ x) → AreSame P (slice_set xs n x) (slice_set ys n y)
set_same {T} P xs ys n x y same values m p = elim (place m n) [
  | inl is ↦
      let q : P n = subst P is p in
      ap (slice_get (slice_set ys n y)) is ∙ set_itself ys n y ∙ ap₂ (λ (v : T) (o : Option T). option_map (λ (z : T). v) o) (values q) (same n q)
      ∙ sym (ap (slice_get (slice_set xs n x)) is ∙ set_itself xs n x)
  | inr other ↦ get_other ys n m y other ∙ same m p ∙ sym (get_other xs n m x other)
]

pub put_same : {T : Type 0} (P : ℕ → Type 0) (xs ys : List (Option T)) (o : Option (ℕ × T)) → AreSame P xs ys → AreSame P (put xs o) (put ys o)
put_same P xs ys None same = same
put_same P xs ys (Some (n, v)) same = set_same P xs ys n (Some v) (Some v) same (λ q. refl)

-- the same tables by other names
pub named_so : {T : Type 0} (P : ℕ → Type 0) (xs ys zs ws : List T) → zs ≡ xs → ws ≡ ys → AreSame P xs ys → AreSame P zs ws
named_so {T} P xs ys zs ws first second same n p = ap (λ (l : List T). slice_get l n) second ∙ same n p ∙ sym (ap (λ (l : List T). slice_get l n) first)

pub unjoined : {T M : Type 0} (xs : List T) (born : M → T) (made : Option M) → made ≡ None → joined xs (option_map born made) ≡ xs
unjoined {T} {M} xs born made none = ap (λ (o : Option M). joined xs (option_map born o)) none

pub edits_alike : (P : ℕ → Type 0) (cs ds : Contexts) (es : Edits) → AreSame P cs ds → AreSame P (all_edited cs es) (all_edited ds es)
edits_alike P cs ds [] same = same
edits_alike P cs ds ((n, e) ∷ es) same =
    edits_alike P (edit_at cs n e) (edit_at ds n e) es
    (set_same P cs ds n (Some (edited (ec_of cs n) e)) (Some (edited (ec_of ds n) e)) same
    (λ q. ap (λ (o : Option (Option EcState)). Some (edited (context_in (entry o)) e)) (same n q)))

-- and the fronts of execution contexts after edits, by the fronts before
front_edited : (x y : EcState) (e : Edit) → front_of x ≡ front_of y → front_of (edited x e) ≡ front_of (edited y e)
front_edited x y Stays same = same
front_edited x y (Becomes t) same = ap (λ (f : Front). record f { state = t }) same
front_edited x y (Raises reason q0 q1) same = ap (λ (f : Front). record f { state = Exiting reason q0 q1 }) same
front_edited x y (Answers status value) same = ap (λ (f : Front). record f { state = Ready }) same
front_edited x y (Serves caller came ip number items) same = ap (λ (f : Front). record f { state = if items then Granting None else Ready; caller = Some (caller, came) }) same
front_edited x y Parks same = ap (λ (f : Front). record f { state = Parked; caller = None }) same
front_edited x y (Resumes mark.Call m) same = ap (λ (f : Front). record f { state = Ready }) same
front_edited x y (Resumes mark.Exit m) same = ap (λ (f : Front). record f { state = Ready }) same
front_edited x y Recalled same = same
front_edited x y (Moves regs) same = same

pub fronts_set : (cs : Contexts) (n : ℕ) (x : EcState) → fronts (slice_set cs n (Some x)) ≡ slice_set (fronts cs) n (Some (front_of x))
fronts_set [] n x = refl
fronts_set (c ∷ cs) zero x = refl
fronts_set (c ∷ cs) (suc n) x = ap (λ (l : List (Option Front)). option_map front_of c ∷ l) (fronts_set cs n x)

front_so : (cs ds : Contexts) (n : ℕ) → slice_get (fronts ds) n ≡ slice_get (fronts cs) n → front_of (ec_of ds n) ≡ front_of (ec_of cs n)
front_so cs ds n same = by_entries (ec_in ds n) (ec_in cs n) (sym (front_in ds n) ∙ ap (λ (o : Option (Option Front)). entry o) same ∙ front_in cs n)
  where
    by_entries : (o p : Option EcState) → option_map front_of o ≡ option_map front_of p → front_of (context_in o) ≡ front_of (context_in p)
    by_entries None None h = refl
    by_entries None (Some y) h = absurd (cc)
    by_entries (Some x) None h = absurd (cc)
    by_entries (Some x) (Some y) h = same_Some (front_of x) (front_of y) h

pub fronts_alike : (P : ℕ → Type 0) (cs ds : Contexts) (es : Edits) → AreSame P (fronts cs) (fronts ds) → AreSame P (fronts (all_edited cs es)) (fronts (all_edited ds es))
fronts_alike P cs ds [] same = same
fronts_alike P cs ds ((n, e) ∷ es) same =
    fronts_alike P (edit_at cs n e) (edit_at ds n e) es
    (named_so P (slice_set (fronts cs) n (Some (front_of (edited (ec_of cs n) e)))) (slice_set (fronts ds) n (Some (front_of (edited (ec_of ds n) e)))) _ _
    (fronts_set cs n (edited (ec_of cs n) e)) (fronts_set ds n (edited (ec_of ds n) e))
    (set_same P (fronts cs) (fronts ds) n (Some (front_of (edited (ec_of cs n) e))) (Some (front_of (edited (ec_of ds n) e))) same
    (λ q. ap (λ (f : Front). Some f) (front_edited (ec_of ds n) (ec_of cs n) e (front_so cs ds n (same n q))))))

changed_other : (change : Semaphore → Semaphore) (all : Semaphores) (sm n : ℕ) → n ≢ sm → slice_get (changed change all sm) n ≡ slice_get all n
changed_other change all sm n other = by_entry (semaphore_at all sm)
  where
    by_entry : (o : Option Semaphore) → slice_get (changed_by change all sm o) n ≡ slice_get all n
    by_entry None = refl
    by_entry (Some s) = get_other all sm n (Some (change s)) other

pub change_same : (P : ℕ → Type 0) (xs ys : Semaphores) (o : Option (ℕ × (Semaphore → Semaphore))) → AreSame P xs ys → AreSame P (semaphores_with xs o) (semaphores_with ys o)
change_same P xs ys None same = same
change_same P xs ys (Some (sm, change)) same = λ n p. elim (place n sm) [
  | inl is ↦ here (subst P is p) n p
  | inr other ↦ changed_other change ys sm n other ∙ same n p ∙ sym (changed_other change xs sm n other)
]
  where
    by_entry : (o : Option Semaphore) → AreSame P (changed_by change xs sm o) (changed_by change ys sm o)
    by_entry None = same
    by_entry (Some s) = set_same P xs ys sm (Some (change s)) (Some (change s)) same (λ q. refl)

    here : P sm → AreSame P (changed change xs sm) (changed change ys sm)
    here q = λ n p.
        ap (λ (o : Option Semaphore). slice_get (changed_by change ys sm o) n) (ap (λ (o : Option (Option Semaphore)). entry o) (same sm q)) ∙ by_entry (semaphore_at xs sm) n p

pub deadlines_same : (P : ℕ → Type 0) (xs ys : List (Option Deadline)) (o : Option (ℕ × Option Deadline)) → AreSame P xs ys → AreSame P (deadlines_with xs o) (deadlines_with ys o)
deadlines_same P xs ys None same = same
deadlines_same P xs ys (Some (n, d)) same = set_same P xs ys n d d same (λ q. refl)
