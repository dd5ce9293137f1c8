-- Members of a list by a test, and of a list the member that goes before all: of least number or of greatest.
use Rattle.std.proofs.Common.{◌≡◌, ℕ, List, [], ◌∷◌, ap, sym, ◌∙◌, subst, inl, inr, refl, arith}
use Rattle.std.specs.Prelude.{Bool, true, false, nat_le, filter, if◌then◌else◌, Some, None, is_some}
use Rattle.std.specs.List.{find, list_all, list_any}
use Rattle.std.proofs.lemmas.Bool.{false_from_ne_true}
use Rattle.nova_model.specs.declared.delegation.Derivation.{Derivation}
use Rattle.law_forest.proofs.Members.{IsIn, all_at, in_filtered, found_in, none_found}

-- MEMBERS

pub any_in : {T : Type 0} (p : T → Bool) (xs : List T) → list_any p xs ≡ true → (x : T) × IsIn xs x × (p x ≡ true)
any_in p [] h = absurd (cc)
any_in {T} p (x ∷ xs) h = by_test (λ g. any_in p xs g) (p x) refl
  where
    by_test : (list_any p xs ≡ true → (y : T) × IsIn xs y × (p y ≡ true)) → (b : Bool) → p x ≡ b → (y : T) × IsIn (x ∷ xs) y × (p y ≡ true)
    by_test rest true e = (x, inl refl, e)
    by_test rest false e = let g : list_any p xs ≡ true = rw e at h in let i = rest g in (i.0, inr i.1, i.2)

pub any_from : {T : Type 0} (p : T → Bool) (xs : List T) (x : T) → IsIn xs x → p x ≡ true → list_any p xs ≡ true
any_from p [] x i h = absurd i
any_from p (y ∷ ys) x (inl e) h = let g : p y ≡ true = ap p e ∙ h in rw g refl
any_from p (y ∷ ys) x (inr i) h = grind (arith, any_from p ys x i h)

-- what passes is in the filtered list, so that of an empty one none passes
pub none_passes : {T : Type 0} (p : T → Bool) (xs : List T) → filter p xs ≡ [] → (x : T) → IsIn xs x → p x ≡ false
none_passes p xs empty x i = false_from_ne_true (p x) (λ t. subst (λ l. IsIn l x) empty (in_filtered p xs x i t))

pub none_kept : {T : Type 0} (p : T → Bool) (xs : List T) → ((x : T) → IsIn xs x → p x ≡ false) → filter p xs ≡ []
none_kept p [] h = refl
none_kept p (x ∷ xs) h = rw (h x (inl refl)) (none_kept p xs (λ y i. h y (inr i)))

-- two tests that agree on all members
pub filter_same : {T : Type 0} (p q : T → Bool) (xs : List T) → ((x : T) → IsIn xs x → p x ≡ q x) → filter p xs ≡ filter q xs
filter_same p q [] h = refl
filter_same p q (x ∷ xs) h = rw (h x (inl refl)) (ap (λ l. if q x then x ∷ l else l) (filter_same p q xs (λ y i. h y (inr i))))

-- WHAT GOES BEFORE ALL

every_at : {T : Type 0} (p : T → Bool) (xs : List T) (x : T) → list_all p xs ≡ true → IsIn xs x → p x ≡ true
every_at p [] x all i = absurd i
every_at p (y ∷ ys) x all (inl e) = ap p (sym e) ∙ grind arith
every_at p (y ∷ ys) x all (inr i) = every_at p ys x (grind arith) i

every_from : {T : Type 0} (p : T → Bool) (xs : List T) → ((x : T) → IsIn xs x → p x ≡ true) → list_all p xs ≡ true
every_from p [] h = refl
every_from p (x ∷ xs) h = rw (h x (inl refl)) (every_from p xs (λ y i. h y (inr i)))

-- an order in which any two can be compared
pub record IsOrder (le : Derivation → Derivation → Bool) : Type 0 where
  pub itself : (a : Derivation) → le a a ≡ true
  pub either : (a b : Derivation) → le a b ≡ false → le b a ≡ true
  pub through : (a b c : Derivation) → le a b ≡ true → le b c ≡ true → le a c ≡ true

pub record IsBefore (le : Derivation → Derivation → Bool) (ds : List Derivation) (d : Derivation) : Type 0 where
  pub there : IsIn ds d
  pub before : (a : Derivation) → IsIn ds a → le d a ≡ true

abbrev pub foremost : (Derivation → Derivation → Bool) → List Derivation → Type 0
foremost le ds = (e : Derivation) × IsBefore le ds e

pub before_facts : (le : Derivation → Derivation → Bool) (ds : List Derivation) (d : Derivation) → find (λ a. list_all (λ b. le a b) ds) ds ≡ Some d → IsBefore le ds d
before_facts le ds d is =
    let k = found_in (λ a. list_all (λ b. le a b) ds) ds d is in
    record { there = k.0; before = λ a i. every_at (λ b. le d b) ds a k.1 i }

some_before : (le : Derivation → Derivation → Bool) → IsOrder le → (d : Derivation) (ds : List Derivation) → foremost le (d ∷ ds)
some_before le order d [] = (d, record { there = inl refl; before = λ a i. one a i })
  where
    one : (a : Derivation) → IsIn (d ∷ []) a → le d a ≡ true
    one a (inl e) = ap (le d) (sym e) ∙ order.itself d
    one a (inr i) = absurd i
some_before le order d (x ∷ xs) = by_rest (some_before le order x xs)
  where
    by_rest : foremost le (x ∷ xs) → foremost le (d ∷ x ∷ xs)
    by_rest (e, best) = by_test (le d e) refl
      where
        first : le d e ≡ true → (a : Derivation) → IsIn (d ∷ x ∷ xs) a → le d a ≡ true
        first h a (inl g) = ap (le d) (sym g) ∙ order.itself d
        first h a (inr i) = order.through d e a h (best.before a i)

        later : le d e ≡ false → (a : Derivation) → IsIn (d ∷ x ∷ xs) a → le e a ≡ true
        later h a (inl g) = ap (le e) (sym g) ∙ order.either d e h
        later h a (inr i) = best.before a i

        by_test : (t : Bool) → le d e ≡ t → foremost le (d ∷ x ∷ xs)
        by_test true h = (d, record { there = inl refl; before = first h })
        by_test false h = (e, record { there = inr best.there; before = later h })

-- there is none only of an empty list
pub none_before : (le : Derivation → Derivation → Bool) → IsOrder le → (ds : List Derivation) → find (λ a. list_all (λ b. le a b) ds) ds ≡ None → ds ≡ []
none_before le order [] none = refl
none_before le order (x ∷ xs) none = absurd (by_best (some_before le order x xs))
  where
    by_best : foremost le (x ∷ xs) → ⊥
    by_best (e, best) =
        let on = every_from (λ b. le e b) (x ∷ xs) best.before in
        let off = all_at (λ a. list_all (λ b. le a b) (x ∷ xs) ≡ false) (x ∷ xs) e (none_found (λ a. list_all (λ b. le a b) (x ∷ xs)) (x ∷ xs) (ap is_some none)) best.there in
        cc

pub least : (number : Derivation → ℕ) → IsOrder (λ a b. nat_le (number a) (number b))
least number = record { itself = λ a. grind arith; either = λ a b h. grind (arith, h); through = λ a b c h k. grind (arith, h, k) }

pub greatest : (number : Derivation → ℕ) → IsOrder (λ a b. nat_le (number b) (number a))
greatest number = record { itself = λ a. grind arith; either = λ a b h. grind (arith, h); through = λ a b c h k. grind (arith, h, k) }
