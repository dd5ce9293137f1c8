-- A list of named things as a finite map, in which the first of each name counts.
use Rattle.std.proofs.Common.{◌≡◌, ℕ, zero, suc, ◌+◌, ◌<◌, Bool, true, false, not, cond, List, [], ◌∷◌, length, map, set, get_or, Some, None, bytes_eq, nat_lt, refl, sym, ◌∙◌, ap, subst, arith}
use Rattle.std.specs.Ordering.{nat_cmp, eq_by_cmp}
use Rattle.std.specs.Cmp.{IsEquivalence, eq_by_cmp_equiv}
use Rattle.std.specs.List.{position, position_or_len}
use Rattle.std.specs.Cmp.Lexicographic.{slice_cmp, nat_list_cmp_total}
use Rattle.std.specs.FinMap.{FinMap, find, get, insert, from_entries, get-from_entries, get-insert, same_map, nat_cmp-IsAntisymmetric, slice_cmp-IsAntisymmetric}
use Rattle.std.proofs.Math.Numerals.{one-add}
use Rattle.std.proofs.lemmas.Map.Text.{is_eq-slice_cmp}
use Rattle.std.proofs.lemmas.Slice.Eq.{bytes_eq-Decides}

abbrev same : List ℕ → List ℕ → Bool
same = eq_by_cmp (slice_cmp nat_cmp)

sames : IsEquivalence same
sames = eq_by_cmp_equiv nat_list_cmp_total

true_is_not_false : true ≡ false → ⊥
true_is_not_false e = cc

-- the first place at which the test passes
abbrev IsFirst : {A : Type 0} → (A → Bool) → List A → ℕ → Type 0
IsFirst p [] i = ⊥
IsFirst p (x ∷ xs) zero = p x ≡ true
IsFirst p (x ∷ xs) (suc i) = (p x ≡ false) × IsFirst p xs i

first-step : {A : Type 0} (p : A → Bool) (x : A) (xs : List A) (n : ℕ) (b : Bool) → p x ≡ b
    → (n < length xs → IsFirst p xs n)
    → cond (not b) (1 + n) 0 < suc (length xs) → IsFirst p (x ∷ xs) (cond (not b) (1 + n) 0)
first-step p x xs n true e next h = e
first-step p x xs n false e next h =
    let here : IsFirst p (x ∷ xs) (suc n) = (e, next (omega arith)) in
    subst (IsFirst p (x ∷ xs)) (sym (one-add n)) here

first-at : {A : Type 0} (p : A → Bool) (xs : List A) → position_or_len p xs < length xs → IsFirst p xs (position_or_len p xs)
first-at p [] h = absurd (omega arith)
first-at p (x ∷ xs) h = first-step p x xs (position_or_len p xs) (p x) refl (first-at p xs) h

told : (b : Bool) (n i : ℕ) → cond b (Some n) None ≡ Some i → (b ≡ true) × (n ≡ i)
told true n i e = (refl, grind arith)
told false n i e = cc

not_told : (b : Bool) (n : ℕ) → cond b (Some n) None ≡ None → b ≡ false
not_told true n e = cc
not_told false n e = refl

pub first-from-position : {A : Type 0} (p : A → Bool) (xs : List A) (i : ℕ) → position p xs ≡ Some i → IsFirst p xs i
first-from-position p xs i e =
    let both = told (nat_lt (position_or_len p xs) (length xs)) (position_or_len p xs) i e in
    subst (IsFirst p xs) both.1 (first-at p xs (grind (arith, both.0)))

module _ {A X : Type 0} (key : A → List ℕ) (value : A → X) (name : List ℕ) where
  abbrev named : A → Bool
  named a = bytes_eq name (key a)

  abbrev entry : A → List ℕ × X
  entry a = (key a, value a)

  find-at : (xs : List A) (i : ℕ) (d : A) → IsFirst named xs i → find (slice_cmp nat_cmp) name (map entry xs) ≡ Some (value (get_or xs i d))
  find-at [] i d h = absurd h
  find-at (x ∷ xs) zero d h = ap (λ b. cond b (Some (value x)) (find (slice_cmp nat_cmp) name (map entry xs))) (is_eq-slice_cmp name (key x) ∙ h)
  find-at (x ∷ xs) (suc i) d h =
      ap (λ b. cond b (Some (value x)) (find (slice_cmp nat_cmp) name (map entry xs))) (is_eq-slice_cmp name (key x) ∙ h.0)
      ∙ find-at xs i d h.1

  none-step : (x : A) (xs : List A) (n : ℕ) (b : Bool) → named x ≡ b
      → (nat_lt n (length xs) ≡ false → find (slice_cmp nat_cmp) name (map entry xs) ≡ None)
      → nat_lt (cond (not b) (1 + n) 0) (suc (length xs)) ≡ false
      → find (slice_cmp nat_cmp) name (map entry (x ∷ xs)) ≡ None
  none-step x xs n true e next h = absurd (grind (arith, h))
  none-step x xs n false e next h =
      ap (λ b. cond b (Some (value x)) (find (slice_cmp nat_cmp) name (map entry xs))) (is_eq-slice_cmp name (key x) ∙ e)
      ∙ next (grind (arith, h))

  find-none : (xs : List A) → nat_lt (position_or_len named xs) (length xs) ≡ false → find (slice_cmp nat_cmp) name (map entry xs) ≡ None
  find-none [] h = refl
  find-none (x ∷ xs) h = none-step x xs (position_or_len named xs) (named x) refl (find-none xs) h

  -- the value of the first of the name
  pub get-at : (xs : List A) (i : ℕ) (d : A) → position named xs ≡ Some i → get (from_entries {R = slice_cmp nat_cmp} (map entry xs)) name ≡ Some (value (get_or xs i d))
  get-at xs i d e = get-from_entries nat_list_cmp_total (map entry xs) name ∙ find-at xs i d (first-from-position named xs i e)

  pub get-none : (xs : List A) → position named xs ≡ None → get (from_entries {R = slice_cmp nat_cmp} (map entry xs)) name ≡ None
  get-none xs e = get-from_entries nat_list_cmp_total (map entry xs) name ∙ find-none xs (not_told _ _ e)

  shadowed : {Y : Type 0} (a b : Bool) (y z w : Y) → b ≡ a → cond a y w ≡ cond a y (cond b z w)
  shadowed true b y z w e = refl
  shadowed false true y z w e = cc
  shadowed false false y z w e = refl

  swapped : {Y : Type 0} (a b : Bool) (y z w : Y) → (b ≡ true → a ≡ false) → cond a z (cond b y w) ≡ cond b y (cond a z w)
  swapped true true y z w apart = absurd (true_is_not_false (apart refl))
  swapped true false y z w apart = refl
  swapped false true y z w apart = refl
  swapped false false y z w apart = refl

  -- a write at the first of the name, of a thing of that name
  find-set : (any : List ℕ) (xs : List A) (i : ℕ) (y : A) → IsFirst named xs i → key y ≡ name
      → find (slice_cmp nat_cmp) any (map entry (set xs i y)) ≡ cond (same any name) (Some (value y)) (find (slice_cmp nat_cmp) any (map entry xs))
  find-set any [] i y h e = absurd h
  find-set any (x ∷ xs) zero y h e =
      let rest = find (slice_cmp nat_cmp) any (map entry xs) in
      let alike : same any (key x) ≡ same any name =
      sames.symm any (key x) ∙ sym (sames.congr name (key x) any (is_eq-slice_cmp name (key x) ∙ h)) ∙ sames.symm name any in
      ap (λ k. cond (same any k) (Some (value y)) rest) e
      ∙ shadowed (same any name) (same any (key x)) (Some (value y)) (Some (value x)) rest alike
  find-set any (x ∷ xs) (suc i) y h e =
      let rest = find (slice_cmp nat_cmp) any (map entry xs) in
      ap (cond (same any (key x)) (Some (value x))) (find-set any xs i y h.1 e)
      ∙ swapped (same any (key x)) (same any name) (Some (value y)) (Some (value x)) rest
      (λ tie. sames.congr any name (key x) tie ∙ is_eq-slice_cmp name (key x) ∙ h.0)

  pub from_entries-set : (xs : List A) (i : ℕ) (y : A) → position named xs ≡ Some i → key y ≡ name
      → from_entries {R = slice_cmp nat_cmp} (map entry (set xs i y)) ≡ insert (from_entries (map entry xs)) name (value y)
  from_entries-set xs i y at e =
      same_map nat_list_cmp_total (slice_cmp-IsAntisymmetric nat_cmp-IsAntisymmetric) _ _ (λ any.
      get-from_entries nat_list_cmp_total (map entry (set xs i y)) any
      ∙ find-set any xs i y (first-from-position named xs i at) e
      ∙ ap (cond (same any name) (Some (value y))) (sym (get-from_entries nat_list_cmp_total (map entry xs) any))
      ∙ sym (get-insert nat_list_cmp_total (from_entries (map entry xs)) name (value y) any))

  key-at : (xs : List A) (i : ℕ) (d : A) → IsFirst named xs i → key (get_or xs i d) ≡ name
  key-at [] i d h = absurd h
  key-at (x ∷ xs) zero d h = sym ((bytes_eq-Decides name (key x)).0 h)
  key-at (x ∷ xs) (suc i) d h = key-at xs i d h.1

  -- a write at the first of the name, that keeps the name
  pub from_entries-set_value : (xs : List A) (i : ℕ) (y d : A) → position named xs ≡ Some i → key y ≡ key (get_or xs i d)
      → from_entries {R = slice_cmp nat_cmp} (map entry (set xs i y)) ≡ insert (from_entries (map entry xs)) name (value y)
  from_entries-set_value xs i y d at e = from_entries-set xs i y at (e ∙ key-at xs i d (first-from-position named xs i at))

-- the value that a name has already
pub insert_again : {X : Type 0} (m : FinMap (slice_cmp nat_cmp) X) (name : List ℕ) (v : X) → get m name ≡ Some v → insert m name v ≡ m
insert_again m name v h =
    same_map nat_list_cmp_total (slice_cmp-IsAntisymmetric nat_cmp-IsAntisymmetric) _ _ (λ any.
    get-insert nat_list_cmp_total m name v any ∙ again any (same any name) refl)
  where
    again : (any : List ℕ) (b : Bool) → same any name ≡ b → cond b (Some v) (get m any) ≡ get m any
    again any true e = sym h ∙ ap (get m) (sym ((bytes_eq-Decides any name).0 (sym (is_eq-slice_cmp any name) ∙ e)))
    again any false e = refl
