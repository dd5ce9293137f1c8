-- Entries of a table where an entry is set.
use Rattle.std.proofs.Common.{◌≡◌, ◌<◌, ℕ, zero, suc, ◌+◌, List, [], ◌∷◌, ◌++◌, length, inl, inr, refl, ap, arith}
use Rattle.std.specs.Prelude.{◌≢◌, ◌⊎◌, slice_get, slice_index, slice_set, Option, Some, None, IsSome, is_some}
use Rattle.nova_model.specs.State.{entry}

pub get_other : {T : Type 0} (xs : List T) (e f : ℕ) (x : T) → f ≢ e → slice_get (slice_set xs e x) f ≡ slice_get xs f
get_other [] e f x other = refl
get_other (y ∷ xs) zero zero x other = absurd (other refl)
get_other (y ∷ xs) zero (suc f) x other = refl
get_other (y ∷ xs) (suc e) zero x other = refl
get_other (y ∷ xs) (suc e) (suc f) x other = get_other xs e f x (λ same. other (ap suc same))

pub set_both : {T : Type 0} (xs : List T) (e f : ℕ) (x y : T) → f ≢ e → slice_set (slice_set xs e x) f y ≡ slice_set (slice_set xs f y) e x
set_both [] e f x y other = refl
set_both (z ∷ xs) zero zero x y other = absurd (other refl)
set_both (z ∷ xs) zero (suc f) x y other = refl
set_both (z ∷ xs) (suc e) zero x y other = refl
set_both {T} (z ∷ xs) (suc e) (suc f) x y other = ap (λ (l : List T). z ∷ l) (set_both xs e f x y (λ same. other (ap suc same)))

pub some_set : {T : Type 0} (xs : List T) (e n : ℕ) (x : T) → is_some (slice_get (slice_set xs e x) n) ≡ is_some (slice_get xs n)
some_set [] e n x = refl
some_set (y ∷ xs) zero zero x = refl
some_set (y ∷ xs) zero (suc n) x = refl
some_set (y ∷ xs) (suc e) zero x = refl
some_set (y ∷ xs) (suc e) (suc n) x = some_set xs e n x

pub entry_other : {T : Type 0} (xs : List (Option T)) (e f : ℕ) (x : T) → f ≢ e → entry (slice_get (slice_set xs e (Some x)) f) ≡ entry (slice_get xs f)
entry_other {T} xs e f x other = ap (λ (o : Option (Option T)). entry o) (get_other xs e f (Some x) other)

pub entry_itself : {T : Type 0} (xs : List (Option T)) (e : ℕ) (x : T) → IsSome (entry (slice_get xs e)) → entry (slice_get (slice_set xs e (Some x)) e) ≡ Some x
entry_itself [] e x there = absurd (cc)
entry_itself (y ∷ xs) zero x there = refl
entry_itself (y ∷ xs) (suc e) x there = entry_itself xs e x there

pub index_other : (xs : List ℕ) (e f x : ℕ) → f ≢ e → slice_index (slice_set xs e x) f ≡ slice_index xs f
index_other [] e f x other = refl
index_other (y ∷ xs) zero zero x other = absurd (other refl)
index_other (y ∷ xs) zero (suc f) x other = refl
index_other (y ∷ xs) (suc e) zero x other = refl
index_other (y ∷ xs) (suc e) (suc f) x other = index_other xs e f x (λ same. other (ap suc same))

pub index_itself : (xs : List ℕ) (e x : ℕ) → e < length xs → slice_index (slice_set xs e x) e ≡ x
index_itself [] e x below = absurd (omega arith)
index_itself (y ∷ xs) zero x below = refl
index_itself (y ∷ xs) (suc e) x below = index_itself xs e x (omega arith)

-- what is found where an entry is set: it, or what was there
pub entry_set : {T : Type 0} (xs : List (Option T)) (e n : ℕ) (x y : T) → entry (slice_get (slice_set xs e (Some x)) n) ≡ Some y →
    ((n ≡ e) × (x ≡ y)) ⊎ ((n ≢ e) × (entry (slice_get xs n) ≡ Some y))
entry_set [] e n x y h = absurd (cc)
entry_set (z ∷ xs) zero zero x y h = let same : x ≡ y = cc in inl (refl, same)
entry_set (z ∷ xs) zero (suc n) x y h = inr (λ is. absurd (cc), h)
entry_set (z ∷ xs) (suc e) zero x y h = inr (λ is. absurd (cc), h)
entry_set (z ∷ xs) (suc e) (suc n) x y h = elim (entry_set xs e n x y h) [
  | inl itself ↦ inl (ap suc itself.0, itself.1)
  | inr other ↦ inr (λ is. let same : n ≡ e = omega arith in other.0 same, other.1)
]

-- what is found where an entry joins: one that was there, or it
pub get_joined : {T : Type 0} (xs : List T) (x : T) (n : ℕ) (y : T) → slice_get (xs ++ x ∷ []) n ≡ Some y →
    (slice_get xs n ≡ Some y) ⊎ ((n ≡ length xs) × (x ≡ y))
get_joined [] x zero y h = let same : x ≡ y = cc in inr (refl, same)
get_joined [] x (suc n) y h = absurd (cc)
get_joined (z ∷ xs) x zero y h = inl h
get_joined (z ∷ xs) x (suc n) y h = elim (get_joined xs x n y h) [
  | inl there ↦ inl there
  | inr new ↦ inr (ap suc new.0, new.1)
]

pub entry_joined : {T : Type 0} (xs : List (Option T)) (o : Option T) (n : ℕ) (y : T) → entry (slice_get (xs ++ o ∷ []) n) ≡ Some y →
    (entry (slice_get xs n) ≡ Some y) ⊎ ((n ≡ length xs) × (o ≡ Some y))
entry_joined [] o zero y h = inr (refl, h)
entry_joined [] o (suc n) y h = absurd (cc)
entry_joined (z ∷ xs) o zero y h = inl h
entry_joined (z ∷ xs) o (suc n) y h = elim (entry_joined xs o n y h) [
  | inl there ↦ inl there
  | inr new ↦ inr (ap suc new.0, new.1)
]

-- where an entry joins, what was there stays
pub get_kept : {T : Type 0} (xs : List T) (x : T) (n : ℕ) (y : T) → slice_get xs n ≡ Some y → slice_get (xs ++ x ∷ []) n ≡ Some y
get_kept [] x n y h = absurd (cc)
get_kept (z ∷ xs) x zero y h = h
get_kept (z ∷ xs) x (suc n) y h = get_kept xs x n y h

pub entry_kept : {T : Type 0} (xs : List (Option T)) (o : Option T) (n : ℕ) (y : T) → entry (slice_get xs n) ≡ Some y → entry (slice_get (xs ++ o ∷ []) n) ≡ Some y
entry_kept [] o n y h = absurd (cc)
entry_kept (z ∷ xs) o zero y h = h
entry_kept (z ∷ xs) o (suc n) y h = entry_kept xs o n y h

pub get_last : {T : Type 0} (xs : List T) (x : T) → slice_get (xs ++ x ∷ []) (length xs) ≡ Some x
get_last [] x = refl
get_last (y ∷ xs) x = get_last xs x

-- and it is within
pub get_below : {T : Type 0} (xs : List T) (n : ℕ) (y : T) → slice_get xs n ≡ Some y → n < length xs
get_below [] n y h = absurd (cc)
get_below (z ∷ xs) zero y h = omega arith
get_below (z ∷ xs) (suc n) y h = let below = get_below xs n y h in omega arith

pub entry_below : {T : Type 0} (xs : List (Option T)) (n : ℕ) (y : T) → entry (slice_get xs n) ≡ Some y → n < length xs
entry_below [] n y h = absurd (cc)
entry_below (z ∷ xs) zero y h = omega arith
entry_below (z ∷ xs) (suc n) y h = let below = entry_below xs n y h in omega arith

pub set_length : {T : Type 0} (xs : List T) (e : ℕ) (x : T) → length (slice_set xs e x) ≡ length xs
set_length [] e x = refl
set_length (y ∷ xs) zero x = refl
set_length (y ∷ xs) (suc e) x = ap suc (set_length xs e x)

pub joined_length : {T : Type 0} (xs : List T) (x : T) → length (xs ++ x ∷ []) ≡ length xs + 1
joined_length [] x = refl
joined_length (y ∷ xs) x = let rest = joined_length xs x in omega arith

-- and past the last nothing was
pub joined_other : {T : Type 0} (xs : List T) (x : T) (n : ℕ) → n ≢ length xs → slice_get (xs ++ x ∷ []) n ≡ slice_get xs n
joined_other [] x zero other = absurd (other refl)
joined_other [] x (suc n) other = refl
joined_other (y ∷ xs) x zero other = refl
joined_other (y ∷ xs) x (suc n) other = joined_other xs x n (λ same. other (ap suc same))

pub more_at : {T : Type 0} (Q : Option T → Type 0) (xs : List (Option T)) (o : Option T) (f : ℕ) → Q (entry (slice_get xs f)) → (Q None → Q o) →
    Q (entry (slice_get (xs ++ o ∷ []) f))
more_at Q [] o zero old new = new old
more_at Q [] o (suc f) old new = old
more_at Q (x ∷ xs) o zero old new = old
more_at Q (x ∷ xs) o (suc f) old new = more_at Q xs o f old new
