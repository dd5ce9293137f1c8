-- Tables by number: what stands where something was put, and elsewhere.
use Rattle.std.proofs.Common.{◌≡◌, ℕ, zero, suc, List, [], ◌∷◌, ◌++◌, length, refl, ap}
use Rattle.std.specs.Prelude.{slice_get, slice_set, Option, Some, None}
use Rattle.nova_model.specs.State.{entry}

pub set_other : {T : Type 0} (os : List (Option T)) (n other : ℕ) (o : Option T) → ¬ (other ≡ n) → entry (slice_get (slice_set os n o) other) ≡ entry (slice_get os other)
set_other [] n other o h = refl
set_other (x ∷ os) zero zero o h = absurd (h refl)
set_other (x ∷ os) zero (suc other) o h = refl
set_other (x ∷ os) (suc n) zero o h = refl
set_other (x ∷ os) (suc n) (suc other) o h = set_other os n other o (λ same. h (ap suc same))

pub set_same : {T : Type 0} (os : List (Option T)) (n : ℕ) (x y : T) → entry (slice_get os n) ≡ Some x → entry (slice_get (slice_set os n (Some y)) n) ≡ Some y
set_same [] n x y is = absurd cc
set_same (o ∷ os) zero x y is = refl
set_same (o ∷ os) (suc n) x y is = set_same os n x y is

-- one more entry
pub more_other : {T : Type 0} (os : List (Option T)) (o : Option T) (other : ℕ) → ¬ (other ≡ length os) → entry (slice_get (os ++ o ∷ []) other) ≡ entry (slice_get os other)
more_other [] o zero h = absurd (h refl)
more_other [] o (suc other) h = refl
more_other (x ∷ os) o zero h = refl
more_other (x ∷ os) o (suc other) h = more_other os o other (λ same. h (ap suc same))

pub more_same : {T : Type 0} (os : List (Option T)) (o : Option T) → entry (slice_get (os ++ o ∷ []) (length os)) ≡ o
more_same [] None = refl
more_same [] (Some x) = refl
more_same (x ∷ os) o = more_same os o

pub length_set : {T : Type 0} (os : List T) (n : ℕ) (o : T) → length (slice_set os n o) ≡ length os
length_set [] n o = refl
length_set (x ∷ os) zero o = refl
length_set (x ∷ os) (suc n) o = ap suc (length_set os n o)
