-- What holds at each place below one, and lists that are the same at each place.
use Rattle.std.proofs.Common.{◌≡◌, ◌⊎◌, ℕ, zero, suc, ◌+◌, ◌<◌, ◌≤◌, List, [], ◌∷◌, length, refl, ap, ap₂, subst, sym, arith, inl, inr}
use Rattle.std.specs.Prelude.{Bool, true, false, nat_lt, Some, slice_get, slice_index, slice_set}
use Rattle.std.specs.Bool.{OnTrue}
use Rattle.std.specs.Cmp.Lexicographic.{pointwise, same_text}
use Rattle.std.specs.Prelude.{nat_eq}

pub place : (i n : ℕ) → i < n + 1 → (i < n) ⊎ (i ≡ n)
place i n less = by_test (nat_lt i n) refl
  where
    by_test : (t : Bool) → nat_lt i n ≡ t → (i < n) ⊎ (i ≡ n)
    by_test true is = inl (grind (arith, is))
    by_test false is = inr (grind (arith, is, less))

pub below_none : (P : ℕ → Type 0) → (n : ℕ) → n < 0 → P n
below_none P n less = absurd (omega (arith, less))

pub below_on : (P : ℕ → Type 0) (i : ℕ) → ((n : ℕ) → n < i → P n) → P i → (n : ℕ) → n < i + 1 → P n
below_on P i below here n less = by_place (place n i less)
  where
    by_place : (n < i) ⊎ (n ≡ i) → P n
    by_place (inl is) = below n is
    by_place (inr same) = subst P (sym same) here

pub same_lists : {T : Type 0} (xs ys : List T) → length xs ≡ length ys → ((n : ℕ) → n < length xs → slice_get xs n ≡ slice_get ys n) → xs ≡ ys
same_lists [] [] long each = refl
same_lists [] (y ∷ ys) long each = absurd (omega (arith, long))
same_lists (x ∷ xs) [] long each = absurd (omega (arith, long))
same_lists (x ∷ xs) (y ∷ ys) long each =
    let first : x ≡ y = (let is : Some x ≡ Some y = each 0 (omega arith) in cc) in
    ap₂ (λ (h : _) (t : List _). h ∷ t) first (same_lists xs ys (omega (arith, long)) (λ n less. each (suc n) (omega (arith, less))))

-- numbers, as they are read
pub same_numbers : (xs ys : List ℕ) → length xs ≡ length ys → ((n : ℕ) → n < length xs → slice_index xs n ≡ slice_index ys n) → xs ≡ ys
same_numbers [] [] long each = refl
same_numbers [] (y ∷ ys) long each = absurd (omega (arith, long))
same_numbers (x ∷ xs) [] long each = absurd (omega (arith, long))
same_numbers (x ∷ xs) (y ∷ ys) long each =
    ap₂ (λ (h : ℕ) (t : List ℕ). h ∷ t) (each 0 (omega arith)) (same_numbers xs ys (omega (arith, long)) (λ n less. each (suc n) (omega (arith, less))))

pub set_past : {T : Type 0} (xs : List T) (n : ℕ) (x : T) → length xs ≤ n → slice_set xs n x ≡ xs
set_past [] n x past = refl
set_past (y ∷ xs) zero x past = absurd (omega (arith, past))
set_past (y ∷ xs) (suc n) x past = ap (λ (l : List _). y ∷ l) (set_past xs n x (omega (arith, past)))

-- what the test of two lists of numbers tells
pub same_when : (r : Bool) (xs ys : List ℕ) → r ≡ pointwise nat_eq xs ys → OnTrue r (xs ≡ ys)
same_when true xs ys is = same_text xs ys is
same_when false xs ys is = tt
