-- Lists in rising order of a key.
use Rattle.std.proofs.Common.{◌≡◌, ℕ, ◌<◌, ◌≢◌, List, [], ◌∷◌, refl, arith}
use Rattle.std.specs.Prelude.{Bool, true, false, ◌==◌, nat_lt, if◌then◌else◌}
use Rattle.std.specs.List.{AllByRecursion}
use Rattle.law_forest.proofs.Members.{all_weaker}
use Rattle.nova_guest.specs.Keyed.{placed, placed_all}

-- each of a list has a lesser key than all after it
abbrev pub IsRising : {T : Type 0} → (T → ℕ) → List T → Type 0
IsRising key [] = Unit {0}
IsRising key (x ∷ xs) = AllByRecursion (λ y. key x < key y) xs × IsRising key xs

-- two items of different keys may be put in either order
pub placed_swap : {T : Type 0} (key : T → ℕ) (a b : T) (xs : List T) → key a ≢ key b →
    placed key a (placed key b xs) ≡ placed key b (placed key a xs)
placed_swap key a b [] h = grind arith
placed_swap key a b (y ∷ ys) h = grind (arith, placed_swap key a b ys h)

pub all_placed : {T : Type 0} (P : T → Type 0) (key : T → ℕ) (x : T) (xs : List T) → P x → AllByRecursion P xs → AllByRecursion P (placed key x xs)
all_placed P key x [] px all = (px, tt)
all_placed P key x (y ∷ ys) px all = by_tests (nat_lt (key x) (key y)) (key x == key y) (all_placed P key x ys px all.1)
  where
    by_tests : (less equal : Bool) → AllByRecursion P (placed key x ys) →
        AllByRecursion P (if less then x ∷ (y ∷ ys) else (if equal then y ∷ ys else y ∷ placed key x ys))
    by_tests true equal rest = (px, all)
    by_tests false true rest = all
    by_tests false false rest = (all.0, rest)

pub rising_placed : {T : Type 0} (key : T → ℕ) (x : T) (xs : List T) → IsRising key xs → IsRising key (placed key x xs)
rising_placed key x [] rising = (tt, tt)
rising_placed key x (y ∷ ys) rising = by_tests (nat_lt (key x) (key y)) refl (key x == key y) refl (rising_placed key x ys rising.1)
  where
    by_tests : (less : Bool) → nat_lt (key x) (key y) ≡ less → (equal : Bool) → key x == key y ≡ equal → IsRising key (placed key x ys) →
        IsRising key (if less then x ∷ (y ∷ ys) else (if equal then y ∷ ys else y ∷ placed key x ys))
    by_tests true is equal same rest = ((grind arith, all_weaker (λ z. key y < key z) (λ z. key x < key z) ys (λ z h. grind arith) rising.0), rising)
    by_tests false is true same rest = rising
    by_tests false is false same rest = (all_placed (λ z. key y < key z) key x ys (grind arith) rising.0, rest)

pub rising_placed_all : {T : Type 0} (key : T → ℕ) (xs ys : List T) → IsRising key ys → IsRising key (placed_all key xs ys)
rising_placed_all key [] ys rising = rising
rising_placed_all key (x ∷ xs) ys rising = rising_placed key x (placed_all key xs ys) (rising_placed_all key xs ys rising)
