-- Of what is numbered by rising numbers: where those begin that have a number or a greater one.
use Rattle.std.proofs.Common.{◌≡◌, ℕ, ◌<◌, ◌≤◌, List, [], ◌∷◌, refl, ap, arith}
use Rattle.std.specs.Prelude.{true, false, not, nat_lt, zero, suc, drop, filter, length, slice_get, slice_index_or, take}
use Rattle.std.specs.List.{AllByRecursion, find}
use Rattle.std.specs.List.Sorted.{IsPartitionPoint, IsPartitionedBy}
use Rattle.nova_model.specs.Forest.{ArePairs}
use Rattle.nova_nodes.specs.Stores.{is_after}

abbrev pub AreNumbered : {T : Type 0} → (T → ℕ) → List T → Type 0
AreNumbered number xs = ArePairs (λ a b. number a < number b) xs

-- those below a number stand first

below_first : {T : Type 0} (number : T → ℕ) (id i j : ℕ) (xs : List T) (other : T) → AreNumbered number xs → i ≤ j → j < length xs →
    nat_lt (number (slice_index_or xs j other)) id ≡ true → nat_lt (number (slice_index_or xs i other)) id ≡ true
below_first number id i j [] other rising h low t = absurd (omega arith)
below_first number id zero zero (x ∷ xs) other rising h low t = t
below_first {T} number id zero (suc j) (x ∷ xs) other rising h low t =
    let above = at_index xs j other rising.0 (omega arith) in
    grind (arith, above, t)
  where
    at_index : (es : List T) (k : ℕ) (e : T) → AllByRecursion (λ b. number x < number b) es → k < length es → number x < number (slice_index_or es k e)
    at_index [] k e all less = absurd (omega arith)
    at_index (y ∷ ys) zero e all less = all.0
    at_index (y ∷ ys) (suc k) e all less = at_index ys k e all.1 (omega arith)
below_first number id (suc i) zero (x ∷ xs) other rising h low t = absurd (omega arith)
below_first number id (suc i) (suc j) (x ∷ xs) other rising h low t = below_first number id i j xs other rising.1 (omega arith) (omega arith) t

pub parted : {T : Type 0} (number : T → ℕ) (id : ℕ) (xs : List T) → AreNumbered number xs → IsPartitionedBy (λ x. nat_lt (number x) id) xs
parted number id xs rising i j other h low t = below_first number id i j xs other rising h low t

pub at_point : {T : Type 0} (number : T → ℕ) (id : ℕ) (xs : List T) (i : ℕ) → IsPartitionPoint (λ x. nat_lt (number x) id ≡ true) (λ x. nat_lt (number x) id ≡ false) xs i →
    slice_get xs i ≡ find (is_after number id) xs
at_point number id [] zero point = refl
at_point number id [] (suc i) point = refl
at_point number id (x ∷ xs) zero point =
    let stops = point.1 0 x (omega arith) (omega arith) in
    let from : is_after number id x ≡ true = grind (arith, stops) in
    rw from refl
at_point number id (x ∷ xs) (suc i) point =
    let below = point.0 0 x (omega arith) (omega arith) in
    let before : is_after number id x ≡ false = grind (arith, below) in
    rw before (at_point number id xs i (λ k e low high. point.0 (suc k) e (omega arith) (omega arith), λ k e low high. point.1 (suc k) e (omega arith) (omega arith)))

-- what stands before the point, and what stands from it on

pub before_point : {T : Type 0} (number : T → ℕ) (id : ℕ) (xs : List T) (i : ℕ) → IsPartitionPoint (λ x. nat_lt (number x) id ≡ true) (λ x. nat_lt (number x) id ≡ false) xs i →
    take i xs ≡ filter (λ x. not (is_after number id x)) xs
before_point number id [] zero point = refl
before_point number id [] (suc i) point = refl
before_point number id (x ∷ xs) zero point =
    let stops = point.1 0 x (omega arith) (omega arith) in
    let from : is_after number id x ≡ true = grind (arith, stops) in
    rw from (before_point number id xs zero (λ k e low high. absurd (omega arith), λ k e low high. point.1 (suc k) e (omega arith) (omega arith)))
before_point number id (x ∷ xs) (suc i) point =
    let below = point.0 0 x (omega arith) (omega arith) in
    let before : is_after number id x ≡ false = grind (arith, below) in
    rw before (ap (λ l. x ∷ l) (before_point number id xs i (λ k e low high. point.0 (suc k) e (omega arith) (omega arith), λ k e low high. point.1 (suc k) e (omega arith) (omega arith))))

pub rest_point : {T : Type 0} (number : T → ℕ) (id : ℕ) (xs : List T) (i : ℕ) → IsPartitionPoint (λ x. nat_lt (number x) id ≡ true) (λ x. nat_lt (number x) id ≡ false) xs i →
    drop i xs ≡ filter (is_after number id) xs
rest_point number id [] zero point = refl
rest_point number id [] (suc i) point = refl
rest_point number id (x ∷ xs) zero point =
    let stops = point.1 0 x (omega arith) (omega arith) in
    let from : is_after number id x ≡ true = grind (arith, stops) in
    rw from (ap (λ l. x ∷ l) (rest_point number id xs zero (λ k e low high. absurd (omega arith), λ k e low high. point.1 (suc k) e (omega arith) (omega arith))))
rest_point number id (x ∷ xs) (suc i) point =
    let below = point.0 0 x (omega arith) (omega arith) in
    let before : is_after number id x ≡ false = grind (arith, below) in
    rw before (rest_point number id xs i (λ k e low high. point.0 (suc k) e (omega arith) (omega arith), λ k e low high. point.1 (suc k) e (omega arith) (omega arith)))
