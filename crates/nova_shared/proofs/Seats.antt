-- Seats, and how many turns each saw.
use Rattle.std.proofs.Common.{◌≡◌, ◌≢◌, ⊎_elim, ℕ, zero, suc, ◌+◌, ◌<◌, ◌≤◌, List, [], ◌∷◌, ◌++◌, length, drop, refl, replicate, ap, ap₂, sym, ◌∙◌, arith, All, subst}
use Rattle.std.proofs.lemmas.List.{length-append, length-replicate}
use Rattle.std.proofs.lemmas.Bool.Decides.{nat_tests}
use Rattle.std.proofs.lemmas.Bool.{cases_lt}
use Rattle.std.specs.List.{AllByRecursion}
use Rattle.nova_lock.specs.History.{entries, IsFrontOf}
use Rattle.nova_lock.specs.Seats.{LockView, SeatView, AreSeats}

entries_snoc : (n : ℕ) (xs : List ℕ) → entries n (xs ++ n ∷ []) ≡ entries n xs + 1
entries_snoc n [] = grind (arith, nat_tests)
entries_snoc n (x ∷ xs) = let r = entries_snoc n xs in grind (arith, r)

entries_own : (n k : ℕ) → entries n (replicate k n) ≡ k
entries_own n zero = refl
entries_own n (suc k) = let r = entries_own n k in grind (arith, nat_tests, r)

entries_block : (n k : ℕ) (xs : List ℕ) → entries n (xs ++ replicate k n) ≡ entries n xs + k
entries_block n k [] = let r = entries_own n k in grind (arith, r)
entries_block n k (x ∷ xs) = let r = entries_block n k xs in grind (arith, r)

entries_most : (n : ℕ) (xs : List ℕ) → entries n xs ≤ length xs
entries_most n [] = omega arith
entries_most n (x ∷ xs) = let r = entries_most n xs in grind (arith, r)

-- a turn more of the seat's own
pub stepped_mine : (n : ℕ) (old found : List ℕ) → IsFrontOf n old found → entries n (found ++ n ∷ []) ≡ entries n old + 1
stepped_mine n old found f = entries_snoc n found ∙ ap (λ (m : ℕ). m + 1) (sym f.whole)

-- `k` turns more of the seat's own
pub block_mine : (n k : ℕ) (old found : List ℕ) → IsFrontOf n old found → entries n (found ++ replicate k n) ≡ entries n old + k
block_mine n k old found f = entries_block n k found ∙ ap (λ (m : ℕ). m + k) (sym f.whole)

pub mine_most : (n : ℕ) (old found : List ℕ) → IsFrontOf n old found → entries n old ≤ length found
mine_most n old found f = omega (arith, f.whole, entries_most n found)

-- what a seat counts, after `count` turns more of its own behind those that were found
module _ (n seen mine count : ℕ) (old found new : List ℕ) (front : IsFrontOf n old found) (left : new ≡ found ++ replicate count n) (saw : seen ≡ length found + count) (own : mine ≡ entries n old) where
  pub mine_fits : mine + count ≤ seen
  mine_fits = let most = mine_most n old found front in omega arith

  pub seen_is : seen ≡ length new
  seen_is = omega (arith, saw, ap length left, length-append found (replicate count n), length-replicate count n)

  pub mine_is : (m : ℕ) → m ≡ n → mine + count ≡ entries m new
  mine_is m same = omega (arith, own, ap₂ entries same left, block_mine n count old found front)

pub all_tail : {A : Type 0} (P : A → Type 0) (x : A) (xs ys : List A) → xs ≡ x ∷ ys → All P xs → All P ys
all_tail P x xs ys e a = λ k d h. let b : All P (x ∷ ys) = subst (All P) e a in b (suc k) d (omega arith)

-- no seat but the first has number 0
pub others_follow : {T : Type 0} (l : LockView T) (seats : List (SeatView T)) → AreSeats l seats → All (λ s. s.number ≢ 0) (drop 1 seats)
others_follow l [] h = λ k d less. absurd (omega arith)
others_follow l (x ∷ xs) h = λ k d less zeroth. let number = (h.each (suc k) d (omega (arith, less, h.len))).number in absurd (omega arith)

entries_first : (x : ℕ) (xs : List ℕ) → 0 < entries x (x ∷ xs)
entries_first x xs = grind (arith, nat_tests)

-- an order all of whose entries are below a number
pub all_below : (most : ℕ) (xs : List ℕ) → ((n : ℕ) → most ≤ n → entries n xs ≡ 0) → AllByRecursion (λ cpu. cpu < most) xs
all_below most [] none = tt
all_below most (x ∷ xs) none = (
  ⊎_elim (λ (h : x < most). h) (λ (h : most ≤ x). let z = none x h in let p = entries_first x xs in absurd (omega arith)) (cases_lt x most),
  all_below most xs (λ n le. let z = none n le in grind (arith, z)),
)
