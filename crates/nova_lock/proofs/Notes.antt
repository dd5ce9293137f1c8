-- What seat 0 keeps of the others.
use Rattle.std.proofs.Common.{ℕ, zero, suc, ◌<◌, List, [], ◌∷◌, length, map, drop, slice_index_or, refl, arith, Contains}
use Rattle.nova_lock.specs.Seats.{SeatView, note}

module _ {T : Type 0} where
  in-map : (ys : List (SeatView T)) (j : ℕ) (d : SeatView T) → j < length ys → Contains (map note ys) (note (slice_index_or ys j d))
  in-map [] j d h = absurd (omega arith)
  in-map (y ∷ ys) zero d h = (0, omega arith, refl)
  in-map (y ∷ ys) (suc j) d h = let c = in-map ys j d (omega arith) in let l = c.1 in (suc c.0, omega arith, c.2)

  -- each seat but the first stands in the list of the others
  pub noted : (xs : List (SeatView T)) (i : ℕ) (d : SeatView T) → 0 < i → i < length xs → Contains (map note (drop 1 xs)) (note (slice_index_or xs i d))
  noted [] i d pos h = absurd (omega arith)
  noted (x ∷ xs) zero d pos h = absurd (omega arith)
  noted (x ∷ xs) (suc j) d pos h = in-map xs j d (omega arith)
