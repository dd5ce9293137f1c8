use Rattle.std.proofs.Common.{◌≡◌, ◌<◌, ◌++◌, ℕ, map, drop, vec_len, slice_index_or}
use Rattle.nova_lock.specs.Seats.{SeatView, note}
use Rattle.nova_lock.proofs.lock.HistoryLock.take_all.Given as goal

abbrev pub invariant-loop-other : goal.invariant-loop-other
invariant-loop-other g l = (l.first ≡ record l.initial.first { kept = l.first.kept }) × (map note l.seats.items ++ l.first.kept ≡ map note (drop 1 l.fn.seats.items))
    × ((i : ℕ) (d : SeatView _) → i < vec_len l.seats → (slice_index_or l.seats.items i d).lock ≡ l.self.id)

abbrev pub decreases-loop-other : goal.decreases-loop-other
decreases-loop-other g l = vec_len l.seats
