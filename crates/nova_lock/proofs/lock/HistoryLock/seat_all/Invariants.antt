use Rattle.std.proofs.Common.{◌≡◌, ◌≤◌, ◌<◌, ◌+◌, ℕ, [], vec_len, vec_capacity, slice_index_or}
use Rattle.nova_lock.specs.Seats.{SeatView}
use Rattle.nova_lock.proofs.lock.HistoryLock.seat_all.Given as goal

abbrev pub invariant-loop-i : goal.invariant-loop-i
invariant-loop-i g l = (l.first ≡ record l.fn.first { made = l._i }) × (vec_len l.list + 1 ≡ l._i) × (l.self.seats ≤ vec_capacity l.list)
    × ((i : ℕ) (d : SeatView _) → i < vec_len l.list → slice_index_or l.list.items i d ≡ record { lock = l.fn.first.lock; opened = l.fn.first.opened; number = i + 1; front = []; made = 0; kept = [] })
