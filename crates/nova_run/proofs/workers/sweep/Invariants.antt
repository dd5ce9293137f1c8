use Rattle.std.proofs.Common.{◌≡◌, ◌<◌, ℕ, length, slice_index_or, All}
use Rattle.nova_lock.specs.Seats.{SeatView}
use Rattle.nova_shared.specs.Ran.{Ran, IsCpuSeat}
use Rattle.nova_run.proofs.workers.sweep.Given as goal

-- the seats are those of before, but for their fronts
abbrev pub invariant-loop-i : goal.invariant-loop-i
invariant-loop-i g l = (length l.seats ≡ length l.fn.seats) × All (λ s. IsCpuSeat l.shared s) l.seats
    × ((i : ℕ) (d : SeatView Ran) → i < length l.fn.seats → slice_index_or l.seats i d ≡ record (slice_index_or l.fn.seats i d) { front = (slice_index_or l.seats i d).front })
