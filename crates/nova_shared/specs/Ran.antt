-- What a shared run and its seats are to their users.
use Rattle.std.specs.Prelude.{◌≡◌, ◌<◌, ℕ, List, Some}
use Rattle.nova_kernel.specs.Views.{KernelView}
use Rattle.nova_lock.specs.Seats.{LockView, SeatView, AreSeats}
use Rattle.nova_shared.specs.declared.shared_run.Opening.{Opening}

-- a run: what it began with, the kernel, the order of turns, and how often the lock was used
pub record Ran : Type 0 where
  pub opening : Opening
  pub kernel : KernelView
  pub order : List ℕ
  pub uses : ℕ

-- the seat is one of this lock, of a processor that is there
pub record IsCpuSeat (l : LockView Ran) (s : SeatView Ran) : Type 0 where
  pub lock : s.lock ≡ l.id
  pub opened : s.opened ≡ Some l.opened
  pub there : s.number < l.opened.opening.kernel.state.cpus

-- all seats of the lock in order, one for each processor
pub record AreCpuSeats (l : LockView Ran) (seats : List (SeatView Ran)) : Type 0 where
  pub all : AreSeats l seats
  pub cpus : l.seats ≡ l.opened.opening.kernel.state.cpus
