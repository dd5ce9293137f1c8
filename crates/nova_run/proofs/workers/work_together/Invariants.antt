use Rattle.nova_shared.specs.Ran.{AreCpuSeats}
use Rattle.nova_run.proofs.workers.work_together.Given as goal

-- the seats are all seats of the kernel
abbrev pub invariant-loop-sweep : goal.invariant-loop-sweep
invariant-loop-sweep g l = AreCpuSeats l.shared l.seats
