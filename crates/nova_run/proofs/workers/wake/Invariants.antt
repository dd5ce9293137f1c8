use Rattle.std.proofs.Common.{◌≡◌}
use Rattle.nova_run.proofs.workers.wake.Given as goal

-- the seat is that of before, but for its front
abbrev pub invariant-loop-looks : goal.invariant-loop-looks
invariant-loop-looks g l = l.seat ≡ record l.fn.seat { front = l.seat.front }
