use Rattle.std.proofs.Common.{◌≡◌}
use Rattle.nova_run.proofs.workers.work.Given as goal

-- the seat is that of before, but for its front
abbrev pub invariant-loop-left : goal.invariant-loop-left
invariant-loop-left g l = l.seat ≡ record l.fn.seat { front = l.seat.front }

-- the turns that are left
abbrev pub decreases-loop-left : goal.decreases-loop-left
decreases-loop-left g l = l.left
