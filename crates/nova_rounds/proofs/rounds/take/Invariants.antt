use Rattle.std.proofs.Common.{◌≡◌, ◌-◌, ◌≤◌}
use Rattle.nova_finished.specs.UnderWay.{IsGone}
use Rattle.nova_rounds.proofs.rounds.take.Given as goal

-- the turns so far, in the places that there are
abbrev pub invariant-loop-left : goal.invariant-loop-left
invariant-loop-left l = IsGone l.fn.run l.cpu l.most (l.most - l.left) l.run × (l.run.trace.capacity ≡ l.fn.run.trace.capacity) × (l.left ≤ l.most)

-- the turns that are left
abbrev pub decreases-loop-left : goal.decreases-loop-left
decreases-loop-left l = l.left
