use Rattle.std.proofs.Common.{◌≡◌}
use Rattle.nova_model.specs.Runs.{rounds}
use Rattle.nova_finished.specs.UnderWay.{left}
use Rattle.nova_rounds.specs.UnderWay.{IsUnderWay}
use Rattle.nova_rounds.proofs.rounds.run_out.Given as goal

-- the passes so far, and those that are left
abbrev pub invariant-loop-more : goal.invariant-loop-more
invariant-loop-more l =
    IsUnderWay l.fn.run l.run (rounds l.run.kernel.state (left l.run)) (rounds l.fn.run.kernel.state (left l.fn.run)) × (l.more ≡ left l.run)

-- the turns that may be
abbrev pub decreases-loop-more : goal.decreases-loop-more
decreases-loop-more l = l.more
