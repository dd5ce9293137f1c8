use Rattle.std.proofs.Common.{◌≡◌, ◌-◌}
use Rattle.nova_model.specs.Runs.{pass}
use Rattle.nova_finished.specs.UnderWay.{left}
use Rattle.nova_rounds.specs.UnderWay.{IsUnderWay}
use Rattle.nova_rounds.proofs.rounds.pass.Given as goal

-- the processors so far, and those that are left
abbrev pub invariant-loop-cpu : goal.invariant-loop-cpu
invariant-loop-cpu l =
    IsUnderWay l.fn.run l.run
    (pass l.run.kernel.state l.cpu (l.fn.run.kernel.state.cpus - l.cpu) (left l.run))
    (pass l.fn.run.kernel.state 0 l.fn.run.kernel.state.cpus (left l.fn.run))
    × (l.more ≡ left l.run)
