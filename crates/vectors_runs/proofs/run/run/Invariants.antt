use Rattle.std.proofs.Common.{◌≡◌, ◌-◌}
use Rattle.vectors_runs.specs.Run.{run}
use Rattle.vectors_runs.proofs.run.run.Given as goal

-- what is left of the run ends as the whole run does
abbrev pub invariant-loop-step : goal.invariant-loop-step
invariant-loop-step l = run (l.steps - l._step) l.regs l.memory ≡ run l.steps l.fn.regs l.fn.memory
