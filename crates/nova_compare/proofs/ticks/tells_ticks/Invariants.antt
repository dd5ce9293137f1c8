use Rattle.std.proofs.Common.{ℕ, ◌<◌}
use Rattle.law_alike.specs.Alike.{TellsNoTicks}
use Rattle.nova_compare.proofs.ticks.tells_ticks.Given as goal

-- those so far tell none
abbrev pub invariant-loop-cpu : goal.invariant-loop-cpu
invariant-loop-cpu l = (n : ℕ) → n < l.cpu → TellsNoTicks l.kernel.state n
