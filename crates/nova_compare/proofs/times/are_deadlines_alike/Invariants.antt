use Rattle.std.proofs.Common.{ℕ, ◌<◌}
use Rattle.nova_model.specs.State.{deadline_of}
use Rattle.law_alike.specs.Alike.{IsDeadlineAlike}
use Rattle.nova_compare.proofs.times.are_deadlines_alike.Given as goal

-- those so far are alike
abbrev pub invariant-loop-ec : goal.invariant-loop-ec
invariant-loop-ec l = (n : ℕ) → n < l.ec → IsDeadlineAlike l.a.state.times l.b.state.times (deadline_of l.a.state.times n) (deadline_of l.b.state.times n)
