use Rattle.std.proofs.Common.{◌≡◌, ℕ, ◌<◌}
use Rattle.nova_model.specs.State.{deadline_of}
use Rattle.nova_compare.proofs.times.same_deadlines.Given as goal

-- those so far are equal
abbrev pub invariant-loop-ec : goal.invariant-loop-ec
invariant-loop-ec l = (n : ℕ) → n < l.ec → deadline_of l.a.state.times n ≡ deadline_of l.b.state.times n
