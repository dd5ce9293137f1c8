use Rattle.std.proofs.Common.{ℕ, ◌<◌}
use Rattle.law_sameness.specs.States.{IsInStep}
use Rattle.nova_compare.proofs.order.is_in_step_with_each.Given as goal

-- it is so of those so far
abbrev pub invariant-loop-n : goal.invariant-loop-n
invariant-loop-n l = (i : ℕ) → i < l.n → IsInStep l.objects l.a l.b l.m i
