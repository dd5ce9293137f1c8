use Rattle.std.proofs.Common.{ℕ, ◌<◌}
use Rattle.law_sameness.specs.States.{IsInStep}
use Rattle.nova_compare.proofs.order.are_in_step.Given as goal

-- it is so of those so far, each with any
abbrev pub invariant-loop-m : goal.invariant-loop-m
invariant-loop-m l = (i : ℕ) → i < l.m → (n : ℕ) → IsInStep l.objects l.a l.b i n
