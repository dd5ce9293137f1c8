use Rattle.std.proofs.Common.{ℕ, arith}
use Rattle.law_sameness.specs.States.{IsInStep}
use Rattle.nova_compare.proofs.Peers.{any_two}
use Rattle.nova_compare.proofs.Places.{below_none, below_on}
use Rattle.nova_compare.proofs.order.are_in_step.Goals as goal

pub loop-m-init : goal.loop-m-init
loop-m-init c = below_none _

pub loop-m-preserved : goal.loop-m-preserved
loop-m-preserved c =
    below_on (λ (i : ℕ). (n : ℕ) → IsInStep c.args.objects.now c.args.a.now c.args.b.now i n) c.loop-m.m c.loop-m.invariant c.if-not-is_in_step_with_any.ensures

pub returns : goal.returns
returns c =
    let over = c.loop-m-test.false in
    any_two c.args.objects.now c.args.a.now c.args.b.now (λ m n less. c.loop-m.invariant m (omega (arith, less, over)) n)
