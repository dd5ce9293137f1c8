use Rattle.law_sameness.specs.States.{IsInStep}
use Rattle.nova_compare.proofs.Places.{below_none, below_on}
use Rattle.nova_compare.proofs.order.is_in_step_with_each.Goals as goal

pub loop-n-init : goal.loop-n-init
loop-n-init c = below_none _

pub loop-n-preserved : goal.loop-n-preserved
loop-n-preserved c = below_on (IsInStep c.args.objects.now c.args.a.now c.args.b.now c.args.m) c.loop-n.n c.loop-n.invariant c.if-not-is_in_step.ensures
