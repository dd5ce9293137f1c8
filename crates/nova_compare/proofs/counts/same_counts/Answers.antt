use Rattle.law_sameness.specs.States.{IsCountedAt}
use Rattle.nova_compare.proofs.Places.{below_none, below_on}
use Rattle.nova_compare.proofs.counts.same_counts.Goals as goal

pub loop-n-init : goal.loop-n-init
loop-n-init c = below_none _

pub loop-n-preserved : goal.loop-n-preserved
loop-n-preserved c = below_on (IsCountedAt c.args.a.now.state c.args.b.now.state) c.loop-n.n c.loop-n.invariant c.if-not-same_counts_at.ensures
