use Rattle.std.proofs.Common.{◌≡◌, ℕ}
use Rattle.nova_model.specs.State.{deadline_of}
use Rattle.nova_compare.proofs.Places.{below_none, below_on}
use Rattle.nova_compare.proofs.times.same_deadlines.Goals as goal

pub loop-ec-init : goal.loop-ec-init
loop-ec-init c = below_none _

pub loop-ec-preserved : goal.loop-ec-preserved
loop-ec-preserved c =
    below_on (λ (n : ℕ). deadline_of c.args.a.now.state.times n ≡ deadline_of c.args.b.now.state.times n) c.loop-ec.ec c.loop-ec.invariant
    c.if-not-same_deadline_at.ensures
