use Rattle.std.proofs.Common.{ℕ, slice_get}
use Rattle.law_alike.specs.Alike.{IsAlarmAlike}
use Rattle.nova_compare.proofs.Places.{below_none, below_on}
use Rattle.nova_compare.proofs.times.are_alarms_alike.Goals as goal

pub loop-i-init : goal.loop-i-init
loop-i-init c = below_none _

pub loop-i-preserved : goal.loop-i-preserved
loop-i-preserved c =
    below_on (λ (n : ℕ). IsAlarmAlike c.args.a.now.state.times c.args.b.now.state.times (slice_get c.args.a.now.state.times.alarms n) (slice_get c.args.b.now.state.times.alarms n)) c.loop-i.i c.loop-i.invariant
    c.if-not-is_alarm_alike.ensures
