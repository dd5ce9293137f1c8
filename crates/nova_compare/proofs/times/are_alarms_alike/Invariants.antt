use Rattle.std.proofs.Common.{ℕ, ◌<◌, slice_get}
use Rattle.law_alike.specs.Alike.{IsAlarmAlike}
use Rattle.nova_compare.proofs.times.are_alarms_alike.Given as goal

-- those so far are alike
abbrev pub invariant-loop-i : goal.invariant-loop-i
invariant-loop-i l = (n : ℕ) → n < l.i → IsAlarmAlike l.a.state.times l.b.state.times (slice_get l.a.state.times.alarms n) (slice_get l.b.state.times.alarms n)
