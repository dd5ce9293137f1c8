use Rattle.std.proofs.Common.{◌≡◌, ℕ, ◌<◌, slice_get}
use Rattle.nova_compare.proofs.times.same_alarms.Given as goal

-- those so far are equal
abbrev pub invariant-loop-i : goal.invariant-loop-i
invariant-loop-i l = (n : ℕ) → n < l.i → slice_get l.a.state.times.alarms n ≡ slice_get l.b.state.times.alarms n
