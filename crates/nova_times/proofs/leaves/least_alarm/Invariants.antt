use Rattle.std.proofs.Common.{◌≡◌, ◌≤◌, length}
use Rattle.std.specs.Prelude.{drop}
use Rattle.nova_times.specs.Kept.{alarm_leaves}
use Rattle.nova_times.specs.Trees.{least_of}
use Rattle.nova_times.proofs.leaves.least_alarm.Given as goal

abbrev pub invariant-loop-i : goal.invariant-loop-i
invariant-loop-i l = record {
  low : l.i ≤ length l.alarms;
  is : l.least ≡ least_of (alarm_leaves l.cpu l.i (drop l.i l.alarms));
}

abbrev pub decreases-loop-i : goal.decreases-loop-i
decreases-loop-i l = l.i
