use Rattle.std.proofs.Common.{◌≡◌, ◌≤◌, ◌+◌, ◌-◌, replicate}
use Rattle.nova_gsi.specs.Passed.{seen_all}
use Rattle.nova_gsi.proofs.lines.see_times.Given as goal

-- what is left comes to the same end, and neither count is greater by more than what came
abbrev pub invariant-loop-i : goal.invariant-loop-i
invariant-loop-i l = record {
  left : seen_all l.source l.number l.now (replicate (l.count - l.i) l.event) ≡ seen_all l.source l.number l.fn.before (replicate l.count l.event);
  clock : l.now.clock ≤ l.fn.before.clock + l.i;
  fired : l.now.fired ≤ l.fn.before.fired + l.i;
}
