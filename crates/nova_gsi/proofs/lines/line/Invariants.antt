use Rattle.std.proofs.Common.{◌≡◌, ◌≤◌, ◌+◌, drop, length}
use Rattle.nova_trace.specs.Traces.{events_of}
use Rattle.nova_gsi.specs.Passed.{seen_all}
use Rattle.nova_gsi.proofs.Passing.{start}
use Rattle.nova_gsi.proofs.lines.line.Given as goal

-- what is left comes to the same end, and neither count is greater than what was passed
abbrev pub invariant-loop-entry : goal.invariant-loop-entry
invariant-loop-entry l = record {
  left : seen_all l.source l.number l.seen (events_of (drop l.entry-index l.entries)) ≡ seen_all l.source l.number (start l.source l.number) l.trace.items;
  clock : l.seen.clock + length (events_of (drop l.entry-index l.entries)) ≤ length l.trace.items;
  fired : l.seen.fired + length (events_of (drop l.entry-index l.entries)) ≤ length l.trace.items;
}
