use Rattle.std.proofs.Common.{◌≡◌, ◌++◌, ◌+◌, drop, length}
use Rattle.nova_trace.specs.Traces.{events_of}
use Rattle.nova_report.specs.Report.{event_lines, lines_from}
use Rattle.nova_report.proofs.events.write_events.Given as goal

abbrev pub invariant-loop-entry : goal.invariant-loop-entry
invariant-loop-entry l =
    (l.out.items ++ lines_from (l.place + 1) (events_of (drop l.entry-index l.entries))
    ≡ l.initial.out.items ++ event_lines l.trace.items)
    × (l.place + length (events_of (drop l.entry-index l.entries)) ≡ length l.trace.items)
