use Rattle.std.proofs.Common.{◌≡◌, ◌+◌, drop}
use Rattle.nova_trace.specs.Traces.{events_of}
use Rattle.nova_report.specs.Summary.{count, is_counted}
use Rattle.nova_report.proofs.bench.count_all.Given as goal

-- those so far, and those that are left
abbrev pub invariant-loop-entry : goal.invariant-loop-entry
invariant-loop-entry l = l.count + count (is_counted l.counted) (events_of (drop l.entry-index l.entries)) ≡ count (is_counted l.counted) l.trace.items
