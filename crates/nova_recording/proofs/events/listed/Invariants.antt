use Rattle.std.proofs.Common.{◌≡◌, ◌++◌, drop}
use Rattle.nova_trace.specs.Traces.{events_of}
use Rattle.nova_recording.proofs.events.listed.Given as goal

-- with those of the entries that are left they are all
abbrev pub invariant-loop-entry : goal.invariant-loop-entry
invariant-loop-entry l = l.events.items ++ events_of (drop l.entry-index l.entry-items) ≡ l.trace.items
