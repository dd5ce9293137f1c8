use Rattle.std.proofs.Common.{◌≡◌, ◌++◌, replicate}
use Rattle.nova_recording.proofs.events.add_times.Given as goal

-- those that were added
abbrev pub invariant-loop-added : goal.invariant-loop-added
invariant-loop-added l = l.events.items ≡ l.fn.events.items ++ replicate l._added l.entry.event
