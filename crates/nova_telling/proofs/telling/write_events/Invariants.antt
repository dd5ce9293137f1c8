use Rattle.std.proofs.Common.{◌≡◌, ◌++◌, string_bytes, flat_map, drop}
use Rattle.std.specs.List.{enumerate_from}
use Rattle.nova_telling.specs.Told.{event_after, events_text}
use Rattle.nova_telling.proofs.telling.write_events.Given as goal

abbrev pub invariant-loop-i : goal.invariant-loop-i
invariant-loop-i l =
    string_bytes l.out ++ flat_map (event_after l.from) (enumerate_from l.i (drop l.i l.events)) ≡ string_bytes l.initial.out ++ events_text l.from l.events
