use Rattle.std.proofs.Common.{◌≡◌, ◌++◌, string_bytes, flat_map, drop}
use Rattle.std.specs.List.{enumerate_from}
use Rattle.nova_telling.specs.Told.{object_line, object_lines}
use Rattle.nova_telling.proofs.telling.write_objects.Given as goal

abbrev pub invariant-loop-i : goal.invariant-loop-i
invariant-loop-i l =
    string_bytes l.out ++ flat_map (object_line l.kernel.state) (enumerate_from l.i (drop l.i l.object-items))
    ≡ string_bytes l.initial.out ++ object_lines l.kernel.state
