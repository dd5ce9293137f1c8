use Rattle.std.proofs.Common.{◌≡◌, ◌+◌, ◌++◌, string_bytes, drop, flat_map, take}
use Rattle.nova_telling.specs.Slices.{slice_line, slices_after, slices_text}
use Rattle.nova_telling.proofs.slices.write_slices.Given as goal

abbrev pub invariant-loop-i : goal.invariant-loop-i
invariant-loop-i l =
    string_bytes l.out ++ flat_map slice_line (slices_after (l.first + l.i) (take l.i l.turns) (drop l.i l.turns))
    ≡ string_bytes l.initial.out ++ slices_text l.first l.turns
