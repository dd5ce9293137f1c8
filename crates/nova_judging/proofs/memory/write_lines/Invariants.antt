use Rattle.std.proofs.Common.{◌≡◌, ◌++◌, string_bytes, flat_map, drop}
use Rattle.nova_judging.specs.Memory.{memory_line, memory_lines}
use Rattle.nova_judging.proofs.memory.write_lines.Given as goal

abbrev pub invariant-loop-pair : goal.invariant-loop-pair
invariant-loop-pair l =
    string_bytes l.out ++ flat_map (memory_line l.word l.policy l.labels l.list) (drop l.pair-index l.pairs)
    ≡ string_bytes l.initial.out ++ memory_lines l.word l.policy l.labels l.list l.pairs
