use Rattle.std.proofs.Common.{◌≡◌, ◌++◌, string_bytes, flat_map, drop}
use Rattle.std.specs.List.{enumerate_from}
use Rattle.nova_judging.specs.Sides.{side_line}
use Rattle.nova_judging.proofs.sides.write_each_side.Given as goal

abbrev pub invariant-loop-n : goal.invariant-loop-n
invariant-loop-n l =
    string_bytes l.out ++ flat_map (side_line l.policy l.labels l.objects) (enumerate_from l.n (drop l.n l.labels))
    ≡ string_bytes l.initial.out ++ flat_map (side_line l.policy l.labels l.objects) (enumerate_from 0 l.labels)
