use Rattle.std.proofs.Common.{◌≡◌, ◌++◌, string_bytes, flat_map, drop}
use Rattle.std.specs.List.{enumerate_from}
use Rattle.nova_judging.specs.Sides.{member_text, members_text}
use Rattle.nova_judging.proofs.sides.write_members.Given as goal

abbrev pub invariant-loop-i : goal.invariant-loop-i
invariant-loop-i l =
    string_bytes l.out ++ flat_map (member_text l.labels l.label) (enumerate_from l.i (drop l.i l.objects))
    ≡ string_bytes l.initial.out ++ members_text l.labels l.label l.objects
