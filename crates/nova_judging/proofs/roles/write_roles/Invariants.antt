use Rattle.std.proofs.Common.{◌≡◌, ◌++◌, string_bytes, flat_map, drop}
use Rattle.std.specs.List.{enumerate_from}
use Rattle.nova_judging.specs.Roles.{role_line, role_lines}
use Rattle.nova_judging.proofs.roles.write_roles.Given as goal

abbrev pub invariant-loop-i : goal.invariant-loop-i
invariant-loop-i l =
    string_bytes l.out ++ flat_map (role_line l.kernel.state l.labels) (enumerate_from l.i (drop l.i l.object-items))
    ≡ string_bytes l.initial.out ++ role_lines l.kernel.state l.labels
