use Rattle.std.proofs.Common.{◌≡◌, ◌++◌, map, drop}
use Rattle.std.specs.List.{enumerate_from}
use Rattle.nova_flowing.specs.Tables.{is_part, part_table}
use Rattle.nova_flowing.specs.Tests.{is_in}
use Rattle.nova_flowing.proofs.sides.part_table.Given as goal

abbrev pub invariant-loop-i : goal.invariant-loop-i
invariant-loop-i l =
    l.table.items ++ map (is_part l.kernel.state (is_in l.own)) (enumerate_from l.i (drop l.i l.object-items)) ≡ part_table l.kernel.state (is_in l.own)
