use Rattle.std.proofs.Common.{◌≡◌, ◌++◌, map, drop}
use Rattle.nova_flowing.specs.Tables.{is_label, own_table}
use Rattle.nova_flowing.proofs.sides.own_table.Given as goal

abbrev pub invariant-loop-other : goal.invariant-loop-other
invariant-loop-other l = l.table.items ++ map (is_label l.label) (drop l.other-index l.labels) ≡ own_table l.labels l.label
