use Rattle.std.proofs.Common.{◌≡◌, ◌++◌, map, drop}
use Rattle.nova_ties.specs.Ties.{is_another}
use Rattle.nova_flowing.specs.Tables.{others_table}
use Rattle.nova_flowing.proofs.sides.others_table.Given as goal

abbrev pub invariant-loop-other : goal.invariant-loop-other
invariant-loop-other l = l.table.items ++ map (is_another l.label) (drop l.other-index l.labels) ≡ others_table l.labels l.label
