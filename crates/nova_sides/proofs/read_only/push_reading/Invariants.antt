use Rattle.std.proofs.Common.{◌≡◌, ◌++◌, flat_map, drop}
use Rattle.nova_ties.specs.Ties.{label_in}
use Rattle.law_sides.specs.Tied.{reading_by}
use Rattle.nova_sides.proofs.read_only.push_reading.Given as goal

abbrev pub invariant-loop-d : goal.invariant-loop-d
invariant-loop-d l = l.out.items ++ flat_map (reading_by (label_in l.labels) l.list) (drop l.d-index l.list) ≡ l.initial.out.items ++ flat_map (reading_by (label_in l.labels) l.list) l.list
