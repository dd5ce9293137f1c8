use Rattle.std.proofs.Common.{◌≡◌, ◌++◌, flat_map, drop}
use Rattle.law_sides.specs.Tied.{flowing_by}
use Rattle.nova_sides.specs.Among.{flows_in}
use Rattle.nova_sides.proofs.memory.push_flowing.Given as goal

abbrev pub invariant-loop-d : goal.invariant-loop-d
invariant-loop-d l = l.out.items ++ flat_map (flowing_by (flows_in l.flows l.labels) l.list) (drop l.d-index l.list) ≡ l.initial.out.items ++ flat_map (flowing_by (flows_in l.flows l.labels) l.list) l.list
