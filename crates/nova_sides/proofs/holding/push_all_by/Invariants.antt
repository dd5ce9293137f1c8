use Rattle.std.proofs.Common.{◌≡◌, ◌++◌, flat_map, drop}
use Rattle.law_sides.specs.Tied.{ties_by}
use Rattle.nova_sides.specs.Among.{flows_in, is_among}
use Rattle.nova_sides.proofs.holding.push_all_by.Given as goal

abbrev pub invariant-loop-d : goal.invariant-loop-d
invariant-loop-d l =
    l.out.items ++ flat_map (ties_by (is_among l.shared) (flows_in l.flows l.labels) l.kernel.state l.list) (drop l.d-index l.list)
    ≡ l.initial.out.items ++ flat_map (ties_by (is_among l.shared) (flows_in l.flows l.labels) l.kernel.state l.list) l.list
