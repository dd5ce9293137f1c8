use Rattle.std.proofs.Common.{◌≡◌, ◌++◌, flat_map, drop}
use Rattle.std.specs.Prelude.{option_to_list}
use Rattle.nova_model.specs.declared.delegation.Derivation.{Derivation}
use Rattle.law_sides.specs.Tied.{overlaps}
use Rattle.nova_sides.specs.Among.{flows_in}
use Rattle.nova_sides.proofs.memory.push_overlapping.Given as goal

abbrev pub invariant-loop-e : goal.invariant-loop-e
invariant-loop-e l =
    l.out.items ++ flat_map (λ (e : Derivation). option_to_list (overlaps l.through (flows_in l.flows l.labels) l.d e)) (drop l.e-index l.list)
    ≡ l.initial.out.items ++ flat_map (λ (e : Derivation). option_to_list (overlaps l.through (flows_in l.flows l.labels) l.d e)) l.list
