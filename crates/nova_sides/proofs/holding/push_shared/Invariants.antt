use Rattle.std.proofs.Common.{◌≡◌, ◌++◌, flat_map, drop}
use Rattle.std.specs.Prelude.{option_to_list}
use Rattle.nova_model.specs.declared.delegation.Derivation.{Derivation}
use Rattle.law_sides.specs.Tied.{shares}
use Rattle.nova_sides.specs.Among.{is_among}
use Rattle.nova_sides.proofs.holding.push_shared.Given as goal

abbrev pub invariant-loop-e : goal.invariant-loop-e
invariant-loop-e l =
    l.out.items ++ flat_map (λ (e : Derivation). option_to_list (shares (is_among l.shared) l.d e)) (drop l.e-index l.list)
    ≡ l.initial.out.items ++ flat_map (λ (e : Derivation). option_to_list (shares (is_among l.shared) l.d e)) l.list
