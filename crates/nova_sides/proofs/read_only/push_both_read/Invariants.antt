use Rattle.std.proofs.Common.{◌≡◌, ◌++◌, flat_map, drop}
use Rattle.std.specs.Prelude.{option_to_list}
use Rattle.nova_model.specs.declared.delegation.Derivation.{Derivation}
use Rattle.nova_ties.specs.Ties.{label_in}
use Rattle.law_sides.specs.Tied.{both_read}
use Rattle.nova_sides.proofs.read_only.push_both_read.Given as goal

abbrev pub invariant-loop-e : goal.invariant-loop-e
invariant-loop-e l =
    l.out.items ++ flat_map (λ (e : Derivation). option_to_list (both_read (label_in l.labels) l.d e)) (drop l.e-index l.list)
    ≡ l.initial.out.items ++ flat_map (λ (e : Derivation). option_to_list (both_read (label_in l.labels) l.d e)) l.list
