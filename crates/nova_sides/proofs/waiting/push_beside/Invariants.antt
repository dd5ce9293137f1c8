use Rattle.std.proofs.Common.{◌≡◌, ◌++◌, ℕ, flat_map, drop}
use Rattle.std.specs.Prelude.{option_to_list}
use Rattle.std.specs.List.{enumerate_from}
use Rattle.nova_objects.specs.declared.object.Object.{Object}
use Rattle.law_sides.specs.Tied.{beside_in}
use Rattle.nova_sides.proofs.waiting.push_beside.Given as goal

abbrev pub invariant-loop-i : goal.invariant-loop-i
invariant-loop-i l =
    l.out.items ++ flat_map (λ (e : ℕ × Object). option_to_list (beside_in l.kernel.state l.sm l.n l.pd e)) (enumerate_from l.i (drop l.i l.object-items))
    ≡ l.initial.out.items ++ flat_map (λ (e : ℕ × Object). option_to_list (beside_in l.kernel.state l.sm l.n l.pd e)) (enumerate_from 0 l.kernel.state.objects)
