use Rattle.std.proofs.Common.{◌≡◌, ◌++◌, ℕ, flat_map, drop}
use Rattle.std.specs.Prelude.{option_to_list}
use Rattle.std.specs.List.{enumerate_from}
use Rattle.nova_objects.specs.declared.object.Object.{Object}
use Rattle.law_sides.specs.Tied.{waits_in}
use Rattle.nova_sides.proofs.holding.push_waiting.Given as goal

abbrev pub invariant-loop-i : goal.invariant-loop-i
invariant-loop-i l =
    l.out.items ++ flat_map (λ (e : ℕ × Object). option_to_list (waits_in l.kernel.state l.d e)) (enumerate_from l.i (drop l.i l.object-items))
    ≡ l.initial.out.items ++ flat_map (λ (e : ℕ × Object). option_to_list (waits_in l.kernel.state l.d e)) (enumerate_from 0 l.kernel.state.objects)
