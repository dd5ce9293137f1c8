use Rattle.std.proofs.Common.{◌≡◌, ◌++◌, flat_map, drop}
use Rattle.std.specs.List.{enumerate_from}
use Rattle.law_sides.specs.Tied.{ties_at}
use Rattle.nova_sides.specs.Among.{is_among}
use Rattle.nova_sides.proofs.waiting.push_all_at.Given as goal

abbrev pub invariant-loop-i : goal.invariant-loop-i
invariant-loop-i l =
    l.out.items ++ flat_map (ties_at (is_among l.shared) l.kernel.state) (enumerate_from l.i (drop l.i l.object-items))
    ≡ l.initial.out.items ++ flat_map (ties_at (is_among l.shared) l.kernel.state) (enumerate_from 0 l.kernel.state.objects)
