use Rattle.std.proofs.Common.{◌≡◌, find, drop}
use Rattle.std.specs.List.{enumerate_from}
use Rattle.nova_ties.specs.Ties.{label_in}
use Rattle.law_sides.specs.Resting.{is_stirring}
use Rattle.nova_sides.proofs.resting.first_stirring.Given as goal

abbrev pub invariant-loop-i : goal.invariant-loop-i
invariant-loop-i l =
    find (is_stirring l.kernel.state (label_in l.labels)) (enumerate_from l.i (drop l.i l.object-items))
    ≡ find (is_stirring l.kernel.state (label_in l.labels)) (enumerate_from 0 l.kernel.state.objects)
