use Rattle.std.proofs.Common.{◌≡◌, drop}
use Rattle.std.specs.List.{enumerate_from, list_all}
use Rattle.nova_ties.specs.Ties.{label_in}
use Rattle.law_sides.specs.Roles.{is_mute_in}
use Rattle.nova_sides.proofs.roles.is_mute_in_all.Given as goal

abbrev pub invariant-loop-i : goal.invariant-loop-i
invariant-loop-i l =
    list_all (is_mute_in l.kernel.state (label_in l.labels) l.n) (enumerate_from l.i (drop l.i l.object-items))
    ≡ list_all (is_mute_in l.kernel.state (label_in l.labels) l.n) (enumerate_from 0 l.kernel.state.objects)
