use Rattle.std.proofs.Common.{◌≡◌, filter, length}
use Rattle.std.specs.List.{find}
use Rattle.nova_range.specs.declared.range.Kind.TheVariants.{Mem}
use Rattle.nova_model.specs.Delegations.{covers, is_from}
use Rattle.nova_touching.proofs.leading.covering.Given as goal

-- what is found among all is found among those that are left
abbrev pub invariant-loop-derivation : goal.invariant-loop-derivation
invariant-loop-derivation l =
    find (covers Mem l.pd l.page) (filter (is_from l.id) l.kernel.state.delegations.list) ≡ find (covers Mem l.pd l.page) l.kernel.state.delegations.list

abbrev pub decreases-loop-derivation : goal.decreases-loop-derivation
decreases-loop-derivation l = length (filter (is_from l.id) l.kernel.state.delegations.list)
