use Rattle.std.proofs.Common.{◌≡◌, ◌++◌, filter, length}
use Rattle.nova_model.specs.Delegations.{is_from}
use Rattle.nova_sides.proofs.derivations.derivations_of.Given as goal

abbrev pub invariant-loop-derivation : goal.invariant-loop-derivation
invariant-loop-derivation l = l.list.items ++ filter (is_from l.id) l.kernel.state.delegations.list ≡ l.kernel.state.delegations.list

abbrev pub decreases-loop-derivation : goal.decreases-loop-derivation
decreases-loop-derivation l = length (filter (is_from l.id) l.kernel.state.delegations.list)
