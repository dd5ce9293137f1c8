use Rattle.std.proofs.Common.{◌≡◌, filter, length}
use Rattle.nova_model.specs.Delegations.{is_from}
use Rattle.nova_compare.proofs.derivations.same_delegations.Given as goal

-- where those that are left are equal, all are
abbrev pub invariant-loop-derivation : goal.invariant-loop-derivation
invariant-loop-derivation l =
    filter (is_from l.id) l.a.state.delegations.list ≡ filter (is_from l.id) l.b.state.delegations.list → l.a.state.delegations.list ≡ l.b.state.delegations.list

abbrev pub decreases-loop-derivation : goal.decreases-loop-derivation
decreases-loop-derivation l = length (filter (is_from l.id) l.a.state.delegations.list)
