use Rattle.nova_revoke.proofs.Walks.{IsOnWay}
use Rattle.nova_revoke.proofs.scope.in_scope_of.Given as goal

abbrev pub invariant-loop-at : goal.invariant-loop-at
invariant-loop-at g l = IsOnWay l.revoke l.nodes.delegations.list l.fn.d l.at

-- ids fall
abbrev pub decreases-loop-at : goal.decreases-loop-at
decreases-loop-at g l = l.at.id
