use Rattle.nova_revoke.proofs.Newest.{IsLookedThrough, ids_left}
use Rattle.nova_revoke.proofs.leaves.newest_in.Given as goal

abbrev pub invariant-loop-at : goal.invariant-loop-at
invariant-loop-at g l = IsLookedThrough l.revoke l.nodes.delegations.list l.id l.at

-- ids fall
abbrev pub decreases-loop-at : goal.decreases-loop-at
decreases-loop-at g l = ids_left l.at
