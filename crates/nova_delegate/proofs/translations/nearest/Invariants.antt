use Rattle.nova_delegate.proofs.Upward.{IsOnWay}
use Rattle.nova_delegate.proofs.translations.nearest.Given as goal

abbrev pub invariant-loop-at : goal.invariant-loop-at
invariant-loop-at g l = IsOnWay l.nodes.delegations.list l.fn.d l.at l.pd

abbrev pub decreases-loop-at : goal.decreases-loop-at
decreases-loop-at g l = l.at.id
