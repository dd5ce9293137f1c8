use Rattle.std.proofs.Common.{◌≡◌}
use Rattle.std.specs.Prelude.{drop}
use Rattle.nova_delegate.specs.Parts.{busy_by}
use Rattle.nova_delegate.proofs.parts.is_busy.Given as goal

abbrev pub invariant-loop-revoke : goal.invariant-loop-revoke
invariant-loop-revoke g l =
    busy_by g.G.Guarded.revoke (drop l.revoke-index l.revokes) l.nodes.delegations.list l.child ≡ busy_by g.G.Guarded.revoke l.revokes l.nodes.delegations.list l.child
