use Rattle.std.proofs.Common.{subst}
use Rattle.std.specs.Prelude.{IfSome}
use Rattle.nova_memory.specs.Reach.{ReachState}
use Rattle.nova_memory.specs.Sights.{AreViewers}
use Rattle.nova_memory.proofs.Seen.{known_of}
use Rattle.nova_memory.proofs.reach.Reach.known_viewers.Goals as goal

pub returns : goal.returns
returns c =
    let r = c.self.inside in
    subst (λ (s : ReachState). IfSome c.get.result (AreViewers s.nodes.delegations.list c.args.frame)) c.self.view_is
    (known_of r.nodes.delegations.list r.sights c.args.frame c.get.result c.get.ensures c.self.invariant.1.1.0)
