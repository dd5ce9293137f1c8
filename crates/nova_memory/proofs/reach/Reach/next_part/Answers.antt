use Rattle.std.proofs.Common.{◌≡◌, ap, subst}
use Rattle.std.specs.Prelude.{IfOk, IfSome, option_map}
use Rattle.nova_delegate.specs.Parts.{IsReady, pair_of}
use Rattle.nova_model.specs.Delegations.{Delegations}
use Rattle.nova_model.specs.Transfers.{next_part}
use Rattle.nova_revoke.specs.Runners.{busy_under}
use Rattle.nova_memory.specs.Reach.{ReachState}
use Rattle.nova_memory.proofs.reach.Reach.next_part.Goals as goal

pub returns-clause-part : goal.returns-clause-part
returns-clause-part c =
    let same : c.self.inside.nodes.delegations ≡ c.args.self.now.nodes.delegations = ap (λ (s : ReachState). s.nodes.delegations) c.self.view_is in
    subst (λ (f : Delegations). c.next_part.result ≡ option_map pair_of (next_part (busy_under c.args.revokes.now f.list) f c.args.job.now)) same c.next_part.ensures.part

pub returns-clause-child : goal.returns-clause-child
returns-clause-child c =
    let same : c.self.inside.nodes.delegations ≡ c.args.self.now.nodes.delegations = ap (λ (s : ReachState). s.nodes.delegations) c.self.view_is in
    subst (λ (f : Delegations). IfSome c.next_part.result (λ p. IfOk p.1 (IsReady f))) same c.next_part.ensures.child
