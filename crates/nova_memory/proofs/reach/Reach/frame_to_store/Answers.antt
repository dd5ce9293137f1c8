use Rattle.std.proofs.Common.{◌+◌, length, subst}
use Rattle.nova_range.specs.Rights.{write_right}
use Rattle.nova_memory.specs.Reach.{LeadToFrames, ReachState}
use Rattle.nova_memory.specs.Recents.{IsRecent}
use Rattle.nova_memory.proofs.reach.Reach.frame_to_store.Goals as goal

pub returns-in-Some-clause-there : goal.returns-in-Some-clause-there
returns-in-Some-clause-there c =
    let r = c.self.inside in
    let leads = subst (λ (s : ReachState). LeadToFrames (length s.memory.ram + s.consoles) s.nodes.delegations.list) c.self.view_is c.self.invariant.0 in
    let recent = subst (λ (s : ReachState). IsRecent s.nodes.delegations.list s.pd write_right c.at.result.now) c.self.view_is
    (c.at.ensures r.nodes.delegations.list r.recents.pd write_right c.self.invariant.1.1.1.0.stored) in
    c.in-Some.ensures.there c.args.self.now write_right leads recent
