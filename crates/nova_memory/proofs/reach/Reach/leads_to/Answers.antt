use Rattle.std.proofs.Common.{◌∙◌, ap, sym}
use Rattle.std.specs.List.{list_any}
use Rattle.nova_model.specs.Inputs.{leads_to}
use Rattle.nova_memory.specs.Reach.{ReachState}
use Rattle.nova_memory.specs.Sights.{AreViewers}
use Rattle.nova_memory.proofs.Seen.{known_of}
use Rattle.nova_memory.proofs.reach.Reach.leads_to.Goals as goal

pub returns-in-Some : goal.returns-in-Some
returns-in-Some c =
    let r = c.self.inside in
    let known : AreViewers r.nodes.delegations.list c.args.frame c.in-Some.viewers =
    known_of r.nodes.delegations.list r.sights c.args.frame _ (sym c.in-Some.is ∙ c.get.ensures) c.self.invariant.1.1.0 in
    c.contains.ensures ∙ sym (known c.args.pd) ∙ ap (λ (s : ReachState). list_any (leads_to c.args.pd c.args.frame) s.nodes.delegations.list) c.self.view_is
