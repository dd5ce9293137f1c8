use Rattle.std.proofs.Common.{◌≡◌, ◌<◌, ◌+◌, ◌-◌, length, rules, arith, ap, subst}
use Rattle.std.specs.Prelude.{Some}
use Rattle.std.specs.List.{find}
use Rattle.nova_range.specs.declared.range.Kind.TheVariants.{Mem}
use Rattle.nova_model.specs.Delegations.{covers}
use Rattle.nova_model.specs.declared.delegation.Derivation.{Derivation}
use Rattle.nova_memory.specs.Reach.{ReachState}
use Rattle.nova_memory.proofs.Placed.{page_leads_by}
use Rattle.nova_memory.proofs.reach.Reach.page.Goals as goal

pub page_in-requires-clause-place : goal.page_in-requires-clause-place
page_in-requires-clause-place c =
    let r = c.self.inside in
    let d : Derivation = c.in_ok-derivation.derivation in
    let found : find (covers Mem c.args.pd c.args.page) r.nodes.delegations.list ≡ Some d = search rules in
    (page_leads_by (length r.frames.memory.ram + r.frames.consoles) c.args.pd c.args.page r.nodes.delegations.list d found c.self.invariant.0).0

pub page_in-requires-clause-frame : goal.page_in-requires-clause-frame
page_in-requires-clause-frame c =
    let r = c.self.inside in
    let d : Derivation = c.in_ok-derivation.derivation in
    let found : find (covers Mem c.args.pd c.args.page) r.nodes.delegations.list ≡ Some d = search rules in
    let leads = (page_leads_by (length r.frames.memory.ram + r.frames.consoles) c.args.pd c.args.page r.nodes.delegations.list d found c.self.invariant.0).1 in
    let few = c.self.invariant.0.few in
    omega arith

pub returns-clause-there : goal.returns-clause-there
returns-clause-there c =
    let r = c.self.inside in
    let d : Derivation = c.in_ok-derivation.derivation in
    let found : find (covers Mem c.args.pd c.args.page) r.nodes.delegations.list ≡ Some d = search rules in
    let leads = (page_leads_by (length r.frames.memory.ram + r.frames.consoles) c.args.pd c.args.page r.nodes.delegations.list d found c.self.invariant.0).1 in
    let frame : c.page_in.result.frame ≡ d.target + (c.args.page - d.base) = ap (λ p. p.frame) c.page_in.ensures in
    subst (λ (s : ReachState). c.page_in.result.frame < length s.memory.ram + s.consoles) c.self.view_is (omega (arith, leads, frame))
