use Rattle.std.proofs.Common.{◌≡◌, ◌<◌, ◌+◌, ◌-◌, length, rules, arith, ap, subst, sym, ◌∙◌}
use Rattle.std.specs.Prelude.{Some, Option, option_map}
use Rattle.nova_model.specs.Delegations.{page_in, reach}
use Rattle.nova_model.specs.declared.delegation.Derivation.{Derivation}
use Rattle.nova_memory.specs.Reach.{ReachState}
use Rattle.nova_memory.proofs.Placed.{last_found, page_leads_by}
use Rattle.nova_memory.proofs.reach.Reach.last_page.Goals as goal

pub page_in-requires-clause-place : goal.page_in-requires-clause-place
page_in-requires-clause-place c =
    let r = c.self.inside in
    let d : Derivation = c.in_ok-last.last.now in
    let is : r.last ≡ Some d = search rules in
    let found = last_found r.nodes.delegations.list r.last d r.recents.pd c.args.page is c.self.invariant.1.0 (sym c.covers.ensures ∙ c.if-covers.true) in
    (page_leads_by (length r.frames.memory.ram + r.frames.consoles) r.recents.pd c.args.page r.nodes.delegations.list d found c.self.invariant.0).0

pub page_in-requires-clause-frame : goal.page_in-requires-clause-frame
page_in-requires-clause-frame c =
    let r = c.self.inside in
    let d : Derivation = c.in_ok-last.last.now in
    let is : r.last ≡ Some d = search rules in
    let found = last_found r.nodes.delegations.list r.last d r.recents.pd c.args.page is c.self.invariant.1.0 (sym c.covers.ensures ∙ c.if-covers.true) in
    let leads = (page_leads_by (length r.frames.memory.ram + r.frames.consoles) r.recents.pd c.args.page r.nodes.delegations.list d found c.self.invariant.0).1 in
    let few = c.self.invariant.0.few in
    omega arith

pub returns-then-covers-clause-page : goal.returns-then-covers-clause-page
returns-then-covers-clause-page c =
    let r = c.self.inside in
    let d : Derivation = c.in_ok-last.last.now in
    let is : r.last ≡ Some d = search rules in
    let found = last_found r.nodes.delegations.list r.last d r.recents.pd c.args.page is c.self.invariant.1.0 (sym c.covers.ensures ∙ c.if-covers.true) in
    subst (λ (s : ReachState). reach s.nodes.delegations.list s.pd c.args.page ≡ Some c.page_in.result) c.self.view_is
    (ap (λ (o : Option Derivation). option_map (page_in c.args.page) o) found ∙ sym (ap (λ p. Some p) c.page_in.ensures))

pub returns-then-covers-clause-there : goal.returns-then-covers-clause-there
returns-then-covers-clause-there c =
    let r = c.self.inside in
    let d : Derivation = c.in_ok-last.last.now in
    let is : r.last ≡ Some d = search rules in
    let found = last_found r.nodes.delegations.list r.last d r.recents.pd c.args.page is c.self.invariant.1.0 (sym c.covers.ensures ∙ c.if-covers.true) in
    let leads = (page_leads_by (length r.frames.memory.ram + r.frames.consoles) r.recents.pd c.args.page r.nodes.delegations.list d found c.self.invariant.0).1 in
    let frame : c.page_in.result.frame ≡ d.target + (c.args.page - d.base) = ap (λ p. p.frame) c.page_in.ensures in
    subst (λ (s : ReachState). c.page_in.result.frame < length s.memory.ram + s.consoles) c.self.view_is (omega (arith, leads, frame))
