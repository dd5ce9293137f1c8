use Rattle.std.proofs.Common.{◌≡◌, ◌≤◌, ◌<◌, ◌+◌, ◌-◌, length, ap, sym, ◌∙◌, subst}
use Rattle.std.specs.Prelude.{IfSome}
use Rattle.std.specs.List.{find}
use Rattle.nova_range.specs.declared.range.Kind.TheVariants.{Mem}
use Rattle.nova_model.specs.Delegations.{covers}
use Rattle.nova_memory.specs.Reach.{LeadToFrames, ReachState}
use Rattle.nova_memory.specs.Sights.{AreSeen}
use Rattle.nova_memory.specs.Recalled.{AreRecalled}
use Rattle.nova_memory.specs.Recents.{AreRecent}
use Rattle.nova_nodes.specs.NodesStates.{NodesState}
use Rattle.nova_memory.proofs.Placed.{at_found, page_found}
use Rattle.nova_memory.proofs.reach.Reach.memory_at.Goals as goal

pub invariant_of-self : goal.invariant_of-self
invariant_of-self c =
    let r = c.self.inside in
    let same : c.at-self-inside.new.self ≡ r.nodes = c.at-self-inside.ensures.kept in (
      subst (λ (n : NodesState). LeadToFrames (length r.frames.memory.ram + r.frames.consoles) n.delegations.list) (sym same) c.self.invariant.0,
      (
        at_found Mem c.at-self-inside.new.self.delegations r.recents.pd c.args.page c.at-self-inside.result c.at-self-inside.ensures.sound c.at-self-inside.ensures.found
            c.at-self-inside.ensures.placed,
        (
          subst (λ (n : NodesState). AreSeen n.delegations.list r.sights) (sym same) c.self.invariant.1.1.0,
          subst (λ (n : NodesState). AreRecent n.delegations.list r.recents × (AreRecent n.delegations.list r.others × AreRecalled n.delegations.list r.frames.memory r.recalled)) (sym same) c.self.invariant.1.1.1,
        ),
      ),
    )

pub returns-clause-leads : goal.returns-clause-leads
returns-clause-leads c =
    let r = c.self.inside in
    subst (λ (s : ReachState). IfSome c.at-self-inside.result (λ d. (d.base ≤ c.args.page) × (d.target + (c.args.page - d.base) < length s.memory.ram + s.consoles))) c.self.view_is
    (page_found (length r.frames.memory.ram + r.frames.consoles) r.recents.pd c.args.page r.nodes.delegations.list c.at-self-inside.result
    (c.at-self-inside.ensures.found ∙ ap (λ (n : NodesState). find (covers Mem r.recents.pd c.args.page) n.delegations.list) c.at-self-inside.ensures.kept) c.self.invariant.0)
