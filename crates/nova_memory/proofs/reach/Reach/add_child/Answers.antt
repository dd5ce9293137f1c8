use Rattle.std.proofs.Common.{◌≡◌, ◌+◌, length, ap, sym, ◌∙◌, subst}
use Rattle.nova_delegate.specs.Parts.{IsReady}
use Rattle.nova_range.specs.declared.range.Kind.TheVariants.{Mem}
use Rattle.nova_model.specs.Delegations.{Delegations, added}
use Rattle.nova_model.specs.Forest.{IsFitting}
use Rattle.nova_nodes.specs.NodesStates.{IsPlaced}
use Rattle.nova_memory.specs.Reach.{ReachState}
use Rattle.nova_memory.proofs.Placed.{AreFoundStill, as_derived, found_still, joined_leads, more_still}
use Rattle.nova_memory.proofs.Recents.{recents_still}
use Rattle.nova_memory.proofs.Remembered.{recalled_still}
use Rattle.nova_memory.proofs.Seen.{blank_seen}
use Rattle.nova_memory.proofs.reach.Reach.add_child.Goals as goal

pub child-requires-clause-fits : goal.child-requires-clause-fits
child-requires-clause-fits c =
    let f = c.self.inside.nodes.delegations in
    let x = c.args.child.now in
    let ready : IsReady f x = subst (λ (s : ReachState). IsReady s.nodes.delegations x) (sym c.self.view_is) c.requires.child in
    subst (IsFitting f) (sym (as_derived f x c.in-Some.parent c.range.result ready.fits.id c.in-Some.is c.range.ensures)) ready.fits

pub child-requires-clause-placed : goal.child-requires-clause-placed
child-requires-clause-placed c =
    let f = c.self.inside.nodes.delegations in
    let x = c.args.child.now in
    let ready : IsReady f x = subst (λ (s : ReachState). IsReady s.nodes.delegations x) (sym c.self.view_is) c.requires.child in
    subst IsPlaced (sym (as_derived f x c.in-Some.parent c.range.result ready.fits.id c.in-Some.is c.range.ensures)) ready.placed

pub invariant_of-self : goal.invariant_of-self
invariant_of-self c =
    let r = c.self.inside in
    let f = r.nodes.delegations in
    let x = c.args.child.now in
    let ready : IsReady f x = subst (λ (s : ReachState). IsReady s.nodes.delegations x) (sym c.self.view_is) c.requires.child in
    let is : c.child.new.self.delegations ≡ added f x = c.child.ensures.added ∙ ap (added f) (as_derived f x c.in-Some.parent c.range.result ready.fits.id c.in-Some.is c.range.ensures) in
    let still : AreFoundStill f.list c.child.new.self.delegations.list = subst (λ (g : Delegations). AreFoundStill f.list g.list) (sym is) (more_still f.list x) in
    let i = c.self.invariant.1 in (
      joined_leads (length r.frames.memory.ram + r.frames.consoles) f c.child.new.self.delegations x ready is c.self.invariant.0,
      (
        found_still Mem f.list c.child.new.self.delegations.list r.last still i.0,
        (
          blank_seen c.child.new.self.delegations.list c.forget.new.self c.forget.ensures,
          (
            recents_still f.list c.child.new.self.delegations.list r.recents still i.1.1.0,
            (
              recents_still f.list c.child.new.self.delegations.list r.others still i.1.1.1.0,
              recalled_still f.list c.child.new.self.delegations.list r.frames.memory r.recalled still i.1.1.1.1,
            ),
          ),
        ),
      ),
    )

pub returns-clause-delegations : goal.returns-clause-delegations
returns-clause-delegations c =
    let f = c.self.inside.nodes.delegations in
    let x = c.args.child.now in
    let same : c.self.inside.nodes.delegations ≡ c.args.self.now.nodes.delegations = ap (λ (s : ReachState). s.nodes.delegations) c.self.view_is in
    let ready : IsReady f x = subst (λ (s : ReachState). IsReady s.nodes.delegations x) (sym c.self.view_is) c.requires.child in
    c.child.ensures.added ∙ ap (added f) (as_derived f x c.in-Some.parent c.range.result ready.fits.id c.in-Some.is c.range.ensures) ∙ ap (λ (g : Delegations). added g x) same
