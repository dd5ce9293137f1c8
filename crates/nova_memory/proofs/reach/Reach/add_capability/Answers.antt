use Rattle.std.proofs.Common.{◌≡◌, ◌+◌, length, refl, sym, subst}
use Rattle.std.specs.Prelude.{false, is_some, None}
use Rattle.std.specs.List.{find}
use Rattle.nova_range.specs.declared.range.Kind.TheVariants.{Mem, Obj}
use Rattle.nova_model.specs.Delegations.{Delegations, covers, derived}
use Rattle.law_forest.proofs.Boots.{capability_fits}
use Rattle.law_forest.proofs.Members.{all_more, none_found}
use Rattle.nova_memory.specs.Reach.{LeadToFrames, LeadsToFrames, ReachState, selector_range}
use Rattle.nova_memory.proofs.Placed.{AreFoundStill, found_still, more_still}
use Rattle.nova_memory.proofs.Recents.{recents_still}
use Rattle.nova_memory.proofs.Remembered.{recalled_still}
use Rattle.nova_memory.proofs.Seen.{blank_seen}
use Rattle.nova_memory.proofs.reach.Reach.add_capability.Goals as goal

pub root-requires-clause-fits : goal.root-requires-clause-fits
root-requires-clause-fits c =
    let f = c.self.inside.nodes.delegations in
    let free : is_some (find (covers Obj c.args.pd c.args.selector) f.list) ≡ false =
    subst (λ (s : ReachState). is_some (find (covers Obj c.args.pd c.args.selector) s.nodes.delegations.list) ≡ false) (sym c.self.view_is) c.requires.free in
    capability_fits f (derived f.next None c.args.pd (selector_range c.args.selector) c.args.rights c.args.object) refl refl refl refl
    (none_found (covers Obj c.args.pd c.args.selector) f.list free)

pub invariant_of-self : goal.invariant_of-self
invariant_of-self c =
    let r = c.self.inside in
    let f = r.nodes.delegations in
    let x = derived f.next None c.args.pd (selector_range c.args.selector) c.args.rights c.args.object in
    let still : AreFoundStill f.list c.root.new.self.delegations.list = subst (λ (g : Delegations). AreFoundStill f.list g.list) (sym c.root.ensures.added) (more_still f.list x) in
    let i = c.self.invariant.1 in (
      subst (λ (g : Delegations). LeadToFrames (length r.frames.memory.ram + r.frames.consoles) g.list) (sym c.root.ensures.added)
          (record { few = c.self.invariant.0.few; each = all_more (LeadsToFrames (length r.frames.memory.ram + r.frames.consoles)) f.list x c.self.invariant.0.each (λ is. cc) }),
      (
        found_still Mem f.list c.root.new.self.delegations.list r.last still i.0,
        (
          blank_seen c.root.new.self.delegations.list c.forget.new.self c.forget.ensures,
          (
            recents_still f.list c.root.new.self.delegations.list r.recents still i.1.1.0,
            (
              recents_still f.list c.root.new.self.delegations.list r.others still i.1.1.1.0,
              recalled_still f.list c.root.new.self.delegations.list r.frames.memory r.recalled still i.1.1.1.1,
            ),
          ),
        ),
      ),
    )
