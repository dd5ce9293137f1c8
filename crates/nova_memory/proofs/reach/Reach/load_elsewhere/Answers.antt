use Rattle.std.proofs.Common.{◌/◌, sym, ◌∙◌, subst}
use Rattle.nova_range.specs.Rights.{read_right}
use Rattle.nova_memory.specs.Reach.{ReachState}
use Rattle.nova_memory.specs.Recents.{IsRecent}
use Rattle.nova_memory.proofs.Recents.{learned}
use Rattle.nova_memory.proofs.reach.Reach.load_elsewhere.Goals as goal

pub invariant_of-self : goal.invariant_of-self
invariant_of-self c =
    let r = c.self.inside in
    let i = c.self.invariant.1 in
    let is = subst (λ (s : ReachState). IsRecent s.nodes.delegations.list s.pd read_right (record { page = c.args.address / 4096; frame = c.in_ok-frame.frame })) (sym (c.self.view_is ∙ c.frame_for.ensures.kept))
    (learned c.args.self.now read_right c.args.address c.in_ok-frame.frame (sym c.in_ok-frame.ensures.frame) c.if-address-ne-OWN_PAGE.true) in (
      c.self.invariant.0,
      (
        i.0,
        (
          i.1.0,
          (
            record {
              fetched = i.1.1.0.fetched;
              loaded = c.learn.ensures r.nodes.delegations.list r.recents.pd read_right i.1.1.0.loaded is;
              stored = i.1.1.0.stored;
              capability = i.1.1.0.capability;
            },
            i.1.1.1,
          ),
        ),
      ),
    )
