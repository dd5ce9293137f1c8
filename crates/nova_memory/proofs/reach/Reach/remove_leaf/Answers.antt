use Rattle.std.proofs.Common.{◌+◌, length}
use Rattle.nova_memory.proofs.Placed.{without_leads}
use Rattle.nova_memory.proofs.Seen.{blank_seen}
use Rattle.nova_memory.proofs.reach.Reach.remove_leaf.Goals as goal

pub invariant_of-self : goal.invariant_of-self
invariant_of-self c =
    let r = c.self.inside in
    let new = c.remove_leaf.new.self.delegations in (
      without_leads (length r.frames.memory.ram + r.frames.consoles) r.nodes.delegations new c.args.id c.remove_leaf.ensures.removed c.self.invariant.0,
      (
        tt,
        (blank_seen new.list c.forget.new.self c.forget.ensures, (c.forget-2.ensures.none new.list, (c.forget-3.ensures.none new.list, c.forget-4.ensures r.nodes.delegations.list new.list r.frames.memory r.frames.memory c.self.invariant.1.1.1.1.1))),
      ),
    )
