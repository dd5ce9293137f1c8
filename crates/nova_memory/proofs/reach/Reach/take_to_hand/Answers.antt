use Rattle.nova_range.specs.declared.range.Kind.TheVariants.{Obj}
use Rattle.nova_memory.proofs.Placed.{at_found}
use Rattle.nova_memory.proofs.Recents.{at_hand}
use Rattle.nova_memory.proofs.reach.Reach.take_to_hand.Goals as goal

pub invariant_of-self : goal.invariant_of-self
invariant_of-self c =
    let r = c.self.inside in
    let known = c.covering-self-inside.ensures in
    let found = at_found Obj r.nodes.delegations c.args.pd c.args.selector c.covering-self-inside.result known.sound known.found known.placed in (
      c.self.invariant.0,
      (c.self.invariant.1.0, (c.self.invariant.1.1.0, (at_hand r.nodes.delegations.list r.recents c.covering-self-inside.result c.self.invariant.1.1.1.0 found, c.self.invariant.1.1.1.1))),
    )
