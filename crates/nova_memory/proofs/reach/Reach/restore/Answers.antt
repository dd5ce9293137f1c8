use Rattle.nova_memory.proofs.reach.Reach.restore.Goals as goal

pub invariant_of-self : goal.invariant_of-self
invariant_of-self c =
    let was = c.self.inside in
    let is = c.tables.inside in
    let list = is.nodes.delegations.list in (
      c.tables.invariant.0,
      (
        c.tables.invariant.1.0,
        (
          c.tables.invariant.1.1,
          (
            c.new-self-inside.ensures.none list,
            (c.new-self-inside-2.ensures.none list, c.forget.ensures was.nodes.delegations.list list was.frames.memory is.frames.memory c.self.invariant.1.1.1.1.1),
          ),
        ),
      ),
    )
