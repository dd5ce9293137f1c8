use Rattle.nova_memory.proofs.Laid.{laid_leads}
use Rattle.nova_memory.proofs.reach.Reach.put.Goals as goal

pub invariant_of-self : goal.invariant_of-self
invariant_of-self c =
    let r = c.self.inside in
    let i = c.self.invariant.1 in
    (laid_leads c.put.new.self c.self.inside.frames c.args.address c.args.bytes.now c.self.inside.nodes.delegations.list c.put.ensures c.self.invariant.0, (i.0, (i.1.0, (i.1.1.0, (i.1.1.1.0, c.forget.ensures r.nodes.delegations.list r.nodes.delegations.list r.frames.memory c.put.new.self.memory i.1.1.1.1)))))
