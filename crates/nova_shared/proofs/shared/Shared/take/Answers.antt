use Rattle.nova_shared.proofs.Learning.{learned, learned_of_others}
use Rattle.nova_shared.proofs.shared.Shared.take.Goals as goal

pub returns-clause-learned : goal.returns-clause-learned
returns-clause-learned g c =
    let d = c.with.ensures.did in
    let o = c.self.inside.lock.opened.opening in
    learned o.kernel.state o.limit c.args.seat.now c.with.new.seat d.0 c.with.ensures.seat d.1 c.number.result c.number.ensures c.with.result d.3.0

pub returns-clause-refused : goal.returns-clause-refused
returns-clause-refused g c =
    let d = c.with.ensures.did in
    let o = c.self.inside.lock.opened.opening in
    learned_of_others o.kernel.state o.limit c.args.seat.now c.with.new.seat d.0 c.with.ensures.seat d.1 c.number.result c.number.ensures c.with.result d.3.1
