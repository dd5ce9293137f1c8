use Rattle.nova_shared.proofs.Learning.{learned_of_block}
use Rattle.nova_shared.proofs.shared.Shared.go.Goals as goal

pub returns-clause-learned : goal.returns-clause-learned
returns-clause-learned g c =
    let d = c.with.ensures.did in
    let o = c.self.inside.lock.opened.opening in
    learned_of_block o.kernel.state o.limit c.args.seat.now c.with.new.seat d.0 c.with.ensures.seat d.1 c.number.result c.number.ensures c.with.result.taken d.3.0
