use Rattle.std.proofs.Common.{rules, ◌≡◌, ◌<◌, ◌≤◌, ◌+◌, ◌-◌, length, sym, subst}
use Rattle.nova_model.specs.Runs.{run}
use Rattle.nova_shared.specs.Ran.{Ran}
use Rattle.nova_shared.proofs.Shares.{seen_more, shared_more, there_on, told_of}
use Rattle.nova_shared.proofs.shared_run.SharedRun.block.Goals as goal

pub block-taken-requires-clause-cpu : goal.block-taken-requires-clause-cpu
block-taken-requires-clause-cpu g c =
    there_on c.self.inside.run c.self.inside.run c.args.cpu c.self.invariant
    (subst (λ (r : Ran). c.args.cpu < r.opening.kernel.state.cpus) (sym c.self.view_is) c.requires.cpu)

pub invariant_of-self : goal.invariant_of-self
invariant_of-self g c =
    let e = c.block-taken.ensures in
    shared_more c.self.inside.run c.block-taken.new.self c.args.cpu c.self.invariant _ e.gone.no_idle e.gone.passed e.room

pub returns-clause-seen : goal.returns-clause-seen
returns-clause-seen g c =
    let n = c.block-taken.result in
    subst (λ (r : Ran). (c.len.result ≡ length r.order + n) × (c.len.result ≤ r.opening.limit)) c.self.view_is
    (seen_more c.self.inside.run c.block-taken.new.self c.args.cpu c.self.invariant c.len.result n (search rules) c.block-taken.ensures.gone.passed)

pub returns-clause-tells : goal.returns-clause-tells
returns-clause-tells g c =
    let d = c.block-taken in
    subst (λ (r : Ran). g.B.Block.tells c.args.call.now c.args.cpu (run r.opening.kernel.state r.order) (r.opening.limit - length r.order) d.new.call d.result) c.self.view_is
    (told_of c.self.inside.run c.self.inside.run c.args.cpu c.self.invariant (λ k left. g.B.Block.tells c.args.call.now c.args.cpu k left d.new.call d.result) d.ensures.tells)
