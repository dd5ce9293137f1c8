use Rattle.std.proofs.Common.{rules, ◌≡◌, ◌<◌, ◌≤◌, ◌+◌, ◌-◌, length, sym, subst}
use Rattle.nova_model.specs.Runs.{run}
use Rattle.nova_shared.specs.Ran.{Ran}
use Rattle.nova_shared.specs.Told.{HasNone}
use Rattle.nova_finished.specs.UnderWay.{left}
use Rattle.nova_shared.proofs.Shares.{seen_more, shared_more, there_on, told_of}
use Rattle.nova_shared.proofs.shared_run.SharedRun.turns.Goals as goal

pub take-taken-requires-clause-cpu : goal.take-taken-requires-clause-cpu
take-taken-requires-clause-cpu c =
    there_on c.self.inside.run c.self.inside.run c.args.cpu c.self.invariant
    (subst (λ (r : Ran). c.args.cpu < r.opening.kernel.state.cpus) (sym c.self.view_is) c.requires.cpu)

pub invariant_of-self : goal.invariant_of-self
invariant_of-self c =
    let e = c.take-taken.ensures in
    shared_more c.self.inside.run c.take-taken.new.run c.args.cpu c.self.invariant _ e.gone.no_idle e.gone.passed e.room

pub returns-clause-seen : goal.returns-clause-seen
returns-clause-seen c =
    let n = c.take-taken.result in
    subst (λ (r : Ran). (c.len-2.result ≡ length r.order + n) × (c.len-2.result ≤ r.opening.limit)) c.self.view_is
    (seen_more c.self.inside.run c.take-taken.new.run c.args.cpu c.self.invariant c.len-2.result n (search rules) c.take-taken.ensures.gone.passed)

pub returns-clause-none : goal.returns-clause-none
returns-clause-none c =
    let f = c.self.inside.run in
    let n = c.take-taken.result in
    subst (λ (r : Ran). n ≡ 0 → 0 < c.args.most → HasNone (run r.opening.kernel.state r.order) (r.opening.limit - length r.order) c.args.cpu) c.self.view_is
    (told_of f f c.args.cpu c.self.invariant (λ k l. n ≡ 0 → 0 < c.args.most → HasNone k l c.args.cpu)
    (λ none some more there. let room : 0 < left f = more in let one : 0 < c.min.result = search rules in c.take-taken.ensures.none none one there))
