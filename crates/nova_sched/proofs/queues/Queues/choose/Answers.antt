use Rattle.std.proofs.Common.{rules, ◌≡◌, ◌∙◌, length, sym, ap, subst}
use Rattle.std.specs.Prelude.{Some, None, IsSome, option_map, slice_get}
use Rattle.nova_sched.specs.Queues.{QueuesState, Schedule, choose, queued_at}
use Rattle.nova_sched.specs.Ready.{items_at}
use Rattle.nova_sched.specs.declared.queued.Runnable.{Runnable}
use Rattle.nova_sched.proofs.Readiness.{first_chosen, first_there}
use Rattle.nova_sched.proofs.queues.Queues.choose.Goals as goal

pub returns-in_err-first-clause-choice : goal.returns-in_err-first-clause-choice
returns-in_err-first-clause-choice c =
    let s : Schedule = record { entries = c.self.inside.entries.items; next_stamp = c.self.inside.next_stamp; cpus = length c.self.inside.queues.items } in
    let rs = items_at c.self.inside.readies.items c.args.cpu in
    let are = c.self.invariant.1.1 in
    let seen : s ≡ c.args.self.now.all = ap (λ (q : QueuesState). q.all) c.self.view_is in
    let none : None ≡ slice_get rs 0 = search rules in
    let idle : c.from_residual.result ≡ None = search rules in
    idle ∙ ap (option_map (λ (r : Runnable). r.sc)) none ∙ first_chosen s c.args.cpu rs (are.ready c.args.cpu) are.stamped ∙ ap (λ (t : Schedule). choose t c.args.cpu) seen

pub returns-clause-choice : goal.returns-clause-choice
returns-clause-choice c =
    let s : Schedule = record { entries = c.self.inside.entries.items; next_stamp = c.self.inside.next_stamp; cpus = length c.self.inside.queues.items } in
    let rs = items_at c.self.inside.readies.items c.args.cpu in
    let are = c.self.invariant.1.1 in
    let seen : s ≡ c.args.self.now.all = ap (λ (q : QueuesState). q.all) c.self.view_is in
    let some : Some c.in_ok-first.field-0 ≡ slice_get rs 0 = search rules in
    ap (option_map (λ (r : Runnable). r.sc)) some ∙ first_chosen s c.args.cpu rs (are.ready c.args.cpu) are.stamped ∙ ap (λ (t : Schedule). choose t c.args.cpu) seen

pub returns-clause-there : goal.returns-clause-there
returns-clause-there c =
    let s : Schedule = record { entries = c.self.inside.entries.items; next_stamp = c.self.inside.next_stamp; cpus = length c.self.inside.queues.items } in
    let rs = items_at c.self.inside.readies.items c.args.cpu in
    let are = c.self.invariant.1.1 in
    let seen : s ≡ c.args.self.now.all = ap (λ (q : QueuesState). q.all) c.self.view_is in
    let some : Some c.in_ok-first.field-0 ≡ slice_get rs 0 = search rules in
    subst (λ (t : Schedule). IsSome (queued_at t c.in_ok-first.field-0.sc)) seen (first_there s.entries c.args.cpu rs c.in_ok-first.field-0 (are.ready c.args.cpu) (sym some))
