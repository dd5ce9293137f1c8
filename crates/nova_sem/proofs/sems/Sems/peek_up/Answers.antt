use Rattle.std.proofs.Common.{rules, ◌≡◌, ◌==◌, ◌∙◌, ap, sym, subst}
use Rattle.std.specs.Prelude.{true, false, Some, None}
use Rattle.std.specs.declared.result.Result.TheVariants.{Ok, Err}
use Rattle.nova_model.specs.Semaphores.{semaphore, woken, greatest}
use Rattle.nova_sem.specs.Semaphores.{SemsState}
use Rattle.nova_sem.specs.Links.{counter_at}
use Rattle.nova_sem.proofs.Steps.{semaphore_is}
use Rattle.nova_sem.proofs.Calls.{woken_none, woken_overflow, woken_first}
use Rattle.nova_sem.proofs.sems.Sems.peek_up.Goals as goal

pub returns-then-counter-gt0 : goal.returns-then-counter-gt0
returns-then-counter-gt0 c =
    let there : counter_at c.self.inside.counters.items c.args.sm ≡ Some c.in-Some.counter = search rules in
    subst (λ (q : SemsState). Ok (Some c.in-Some.counter.first) ≡ woken (semaphore q.all c.args.sm)) c.self.view_is
    (sym (ap woken (semaphore_is c.self.inside.links.items c.self.inside.counters.items c.args.sm c.in-Some.counter there)
    ∙ woken_first c.self.inside.links.items c.in-Some.counter c.if-counter-gt0.true))

pub returns-then-counter : goal.returns-then-counter
returns-then-counter c =
    let there : counter_at c.self.inside.counters.items c.args.sm ≡ Some c.in-Some.counter = search rules in
    let none : c.in-Some.counter.waiting ≡ 0 = search rules in
    let most : (c.in-Some.counter.count == greatest) ≡ true = search rules in
    subst (λ (q : SemsState). Err (record {}) ≡ woken (semaphore q.all c.args.sm)) c.self.view_is
    (sym (ap woken (semaphore_is c.self.inside.links.items c.self.inside.counters.items c.args.sm c.in-Some.counter there)
    ∙ woken_overflow c.self.inside.links.items c.in-Some.counter none most))

pub returns : goal.returns
returns c =
    let there : counter_at c.self.inside.counters.items c.args.sm ≡ Some c.in-Some.counter = search rules in
    let none : c.in-Some.counter.waiting ≡ 0 = search rules in
    let less : (c.in-Some.counter.count == greatest) ≡ false = search rules in
    subst (λ (q : SemsState). Ok None ≡ woken (semaphore q.all c.args.sm)) c.self.view_is
    (sym (ap woken (semaphore_is c.self.inside.links.items c.self.inside.counters.items c.args.sm c.in-Some.counter there)
    ∙ woken_none c.self.inside.links.items c.in-Some.counter none less))
