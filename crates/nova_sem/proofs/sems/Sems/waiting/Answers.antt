use Rattle.std.proofs.Common.{rules, ◌≡◌, length, subst}
use Rattle.std.specs.Prelude.{Option, Some, None}
use Rattle.nova_model.specs.Semaphores.{semaphore}
use Rattle.nova_sem.specs.Semaphores.{SemsState}
use Rattle.nova_sem.specs.Links.{counter_at}
use Rattle.nova_sem.specs.declared.counter.Counter.{Counter}
use Rattle.nova_sem.proofs.Calls.{waiting_at, nobody_at_none}
use Rattle.nova_sem.proofs.sems.Sems.waiting.Goals as goal

pub returns-in-Some : goal.returns-in-Some
returns-in-Some c =
    let there : counter_at c.self.inside.counters.items c.args.sm ≡ Some c.in-Some.counter = search rules in
    subst (λ (q : SemsState). c.in-Some.counter.waiting ≡ length (semaphore q.all c.args.sm).waiting) c.self.view_is
    (waiting_at c.self.inside.links.items c.self.inside.counters.items c.args.sm c.in-Some.counter there)

pub returns-in-None : goal.returns-in-None
returns-in-None c =
    let there : ◌≡◌ {A = Option Counter} (counter_at c.self.inside.counters.items c.args.sm) None = search rules in
    subst (λ (q : SemsState). 0 ≡ length (semaphore q.all c.args.sm).waiting) c.self.view_is
    (nobody_at_none c.self.inside.links.items c.self.inside.counters.items c.args.sm there)
