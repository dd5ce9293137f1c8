use Rattle.std.proofs.Common.{rules, ◌≡◌, ◌<◌, ◌∙◌, ℕ, List, [], length, IfOk, ap, sym, subst}
use Rattle.std.specs.Prelude.{Option, Some, None, true}
use Rattle.nova_model.specs.State.{Semaphore}
use Rattle.nova_model.specs.Semaphores.{has, semaphore, semaphore_in}
use Rattle.nova_sem.specs.Semaphores.{SemsState}
use Rattle.nova_sem.specs.Links.{counter_at, entry_with_queue, linked}
use Rattle.nova_sem.specs.declared.counter.Counter.{Counter}
use Rattle.nova_sem.proofs.Calls.{below_at}
use Rattle.nova_sem.proofs.Steps.{entry_at, semaphore_is}
use Rattle.nova_sem.proofs.sems.Sems.queue.Goals as goal

pub in_order-requires : goal.in_order-requires
in_order-requires c =
    let links = c.self.inside.links.items in
    let counters = c.self.inside.counters.items in
    let there : counter_at counters c.args.sm ≡ Some c.in-Some.counter = search rules in
    let seen : c.deref-in-Some.result.now ≡ links = search rules in record {
      within = subst (λ (l : List ℕ). (x : ℕ) → has (linked l c.in-Some.counter.first c.in-Some.counter.waiting) x ≡ true → x < length l) (sym seen)
          (below_at links counters c.args.sm c.in-Some.counter c.self.invariant.0 there);
    }

pub returns-in-Some : goal.returns-in-Some
returns-in-Some c =
    let links = c.self.inside.links.items in
    let counters = c.self.inside.counters.items in
    let there : counter_at counters c.args.sm ≡ Some c.in-Some.counter = search rules in
    let seen : c.deref-in-Some.result.now ≡ links = search rules in
    let told : linked c.deref-in-Some.result.now c.in-Some.counter.first c.in-Some.counter.waiting ≡ (semaphore c.args.self.now.all c.args.sm).waiting =
    ap (λ (l : List ℕ). linked l c.in-Some.counter.first c.in-Some.counter.waiting) seen
    ∙ sym (ap (λ (s : Semaphore). s.waiting) (semaphore_is links counters c.args.sm c.in-Some.counter there))
    ∙ ap (λ (q : SemsState). (semaphore q.all c.args.sm).waiting) c.self.view_is in
    subst (λ (l : List ℕ). IfOk c.in_order.result (λ queue. queue.items ≡ l)) told c.in_order.ensures

pub returns-in-None : goal.returns-in-None
returns-in-None c =
    let links = c.self.inside.links.items in
    let counters = c.self.inside.counters.items in
    let there : ◌≡◌ {A = Option Counter} (counter_at counters c.args.sm) None = search rules in
    let nobody : c.new.result.items ≡ [] = search rules in
    nobody ∙ sym (ap (λ (o : Option Counter). (semaphore_in (entry_with_queue links o)).waiting) there)
    ∙ sym (ap (λ (o : Option Semaphore). (semaphore_in o).waiting) (entry_at links counters c.args.sm))
    ∙ ap (λ (q : SemsState). (semaphore q.all c.args.sm).waiting) c.self.view_is
