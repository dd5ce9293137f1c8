use Rattle.std.proofs.Common.{rules, ◌≡◌, ◌<◌, ◌-◌, ◌∙◌, ℕ, List, length, ap, sym, subst}
use Rattle.std.specs.Prelude.{slice_index, slice_set, true, Some}
use Rattle.nova_model.specs.Semaphores.{has, waits, left}
use Rattle.nova_sem.specs.Semaphores.{SemsState}
use Rattle.nova_sem.specs.Links.{all_with_queues, before, counter_at, linked, with_queue}
use Rattle.nova_sem.proofs.Calls.{below_at, first_within}
use Rattle.nova_sem.proofs.Leaving.{before_waits, leave_first, leave_later, some_wait_at, who_waits}
use Rattle.nova_sem.proofs.sems.Sems.leave.Goals as goal

pub invariant_of-self : goal.invariant_of-self
invariant_of-self c =
    let links = c.self.inside.links.items in
    let counters = c.self.inside.counters.items in
    let there : counter_at counters c.args.sm ≡ Some c.in-Some.counter = search rules in
    let waiting_there : waits (all_with_queues links counters) c.args.sm c.args.ec ≡ true = subst (λ (q : SemsState). waits q.all c.args.sm c.args.ec ≡ true) (sym c.self.view_is) c.requires in
    let waiting = who_waits links counters c.args.sm c.args.ec c.in-Some.counter there waiting_there in
    let goes : c.without_first.result ≡ record c.in-Some.counter { first = slice_index links c.in-Some.counter.first; waiting = c.in-Some.counter.waiting - 1 } = search rules in (
      (leave_first links counters c.args.sm c.args.ec c.in-Some.counter c.without_first.result c.self.invariant.0 there c.if-counter-ec.true waiting goes).holds,
      c.self.invariant.1,
    )

pub returns-then-counter-ec-clause-left : goal.returns-then-counter-ec-clause-left
returns-then-counter-ec-clause-left c =
    let links = c.self.inside.links.items in
    let counters = c.self.inside.counters.items in
    let there : counter_at counters c.args.sm ≡ Some c.in-Some.counter = search rules in
    let waiting_there : waits (all_with_queues links counters) c.args.sm c.args.ec ≡ true = subst (λ (q : SemsState). waits q.all c.args.sm c.args.ec ≡ true) (sym c.self.view_is) c.requires in
    let waiting = who_waits links counters c.args.sm c.args.ec c.in-Some.counter there waiting_there in
    let goes : c.without_first.result ≡ record c.in-Some.counter { first = slice_index links c.in-Some.counter.first; waiting = c.in-Some.counter.waiting - 1 } = search rules in
    subst (λ (q : SemsState). all_with_queues links (slice_set counters c.args.sm (Some c.without_first.result)) ≡ left q.all c.args.sm c.args.ec) c.self.view_is
    (leave_first links counters c.args.sm c.args.ec c.in-Some.counter c.without_first.result c.self.invariant.0 there c.if-counter-ec.true waiting goes).shows

pub before-before-requires-clause-some : goal.before-before-requires-clause-some
before-before-requires-clause-some c =
    let links = c.self.inside.links.items in
    let counters = c.self.inside.counters.items in
    let there : counter_at counters c.args.sm ≡ Some c.in-Some.counter = search rules in
    let waiting_there : waits (all_with_queues links counters) c.args.sm c.args.ec ≡ true = subst (λ (q : SemsState). waits q.all c.args.sm c.args.ec ≡ true) (sym c.self.view_is) c.requires in
    let waiting = who_waits links counters c.args.sm c.args.ec c.in-Some.counter there waiting_there in
    some_wait_at links c.in-Some.counter c.args.ec waiting

pub before-before-requires-clause-within : goal.before-before-requires-clause-within
before-before-requires-clause-within c =
    let links = c.self.inside.links.items in
    let counters = c.self.inside.counters.items in
    let there : counter_at counters c.args.sm ≡ Some c.in-Some.counter = search rules in
    let waiting_there : waits (all_with_queues links counters) c.args.sm c.args.ec ≡ true = subst (λ (q : SemsState). waits q.all c.args.sm c.args.ec ≡ true) (sym c.self.view_is) c.requires in
    let waiting = who_waits links counters c.args.sm c.args.ec c.in-Some.counter there waiting_there in
    let seen : c.deref-2.result.now ≡ links = search rules in
    subst (λ (l : List ℕ). (x : ℕ) → has (linked l c.in-Some.counter.first c.in-Some.counter.waiting) x ≡ true → x < length l) (sym seen)
    (below_at links counters c.args.sm c.in-Some.counter c.self.invariant.0 there)

pub unlink-requires-clause-before : goal.unlink-requires-clause-before
unlink-requires-clause-before c =
    let links = c.self.inside.links.items in
    let counters = c.self.inside.counters.items in
    let there : counter_at counters c.args.sm ≡ Some c.in-Some.counter = search rules in
    let waiting_there : waits (all_with_queues links counters) c.args.sm c.args.ec ≡ true = subst (λ (q : SemsState). waits q.all c.args.sm c.args.ec ≡ true) (sym c.self.view_is) c.requires in
    let waiting = who_waits links counters c.args.sm c.args.ec c.in-Some.counter there waiting_there in
    let seen : c.deref-2.result.now ≡ links = search rules in
    let place : c.before-before.result ≡ before links c.in-Some.counter.first c.args.ec (c.in-Some.counter.waiting - 1) =
    c.before-before.ensures ∙ ap (λ (l : List ℕ). before l c.in-Some.counter.first c.args.ec (c.in-Some.counter.waiting - 1)) seen in
    let some = some_wait_at links c.in-Some.counter c.args.ec waiting in
    let low = below_at links counters c.args.sm c.in-Some.counter c.self.invariant.0 there (before links c.in-Some.counter.first c.args.ec (c.in-Some.counter.waiting - 1)) (before_waits links c.in-Some.counter c.args.ec some) in
    subst (λ (n : ℕ). n < length links) (sym place) low

pub unlink-requires-clause-leaves : goal.unlink-requires-clause-leaves
unlink-requires-clause-leaves c =
    let links = c.self.inside.links.items in
    let counters = c.self.inside.counters.items in
    let there : counter_at counters c.args.sm ≡ Some c.in-Some.counter = search rules in
    let waiting_there : waits (all_with_queues links counters) c.args.sm c.args.ec ≡ true = subst (λ (q : SemsState). waits q.all c.args.sm c.args.ec ≡ true) (sym c.self.view_is) c.requires in
    let waiting = who_waits links counters c.args.sm c.args.ec c.in-Some.counter there waiting_there in
    below_at links counters c.args.sm c.in-Some.counter c.self.invariant.0 there c.args.ec waiting

pub without_later-requires : goal.without_later-requires
without_later-requires c =
    let links = c.self.inside.links.items in
    let counters = c.self.inside.counters.items in
    let there : counter_at counters c.args.sm ≡ Some c.in-Some.counter = search rules in
    let waiting_there : waits (all_with_queues links counters) c.args.sm c.args.ec ≡ true = subst (λ (q : SemsState). waits q.all c.args.sm c.args.ec ≡ true) (sym c.self.view_is) c.requires in
    let waiting = who_waits links counters c.args.sm c.args.ec c.in-Some.counter there waiting_there in
    some_wait_at links c.in-Some.counter c.args.ec waiting

pub invariant_of-self-2 : goal.invariant_of-self-2
invariant_of-self-2 c =
    let links = c.self.inside.links.items in
    let counters = c.self.inside.counters.items in
    let there : counter_at counters c.args.sm ≡ Some c.in-Some.counter = search rules in
    let waiting_there : waits (all_with_queues links counters) c.args.sm c.args.ec ≡ true = subst (λ (q : SemsState). waits q.all c.args.sm c.args.ec ≡ true) (sym c.self.view_is) c.requires in
    let waiting = who_waits links counters c.args.sm c.args.ec c.in-Some.counter there waiting_there in
    let seen : c.deref-2.result.now ≡ links = search rules in
    let place : c.before-before.result ≡ before links c.in-Some.counter.first c.args.ec (c.in-Some.counter.waiting - 1) =
    c.before-before.ensures ∙ ap (λ (l : List ℕ). before l c.in-Some.counter.first c.args.ec (c.in-Some.counter.waiting - 1)) seen in (
      (leave_later links c.unlink.new.links.items counters c.args.sm c.args.ec c.before-before.result c.in-Some.counter c.without_later.result c.self.invariant.0 there c.if-counter-ec.false waiting place c.unlink.ensures c.without_later.ensures).holds,
      c.self.invariant.1,
    )

pub returns-clause-left : goal.returns-clause-left
returns-clause-left c =
    let links = c.self.inside.links.items in
    let counters = c.self.inside.counters.items in
    let there : counter_at counters c.args.sm ≡ Some c.in-Some.counter = search rules in
    let waiting_there : waits (all_with_queues links counters) c.args.sm c.args.ec ≡ true = subst (λ (q : SemsState). waits q.all c.args.sm c.args.ec ≡ true) (sym c.self.view_is) c.requires in
    let waiting = who_waits links counters c.args.sm c.args.ec c.in-Some.counter there waiting_there in
    let seen : c.deref-2.result.now ≡ links = search rules in
    let place : c.before-before.result ≡ before links c.in-Some.counter.first c.args.ec (c.in-Some.counter.waiting - 1) =
    c.before-before.ensures ∙ ap (λ (l : List ℕ). before l c.in-Some.counter.first c.args.ec (c.in-Some.counter.waiting - 1)) seen in
    subst (λ (q : SemsState). all_with_queues c.unlink.new.links.items (slice_set counters c.args.sm (Some c.without_later.result)) ≡ left q.all c.args.sm c.args.ec) c.self.view_is
    (leave_later links c.unlink.new.links.items counters c.args.sm c.args.ec c.before-before.result c.in-Some.counter c.without_later.result c.self.invariant.0 there c.if-counter-ec.false waiting place c.unlink.ensures c.without_later.ensures).shows
