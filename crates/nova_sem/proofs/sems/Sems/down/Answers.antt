use Rattle.std.proofs.Common.{rules, ◌≡◌, ◌-◌, ◌<◌, ◌∙◌, length, refl, ap, sym, subst}
use Rattle.std.specs.Prelude.{slice_set, Some}
use Rattle.nova_model.specs.Semaphores.{semaphore, answer_of, downed}
use Rattle.nova_sem.specs.Semaphores.{SemsState}
use Rattle.nova_sem.specs.Sound.{IsFree}
use Rattle.nova_sem.specs.Links.{counter_at, all_with_queues}
use Rattle.nova_model.specs.declared.semaphore.Down.TheVariants.{Done, Blocked}
use Rattle.nova_sem.proofs.Steps.{semaphore_is}
use Rattle.nova_sem.proofs.Calls.{any_count, nobody_waits, last_within, room_to_wait, lower_leaves, block_leaves, answer_done, answer_blocked}
use Rattle.nova_sem.proofs.sems.Sems.down.Goals as goal

pub invariant_of-self : goal.invariant_of-self
invariant_of-self c =
    let there : counter_at c.self.inside.counters.items c.args.sm ≡ Some c.in-Some.counter = search rules in
    let none = nobody_waits c.self.inside.links.items c.self.inside.counters.items c.args.sm c.in-Some.counter c.self.invariant.0 there c.if-counter-gt0.true in (
      any_count c.self.inside.links.items c.self.inside.counters.items c.args.sm c.in-Some.counter _ c.self.invariant.0 there none,
      c.self.invariant.1,
    )

pub returns-then-counter-gt0-clause-answer : goal.returns-then-counter-gt0-clause-answer
returns-then-counter-gt0-clause-answer c =
    let there : counter_at c.self.inside.counters.items c.args.sm ≡ Some c.in-Some.counter = search rules in
    subst (λ (q : SemsState). Done ≡ answer_of (semaphore q.all c.args.sm)) c.self.view_is
    (sym (ap answer_of (semaphore_is c.self.inside.links.items c.self.inside.counters.items c.args.sm c.in-Some.counter there)
    ∙ answer_done c.self.inside.links.items c.in-Some.counter c.if-counter-gt0.true))

pub returns-then-counter-gt0-clause-downed : goal.returns-then-counter-gt0-clause-downed
returns-then-counter-gt0-clause-downed c =
    let there : counter_at c.self.inside.counters.items c.args.sm ≡ Some c.in-Some.counter = search rules in
    let free : IsFree (all_with_queues c.self.inside.links.items c.self.inside.counters.items) c.args.ec = subst (λ (q : SemsState). IsFree q.all c.args.ec) (sym c.self.view_is) c.requires.free in
    subst (λ (q : SemsState). all_with_queues c.self.inside.links.items (slice_set c.self.inside.counters.items c.args.sm (Some (record c.in-Some.counter { count = c.in-Some.counter.count - 1 }))) ≡ downed q.all c.args.sm c.args.ec) c.self.view_is
    (lower_leaves c.self.inside.links.items c.self.inside.counters.items c.args.sm c.args.ec c.in-Some.counter _ c.self.invariant.0 there free c.if-counter-gt0.true refl).shows

pub link-requires : goal.link-requires
link-requires c =
    let there : counter_at c.self.inside.counters.items c.args.sm ≡ Some c.in-Some.counter = search rules in
    last_within c.self.inside.links.items c.self.inside.counters.items c.args.sm c.in-Some.counter c.self.invariant.0 there

pub with_last-requires : goal.with_last-requires
with_last-requires c =
    let there : counter_at c.self.inside.counters.items c.args.sm ≡ Some c.in-Some.counter = search rules in
    let free : IsFree (all_with_queues c.self.inside.links.items c.self.inside.counters.items) c.args.ec = subst (λ (q : SemsState). IsFree q.all c.args.ec) (sym c.self.view_is) c.requires.free in
    let room : c.args.ec < length c.self.inside.links.items = search rules in
    room_to_wait c.self.inside.links.items c.self.inside.counters.items c.args.sm c.args.ec c.in-Some.counter c.self.invariant.0 there free room

pub invariant_of-self-2 : goal.invariant_of-self-2
invariant_of-self-2 c =
    let there : counter_at c.self.inside.counters.items c.args.sm ≡ Some c.in-Some.counter = search rules in
    let free : IsFree (all_with_queues c.self.inside.links.items c.self.inside.counters.items) c.args.ec = subst (λ (q : SemsState). IsFree q.all c.args.ec) (sym c.self.view_is) c.requires.free in
    let room : c.args.ec < length c.self.inside.links.items = search rules in
    let none : c.in-Some.counter.count ≡ 0 = search rules in (
      (block_leaves c.self.inside.links.items c.link.new.links.items c.self.inside.counters.items c.args.sm c.args.ec c.in-Some.counter c.with_last.result c.self.invariant.0 there free none room c.link.ensures c.with_last.ensures).holds,
      c.self.invariant.1,
    )

pub returns-clause-answer : goal.returns-clause-answer
returns-clause-answer c =
    let there : counter_at c.self.inside.counters.items c.args.sm ≡ Some c.in-Some.counter = search rules in
    let none : c.in-Some.counter.count ≡ 0 = search rules in
    subst (λ (q : SemsState). Blocked ≡ answer_of (semaphore q.all c.args.sm)) c.self.view_is
    (sym (ap answer_of (semaphore_is c.self.inside.links.items c.self.inside.counters.items c.args.sm c.in-Some.counter there)
    ∙ answer_blocked c.self.inside.links.items c.in-Some.counter none))

pub returns-clause-downed : goal.returns-clause-downed
returns-clause-downed c =
    let there : counter_at c.self.inside.counters.items c.args.sm ≡ Some c.in-Some.counter = search rules in
    let free : IsFree (all_with_queues c.self.inside.links.items c.self.inside.counters.items) c.args.ec = subst (λ (q : SemsState). IsFree q.all c.args.ec) (sym c.self.view_is) c.requires.free in
    let room : c.args.ec < length c.self.inside.links.items = search rules in
    let none : c.in-Some.counter.count ≡ 0 = search rules in
    subst (λ (q : SemsState). all_with_queues c.link.new.links.items (slice_set c.self.inside.counters.items c.args.sm (Some c.with_last.result)) ≡ downed q.all c.args.sm c.args.ec) c.self.view_is
    (block_leaves c.self.inside.links.items c.link.new.links.items c.self.inside.counters.items c.args.sm c.args.ec c.in-Some.counter c.with_last.result c.self.invariant.0 there free none room c.link.ensures c.with_last.ensures).shows
