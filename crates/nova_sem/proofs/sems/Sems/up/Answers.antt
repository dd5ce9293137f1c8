use Rattle.std.proofs.Common.{rules, ◌≡◌, ◌+◌, ◌-◌, ◌<◌, ◌∙◌, length, ap, sym, subst}
use Rattle.std.specs.Prelude.{◌^◌, slice_set, slice_index, Some, None}
use Rattle.std.specs.declared.result.Result.TheVariants.{Ok}
use Rattle.nova_model.specs.Semaphores.{semaphore, woken, upped}
use Rattle.nova_sem.specs.Semaphores.{SemsState}
use Rattle.nova_sem.specs.Links.{counter_at, all_with_queues}
use Rattle.nova_sem.proofs.Steps.{semaphore_is}
use Rattle.nova_sem.proofs.Calls.{any_count, first_within, overflow, is_greatest, not_greatest, rise_leaves, wake_leaves, woken_none, woken_first}
use Rattle.nova_sem.proofs.sems.Sems.up.Goals as goal

pub returns-in_default-checked_add-clause-upped : goal.returns-in_default-checked_add-clause-upped
returns-in_default-checked_add-clause-upped c =
    let there : counter_at c.self.inside.counters.items c.args.sm ≡ Some c.in-Some.counter = search rules in
    let fits : c.in-Some.counter.count < 2 ^ 32 = search rules in
    let over : ¬ (c.in-Some.counter.count + 1 < 2 ^ 32) = search rules in
    subst (λ (q : SemsState). q.all ≡ upped q.all c.args.sm) c.self.view_is
    (overflow c.self.inside.links.items c.self.inside.counters.items c.args.sm c.in-Some.counter there c.if-counter-eq0.true (is_greatest c.in-Some.counter.count fits over))

pub invariant_of-self : goal.invariant_of-self
invariant_of-self c =
    let there : counter_at c.self.inside.counters.items c.args.sm ≡ Some c.in-Some.counter = search rules in (
      any_count c.self.inside.links.items c.self.inside.counters.items c.args.sm c.in-Some.counter _ c.self.invariant.0 there c.if-counter-eq0.true,
      c.self.invariant.1,
    )

pub returns-then-counter-eq0-clause-woken : goal.returns-then-counter-eq0-clause-woken
returns-then-counter-eq0-clause-woken c =
    let there : counter_at c.self.inside.counters.items c.args.sm ≡ Some c.in-Some.counter = search rules in
    let fits : c.in-Some.counter.count + 1 < 2 ^ 32 = search rules in
    subst (λ (q : SemsState). Ok None ≡ woken (semaphore q.all c.args.sm)) c.self.view_is
    (sym (ap woken (semaphore_is c.self.inside.links.items c.self.inside.counters.items c.args.sm c.in-Some.counter there)
    ∙ woken_none c.self.inside.links.items c.in-Some.counter c.if-counter-eq0.true (not_greatest c.in-Some.counter.count fits)))

pub returns-then-counter-eq0-clause-upped : goal.returns-then-counter-eq0-clause-upped
returns-then-counter-eq0-clause-upped c =
    let there : counter_at c.self.inside.counters.items c.args.sm ≡ Some c.in-Some.counter = search rules in
    let fits : c.in-Some.counter.count + 1 < 2 ^ 32 = search rules in
    let more : c.in-Some-checked_add.count ≡ c.in-Some.counter.count + 1 = search rules in
    subst (λ (q : SemsState). all_with_queues c.self.inside.links.items (slice_set c.self.inside.counters.items c.args.sm (Some (record c.in-Some.counter { count = c.in-Some-checked_add.count }))) ≡ upped q.all c.args.sm) c.self.view_is
    (rise_leaves c.self.inside.links.items c.self.inside.counters.items c.args.sm c.in-Some.counter c.in-Some-checked_add.count c.self.invariant.0 there c.if-counter-eq0.true fits more).shows

pub without_first-requires-clause-within : goal.without_first-requires-clause-within
without_first-requires-clause-within c =
    let there : counter_at c.self.inside.counters.items c.args.sm ≡ Some c.in-Some.counter = search rules in
    let some : 0 < c.in-Some.counter.waiting = search rules in
    let within : c.in-Some.counter.first < length c.self.inside.links.items =
    first_within c.self.inside.links.items c.self.inside.counters.items c.args.sm c.in-Some.counter c.self.invariant.0 there some in
    search (rules, within)

pub invariant_of-self-2 : goal.invariant_of-self-2
invariant_of-self-2 c =
    let there : counter_at c.self.inside.counters.items c.args.sm ≡ Some c.in-Some.counter = search rules in
    let some : 0 < c.in-Some.counter.waiting = search rules in
    let goes : c.without_first.result ≡ record c.in-Some.counter { first = slice_index c.self.inside.links.items c.in-Some.counter.first; waiting = c.in-Some.counter.waiting - 1 } = search rules in (
      (wake_leaves c.self.inside.links.items c.self.inside.counters.items c.args.sm c.in-Some.counter c.without_first.result c.self.invariant.0 there some goes).holds,
      c.self.invariant.1,
    )

pub returns-clause-woken : goal.returns-clause-woken
returns-clause-woken c =
    let there : counter_at c.self.inside.counters.items c.args.sm ≡ Some c.in-Some.counter = search rules in
    let some : 0 < c.in-Some.counter.waiting = search rules in
    subst (λ (q : SemsState). Ok (Some c.in-Some.counter.first) ≡ woken (semaphore q.all c.args.sm)) c.self.view_is
    (sym (ap woken (semaphore_is c.self.inside.links.items c.self.inside.counters.items c.args.sm c.in-Some.counter there)
    ∙ woken_first c.self.inside.links.items c.in-Some.counter some))

pub returns-clause-upped : goal.returns-clause-upped
returns-clause-upped c =
    let there : counter_at c.self.inside.counters.items c.args.sm ≡ Some c.in-Some.counter = search rules in
    let some : 0 < c.in-Some.counter.waiting = search rules in
    let goes : c.without_first.result ≡ record c.in-Some.counter { first = slice_index c.self.inside.links.items c.in-Some.counter.first; waiting = c.in-Some.counter.waiting - 1 } = search rules in
    subst (λ (q : SemsState). all_with_queues c.self.inside.links.items (slice_set c.self.inside.counters.items c.args.sm (Some c.without_first.result)) ≡ upped q.all c.args.sm) c.self.view_is
    (wake_leaves c.self.inside.links.items c.self.inside.counters.items c.args.sm c.in-Some.counter c.without_first.result c.self.invariant.0 there some goes).shows
