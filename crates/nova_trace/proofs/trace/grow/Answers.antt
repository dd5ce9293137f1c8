use Rattle.std.proofs.Common.{rules, arith, ◌≡◌, ◌∙◌, ◌+◌, ◌-◌, ◌++◌, ap, replicate, slice_set, vec_len, None, Some}
use Rattle.std.specs.List.{last_or}
use Rattle.nova_model.specs.declared.event.Event.{Event}
use Rattle.nova_trace.specs.Traces.{events_of}
use Rattle.nova_trace.proofs.EntryLemmas.{last_is, last_few, events_grown, same_last}
use Rattle.nova_trace.proofs.trace.grow.Goals as goal

pub overflow_add-last : goal.overflow_add-last
overflow_add-last c =
    let was = c.args.entries.now in
    let last = c.in-Some.last.now in
    let is : last_or None was.items ≡ Some last = last_is was.items (vec_len was) last was.ok.0 (search rules) c.in-Some.ensures.value in
    let few = last_few was.items last is in
    let fits = c.requires.fits in
    omega (arith, few, fits)

pub returns-in-Some-clause-events : goal.returns-in-Some-clause-events
returns-in-Some-clause-events c =
    let was = c.args.entries.now in
    let last = c.in-Some.last.now in
    let is : last_or None was.items ≡ Some last = last_is was.items (vec_len was) last was.ok.0 (search rules) c.in-Some.ensures.value in
    let place = ap (λ n. slice_set was.items (n - 1) (record { event = last.event; count = last.count + c.args.count })) was.ok.0 in
    let same : last.event ≡ c.args.event = same_last was.items last c.args.event is c.requires.last in
    ap events_of place ∙ events_grown was.items last c.args.count is ∙ ap (λ (e : Event). events_of was.items ++ replicate c.args.count e) same
