use Rattle.std.proofs.Common.{rules, ◌≡◌, ◌<◌, ◌∙◌, length, ap, refl, subst, sym}
use Rattle.std.specs.Prelude.{slice_set}
use Rattle.nova_times.specs.Processors.{AreChanged, ProcessorState, processor_at}
use Rattle.nova_times.proofs.Processors.{changed_set, there_is}
use Rattle.nova_times.proofs.processor.put_alarm.Goals as goal

pub returns-then-cpu-len : goal.returns-then-cpu-len
returns-then-cpu-len c =
    let ps = c.args.processors.now.items in
    let lt : c.args.cpu < length ps = search rules in
    let is = there_is ps c.args.cpu c.index_mut.result.now lt c.index_mut.ensures.value in
    let p = processor_at ps c.args.cpu in
    let made : c.put_alarm.new.self ≡ record p { alarms = slice_set p.alarms c.args.n c.args.e } =
    c.put_alarm.ensures ∙ ap (λ (q : ProcessorState). record q { alarms = slice_set q.alarms c.args.n c.args.e }) (sym is) in
    subst (λ (q : ProcessorState). AreChanged c.args.cpu (record p { alarms = slice_set p.alarms c.args.n c.args.e }) ps (slice_set ps c.args.cpu q)) (sym made)
    (changed_set ps c.args.cpu (record p { alarms = slice_set p.alarms c.args.n c.args.e }) refl)
