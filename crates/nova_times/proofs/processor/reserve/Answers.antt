use Rattle.std.proofs.Common.{rules, ◌<◌, length, ap, ◌∙◌, subst, sym}
use Rattle.nova_times.specs.Processors.{HasPlaces, IsWider, ProcessorState}
use Rattle.nova_times.proofs.Processors.{all_wider_set, clocks_same, places_set, there_is}
use Rattle.nova_times.proofs.processor.reserve.Goals as goal

pub returns-in_err-reserve-clause-wider : goal.returns-in_err-reserve-clause-wider
returns-in_err-reserve-clause-wider c =
    let ps = c.loop-cpu.processors.items in
    let lt : c.loop-cpu.cpu < length ps = search rules in
    let is = there_is ps c.loop-cpu.cpu c.index_mut.result.now lt c.index_mut.ensures.value in
    all_wider_set c.args.processors.now.items ps c.loop-cpu.cpu c.reserve.new.self c.loop-cpu.invariant.wider lt (subst (λ (p : ProcessorState). IsWider p c.reserve.new.self) (sym is) c.reserve.ensures.wider)

pub returns-in_err-reserve-clause-clocks : goal.returns-in_err-reserve-clause-clocks
returns-in_err-reserve-clause-clocks c =
    let ps = c.loop-cpu.processors.items in
    let lt : c.loop-cpu.cpu < length ps = search rules in
    let is = there_is ps c.loop-cpu.cpu c.index_mut.result.now lt c.index_mut.ensures.value in
    clocks_same ps c.loop-cpu.cpu c.reserve.new.self (c.reserve.ensures.clock ∙ ap (λ (p : ProcessorState). p.clock) (sym is)) ∙ c.loop-cpu.invariant.clocks

pub loop-cpu-preserved : goal.loop-cpu-preserved
loop-cpu-preserved c =
    let ps = c.loop-cpu.processors.items in
    let lt : c.loop-cpu.cpu < length ps = search rules in
    let is = there_is ps c.loop-cpu.cpu c.index_mut.result.now lt c.index_mut.ensures.value in
    let has : HasPlaces c.args.alarms c.args.deadlines c.reserve.new.self = search rules in record {
      clocks = clocks_same ps c.loop-cpu.cpu c.reserve.new.self (c.reserve.ensures.clock ∙ ap (λ (p : ProcessorState). p.clock) (sym is)) ∙ c.loop-cpu.invariant.clocks;
      wider = all_wider_set c.args.processors.now.items ps c.loop-cpu.cpu c.reserve.new.self c.loop-cpu.invariant.wider lt (subst (λ (p : ProcessorState). IsWider p c.reserve.new.self) (sym is) c.reserve.ensures.wider);
      room = places_set c.args.alarms c.args.deadlines c.loop-cpu.cpu ps c.reserve.new.self lt c.loop-cpu.invariant.room has;
    }
