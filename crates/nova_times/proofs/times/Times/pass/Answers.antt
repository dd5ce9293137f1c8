use Rattle.std.proofs.Common.{◌≡◌, ◌<◌, ◌+◌, ◌∙◌, ℕ, List, length, ap, sym, subst, arith}
use Rattle.std.specs.Prelude.{slice_index, slice_set}
use Rattle.nova_model.specs.Times.{Times}
use Rattle.nova_times.specs.Kept.{TimesState}
use Rattle.nova_times.specs.Processors.{IsWider, ProcessorState, clocks_of, processor_at}
use Rattle.nova_times.proofs.Keeping.{room_wider, times_wider}
use Rattle.nova_times.proofs.Processors.{all_wider_self, all_wider_set, clock_at, clocks_set, length_clocks, there_is, wider_clock}
use Rattle.nova_times.proofs.times.Times.pass.Goals as goal

pub invariant_of-self : goal.invariant_of-self
invariant_of-self c =
    let ps = c.self.inside.processors.items in
    let cpu = c.args.cpu in
    let t : Times = record { clocks = clocks_of ps; deadlines = c.self.inside.deadlines.items; alarms = c.self.inside.alarms.items } in
    let there : cpu < length (clocks_of ps) = subst (λ (s : TimesState). cpu < length s.all.clocks) (sym c.self.view_is) c.requires.there in
    let count = length_clocks ps in
    let lt : cpu < length ps = omega arith in
    let p = c.index_mut.result.now in
    let is = there_is ps cpu p lt c.index_mut.ensures.value in
    let one : IsWider (processor_at ps cpu) c.pass.new.self = subst (λ (q : ProcessorState). IsWider q c.pass.new.self) (sym is) (subst (λ (q : ProcessorState). IsWider p q) (sym c.pass.ensures) (wider_clock p (p.clock + c.args.count))) in
    let wider = all_wider_set ps ps cpu c.pass.new.self (all_wider_self ps) lt one in
    let qs = slice_set ps cpu c.pass.new.self in (
      times_wider ps qs t (clocks_of qs) c.self.inside.sources.items c.self.invariant.0 wider,
      (room_wider (length t.deadlines) (length t.alarms) c.self.inside.contexts c.self.inside.spare ps qs c.self.invariant.1.0 wider, c.self.invariant.1.1),
    )

pub returns : goal.returns
returns c =
    let ps = c.self.inside.processors.items in
    let cpu = c.args.cpu in
    let there : cpu < length (clocks_of ps) = subst (λ (s : TimesState). cpu < length s.all.clocks) (sym c.self.view_is) c.requires.there in
    let count = length_clocks ps in
    let lt : cpu < length ps = omega arith in
    let p = c.index_mut.result.now in
    let is = there_is ps cpu p lt c.index_mut.ensures.value in
    let now : c.pass.new.self.clock ≡ slice_index (clocks_of ps) cpu + c.args.count =
    ap (λ (q : ProcessorState). q.clock) c.pass.ensures ∙ ap (λ (q : ProcessorState). q.clock + c.args.count) (sym is) ∙ ap (λ (n : ℕ). n + c.args.count) (sym (clock_at ps cpu lt)) in
    let made : List ℕ → TimesState = λ l. record { all = record { clocks = l; deadlines = c.self.inside.deadlines.items; alarms = c.self.inside.alarms.items }; contexts = c.self.inside.contexts; spare = c.self.inside.spare } in
    subst (λ (s : TimesState). ◌≡◌ {A = TimesState} (made (clocks_of (slice_set ps cpu c.pass.new.self))) (record s { all = record s.all { clocks = slice_set s.all.clocks cpu (slice_index s.all.clocks cpu + c.args.count) } })) c.self.view_is
    (ap made (clocks_set ps cpu c.pass.new.self ∙ ap (slice_set (clocks_of ps) cpu) now))
