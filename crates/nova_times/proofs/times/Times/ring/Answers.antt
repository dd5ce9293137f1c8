use Rattle.std.proofs.Common.{rules, ◌≡◌, ◌<◌, ◌≤◌, ◌+◌, ◌∙◌, ℕ, List, length, ap, ap₂, refl, sym, subst, arith}
use Rattle.std.specs.Prelude.{true, slice_get, slice_index_or, slice_set, vec_capacity, IfSome, IsSome, Option, Some}
use Rattle.nova_model.specs.Times.{Times, goes_on, rung, rung_in, rung_once}
use Rattle.nova_model.specs.declared.times.AlarmState.{AlarmState}
use Rattle.nova_times.specs.Kept.{AreTimes, HasRoom, TimesState, alarm_leaf}
use Rattle.nova_times.specs.Processors.{AreChanged, clocks_of, processor_at}
use Rattle.nova_times.specs.declared.entry.Entry.{Entry}
use Rattle.nova_times.proofs.Keeping.{alarm_at, alarm_set, alarm_there, length_alarms, place_of_alarm, room_alarm, rung_bounded, sources_set, times_alarm}
use Rattle.nova_times.proofs.times.Times.ring.Goals as goal

pub put_alarm-requires : goal.put_alarm-requires
put_alarm-requires c =
    let alarms = c.self.inside.alarms.items in
    let n = c.args.number in
    let a = c.index.result.now in
    let some : IsSome (slice_get alarms n) = subst (λ (s : TimesState). IsSome (slice_get s.all.alarms n)) (sym c.self.view_is) c.requires.there in
    let value : a ≡ slice_index_or alarms n a = search rules in
    let lt = alarm_there alarms n a (alarm_at alarms n a some value) in
    place_of_alarm (length c.self.inside.deadlines.items) (length alarms) c.self.inside.contexts c.self.inside.spare c.self.inside.processors.items a.alarm.cpu n c.self.invariant.1.0 (omega arith)

pub invariant_of-self : goal.invariant_of-self
invariant_of-self c =
    let ps = c.self.inside.processors.items in
    let ds = c.self.inside.deadlines.items in
    let alarms = c.self.inside.alarms.items in
    let src = c.self.inside.sources.items in
    let t : Times = record { clocks = clocks_of ps; deadlines = ds; alarms = alarms } in
    let n = c.args.number in
    let a = c.index.result.now in
    let some : IsSome (slice_get alarms n) = subst (λ (s : TimesState). IsSome (slice_get s.all.alarms n)) (sym c.self.view_is) c.requires.there in
    let value : a ≡ slice_index_or alarms n a = search rules in
    let is = alarm_at alarms n a some value in
    let asked : IfSome (slice_get alarms n) (λ (x : AlarmState). goes_on x ≡ true) = subst (λ (s : TimesState). IfSome (slice_get s.all.alarms n) (λ (x : AlarmState). goes_on x ≡ true)) (sym c.self.view_is) c.requires.on in
    let on : goes_on a ≡ true = subst (λ (o : Option AlarmState). IfSome o (λ (x : AlarmState). goes_on x ≡ true)) is asked in
    let are = c.self.invariant.0 in
    let room = c.self.invariant.1.0 in
    let lt = alarm_there alarms n a is in
    let b = rung_once a in
    let qs = c.put_alarm.new.processors.items in
    let rings : c.rung_once-after.result ≡ b = c.rung_once-after.ensures in
    let entry : c.alarm_entry-entry.result ≡ alarm_leaf a.alarm.cpu n (Some b) = c.alarm_entry-entry.ensures ∙ ap (λ (x : AlarmState). alarm_leaf a.alarm.cpu n (Some x)) rings in
    let changed : AreChanged a.alarm.cpu (record (processor_at ps a.alarm.cpu) { alarms = slice_set (processor_at ps a.alarm.cpu).alarms n (alarm_leaf a.alarm.cpu n (Some b)) }) ps qs =
    subst (λ (e : Option Entry). AreChanged a.alarm.cpu (record (processor_at ps a.alarm.cpu) { alarms = slice_set (processor_at ps a.alarm.cpu).alarms n e }) ps qs) entry c.put_alarm.ensures in
    let listed = are.listed ∙ sym (sources_set alarms n a b is refl) in
    let place : a.alarm.cpu < length ps → n < length (processor_at ps a.alarm.cpu).alarms =
    place_of_alarm (length ds) (length alarms) c.self.inside.contexts c.self.inside.spare ps a.alarm.cpu n room (omega arith) in
    let kept = times_alarm ps qs t (clocks_of qs) src src (slice_set alarms n b) n b are (alarm_set alarms n a b is refl) (rung_bounded a on (are.bounded n a is)) listed place changed in
    let same : length (slice_set alarms n b) ≡ length alarms = length_alarms alarms n b in
    subst (λ (x : AlarmState). AreTimes qs (record { clocks = clocks_of qs; deadlines = ds; alarms = slice_set alarms n x }) src
    × (HasRoom (length ds) (length (slice_set alarms n x)) c.self.inside.contexts c.self.inside.spare qs
    × ((c.self.inside.contexts ≤ vec_capacity c.self.inside.deadlines) × ((length (slice_set alarms n x) + c.self.inside.spare ≤ vec_capacity c.self.inside.alarms) × (length (slice_set alarms n x) + c.self.inside.spare ≤ vec_capacity c.self.inside.sources))))) (sym rings) (
      kept,
      subst (λ (m : ℕ). HasRoom (length ds) m c.self.inside.contexts c.self.inside.spare qs
          × ((c.self.inside.contexts ≤ vec_capacity c.self.inside.deadlines) × ((m + c.self.inside.spare ≤ vec_capacity c.self.inside.alarms) × (m + c.self.inside.spare ≤ vec_capacity c.self.inside.sources)))) (sym same)
          (room_alarm (length ds) (length alarms) c.self.inside.contexts c.self.inside.spare ps qs a.alarm.cpu n (alarm_leaf a.alarm.cpu n (Some b)) room changed, c.self.invariant.1.1),
    )

pub returns : goal.returns
returns c =
    let ps = c.self.inside.processors.items in
    let ds = c.self.inside.deadlines.items in
    let alarms = c.self.inside.alarms.items in
    let t : Times = record { clocks = clocks_of ps; deadlines = ds; alarms = alarms } in
    let n = c.args.number in
    let a = c.index.result.now in
    let some : IsSome (slice_get alarms n) = subst (λ (s : TimesState). IsSome (slice_get s.all.alarms n)) (sym c.self.view_is) c.requires.there in
    let value : a ≡ slice_index_or alarms n a = search rules in
    let is = alarm_at alarms n a some value in
    let made : List ℕ → List AlarmState → TimesState = λ clocks l. record { all = record { clocks = clocks; deadlines = ds; alarms = l }; contexts = c.self.inside.contexts; spare = c.self.inside.spare } in
    let rung_is : rung t n ≡ record t { alarms = slice_set alarms n (rung_once a) } = ap (λ (o : Option AlarmState). record t { alarms = rung_in alarms n o }) is in
    subst (λ (s : TimesState). ◌≡◌ {A = TimesState} (made (clocks_of c.put_alarm.new.processors.items) (slice_set alarms n c.rung_once-after.result)) (record s { all = rung s.all n })) c.self.view_is
    (ap₂ made c.put_alarm.ensures.clocks (ap (slice_set alarms n) c.rung_once-after.ensures) ∙ sym (ap (λ (x : Times). record { all = x; contexts = c.self.inside.contexts; spare = c.self.inside.spare }) rung_is))
