use Rattle.std.proofs.Common.{rules, ◌≡◌, ◌<◌, ◌+◌, ◌*◌, ◌-◌, ◌^◌, ◌∙◌, ◌++◌, ◌∷◌, [], ℕ, List, length, length-append, ap, sym, subst, arith}
use Rattle.std.specs.Prelude.{slice_set, Option, Some}
use Rattle.nova_model.specs.Times.{Times}
use Rattle.nova_model.specs.declared.times.Alarm.{Alarm}
use Rattle.nova_model.specs.declared.times.AlarmState.{AlarmState}
use Rattle.nova_times.specs.Kept.{AreTimes, IsBounded, TimesState, alarm_leaf}
use Rattle.nova_times.specs.Processors.{AreChanged, clocks_of, processor_at}
use Rattle.nova_times.specs.declared.entry.Entry.{Entry}
use Rattle.nova_times.proofs.Keeping.{alarm_added, place_of_alarm, room_alarm, room_moved, sources_added, times_alarm}
use Rattle.nova_times.proofs.times.Times.add_alarm.Goals as goal

pub put_alarm-requires : goal.put_alarm-requires
put_alarm-requires c =
    let alarms = c.self.inside.alarms.items in
    let some : 0 < c.self.inside.spare = subst (λ (s : TimesState). 0 < s.spare) (sym c.self.view_is) c.requires.room in
    let number : c.len-number.result ≡ length alarms = search rules in
    place_of_alarm (length c.self.inside.deadlines.items) (length alarms) c.self.inside.contexts c.self.inside.spare c.self.inside.processors.items c.args.alarm.cpu c.len-number.result c.self.invariant.1.0 (omega arith)

pub invariant_of-self : goal.invariant_of-self
invariant_of-self c =
    let ps = c.self.inside.processors.items in
    let ds = c.self.inside.deadlines.items in
    let alarms = c.self.inside.alarms.items in
    let src = c.self.inside.sources.items in
    let t : Times = record { clocks = clocks_of ps; deadlines = ds; alarms = alarms } in
    let are = c.self.invariant.0 in
    let room = c.self.invariant.1.0 in
    let contexts = c.self.inside.contexts in
    let spare = c.self.inside.spare in
    let cpu = c.args.alarm.cpu in
    let n = length alarms in
    let a : AlarmState = record { alarm = c.args.alarm; next = c.args.alarm.first; rings = 0 } in
    let qs = c.put_alarm.new.processors.items in
    let entry : c.alarm_entry-entry.result ≡ alarm_leaf cpu n (Some a) = search rules in
    let number : c.len-number.result ≡ n = search rules in
    let changed : AreChanged cpu (record (processor_at ps cpu) { alarms = slice_set (processor_at ps cpu).alarms n (alarm_leaf cpu n (Some a)) }) ps qs =
    subst (λ (e : Option Entry). AreChanged cpu (record (processor_at ps cpu) { alarms = slice_set (processor_at ps cpu).alarms n e }) ps qs) entry
    (subst (λ (k : ℕ). AreChanged cpu (record (processor_at ps cpu) { alarms = slice_set (processor_at ps cpu).alarms k c.alarm_entry-entry.result }) ps qs) number c.put_alarm.ensures) in
    let some : 0 < spare = subst (λ (s : TimesState). 0 < s.spare) (sym c.self.view_is) c.requires.room in
    let items : c.push_reserved.new.self.items ≡ alarms ++ a ∷ [] = c.push_reserved.ensures.items in
    let sources : c.push_reserved-2.new.self.items ≡ src ++ c.args.alarm ∷ [] = c.push_reserved-2.ensures.items in
    let more = ap length items ∙ length-append alarms (a ∷ []) in
    let whole : c.args.alarm.count - 0 ≡ c.args.alarm.count = omega arith in
    let fits : IsBounded a = record { last = subst (λ (k : ℕ). c.args.alarm.first + k * c.args.alarm.period < 2 ^ 64) (sym whole) c.requires.alarm.last } in
    let place : cpu < length ps → n < length (processor_at ps cpu).alarms = place_of_alarm (length ds) (length alarms) contexts spare ps cpu n room (omega arith) in
    let listed = ap (λ (l : List Alarm). l ++ c.args.alarm ∷ []) are.listed ∙ sym (sources_added alarms a) in
    let kept = times_alarm ps qs t (clocks_of qs) src (src ++ c.args.alarm ∷ []) (alarms ++ a ∷ []) n a are (alarm_added alarms a) fits listed place changed in
    let caps1 = c.self.invariant.1.1.1.0 in
    let caps2 = c.self.invariant.1.1.1.1 in
    let cap1 = c.push_reserved.ensures.capacity in
    let cap2 = c.push_reserved-2.ensures.capacity in (
      subst (λ (l : List AlarmState). AreTimes qs (record { clocks = clocks_of qs; deadlines = ds; alarms = l }) c.push_reserved-2.new.self.items) (sym items)
          (subst (λ (l : List Alarm). AreTimes qs (record { clocks = clocks_of qs; deadlines = ds; alarms = alarms ++ a ∷ [] }) l) (sym sources) kept),
      (
        room_moved (length ds) (length alarms) (length c.push_reserved.new.self.items) contexts spare (spare - 1) qs (omega arith)
            (room_alarm (length ds) (length alarms) contexts spare ps qs cpu n (alarm_leaf cpu n (Some a)) room changed),
        (c.self.invariant.1.1.0, (omega arith, omega arith)),
      ),
    )
