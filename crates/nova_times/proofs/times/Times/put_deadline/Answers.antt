use Rattle.std.proofs.Common.{◌≡◌, ◌<◌, ℕ, List, length, ap, sym, subst}
use Rattle.std.specs.Prelude.{slice_set, Option}
use Rattle.nova_model.specs.State.{deadline_of}
use Rattle.nova_model.specs.Times.{Times}
use Rattle.nova_times.specs.Kept.{HasRoom, IsOf, TimesState, deadline_leaf}
use Rattle.nova_times.specs.Processors.{AreChanged, clocks_of, processor_at}
use Rattle.nova_times.specs.declared.entry.Entry.{Entry}
use Rattle.nova_times.proofs.Keeping.{length_deadlines, place_of_deadline, room_put, times_put}
use Rattle.nova_times.proofs.times.Times.put_deadline.Goals as goal

pub put_deadline-requires : goal.put_deadline-requires
put_deadline-requires c =
    let ps = c.self.inside.processors.items in
    let ds = c.self.inside.deadlines.items in
    let lt : c.args.ec < length ds = subst (λ (s : TimesState). c.args.ec < length s.all.deadlines) (sym c.self.view_is) c.requires.there in
    place_of_deadline (length ds) (length c.self.inside.alarms.items) c.self.inside.contexts c.self.inside.spare ps c.args.cpu c.args.ec c.self.invariant.1.0 lt

pub invariant_of-self : goal.invariant_of-self
invariant_of-self c =
    let ps = c.self.inside.processors.items in
    let ds = c.self.inside.deadlines.items in
    let alarms = c.self.inside.alarms.items in
    let cpu = c.args.cpu in
    let ec = c.args.ec in
    let d = c.args.deadline in
    let qs = c.put_deadline.new.processors.items in
    let t : Times = record { clocks = clocks_of ps; deadlines = ds; alarms = alarms } in
    let lt : ec < length ds = subst (λ (s : TimesState). ec < length s.all.deadlines) (sym c.self.view_is) c.requires.there in
    let before : IsOf cpu (deadline_of t ec) = subst (λ (s : TimesState). IsOf cpu (deadline_of s.all ec)) (sym c.self.view_is) c.requires.before in
    let room = c.self.invariant.1.0 in
    let changed : AreChanged cpu (record (processor_at ps cpu) { deadlines = slice_set (processor_at ps cpu).deadlines ec (deadline_leaf cpu ec d) }) ps qs =
    subst (λ (e : Option Entry). AreChanged cpu (record (processor_at ps cpu) { deadlines = slice_set (processor_at ps cpu).deadlines ec e }) ps qs) c.deadline_entry-entry.ensures c.put_deadline.ensures in (
      times_put ps qs t (clocks_of qs) c.self.inside.sources.items cpu ec d c.self.invariant.0 lt before c.requires.after
          (place_of_deadline (length ds) (length alarms) c.self.inside.contexts c.self.inside.spare ps cpu ec room lt) changed,
      (
        subst (λ (n : ℕ). HasRoom n (length alarms) c.self.inside.contexts c.self.inside.spare qs) (sym (length_deadlines ds ec d))
            (room_put (length ds) (length alarms) c.self.inside.contexts c.self.inside.spare ps qs cpu ec (deadline_leaf cpu ec d) room changed),
        c.self.invariant.1.1,
      ),
    )

pub returns : goal.returns
returns c =
    let ds = c.self.inside.deadlines.items in
    let made : List ℕ → TimesState = λ l. record { all = record { clocks = l; deadlines = slice_set ds c.args.ec c.args.deadline; alarms = c.self.inside.alarms.items }; contexts = c.self.inside.contexts; spare = c.self.inside.spare } in
    subst (λ (s : TimesState). ◌≡◌ {A = TimesState} (made (clocks_of c.put_deadline.new.processors.items)) (record s { all = record s.all { deadlines = slice_set s.all.deadlines c.args.ec c.args.deadline } })) c.self.view_is
    (ap made c.put_deadline.ensures.clocks)
