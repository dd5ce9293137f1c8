-- The entries stay those of the deadlines and alarms, whatever changes.
use Rattle.std.proofs.Common.{◌≡◌, ℕ, zero, suc, ◌+◌, ◌-◌, ◌*◌, ◌<◌, ◌≤◌, ◌^◌, List, [], ◌∷◌, ◌++◌, length, refl, ap, sym, subst, ◌∙◌, arith}
use Rattle.std.specs.Prelude.{◌==◌, true, false, is_some, map, slice_get, slice_index, slice_index_or, slice_set, Option, Some, None, IsSome, option_map}
use Rattle.nova_model.specs.Times.{Times, clock, due_on, goes_on, next_entry, next_moment, rung_once}
use Rattle.nova_model.specs.State.{deadline_of, entry}
use Rattle.nova_model.specs.declared.times.Alarm.{Alarm}
use Rattle.nova_model.specs.declared.times.AlarmState.{AlarmState}
use Rattle.nova_model.specs.declared.times.Deadline.{Deadline}
use Rattle.nova_times.specs.Kept.{AreShown, AreTimes, HasRoom, IsBounded, IsOf, alarm_leaf, alarm_leaves, deadline_leaf, deadline_leaves, seen}
use Rattle.nova_times.specs.Processors.{AreChanged, AreWider, HavePlaces, ProcessorState, clocks_of, first_of, is_due_by, least_on, moment_of, processor_at, processor_of}
use Rattle.nova_times.specs.Trees.{leaf}
use Rattle.nova_times.specs.declared.entry.Entry.{Entry}
use Rattle.nova_times.proofs.Nexts.{is_due_is, moment_is, next_is, shown_beyond}
use Rattle.nova_times.proofs.Processors.{clock_at, is_below, places_changed, places_wider, same_or_not}
use Rattle.nova_times.proofs.Trees.{leaf_set_other, leaf_set_same, length_leaves}

-- TABLES

pub deadline_set_same : (ds : List (Option Deadline)) (ec : ℕ) (d : Option Deadline) → ec < length ds → entry (slice_get (slice_set ds ec d) ec) ≡ d
deadline_set_same [] ec d lt = absurd (omega arith)
deadline_set_same (o ∷ ds) zero d lt = refl
deadline_set_same (o ∷ ds) (suc ec) d lt = deadline_set_same ds ec d (omega arith)

pub deadline_set_other : (ds : List (Option Deadline)) (ec other : ℕ) (d : Option Deadline) → (other ≡ ec → ⊥) → entry (slice_get (slice_set ds ec d) other) ≡ entry (slice_get ds other)
deadline_set_other [] ec other d off = refl
deadline_set_other (o ∷ ds) zero zero d off = absurd (off refl)
deadline_set_other (o ∷ ds) zero (suc other) d off = refl
deadline_set_other (o ∷ ds) (suc ec) zero d off = refl
deadline_set_other (o ∷ ds) (suc ec) (suc other) d off = deadline_set_other ds ec other d (λ e. off (ap suc e))

pub deadline_set_none : (ds : List (Option Deadline)) (ec : ℕ) → entry (slice_get ds ec) ≡ None → slice_set ds ec None ≡ ds
deadline_set_none [] ec h = refl
deadline_set_none (o ∷ ds) zero h = ap (λ x. x ∷ ds) (sym h)
deadline_set_none (o ∷ ds) (suc ec) h = ap (λ l. o ∷ l) (deadline_set_none ds ec h)

pub deadline_there : (ds : List (Option Deadline)) (ec : ℕ) (d : Deadline) → entry (slice_get ds ec) ≡ Some d → ec < length ds
deadline_there [] ec d h = absurd cc
deadline_there (o ∷ ds) zero d h = omega arith
deadline_there (o ∷ ds) (suc ec) d h = let rest = deadline_there ds ec d h in omega arith

pub length_deadlines : (ds : List (Option Deadline)) (ec : ℕ) (d : Option Deadline) → length (slice_set ds ec d) ≡ length ds
length_deadlines [] ec d = refl
length_deadlines (o ∷ ds) zero d = refl
length_deadlines (o ∷ ds) (suc ec) d = ap suc (length_deadlines ds ec d)

pub set_beyond : (ds : List (Option Deadline)) (ec : ℕ) (d : Option Deadline) → length ds ≤ ec → slice_set ds ec d ≡ ds
set_beyond [] ec d le = refl
set_beyond (o ∷ ds) zero d le = absurd (omega arith)
set_beyond (o ∷ ds) (suc ec) d le = ap (λ l. o ∷ l) (set_beyond ds ec d (omega arith))

pub set_over : (ds : List (Option Deadline)) (ec : ℕ) (c d : Option Deadline) → slice_set (slice_set ds ec c) ec d ≡ slice_set ds ec d
set_over [] ec c d = refl
set_over (o ∷ ds) zero c d = refl
set_over (o ∷ ds) (suc ec) c d = ap (λ l. o ∷ l) (set_over ds ec c d)

pub alarm_set_same : (alarms : List AlarmState) (n : ℕ) (a : AlarmState) → n < length alarms → slice_get (slice_set alarms n a) n ≡ Some a
alarm_set_same [] n a lt = absurd (omega arith)
alarm_set_same (b ∷ alarms) zero a lt = refl
alarm_set_same (b ∷ alarms) (suc n) a lt = alarm_set_same alarms n a (omega arith)

pub alarm_set_other : (alarms : List AlarmState) (n other : ℕ) (a : AlarmState) → (other ≡ n → ⊥) → slice_get (slice_set alarms n a) other ≡ slice_get alarms other
alarm_set_other [] n other a off = refl
alarm_set_other (b ∷ alarms) zero zero a off = absurd (off refl)
alarm_set_other (b ∷ alarms) zero (suc other) a off = refl
alarm_set_other (b ∷ alarms) (suc n) zero a off = refl
alarm_set_other (b ∷ alarms) (suc n) (suc other) a off = alarm_set_other alarms n other a (λ e. off (ap suc e))

pub alarm_there : (alarms : List AlarmState) (n : ℕ) (a : AlarmState) → slice_get alarms n ≡ Some a → n < length alarms
alarm_there [] n a h = absurd cc
alarm_there (b ∷ alarms) zero a h = omega arith
alarm_there (b ∷ alarms) (suc n) a h = let rest = alarm_there alarms n a h in omega arith

pub alarm_pushed_same : (alarms : List AlarmState) (a : AlarmState) → slice_get (alarms ++ a ∷ []) (length alarms) ≡ Some a
alarm_pushed_same [] a = refl
alarm_pushed_same (b ∷ alarms) a = alarm_pushed_same alarms a

pub alarm_pushed_other : (alarms : List AlarmState) (a : AlarmState) (n : ℕ) → (n ≡ length alarms → ⊥) → slice_get (alarms ++ a ∷ []) n ≡ slice_get alarms n
alarm_pushed_other [] a zero off = absurd (off refl)
alarm_pushed_other [] a (suc n) off = refl
alarm_pushed_other (b ∷ alarms) a zero off = refl
alarm_pushed_other (b ∷ alarms) a (suc n) off = alarm_pushed_other alarms a n (λ e. off (ap suc e))

pub alarm_none : (alarms : List AlarmState) → slice_get alarms (length alarms) ≡ None
alarm_none [] = refl
alarm_none (b ∷ alarms) = alarm_none alarms

pub length_alarms : (alarms : List AlarmState) (n : ℕ) (a : AlarmState) → length (slice_set alarms n a) ≡ length alarms
length_alarms [] n a = refl
length_alarms (b ∷ alarms) zero a = refl
length_alarms (b ∷ alarms) (suc n) a = ap suc (length_alarms alarms n a)

pub sources_set : (alarms : List AlarmState) (n : ℕ) (a b : AlarmState) → slice_get alarms n ≡ Some a → b.alarm ≡ a.alarm → map (λ (x : AlarmState). x.alarm) (slice_set alarms n b) ≡ map (λ (x : AlarmState). x.alarm) alarms
sources_set [] n a b h same = refl
sources_set (c ∷ alarms) zero a b h same = let it : a ≡ c = cc in ap (λ x. x ∷ map (λ (y : AlarmState). y.alarm) alarms) (same ∙ ap (λ (x : AlarmState). x.alarm) it)
sources_set (c ∷ alarms) (suc n) a b h same = ap (λ l. c.alarm ∷ l) (sources_set alarms n a b h same)

pub sources_added : (alarms : List AlarmState) (a : AlarmState) → map (λ (x : AlarmState). x.alarm) (alarms ++ a ∷ []) ≡ map (λ (x : AlarmState). x.alarm) alarms ++ a.alarm ∷ []
sources_added [] a = refl
sources_added (b ∷ alarms) a = ap (λ l. b.alarm ∷ l) (sources_added alarms a)

pub alarm_at : (alarms : List AlarmState) (n : ℕ) (a : AlarmState) → IsSome (slice_get alarms n) → a ≡ slice_index_or alarms n a → slice_get alarms n ≡ Some a
alarm_at [] n a there is = absurd cc
alarm_at (b ∷ alarms) zero a there is = ap Some (sym is)
alarm_at (b ∷ alarms) (suc n) a there is = alarm_at alarms n a there is

-- WHAT IS SAID OF A PROCESSOR

pub next_there : (ps : List ProcessorState) (t : Times) (src : List Alarm) (cpu : ℕ) (p : ProcessorState) → AreTimes ps t src → slice_get ps cpu ≡ Some p → option_map seen (first_of p.alarms p.deadlines) ≡ next_entry t cpu
next_there ps t src cpu p are at =
    let lt = is_below ps cpu p at in
    next_is t cpu p.alarms p.deadlines (subst (λ (q : ProcessorState). AreShown t cpu q.alarms q.deadlines) (ap processor_of at) (are.shown cpu lt))

pub next_beyond : (t : Times) (cpu : ℕ) → option_map seen (first_of (alarm_leaves cpu 0 t.alarms) (deadline_leaves cpu 0 t.deadlines)) ≡ next_entry t cpu
next_beyond t cpu = next_is t cpu (alarm_leaves cpu 0 t.alarms) (deadline_leaves cpu 0 t.deadlines) (shown_beyond t cpu)

pub moment_there : (ps : List ProcessorState) (t : Times) (src : List Alarm) (cpu : ℕ) (p : ProcessorState) → AreTimes ps t src → slice_get ps cpu ≡ Some p → least_on p ≡ next_moment t cpu
moment_there ps t src cpu p are at = moment_is t cpu (first_of p.alarms p.deadlines) (next_there ps t src cpu p are at)

pub moment_beyond : (t : Times) (cpu : ℕ) → moment_of (first_of (alarm_leaves cpu 0 t.alarms) (deadline_leaves cpu 0 t.deadlines)) ≡ next_moment t cpu
moment_beyond t cpu = moment_is t cpu (first_of (alarm_leaves cpu 0 t.alarms) (deadline_leaves cpu 0 t.deadlines)) (next_beyond t cpu)

pub is_due_there : (ps : List ProcessorState) (t : Times) (src : List Alarm) (cpu : ℕ) (p : ProcessorState) → AreTimes ps t src → t.clocks ≡ clocks_of ps → slice_get ps cpu ≡ Some p → is_due_by p.clock (least_on p) ≡ is_some (due_on t cpu)
is_due_there ps t src cpu p are clocks at =
    let lt = is_below ps cpu p at in
    let now : p.clock ≡ clock t cpu = ap (λ (q : ProcessorState). q.clock) (sym (ap processor_of at)) ∙ sym (clock_at ps cpu lt) ∙ ap (λ (l : List ℕ). slice_index l cpu) (sym clocks) in
    ap (λ (n : ℕ). is_due_by n (least_on p)) now ∙ is_due_is t cpu (first_of p.alarms p.deadlines) (next_there ps t src cpu p are at)

pub is_due_beyond : (t : Times) (cpu : ℕ) → clock t cpu ≡ 0 → is_due_by 0 (moment_of (first_of (alarm_leaves cpu 0 t.alarms) (deadline_leaves cpu 0 t.deadlines))) ≡ is_some (due_on t cpu)
is_due_beyond t cpu none =
    let o = first_of (alarm_leaves cpu 0 t.alarms) (deadline_leaves cpu 0 t.deadlines) in
    ap (λ (n : ℕ). is_due_by n (moment_of o)) (sym none) ∙ is_due_is t cpu o (next_beyond t cpu)

-- CHANGES

-- the same entries, of the same tables
pub times_wider : (ps qs : List ProcessorState) (t : Times) (clocks : List ℕ) (src : List Alarm) → AreTimes ps t src → AreWider ps qs → AreTimes qs (record t { clocks = clocks }) src
times_wider ps qs t clocks src are wider = record {
  shown = λ cpu low. record {
    alarms = λ n. (wider.each cpu).alarms n ∙ (are.shown cpu (subst (λ (m : ℕ). cpu < m) wider.count low)).alarms n;
    deadlines = λ n. (wider.each cpu).deadlines n ∙ (are.shown cpu (subst (λ (m : ℕ). cpu < m) wider.count low)).deadlines n;
  };
  bounded = are.bounded;
  listed = are.listed;
}

-- a deadline of another processor is none of `cpu`
none_of_other : (cpu other n : ℕ) (d : Option Deadline) → IsOf cpu d → (other ≡ cpu → ⊥) → deadline_leaf other n d ≡ None
none_of_other cpu other n None its off = refl
none_of_other cpu other n (Some d) its off =
    let at = its d refl in
    let no : (d.cpu == other) ≡ false = grind (arith, at, off) in
    rw no refl

pub times_put : (ps qs : List ProcessorState) (t : Times) (clocks : List ℕ) (src : List Alarm) (cpu ec : ℕ) (d : Option Deadline) → AreTimes ps t src → ec < length t.deadlines → IsOf cpu (deadline_of t ec) → IsOf cpu d →
    (cpu < length ps → ec < length (processor_at ps cpu).deadlines) → AreChanged cpu (record (processor_at ps cpu) { deadlines = slice_set (processor_at ps cpu).deadlines ec (deadline_leaf cpu ec d) }) ps qs →
    AreTimes qs (record t { clocks = clocks; deadlines = slice_set t.deadlines ec d }) src
times_put ps qs t clocks src cpu ec d are lt before after place changed = record {
  shown = λ other low. shown other (subst (λ (m : ℕ). other < m) changed.count low);
  bounded = are.bounded;
  listed = are.listed;
}
  where
    u : Times
    u = record t { clocks = clocks; deadlines = slice_set t.deadlines ec d }

    here : cpu < length ps → AreShown u cpu (processor_at ps cpu).alarms (slice_set (processor_at ps cpu).deadlines ec (deadline_leaf cpu ec d))
    here low = record {
      alarms = (are.shown cpu low).alarms;
      deadlines = λ n. same_or_not n ec (leaf (slice_set (processor_at ps cpu).deadlines ec (deadline_leaf cpu ec d)) n ≡ deadline_leaf cpu n (deadline_of u n))
          (λ same. subst (λ (k : ℕ). leaf (slice_set (processor_at ps cpu).deadlines ec (deadline_leaf cpu ec d)) k ≡ deadline_leaf cpu k (deadline_of u k)) (sym same)
          (leaf_set_same (processor_at ps cpu).deadlines ec (deadline_leaf cpu ec d) (place low) ∙ ap (deadline_leaf cpu ec) (sym (deadline_set_same t.deadlines ec d lt))))
          (λ off. leaf_set_other (processor_at ps cpu).deadlines ec n (deadline_leaf cpu ec d) off ∙ (are.shown cpu low).deadlines n ∙ ap (deadline_leaf cpu n) (sym (deadline_set_other t.deadlines ec n d off)));
    }

    elsewhere : (other : ℕ) → (other ≡ cpu → ⊥) → other < length ps → AreShown u other (processor_at ps other).alarms (processor_at ps other).deadlines
    elsewhere other apart low = record {
      alarms = (are.shown other low).alarms;
      deadlines = λ n. same_or_not n ec (leaf (processor_at ps other).deadlines n ≡ deadline_leaf other n (deadline_of u n))
          (λ same. subst (λ (k : ℕ). leaf (processor_at ps other).deadlines k ≡ deadline_leaf other k (deadline_of u k)) (sym same)
          ((are.shown other low).deadlines ec ∙ none_of_other cpu other ec (deadline_of t ec) before apart
          ∙ sym (none_of_other cpu other ec d after apart) ∙ ap (deadline_leaf other ec) (sym (deadline_set_same t.deadlines ec d lt))))
          (λ off. (are.shown other low).deadlines n ∙ ap (deadline_leaf other n) (sym (deadline_set_other t.deadlines ec n d off)));
    }

    shown : (other : ℕ) → other < length ps → AreShown u other (processor_at qs other).alarms (processor_at qs other).deadlines
    shown other low = same_or_not other cpu (AreShown u other (processor_at qs other).alarms (processor_at qs other).deadlines)
        (λ same.
        let now = subst (λ (k : ℕ). k < length ps) same low in
        subst (λ (k : ℕ). AreShown u k (processor_at qs k).alarms (processor_at qs k).deadlines) (sym same)
        (subst (λ (q : ProcessorState). AreShown u cpu q.alarms q.deadlines) (sym (changed.here now)) (here now)))
        (λ off. subst (λ (q : ProcessorState). AreShown u other q.alarms q.deadlines) (sym (changed.others other off)) (elsewhere other off low))

-- ALARMS

-- in the list of alarms one alarm has changed, on the same processor, or has been added
pub record IsAlarmChange (n : ℕ) (a : AlarmState) (old new : List AlarmState) : Type 0 where
  pub at : slice_get new n ≡ Some a
  pub others : (m : ℕ) → (m ≡ n → ⊥) → slice_get new m ≡ slice_get old m
  pub before : (b : AlarmState) → slice_get old n ≡ Some b → b.alarm.cpu ≡ a.alarm.cpu

pub alarm_set : (alarms : List AlarmState) (n : ℕ) (a b : AlarmState) → slice_get alarms n ≡ Some a → a.alarm.cpu ≡ b.alarm.cpu → IsAlarmChange n b alarms (slice_set alarms n b)
alarm_set alarms n a b is same = record {
  at = alarm_set_same alarms n b (alarm_there alarms n a is);
  others = λ m off. alarm_set_other alarms n m b off;
  before = λ c h. let both : Some c ≡ Some a = sym h ∙ is in let it : c ≡ a = cc in ap (λ (x : AlarmState). x.alarm.cpu) it ∙ same;
}

pub alarm_added : (alarms : List AlarmState) (a : AlarmState) → IsAlarmChange (length alarms) a alarms (alarms ++ a ∷ [])
alarm_added alarms a = record {
  at = alarm_pushed_same alarms a;
  others = λ m off. alarm_pushed_other alarms a m off;
  before = λ b h. let none = alarm_none alarms in absurd (cc);
}

none_of_alarm : (cpu other n : ℕ) (o : Option AlarmState) → ((b : AlarmState) → o ≡ Some b → b.alarm.cpu ≡ cpu) → (other ≡ cpu → ⊥) → alarm_leaf other n o ≡ None
none_of_alarm cpu other n None its off = refl
none_of_alarm cpu other n (Some a) its off =
    let at = its a refl in
    let no : (a.alarm.cpu == other) ≡ false = grind (arith, at, off) in
    rw no refl

pub times_alarm : (ps qs : List ProcessorState) (t : Times) (clocks : List ℕ) (src news : List Alarm) (alarms : List AlarmState) (n : ℕ) (a : AlarmState) → AreTimes ps t src → IsAlarmChange n a t.alarms alarms → IsBounded a →
    news ≡ map (λ (x : AlarmState). x.alarm) alarms → (a.alarm.cpu < length ps → n < length (processor_at ps a.alarm.cpu).alarms) →
    AreChanged a.alarm.cpu (record (processor_at ps a.alarm.cpu) { alarms = slice_set (processor_at ps a.alarm.cpu).alarms n (alarm_leaf a.alarm.cpu n (Some a)) }) ps qs →
    AreTimes qs (record t { clocks = clocks; alarms = alarms }) news
times_alarm ps qs t clocks src news alarms n a are change fits listed place changed = record {
  shown = λ other low. shown other (subst (λ (m : ℕ). other < m) changed.count low);
  bounded = λ m b h. same_or_not m n (IsBounded b) (λ same. let both : Some a ≡ Some b = sym change.at ∙ sym (ap (slice_get alarms) same) ∙ h in let it : a ≡ b = cc in subst IsBounded it fits)
      (λ off. are.bounded m b (sym (change.others m off) ∙ h));
  listed = listed;
}
  where
    cpu : ℕ
    cpu = a.alarm.cpu

    u : Times
    u = record t { clocks = clocks; alarms = alarms }

    here : cpu < length ps → AreShown u cpu (slice_set (processor_at ps cpu).alarms n (alarm_leaf cpu n (Some a))) (processor_at ps cpu).deadlines
    here low = record {
      alarms = λ m. same_or_not m n (leaf (slice_set (processor_at ps cpu).alarms n (alarm_leaf cpu n (Some a))) m ≡ alarm_leaf cpu m (slice_get alarms m))
          (λ same. subst (λ (k : ℕ). leaf (slice_set (processor_at ps cpu).alarms n (alarm_leaf cpu n (Some a))) k ≡ alarm_leaf cpu k (slice_get alarms k)) (sym same)
          (leaf_set_same (processor_at ps cpu).alarms n (alarm_leaf cpu n (Some a)) (place low) ∙ ap (alarm_leaf cpu n) (sym change.at)))
          (λ off. leaf_set_other (processor_at ps cpu).alarms n m (alarm_leaf cpu n (Some a)) off ∙ (are.shown cpu low).alarms m ∙ ap (alarm_leaf cpu m) (sym (change.others m off)));
      deadlines = (are.shown cpu low).deadlines;
    }

    elsewhere : (other : ℕ) → (other ≡ cpu → ⊥) → other < length ps → AreShown u other (processor_at ps other).alarms (processor_at ps other).deadlines
    elsewhere other apart low = record {
      alarms = λ m. same_or_not m n (leaf (processor_at ps other).alarms m ≡ alarm_leaf other m (slice_get alarms m))
          (λ same. subst (λ (k : ℕ). leaf (processor_at ps other).alarms k ≡ alarm_leaf other k (slice_get alarms k)) (sym same)
          ((are.shown other low).alarms n ∙ none_of_alarm cpu other n (slice_get t.alarms n) change.before apart
          ∙ sym (none_of_alarm cpu other n (slice_get alarms n) (λ b h. let both : Some b ≡ Some a = sym h ∙ change.at in let it : b ≡ a = cc in ap (λ (x : AlarmState). x.alarm.cpu) it) apart)))
          (λ off. (are.shown other low).alarms m ∙ ap (alarm_leaf other m) (sym (change.others m off)));
      deadlines = (are.shown other low).deadlines;
    }

    shown : (other : ℕ) → other < length ps → AreShown u other (processor_at qs other).alarms (processor_at qs other).deadlines
    shown other low = same_or_not other cpu (AreShown u other (processor_at qs other).alarms (processor_at qs other).deadlines)
        (λ same.
        let now = subst (λ (k : ℕ). k < length ps) same low in
        subst (λ (k : ℕ). AreShown u k (processor_at qs k).alarms (processor_at qs k).deadlines) (sym same)
        (subst (λ (q : ProcessorState). AreShown u cpu q.alarms q.deadlines) (sym (changed.here now)) (here now)))
        (λ off. subst (λ (q : ProcessorState). AreShown u other q.alarms q.deadlines) (sym (changed.others other off)) (elsewhere other off low))

-- MOMENTS

product : (m p : ℕ) → suc m * p ≡ p + m * p
product m p = omega arith

pub later_bound : (a : AlarmState) → goes_on a ≡ true → a.next + (a.alarm.count - a.rings) * a.alarm.period < 2 ^ 64 → a.next + a.alarm.period + (a.alarm.count - (a.rings + 1)) * a.alarm.period < 2 ^ 64
later_bound a on h =
    let one : a.alarm.count - a.rings ≡ suc (a.alarm.count - (a.rings + 1)) = grind (arith, on) in
    let all : (a.alarm.count - a.rings) * a.alarm.period ≡ a.alarm.period + (a.alarm.count - (a.rings + 1)) * a.alarm.period = ap (λ (n : ℕ). n * a.alarm.period) one ∙ product (a.alarm.count - (a.rings + 1)) a.alarm.period in
    omega arith

pub rung_bounded : (a : AlarmState) → goes_on a ≡ true → IsBounded a → IsBounded (rung_once a)
rung_bounded a on fits = record { last = later_bound a on fits.last }

-- ROOM

pub room_wider : (deadlines alarms contexts spare : ℕ) (ps qs : List ProcessorState) → HasRoom deadlines alarms contexts spare ps → AreWider ps qs → HasRoom deadlines alarms contexts spare qs
room_wider deadlines alarms contexts spare ps qs room wider = record {
  places = places_wider (alarms + spare) contexts ps qs room.places wider;
  each = room.each;
  few = room.few;
  few_alarms = room.few_alarms;
}

pub room_put : (deadlines alarms contexts spare : ℕ) (ps qs : List ProcessorState) (cpu ec : ℕ) (e : Option Entry) → HasRoom deadlines alarms contexts spare ps →
    AreChanged cpu (record (processor_at ps cpu) { deadlines = slice_set (processor_at ps cpu).deadlines ec e }) ps qs → HasRoom deadlines alarms contexts spare qs
room_put deadlines alarms contexts spare ps qs cpu ec e room changed = record {
  places = places_changed (alarms + spare) contexts ps qs cpu (record (processor_at ps cpu) { deadlines = slice_set (processor_at ps cpu).deadlines ec e }) room.places changed refl
      (length_leaves (processor_at ps cpu).deadlines ec e);
  each = room.each;
  few = room.few;
  few_alarms = room.few_alarms;
}

pub room_alarm : (deadlines alarms contexts spare : ℕ) (ps qs : List ProcessorState) (cpu n : ℕ) (e : Option Entry) → HasRoom deadlines alarms contexts spare ps →
    AreChanged cpu (record (processor_at ps cpu) { alarms = slice_set (processor_at ps cpu).alarms n e }) ps qs → HasRoom deadlines alarms contexts spare qs
room_alarm deadlines alarms contexts spare ps qs cpu n e room changed = record {
  places = places_changed (alarms + spare) contexts ps qs cpu (record (processor_at ps cpu) { alarms = slice_set (processor_at ps cpu).alarms n e }) room.places changed
      (length_leaves (processor_at ps cpu).alarms n e) refl;
  each = room.each;
  few = room.few;
  few_alarms = room.few_alarms;
}

pub place_of_deadline : (deadlines alarms contexts spare : ℕ) (ps : List ProcessorState) (cpu ec : ℕ) → HasRoom deadlines alarms contexts spare ps → ec < deadlines → cpu < length ps → ec < length (processor_at ps cpu).deadlines
place_of_deadline deadlines alarms contexts spare ps cpu ec room lt low =
    let has = (room.places.each cpu low).of_deadlines in
    let each = room.each in
    omega arith

pub place_of_alarm : (deadlines alarms contexts spare : ℕ) (ps : List ProcessorState) (cpu n : ℕ) → HasRoom deadlines alarms contexts spare ps → n < alarms + spare → cpu < length ps → n < length (processor_at ps cpu).alarms
place_of_alarm deadlines alarms contexts spare ps cpu n room lt low =
    let has = (room.places.each cpu low).of_alarms in
    omega arith

pub of_itself : (o : Option Deadline) (d : Deadline) → o ≡ Some d → IsOf d.cpu o
of_itself o d is it h = let both : Some it ≡ Some d = sym h ∙ is in let same : it ≡ d = cc in ap (λ (x : Deadline). x.cpu) same

-- an alarm more takes a place that was spare
pub room_moved : (deadlines alarms more contexts spare less : ℕ) (ps : List ProcessorState) → more + less ≡ alarms + spare → HasRoom deadlines alarms contexts spare ps → HasRoom deadlines more contexts less ps
room_moved deadlines alarms more contexts spare less ps same room = record {
  places = subst (λ (n : ℕ). HavePlaces n contexts (length ps) ps) (sym same) room.places;
  each = room.each;
  few = room.few;
  few_alarms = subst (λ (n : ℕ). n ≤ 2 ^ 32) (sym same) room.few_alarms;
}
