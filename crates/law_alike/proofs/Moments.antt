-- What is due on a processor, and what is to come there, is the same where moments are as far from clocks; and turns keep them so.
use Rattle.std.proofs.Common.{◌≡◌, ℕ, zero, suc, ◌+◌, List, [], ◌∷◌, ◌++◌, length, refl, sym, ap, ap₂, ◌∙◌, subst, arith}
use Rattle.std.specs.Prelude.{Bool, true, false, ◌==◌, ◌&&◌, ◌||◌, nat_le, nat_lt, slice_get, slice_index, slice_set, option_map, option_and_then, is_none, Option, Some, None, if◌then◌else◌}
use Rattle.std.proofs.lemmas.Bool.{eqb-true}
use Rattle.std.proofs.lemmas.Bool.Decides.{nat_tests}
use Rattle.nova_model.specs.State.{deadline_of, entry}
use Rattle.nova_model.specs.Times.{Entry, Times, alarm_entries, alarm_entry, before_rest, clock, comes_before, deadline_entries, deadline_entry, due_on, entries, goes_on, if_due, is_before, next_entry, next_moment, rung_in, rung_once}
use Rattle.nova_model.specs.declared.new_object.NewObject.{NewObject}
use Rattle.nova_model.specs.declared.times.Alarm.{Alarm}
use Rattle.nova_model.specs.declared.times.AlarmState.{AlarmState}
use Rattle.nova_model.specs.declared.times.Deadline.{Deadline}
use Rattle.nova_model.specs.declared.times.Due.{Due}
use Rattle.nova_model.specs.declared.times.Due.TheVariants as due
use Rattle.law_forest.specs.Effects.{alarms_with, deadlines_with, joined, no_deadline}
use Rattle.law_alike.specs.Alike.{AreTimesAlike, IsAlarmAlike, IsDeadlineAlike}
use Rattle.law_alike.proofs.Lists.{Both, InStep, first_step}

-- WHAT IS DUE

-- an entry of each: the same is due, as far from the clock
abbrev IsEntryAlike : Times → Times → ℕ → Entry → Entry → Type 0
IsEntryAlike t u cpu e f = (e.what ≡ f.what) × (e.moment + clock u cpu ≡ f.moment + clock t cpu)

in_front_step : {T : Type 0} (R : T → T → Type 0) (o p : Option T) (xs ys : List T) → Both R o p → InStep R xs ys → InStep R (before_rest o xs) (before_rest p ys)
in_front_step R None None xs ys h rest = rest
in_front_step R None (Some y) xs ys h rest = absurd h
in_front_step R (Some x) None xs ys h rest = absurd h
in_front_step R (Some x) (Some y) xs ys h rest = (h, rest)

append_step : {T : Type 0} (R : T → T → Type 0) (xs ys vs ws : List T) → InStep R xs ys → InStep R vs ws → InStep R (xs ++ vs) (ys ++ ws)
append_step R [] [] vs ws h k = k
append_step R [] (y ∷ ys) vs ws h k = absurd h
append_step R (x ∷ xs) [] vs ws h k = absurd h
append_step R (x ∷ xs) (y ∷ ys) vs ws h k = (h.0, append_step R xs ys vs ws h.1 k)

alarm_step : (t u : Times) (cpu n : ℕ) (a b : AlarmState) → IsAlarmAlike t u (Some a) (Some b) → Both (IsEntryAlike t u cpu) (alarm_entry cpu n a) (alarm_entry cpu n b)
alarm_step t u cpu n a b h = subst (λ (v : Bool). Both (IsEntryAlike t u cpu) (alarm_entry cpu n a) (if v then Some (record { moment = b.next; what = due.Alarm n }) else None)) same (by_tests (a.alarm.cpu == cpu) (goes_on a) refl refl)
  where
    same : ((a.alarm.cpu == cpu) && goes_on a) ≡ ((b.alarm.cpu == cpu) && goes_on b)
    same = ap₂ (λ (x : Alarm) (r : ℕ). (x.cpu == cpu) && nat_lt r x.count) h.0 h.1

    by_tests : (s v : Bool) → (a.alarm.cpu == cpu) ≡ s → goes_on a ≡ v →
        Both (IsEntryAlike t u cpu) (if s && v then Some (record { moment = a.next; what = due.Alarm n }) else None) (if s && v then Some (record { moment = b.next; what = due.Alarm n }) else None)
    by_tests true true is on = (refl, subst (λ (c : ℕ). a.next + clock u c ≡ b.next + clock t c) (eqb-true a.alarm.cpu cpu is) (h.2 on))
    by_tests true false is on = tt
    by_tests false v is on = tt

alarms_step : (t u : Times) (cpu n : ℕ) (xs ys : List AlarmState) → ((i : ℕ) → IsAlarmAlike t u (slice_get xs i) (slice_get ys i)) → InStep (IsEntryAlike t u cpu) (alarm_entries cpu n xs) (alarm_entries cpu n ys)
alarms_step t u cpu n [] [] h = tt
alarms_step t u cpu n [] (y ∷ ys) h = absurd (h zero)
alarms_step t u cpu n (x ∷ xs) [] h = absurd (h zero)
alarms_step t u cpu n (x ∷ xs) (y ∷ ys) h =
    in_front_step (IsEntryAlike t u cpu) (alarm_entry cpu n x) (alarm_entry cpu n y) (alarm_entries cpu (n + 1) xs) (alarm_entries cpu (n + 1) ys)
    (alarm_step t u cpu n x y (h zero)) (alarms_step t u cpu (n + 1) xs ys (λ i. h (suc i)))

deadline_step : (t u : Times) (cpu n : ℕ) (d e : Option Deadline) → IsDeadlineAlike t u d e → Both (IsEntryAlike t u cpu) (deadline_entry cpu n d) (deadline_entry cpu n e)
deadline_step t u cpu n None None h = tt
deadline_step t u cpu n None (Some e) h = absurd h
deadline_step t u cpu n (Some d) None h = absurd h
deadline_step t u cpu n (Some d) (Some e) h =
    subst (λ (c : ℕ). Both (IsEntryAlike t u cpu) (deadline_entry cpu n (Some d)) (if c == cpu then Some (record { moment = e.at; what = due.Deadline n }) else None)) h.0 (by_test (d.cpu == cpu) refl)
  where
    by_test : (s : Bool) → (d.cpu == cpu) ≡ s →
        Both (IsEntryAlike t u cpu) (if s then Some (record { moment = d.at; what = due.Deadline n }) else None) (if s then Some (record { moment = e.at; what = due.Deadline n }) else None)
    by_test true is = (refl, subst (λ (c : ℕ). d.at + clock u c ≡ e.at + clock t c) (eqb-true d.cpu cpu is) h.2)
    by_test false is = tt

-- a table that is longer has nothing more
deadlines_step : (t u : Times) (cpu n : ℕ) (ds es : List (Option Deadline)) → ((i : ℕ) → IsDeadlineAlike t u (entry (slice_get ds i)) (entry (slice_get es i))) →
    InStep (IsEntryAlike t u cpu) (deadline_entries cpu n ds) (deadline_entries cpu n es)
deadlines_step t u cpu n [] [] h = tt
deadlines_step t u cpu n [] (e ∷ es) h =
    in_front_step (IsEntryAlike t u cpu) None (deadline_entry cpu n e) [] (deadline_entries cpu (n + 1) es) (deadline_step t u cpu n None e (h zero))
    (deadlines_step t u cpu (n + 1) [] es (λ i. h (suc i)))
deadlines_step t u cpu n (d ∷ ds) [] h =
    in_front_step (IsEntryAlike t u cpu) (deadline_entry cpu n d) None (deadline_entries cpu (n + 1) ds) [] (deadline_step t u cpu n d None (h zero))
    (deadlines_step t u cpu (n + 1) ds [] (λ i. h (suc i)))
deadlines_step t u cpu n (d ∷ ds) (e ∷ es) h =
    in_front_step (IsEntryAlike t u cpu) (deadline_entry cpu n d) (deadline_entry cpu n e) (deadline_entries cpu (n + 1) ds) (deadline_entries cpu (n + 1) es)
    (deadline_step t u cpu n d e (h zero)) (deadlines_step t u cpu (n + 1) ds es (λ i. h (suc i)))

-- moments that are as far from clocks are in the same order
before_far : (a b c d x y : ℕ) → a + y ≡ c + x → b + y ≡ d + x → nat_lt a b ≡ nat_lt c d
before_far a b c d x y first second = grind (arith, nat_tests, first, second)

same_far : (a b c d x y : ℕ) → a + y ≡ c + x → b + y ≡ d + x → (a == b) ≡ (c == d)
same_far a b c d x y first second = grind (arith, nat_tests, first, second)

past_far : (a c x y : ℕ) → a + y ≡ c + x → nat_le a x ≡ nat_le c y
past_far a c x y first = grind (arith, nat_tests, first)

before_alike : (t u : Times) (cpu : ℕ) (a b c d : Entry) → IsEntryAlike t u cpu a b → IsEntryAlike t u cpu c d → comes_before c a ≡ comes_before d b
before_alike t u cpu a b c d ab cd =
    ap₂ (λ (s v : Bool). s || (v && is_before c.what a.what)) (before_far c.moment a.moment d.moment b.moment (clock t cpu) (clock u cpu) cd.1 ab.1)
    (same_far c.moment a.moment d.moment b.moment (clock t cpu) (clock u cpu) cd.1 ab.1)
    ∙ ap₂ (λ (p q : Due). nat_lt d.moment b.moment || ((d.moment == b.moment) && is_before p q)) cd.0 ab.0

next_alike : (t u : Times) (cpu : ℕ) → AreTimesAlike t u → Both (IsEntryAlike t u cpu) (next_entry t cpu) (next_entry u cpu)
unfolding next_entry
next_alike t u cpu h =
    first_step (IsEntryAlike t u cpu) comes_before (before_alike t u cpu) (entries t cpu) (entries u cpu)
    (append_step (IsEntryAlike t u cpu) (alarm_entries cpu 0 t.alarms) (alarm_entries cpu 0 u.alarms) (deadline_entries cpu 0 t.deadlines) (deadline_entries cpu 0 u.deadlines)
    (alarms_step t u cpu 0 t.alarms u.alarms h.alarms) (deadlines_step t u cpu 0 t.deadlines u.deadlines h.deadlines))

pub due_alike : (t u : Times) (cpu : ℕ) → AreTimesAlike t u → due_on t cpu ≡ due_on u cpu
due_alike t u cpu h = by_entries (next_entry t cpu) (next_entry u cpu) (next_alike t u cpu h)
  where
    by_entries : (o p : Option Entry) → Both (IsEntryAlike t u cpu) o p → option_and_then (if_due (clock t cpu)) o ≡ option_and_then (if_due (clock u cpu)) p
    by_entries None None both = refl
    by_entries None (Some f) both = absurd both
    by_entries (Some e) None both = absurd both
    by_entries (Some e) (Some f) both =
        ap₂ (λ (s : Bool) (what : Due). if s then Some what else None) (past_far e.moment f.moment (clock t cpu) (clock u cpu) both.1) both.0

pub moments_alike : (t u : Times) (cpu : ℕ) → AreTimesAlike t u → is_none (next_moment t cpu) ≡ is_none (next_moment u cpu)
moments_alike t u cpu h = by_entries (next_entry t cpu) (next_entry u cpu) (next_alike t u cpu h)
  where
    by_entries : (o p : Option Entry) → Both (IsEntryAlike t u cpu) o p → is_none (option_map (λ (e : Entry). e.moment) o) ≡ is_none (option_map (λ (e : Entry). e.moment) p)
    by_entries None None both = refl
    by_entries None (Some f) both = absurd both
    by_entries (Some e) None both = absurd both
    by_entries (Some e) (Some f) both = refl

-- AN EQUIVALENCE

pub times_itself : (t : Times) → AreTimesAlike t t
times_itself t = record { deadlines = λ ec. by_deadline (deadline_of t ec); alarms = λ n. by_alarm (slice_get t.alarms n) }
  where
    by_deadline : (o : Option Deadline) → IsDeadlineAlike t t o o
    by_deadline None = tt
    by_deadline (Some d) = (refl, refl, refl)

    by_alarm : (o : Option AlarmState) → IsAlarmAlike t t o o
    by_alarm None = tt
    by_alarm (Some a) = (refl, refl, λ on. refl)

deadline_flipped : (t u : Times) (o p : Option Deadline) → IsDeadlineAlike t u o p → IsDeadlineAlike u t p o
deadline_flipped t u None None h = tt
deadline_flipped t u None (Some e) h = absurd h
deadline_flipped t u (Some d) None h = absurd h
deadline_flipped t u (Some d) (Some e) h = (sym h.0, sym h.1, subst (λ (c : ℕ). e.at + clock t c ≡ d.at + clock u c) h.0 (sym h.2))

-- it goes on in both
same_goes : (a b : AlarmState) → a.alarm ≡ b.alarm → a.rings ≡ b.rings → goes_on a ≡ goes_on b
same_goes a b alarm rings = ap₂ (λ (x : Alarm) (r : ℕ). nat_lt r x.count) alarm rings

alarm_flipped : (t u : Times) (o p : Option AlarmState) → IsAlarmAlike t u o p → IsAlarmAlike u t p o
alarm_flipped t u None None h = tt
alarm_flipped t u None (Some b) h = absurd h
alarm_flipped t u (Some a) None h = absurd h
alarm_flipped t u (Some a) (Some b) h = (sym h.0, sym h.1, λ on. subst (λ (x : Alarm). b.next + clock t x.cpu ≡ a.next + clock u x.cpu) h.0 (sym (h.2 (same_goes a b h.0 h.1 ∙ on))))

pub times_flipped : (t u : Times) → AreTimesAlike t u → AreTimesAlike u t
times_flipped t u h = record {
  deadlines = λ ec. deadline_flipped t u (deadline_of t ec) (deadline_of u ec) (h.deadlines ec);
  alarms = λ n. alarm_flipped t u (slice_get t.alarms n) (slice_get u.alarms n) (h.alarms n);
}

far_through : (a b c x y z : ℕ) → a + y ≡ b + x → b + z ≡ c + y → a + z ≡ c + x
far_through a b c x y z first second = omega (arith, first, second)

deadline_through : (t u v : Times) (o p q : Option Deadline) → IsDeadlineAlike t u o p → IsDeadlineAlike u v p q → IsDeadlineAlike t v o q
deadline_through t u v None None None h k = tt
deadline_through t u v None None (Some f) h k = absurd k
deadline_through t u v None (Some e) q h k = absurd h
deadline_through t u v (Some d) None q h k = absurd h
deadline_through t u v (Some d) (Some e) None h k = absurd k
deadline_through t u v (Some d) (Some e) (Some f) h k = (
  h.0 ∙ k.0,
  h.1 ∙ k.1,
  far_through d.at e.at f.at (clock t d.cpu) (clock u d.cpu) (clock v d.cpu) h.2 (subst (λ (c : ℕ). e.at + clock v c ≡ f.at + clock u c) (sym h.0) k.2),
)

alarm_through : (t u v : Times) (o p q : Option AlarmState) → IsAlarmAlike t u o p → IsAlarmAlike u v p q → IsAlarmAlike t v o q
alarm_through t u v None None None h k = tt
alarm_through t u v None None (Some c) h k = absurd k
alarm_through t u v None (Some b) q h k = absurd h
alarm_through t u v (Some a) None q h k = absurd h
alarm_through t u v (Some a) (Some b) None h k = absurd k
alarm_through t u v (Some a) (Some b) (Some c) h k = (
  h.0 ∙ k.0,
  h.1 ∙ k.1,
  λ on. far_through a.next b.next c.next (clock t a.alarm.cpu) (clock u a.alarm.cpu) (clock v a.alarm.cpu) (h.2 on)
      (subst (λ (x : Alarm). b.next + clock v x.cpu ≡ c.next + clock u x.cpu) (sym h.0) (k.2 (sym (same_goes a b h.0 h.1) ∙ on))),
)

pub times_through : (t u v : Times) → AreTimesAlike t u → AreTimesAlike u v → AreTimesAlike t v
times_through t u v h k = record {
  deadlines = λ ec. deadline_through t u v (deadline_of t ec) (deadline_of u ec) (deadline_of v ec) (h.deadlines ec) (k.deadlines ec);
  alarms = λ n. alarm_through t u v (slice_get t.alarms n) (slice_get u.alarms n) (slice_get v.alarms n) (h.alarms n) (k.alarms n);
}

-- A TURN

-- no deadline is set in either, or of one number one as far from its clock, or none
abbrev pub IsSetAlike : Times → Times → Option (ℕ × Option Deadline) → Option (ℕ × Option Deadline) → Type 0
IsSetAlike t u None None = Unit {0}
IsSetAlike t u None (Some q) = ⊥
IsSetAlike t u (Some p) None = ⊥
IsSetAlike t u (Some p) (Some q) = (p.0 ≡ q.0) × IsDeadlineAlike t u p.1 q.1

abbrev AreEachAlike : Times → Times → List (Option Deadline) → List (Option Deadline) → Type 0
AreEachAlike t u ds es = (i : ℕ) → IsDeadlineAlike t u (entry (slice_get ds i)) (entry (slice_get es i))

put_alike : (t u : Times) (ds es : List (Option Deadline)) (m : ℕ) (d e : Option Deadline) → length ds ≡ length es → AreEachAlike t u ds es → IsDeadlineAlike t u d e →
    AreEachAlike t u (slice_set ds m d) (slice_set es m e)
put_alike t u [] [] m d e long h new i = tt
put_alike t u [] (y ∷ es) m d e long h new i = absurd (omega (arith, long))
put_alike t u (x ∷ ds) [] m d e long h new i = absurd (omega (arith, long))
put_alike t u (x ∷ ds) (y ∷ es) zero d e long h new zero = new
put_alike t u (x ∷ ds) (y ∷ es) zero d e long h new (suc i) = h (suc i)
put_alike t u (x ∷ ds) (y ∷ es) (suc m) d e long h new zero = h zero
put_alike t u (x ∷ ds) (y ∷ es) (suc m) d e long h new (suc i) = put_alike t u ds es m d e (let shorter : length ds ≡ length es = omega (arith, long) in shorter) (λ j. h (suc j)) new i

set_alike : (t u : Times) (ds es : List (Option Deadline)) (p q : Option (ℕ × Option Deadline)) → length ds ≡ length es → AreEachAlike t u ds es → IsSetAlike t u p q →
    AreEachAlike t u (deadlines_with ds p) (deadlines_with es q)
set_alike t u ds es None None long h new = h
set_alike t u ds es None (Some q) long h new = absurd new
set_alike t u ds es (Some p) None long h new = absurd new
set_alike t u ds es (Some (m, d)) (Some (n, e)) long h new =
    subst (λ (x : ℕ). AreEachAlike t u (slice_set ds m d) (slice_set es x e)) new.0 (put_alike t u ds es m d e long h new.1)

end_none : {T : Type 0} (xs : List (Option T)) (n : ℕ) → entry (slice_get (xs ++ None ∷ []) n) ≡ entry (slice_get xs n)
end_none [] zero = refl
end_none [] (suc n) = refl
end_none (x ∷ xs) zero = refl
end_none (x ∷ xs) (suc n) = end_none xs n

joined_none : (ds : List (Option Deadline)) (made : Option NewObject) (n : ℕ) → entry (slice_get (joined ds (option_map no_deadline made)) n) ≡ entry (slice_get ds n)
joined_none ds None n = refl
joined_none ds (Some made) n = end_none ds n

joined_alike : (t u : Times) (ds es : List (Option Deadline)) (made : Option NewObject) → AreEachAlike t u ds es → AreEachAlike t u (joined ds (option_map no_deadline made)) (joined es (option_map no_deadline made))
joined_alike t u ds es made h i =
    subst (λ (o : Option Deadline). IsDeadlineAlike t u o (entry (slice_get (joined es (option_map no_deadline made)) i))) (sym (joined_none ds made i))
    (subst (IsDeadlineAlike t u (entry (slice_get ds i))) (sym (joined_none es made i)) (h i))

-- alarms
abbrev AreAlarmsAlike : Times → Times → List AlarmState → List AlarmState → Type 0
AreAlarmsAlike t u xs ys = (i : ℕ) → IsAlarmAlike t u (slice_get xs i) (slice_get ys i)

still_on : (rings count : ℕ) → nat_lt (rings + 1) count ≡ true → nat_lt rings count ≡ true
still_on rings count on = grind (arith, nat_tests, on)

rung_alike : (t u : Times) (a b : AlarmState) → IsAlarmAlike t u (Some a) (Some b) → IsAlarmAlike t u (Some (rung_once a)) (Some (rung_once b))
rung_alike t u a b h = (
  h.0,
  ap (λ (n : ℕ). n + 1) h.1,
  λ on. let far = h.2 (still_on a.rings a.alarm.count on) in let period = ap (λ (x : Alarm). x.period) h.0 in omega (arith, far, period),
)

ring_alike : (t u : Times) (xs ys : List AlarmState) (n : ℕ) → AreAlarmsAlike t u xs ys → AreAlarmsAlike t u (rung_in xs n (slice_get xs n)) (rung_in ys n (slice_get ys n))
ring_alike t u [] [] n h i = tt
ring_alike t u [] (y ∷ ys) n h i = absurd (h zero)
ring_alike t u (x ∷ xs) [] n h i = absurd (h zero)
ring_alike t u (x ∷ xs) (y ∷ ys) zero h zero = rung_alike t u x y (h zero)
ring_alike t u (x ∷ xs) (y ∷ ys) zero h (suc i) = h (suc i)
ring_alike t u (x ∷ xs) (y ∷ ys) (suc n) h i = by_place (ring_alike t u xs ys n (λ j. h (suc j))) i
  where
    first_stays : (z : AlarmState) (zs : List AlarmState) (o : Option AlarmState) → slice_get (rung_in (z ∷ zs) (suc n) o) zero ≡ Some z
    first_stays z zs None = refl
    first_stays z zs (Some a) = refl

    later : (z : AlarmState) (zs : List AlarmState) (o : Option AlarmState) (j : ℕ) → slice_get (rung_in (z ∷ zs) (suc n) o) (suc j) ≡ slice_get (rung_in zs n o) j
    later z zs None j = refl
    later z zs (Some a) j = refl

    by_place : AreAlarmsAlike t u (rung_in xs n (slice_get xs n)) (rung_in ys n (slice_get ys n)) → (j : ℕ) → IsAlarmAlike t u (slice_get (rung_in (x ∷ xs) (suc n) (slice_get xs n)) j) (slice_get (rung_in (y ∷ ys) (suc n) (slice_get ys n)) j)
    by_place rest zero =
        subst (λ (o : Option AlarmState). IsAlarmAlike t u o (slice_get (rung_in (y ∷ ys) (suc n) (slice_get ys n)) zero)) (sym (first_stays x xs (slice_get xs n)))
        (subst (IsAlarmAlike t u (Some x)) (sym (first_stays y ys (slice_get ys n))) (h zero))
    by_place rest (suc j) =
        subst (λ (o : Option AlarmState). IsAlarmAlike t u o (slice_get (rung_in (y ∷ ys) (suc n) (slice_get ys n)) (suc j))) (sym (later x xs (slice_get xs n) j))
        (subst (IsAlarmAlike t u (slice_get (rung_in xs n (slice_get xs n)) j)) (sym (later y ys (slice_get ys n) j)) (rest j))

rings_alike : (t u : Times) (xs ys : List AlarmState) (o : Option ℕ) → AreAlarmsAlike t u xs ys → AreAlarmsAlike t u (alarms_with xs o) (alarms_with ys o)
rings_alike t u xs ys None h = h
rings_alike t u xs ys (Some n) h = ring_alike t u xs ys n h

-- a clock goes on by one in both
tick_far : (xs ys : List ℕ) (cpu c m n : ℕ) → length xs ≡ length ys → m + slice_index ys c ≡ n + slice_index xs c →
    m + slice_index (slice_set ys cpu (slice_index ys cpu + 1)) c ≡ n + slice_index (slice_set xs cpu (slice_index xs cpu + 1)) c
tick_far [] [] cpu c m n long h = h
tick_far [] (y ∷ ys) cpu c m n long h = absurd (omega (arith, long))
tick_far (x ∷ xs) [] cpu c m n long h = absurd (omega (arith, long))
tick_far (x ∷ xs) (y ∷ ys) zero zero m n long h = omega (arith, h)
tick_far (x ∷ xs) (y ∷ ys) zero (suc c) m n long h = h
tick_far (x ∷ xs) (y ∷ ys) (suc cpu) zero m n long h = h
tick_far (x ∷ xs) (y ∷ ys) (suc cpu) (suc c) m n long h = tick_far xs ys cpu c m n (let shorter : length xs ≡ length ys = omega (arith, long) in shorter) h

-- times after a turn of a processor, by the deadline that is set, the alarm that rings and the object that is made
abbrev pub times_after : Times → ℕ → Option (ℕ × Option Deadline) → Option ℕ → Option NewObject → Times
times_after t cpu p ring made = record {
  clocks = slice_set t.clocks cpu (slice_index t.clocks cpu + 1);
  deadlines = joined (deadlines_with t.deadlines p) (option_map no_deadline made);
  alarms = alarms_with t.alarms ring;
}

pub times_turned : (t u : Times) (cpu : ℕ) (p q : Option (ℕ × Option Deadline)) (ring : Option ℕ) (made : Option NewObject) → length t.clocks ≡ length u.clocks → length t.deadlines ≡ length u.deadlines →
    AreTimesAlike t u → IsSetAlike t u p q → AreTimesAlike (times_after t cpu p ring made) (times_after u cpu q ring made)
times_turned t u cpu p q ring made clocks long h new = record {
  deadlines = λ ec. by_deadlines (entry (slice_get now.deadlines ec)) (entry (slice_get now_too.deadlines ec))
      (joined_alike t u (deadlines_with t.deadlines p) (deadlines_with u.deadlines q) made (set_alike t u t.deadlines u.deadlines p q long h.deadlines new) ec);
  alarms = λ n. by_alarms (slice_get now.alarms n) (slice_get now_too.alarms n) (rings_alike t u t.alarms u.alarms ring h.alarms n);
}
  where
    now : Times
    now = times_after t cpu p ring made

    now_too : Times
    now_too = times_after u cpu q ring made

    by_deadlines : (o r : Option Deadline) → IsDeadlineAlike t u o r → IsDeadlineAlike now now_too o r
    by_deadlines None None k = tt
    by_deadlines None (Some e) k = absurd k
    by_deadlines (Some d) None k = absurd k
    by_deadlines (Some d) (Some e) k = (k.0, k.1, tick_far t.clocks u.clocks cpu d.cpu d.at e.at clocks k.2)

    by_alarms : (o r : Option AlarmState) → IsAlarmAlike t u o r → IsAlarmAlike now now_too o r
    by_alarms None None k = tt
    by_alarms None (Some b) k = absurd k
    by_alarms (Some a) None k = absurd k
    by_alarms (Some a) (Some b) k = (k.0, k.1, λ on. tick_far t.clocks u.clocks cpu a.alarm.cpu a.next b.next clocks (k.2 on))
