-- Each place of a trace is a turn in a state of its own, whose clock and rings the trace before it counts.
use Rattle.std.proofs.Common.{◌≡◌, ℕ, zero, suc, ◌+◌, ◌*◌, ◌<◌, ◌≤◌, List, [], ◌∷◌, length, refl, sym, ap, ◌∙◌, subst, inl, inr, arith}
use Rattle.std.specs.Prelude.{◌≢◌, ◌⊎◌, Bool, true, false, ◌==◌, ◌&&◌, cond, filter, nat_lt, take, if◌then◌else◌, slice_get, slice_index, slice_set, Option, Some, None, IfSome, nat_le, option_map, option_and_then, ◌-◌}
use Rattle.std.proofs.lemmas.Bool.{eqb-true}
use Rattle.std.proofs.lemmas.Option.{same_Some}
use Rattle.nova_model.specs.Choice.{in_front}
use Rattle.nova_model.specs.Deeds.{deed, sign_of}
use Rattle.nova_model.specs.Runs.{after, run, trace}
use Rattle.nova_model.specs.State.{KernelState}
use Rattle.nova_model.specs.Times.{Entry, Times, clock, due_on, goes_on, if_due, next_entry, rung_in, rung_once}
use Rattle.nova_model.specs.declared.event.Event.{Event}
use Rattle.nova_model.specs.declared.event.EventKind.{EventKind}
use Rattle.nova_model.specs.declared.event.EventKind.TheVariants.{Irq}
use Rattle.nova_model.specs.declared.times.Alarm.{Alarm}
use Rattle.nova_model.specs.declared.times.AlarmState.{AlarmState}
use Rattle.nova_model.specs.declared.times.Due.TheVariants as due
use Rattle.law_forest.specs.Effects.{Falls, Passing, Ticks}
use Rattle.law_forest.specs.Turns.{Acts, IsPassing, IsTurning, Passes, Turning, acting, is_passing, passing, passing_event, turned}
use Rattle.law_forest.proofs.Turning.{acting_kind, acts_chosen, event_at, outcome}
use Rattle.law_turns.specs.Moments.{IsEarly}
use Rattle.law_turns.proofs.Moments.{early_far}
use Rattle.law_turns.proofs.Dues.{due_is}
use Rattle.law_turns.proofs.Setting.{get_other, index_itself, index_other, set_length}
use Rattle.nova_gsi.specs.Firings.{clock_at, count_of, fired_before, is_firing, is_irq, is_on, moment, was_due}

-- alarm `n` is that of a source, has rung `rings` times, and its processor's clock is at `now`; each moment that it has rung at has come
pub record IsAt (s : Alarm) (n : ℕ) (k : KernelState) (rings now : ℕ) : Type 0 where
  pub alarm : AlarmState
  pub there : slice_get k.times.alarms n ≡ Some alarm
  pub its : alarm.alarm ≡ s
  pub rung : alarm.rings ≡ rings
  pub next : alarm.next ≡ moment s rings
  pub most : rings ≤ s.count
  pub clock : clock k.times s.cpu ≡ now
  pub processor : s.cpu < length k.times.clocks
  pub past : (j : ℕ) → j < rings → moment s j ≤ now

abbrev pub more_by : Bool → ℕ → ℕ
more_by t n = if t then 1 + n else n

clock_more : (xs : List ℕ) (by cpu : ℕ) → cpu < length xs → slice_index (slice_set xs by (slice_index xs by + 1)) cpu ≡ more_by (by == cpu) (slice_index xs cpu)
clock_more xs by cpu there = by_test (by == cpu) refl
  where
    by_test : (t : Bool) → (by == cpu) ≡ t → slice_index (slice_set xs by (slice_index xs by + 1)) cpu ≡ more_by t (slice_index xs cpu)
    by_test true is =
        let same : by ≡ cpu = eqb-true by cpu is in
        let one : slice_index xs cpu + 1 ≡ 1 + slice_index xs cpu = omega arith in
        ap (λ (n : ℕ). slice_index (slice_set xs n (slice_index xs n + 1)) cpu) same ∙ index_itself xs cpu (slice_index xs cpu + 1) there ∙ one
    by_test false is =
        let differs : cpu ≢ by = λ same. let e : (by == cpu) ≡ true = rw same (grind arith) in absurd (cc) in
        index_other xs by cpu (slice_index xs by + 1) differs

later : (j rings now : ℕ) (t : Bool) (s : Alarm) → ((j : ℕ) → j < rings → moment s j ≤ now) → j < rings → moment s j ≤ more_by t now
later j rings now true s past below = let old = past j below in omega (arith, old)
later j rings now false s past below = past j below

-- a turn in which the alarm stays
stays : (s : Alarm) (n : ℕ) (k : KernelState) (cpu : ℕ) (t : Turning) (rings now : ℕ) → IsAt s n k rings now → slice_get (turned k cpu t).times.alarms n ≡ slice_get k.times.alarms n →
    IsAt s n (turned k cpu t) rings (more_by (cpu == s.cpu) now)
stays s n k cpu t rings now h same = record {
  alarm = h.alarm;
  there = same ∙ h.there;
  its = h.its;
  rung = h.rung;
  next = h.next;
  most = h.most;
  clock = clock_more k.times.clocks cpu s.cpu h.processor ∙ ap (more_by (cpu == s.cpu)) h.clock;
  processor = let same = set_length k.times.clocks cpu (slice_index k.times.clocks cpu + 1) in let old = h.processor in omega (arith, same, old);
  past = λ j below. later j rings now (cpu == s.cpu) s h.past below;
}

-- and one in which it rings
get_itself : {T : Type 0} (xs : List T) (n : ℕ) (x y : T) → slice_get xs n ≡ Some y → slice_get (slice_set xs n x) n ≡ Some x
get_itself [] n x y there = absurd cc
get_itself (z ∷ xs) zero x y there = refl
get_itself (z ∷ xs) (suc n) x y there = get_itself xs n x y there

rings_there : (alarms : List AlarmState) (n : ℕ) (o : Option AlarmState) (a : AlarmState) → slice_get alarms n ≡ o → o ≡ Some a → slice_get (rung_in alarms n o) n ≡ Some (rung_once a)
rings_there alarms n None a is there = absurd cc
rings_there alarms n (Some x) a is there = let same : x ≡ a = cc in get_itself alarms n (rung_once x) x is ∙ ap (λ (y : AlarmState). Some (rung_once y)) same

rung_other : (alarms : List AlarmState) (m n : ℕ) (o : Option AlarmState) → n ≢ m → slice_get (rung_in alarms m o) n ≡ slice_get alarms n
rung_other alarms m n None other = refl
rung_other alarms m n (Some x) other = get_other alarms m n (rung_once x) other

moment_next : (s : Alarm) (rings : ℕ) → moment s rings + s.period ≡ moment s (1 + rings)
moment_next s rings = grind arith

rings_now : (s : Alarm) (n : ℕ) (k : KernelState) (cpu rings now : ℕ) → IsPassing k cpu (Falls (due.Alarm n)) → IsAt s n k rings now →
    (cpu ≡ s.cpu) × (moment s rings ≤ now) × (rings < s.count)
rings_now s n k cpu rings now comes h =
    let d = due_is k.times cpu (due.Alarm n) comes in
    let same : d.entry.alarm ≡ h.alarm = same_Some d.entry.alarm h.alarm (sym d.entry.there ∙ h.there) in
    let on : cpu ≡ s.cpu = sym d.entry.its ∙ ap (λ (a : AlarmState). a.alarm.cpu) same ∙ ap (λ (a : Alarm). a.cpu) h.its in
    let next : d.moment ≡ moment s rings = sym d.entry.next ∙ ap (λ (a : AlarmState). a.next) same ∙ h.next in
    let time : clock k.times cpu ≡ now = ap (λ (c : ℕ). clock k.times c) on ∙ h.clock in
    let due_now = d.due in
    let more : (nat_lt h.alarm.rings h.alarm.alarm.count) ≡ true = ap (λ (a : AlarmState). nat_lt a.rings a.alarm.count) (sym same) ∙ d.entry.more in
    let count : h.alarm.alarm.count ≡ s.count = ap (λ (a : Alarm). a.count) h.its in
    let rung = h.rung in
    (on, omega (arith, next, time, due_now), grind (arith, more, count, rung))

rings_once : (s : Alarm) (n : ℕ) (k : KernelState) (cpu rings now : ℕ) → IsPassing k cpu (Falls (due.Alarm n)) → IsAt s n k rings now →
    IsAt s n (turned k cpu (passing k (Falls (due.Alarm n)))) (1 + rings) (more_by (cpu == s.cpu) now)
rings_once s n k cpu rings now comes h = let its = rings_now s n k cpu rings now comes h in record {
  alarm = rung_once h.alarm;
  there = rings_there k.times.alarms n (slice_get k.times.alarms n) h.alarm refl h.there;
  its = h.its;
  rung = let rung = h.rung in omega (arith, rung);
  next = let period : h.alarm.alarm.period ≡ s.period = ap (λ (a : Alarm). a.period) h.its in let next = h.next in let more = moment_next s rings in omega (arith, period, next, more);
  most = let below = its.2 in omega (arith, below);
  clock = clock_more k.times.clocks cpu s.cpu h.processor ∙ ap (more_by (cpu == s.cpu)) h.clock;
  processor = let same = set_length k.times.clocks cpu (slice_index k.times.clocks cpu + 1) in let old = h.processor in omega (arith, same, old);
  past = λ j below. by_place j below its.1 (place j rings below);
}
  where
    place : (j rings : ℕ) → j < 1 + rings → (j < rings) ⊎ (j ≡ rings)
    place j rings below = by_test (nat_lt j rings) refl
      where
        by_test : (t : Bool) → nat_lt j rings ≡ t → (j < rings) ⊎ (j ≡ rings)
        by_test true is = inl (grind (arith, is))
        by_test false is = inr (grind (arith, is, below))

    by_place : (j : ℕ) → j < 1 + rings → moment s rings ≤ now → (j < rings) ⊎ (j ≡ rings) → moment s j ≤ more_by (cpu == s.cpu) now
    by_place j below due_now (inl old) = later j rings now (cpu == s.cpu) s h.past old
    by_place j below due_now (inr same) = subst (λ (i : ℕ). moment s i ≤ more_by (cpu == s.cpu) now) (sym same) (by_test (cpu == s.cpu))
      where
        by_test : (t : Bool) → moment s rings ≤ more_by t now
        by_test true = omega (arith, due_now)
        by_test false = due_now

-- EACH TURN, WITH ITS EVENT

abbrev pub Next : Alarm → ℕ → ℕ → ℕ → KernelState → Option Event → Type 0
Next s n rings now k None = IsAt s n k rings now
Next s n rings now k (Some e) = IsAt s n k (more_by (is_firing n e) rings) (more_by (is_on s.cpu e) now)

none_fires : (kind : EventKind) (m : ℕ) (n : ℕ) → is_passing kind ≡ false → (is_irq kind && (m == n)) ≡ false
none_fires Irq m n is = absurd cc
none_fires other m n is = refl

passes_next : (s : Alarm) (n : ℕ) (k : KernelState) (cpu rings now : ℕ) (p : Passing) → IsPassing k cpu p → IsAt s n k rings now →
    IsAt s n (turned k cpu (passing k p)) (more_by (is_firing n (passing_event k cpu p)) rings) (more_by ((passing_event k cpu p).cpu == s.cpu) now)
passes_next s n k cpu rings now (Falls (due.Alarm m)) comes h = by_test (m == n) refl
  where
    by_test : (t : Bool) → (m == n) ≡ t → IsAt s n (turned k cpu (passing k (Falls (due.Alarm m)))) (more_by t rings) (more_by (cpu == s.cpu) now)
    by_test true is =
        let same : n ≡ m = sym (eqb-true m n is) in
        subst (λ (i : ℕ). IsPassing k cpu (Falls (due.Alarm i)) → IsAt s n (turned k cpu (passing k (Falls (due.Alarm i)))) (1 + rings) (more_by (cpu == s.cpu) now)) same
        (λ its. rings_once s n k cpu rings now its h) comes
    by_test false is =
        let differs : n ≢ m = λ same. let e : (m == n) ≡ true = rw same (grind arith) in absurd (cc) in
        stays s n k cpu (passing k (Falls (due.Alarm m))) rings now h (rung_other k.times.alarms m n (slice_get k.times.alarms m) differs)
passes_next s n k cpu rings now (Falls (due.Deadline ec)) comes h = stays s n k cpu (passing k (Falls (due.Deadline ec))) rings now h refl
passes_next s n k cpu rings now Ticks comes h = stays s n k cpu (passing k Ticks) rings now h refl

takes_next : (s : Alarm) (n : ℕ) (k : KernelState) (cpu rings now : ℕ) (t : Turning) (e : Event) → IsTurning k cpu t e → IsAt s n k rings now → Next s n rings now (turned k cpu t) (Some e)
takes_next s n k cpu rings now t e (Acts c chosen is event) h =
    let d = deed k c.actor in
    let quiet : is_firing n e ≡ false = ap (λ (f : Event). is_firing n f) event ∙ none_fires (sign_of d).0 (sign_of d).1 n (acting_kind d) in
    let on : e.cpu ≡ cpu = ap (λ (f : Event). f.cpu) event in
    subst (λ (r : Bool). IsAt s n (turned k cpu t) (more_by r rings) (more_by (e.cpu == s.cpu) now)) (sym quiet)
    (subst (λ (c : ℕ). IsAt s n (turned k cpu t) rings (more_by (c == s.cpu) now)) (sym on)
    (subst (λ (u : Turning). IsAt s n (turned k cpu u) rings (more_by (cpu == s.cpu) now)) (sym is) (stays s n k cpu (acting k c) rings now h refl)))
takes_next s n k cpu rings now t e (Passes p comes is event) h =
    subst (λ (f : Event). IsAt s n (turned k cpu t) (more_by (is_firing n f) rings) (more_by (is_on s.cpu f) now)) (sym event)
    (subst (λ (u : Turning). IsAt s n (turned k cpu u) (more_by (is_firing n (passing_event k cpu p)) rings) (more_by (is_on s.cpu (passing_event k cpu p)) now)) (sym is)
    (passes_next s n k cpu rings now p comes h))

pub next : (s : Alarm) (n : ℕ) (k : KernelState) (cpu rings now : ℕ) → IsAt s n k rings now → Next s n rings now (after k cpu) (event_at k cpu)
next s n k cpu rings now h = outcome (Next s n rings now) k cpu (λ none. h) (λ t e is. takes_next s n k cpu rings now t e is h)

-- A PLACE

-- the state in which the turn of a place begins, with whose turn it is
pub record IsPlace (s : Alarm) (n : ℕ) (e : Event) (rings now : ℕ) : Type 0 where
  pub kernel : KernelState
  pub cpu : ℕ
  pub at : IsAt s n kernel rings now
  pub event : event_at kernel cpu ≡ Some e

count_more : (p : Event → Bool) (e : Event) (es : List Event) (m : ℕ) → more_by (p e) m + count_of p es ≡ m + count_of p (e ∷ es)
count_more p e es m = by_test (p e)
  where
    by_test : (t : Bool) → more_by t m + count_of p es ≡ m + length (cond t (e ∷ filter p es) (filter p es))
    by_test true = omega arith
    by_test false = refl

pub place_at : (s : Alarm) (n : ℕ) (k : KernelState) (turns : List ℕ) (rings now : ℕ) → IsAt s n k rings now → (place : ℕ) (e : Event) → slice_get (trace k turns) place ≡ Some e →
    IsPlace s n e (rings + fired_before (trace k turns) n place) (now + clock_at (trace k turns) s.cpu place)
place_at s n k [] rings now h place e there = absurd cc
place_at s n k (cpu ∷ turns) rings now h place e there = by_event (λ r c it place there. place_at s n (after k cpu) turns r c it place e there) (event_at k cpu) refl (next s n k cpu rings now h) place there
  where
    Goes : Type 0
    Goes = (r c : ℕ) → IsAt s n (after k cpu) r c → (place : ℕ) → slice_get (trace (after k cpu) turns) place ≡ Some e →
        IsPlace s n e (r + fired_before (trace (after k cpu) turns) n place) (c + clock_at (trace (after k cpu) turns) s.cpu place)

    by_event : Goes → (o : Option Event) → event_at k cpu ≡ o → Next s n rings now (after k cpu) o → (place : ℕ) → slice_get (in_front o (trace (after k cpu) turns)) place ≡ Some e →
        IsPlace s n e (rings + fired_before (in_front o (trace (after k cpu) turns)) n place) (now + clock_at (in_front o (trace (after k cpu) turns)) s.cpu place)
    by_event goes None is after_it place there = goes rings now after_it place there
    by_event goes (Some f) is after_it zero there =
        let none : rings ≡ rings + 0 = omega arith in
        let calm : now ≡ now + 0 = omega arith in
        subst (λ (r : ℕ). IsPlace s n e r (now + 0)) none (subst (λ (c : ℕ). IsPlace s n e rings c) calm (record { kernel = k; cpu = cpu; at = h; event = is ∙ there }))
    by_event goes (Some f) is after_it (suc place) there =
        subst (λ (r : ℕ). IsPlace s n e r (now + count_of (is_on s.cpu) (f ∷ take place (trace (after k cpu) turns))))
        (count_more (is_firing n) f (take place (trace (after k cpu) turns)) rings)
        (subst (λ (c : ℕ). IsPlace s n e (more_by (is_firing n f) rings + count_of (is_firing n) (take place (trace (after k cpu) turns))) c)
        (count_more (is_on s.cpu) f (take place (trace (after k cpu) turns)) now)
        (goes (more_by (is_firing n f) rings) (more_by (is_on s.cpu f) now) after_it place there))

-- and the end
pub end_at : (s : Alarm) (n : ℕ) (k : KernelState) (turns : List ℕ) (rings now : ℕ) → IsAt s n k rings now →
    IsAt s n (run k turns) (rings + count_of (is_firing n) (trace k turns)) (now + count_of (is_on s.cpu) (trace k turns))
end_at s n k [] rings now h =
    let none : rings ≡ rings + 0 = omega arith in
    let calm : now ≡ now + 0 = omega arith in
    subst (λ (r : ℕ). IsAt s n k r (now + 0)) none (subst (λ (c : ℕ). IsAt s n k rings c) calm h)
end_at s n k (cpu ∷ turns) rings now h = by_event (λ r c it. end_at s n (after k cpu) turns r c it) (event_at k cpu) (next s n k cpu rings now h)
  where
    Goes : Type 0
    Goes = (r c : ℕ) → IsAt s n (after k cpu) r c →
        IsAt s n (run (after k cpu) turns) (r + count_of (is_firing n) (trace (after k cpu) turns)) (c + count_of (is_on s.cpu) (trace (after k cpu) turns))

    by_event : Goes → (o : Option Event) → Next s n rings now (after k cpu) o →
        IsAt s n (run (after k cpu) turns) (rings + count_of (is_firing n) (in_front o (trace (after k cpu) turns))) (now + count_of (is_on s.cpu) (in_front o (trace (after k cpu) turns)))
    by_event goes None after_it = goes rings now after_it
    by_event goes (Some f) after_it =
        subst (λ (r : ℕ). IsAt s n (run (after k cpu) turns) r (now + count_of (is_on s.cpu) (f ∷ trace (after k cpu) turns))) (count_more (is_firing n) f (trace (after k cpu) turns) rings)
        (subst (λ (c : ℕ). IsAt s n (run (after k cpu) turns) (more_by (is_firing n f) rings + count_of (is_firing n) (trace (after k cpu) turns)) c)
        (count_more (is_on s.cpu) f (trace (after k cpu) turns) now)
        (goes (more_by (is_firing n f) rings) (more_by (is_on s.cpu f) now) after_it))

-- WHAT COMES AT A PLACE

-- a turn, by its event
pub of_turn : (P : Event → Type 0) (k : KernelState) (cpu : ℕ) (e : Event) → event_at k cpu ≡ Some e → ((t : Turning) (f : Event) → IsTurning k cpu t f → P f) → P e
of_turn P k cpu e is holds = by_event (event_at k cpu) is (outcome (λ s o. IfSome o P) k cpu (λ none. tt) (λ t f turning. holds t f turning))
  where
    by_event : (o : Option Event) → o ≡ Some e → IfSome o P → P e
    by_event None is h = absurd cc
    by_event (Some f) is h = let same : f ≡ e = cc in subst P same h

-- a firing comes at its moment or later, of those that there are
pub firing_due : (s : Alarm) (n : ℕ) (e : Event) (rings now : ℕ) → IsPlace s n e rings now → is_firing n e ≡ true → (moment s rings ≤ now) × (rings < s.count)
firing_due s n e rings now p fires =
    of_turn (λ f. is_firing n f ≡ true → (moment s rings ≤ now) × (rings < s.count)) p.kernel p.cpu e p.event by_turning fires
  where
    by_passing : (q : Passing) → IsPassing p.kernel p.cpu q → is_firing n (passing_event p.kernel p.cpu q) ≡ true → (moment s rings ≤ now) × (rings < s.count)
    by_passing (Falls (due.Alarm m)) comes fires =
        let same : m ≡ n = eqb-true m n fires in
        let its = rings_now s n p.kernel p.cpu rings now (subst (λ (i : ℕ). IsPassing p.kernel p.cpu (Falls (due.Alarm i))) same comes) p.at in (its.1, its.2)
    by_passing (Falls (due.Deadline ec)) comes fires = absurd cc
    by_passing Ticks comes fires = absurd cc

    by_turning : (t : Turning) (f : Event) → IsTurning p.kernel p.cpu t f → is_firing n f ≡ true → (moment s rings ≤ now) × (rings < s.count)
    by_turning t f (Acts c chosen is event) fires =
        let d = deed p.kernel c.actor in
        absurd (let quiet = none_fires (sign_of d).0 (sign_of d).1 n (acting_kind d) in
        let both : true ≡ false = sym fires ∙ ap (λ (g : Event). is_firing n g) event ∙ quiet in cc)
    by_turning t f (Passes q comes is event) fires = by_passing q comes (ap (λ (g : Event). is_firing n g) (sym event) ∙ fires)

-- nothing is due this turn where nothing is due now
pub calm_early : (t : Times) (cpu : ℕ) → due_on t cpu ≡ None → IsEarly t cpu 1
calm_early t cpu calm = by_next (next_entry t cpu) calm
  where
    by_test : (e : Entry) (b : Bool) → nat_le e.moment (clock t cpu) ≡ b → (if b then Some e.what else None) ≡ None → 1 ≤ e.moment - clock t cpu
    by_test e true is none = absurd cc
    by_test e false is none = grind (arith, is)

    by_next : (o : Option Entry) → option_and_then (if_due (clock t cpu)) o ≡ None → IfSome (option_map (λ moment. moment - clock t cpu) (option_map (λ (e : Entry). e.moment) o)) (λ left. 1 ≤ left)
    by_next None none = tt
    by_next (Some e) none = by_test e (nat_le e.moment (clock t cpu)) refl none

-- a source that goes on is to come, where nothing is due
pub still_to_come : (s : Alarm) (n : ℕ) (k : KernelState) (rings now : ℕ) → IsAt s n k rings now → due_on k.times s.cpu ≡ None → rings < s.count → now < moment s rings
still_to_come s n k rings now h calm more =
    let on : h.alarm.alarm.cpu ≡ s.cpu = ap (λ (a : Alarm). a.cpu) h.its in
    let count : h.alarm.alarm.count ≡ s.count = ap (λ (a : Alarm). a.count) h.its in
    let rung = h.rung in
    let goes : goes_on h.alarm ≡ true = grind (arith, rung, count, more) in
    let far = (early_far k.times s.cpu 1 (calm_early k.times s.cpu calm)).alarms n h.alarm h.there on goes in
    let next = h.next in
    let time = h.clock in
    omega (arith, far, next, time)

times_least : (a b p : ℕ) → a ≤ b → a * p ≤ b * p
times_least a b p less = grind (arith, less)

-- none is lost
pub none_lost : (s : Alarm) (n : ℕ) (e : Event) (rings now j : ℕ) → IsPlace s n e rings now → e.cpu ≡ s.cpu → j < s.count → moment s j ≤ now → rings ≤ j → was_due e.kind ≡ true
none_lost s n e rings now j p on below came few = of_turn (λ f. f.cpu ≡ s.cpu → was_due f.kind ≡ true) p.kernel p.cpu e p.event by_turning on
  where
    earlier : moment s rings ≤ moment s j
    earlier = let factor = times_least rings j s.period few in omega (arith, factor)

    not_calm : p.cpu ≡ s.cpu → due_on p.kernel.times p.cpu ≡ None → ⊥
    not_calm same calm =
        let more : rings < s.count = omega (arith, few, below) in
        let ahead = still_to_come s n p.kernel rings now p.at (ap (λ (c : ℕ). due_on p.kernel.times c) (sym same) ∙ calm) more in
        let before = earlier in absurd (omega (arith, ahead, before, came))

    by_passing : (q : Passing) → IsPassing p.kernel p.cpu q → (passing_event p.kernel p.cpu q).cpu ≡ s.cpu → was_due (passing_event p.kernel p.cpu q).kind ≡ true
    by_passing (Falls (due.Alarm m)) comes same = refl
    by_passing (Falls (due.Deadline ec)) comes same = refl
    by_passing Ticks comes same = absurd (not_calm same comes.0)

    by_turning : (t : Turning) (f : Event) → IsTurning p.kernel p.cpu t f → f.cpu ≡ s.cpu → was_due f.kind ≡ true
    by_turning t f (Acts c chosen is event) same =
        absurd (not_calm (ap (λ (g : Event). g.cpu) (sym event) ∙ same) (acts_chosen p.kernel p.cpu c chosen).1)
    by_turning t f (Passes q comes is event) same =
        ap (λ (g : Event). was_due g.kind) event ∙ by_passing q comes (ap (λ (g : Event). g.cpu) (sym event) ∙ same)
