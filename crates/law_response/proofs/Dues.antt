-- How many turns of a processor are due: no more than rings and deadlines are to come.
use Rattle.std.proofs.Common.{◌≡◌, ℕ, zero, suc, ◌≤◌, ◌+◌, List, [], ◌∷◌, length, refl, sym, ap, ◌∙◌, arith}
use Rattle.std.specs.Prelude.{Bool, true, false, ◌==◌, ◌&&◌, nat_le, is_some, filter, if◌then◌else◌, slice_get, slice_set, Option, Some, None, option_map}
use Rattle.std.proofs.lemmas.Bool.{eqb-true}
use Rattle.nova_range.specs.declared.status.Status.{Status}
use Rattle.nova_model.specs.Boot.{Scenario, boot}
use Rattle.nova_model.specs.Choice.{Candidate, next_to_act}
use Rattle.nova_model.specs.Deeds.{deed}
use Rattle.nova_model.specs.Runs.{after, run}
use Rattle.nova_model.specs.State.{KernelState, entry}
use Rattle.nova_model.specs.Times.{Entry, before_rest, clock, deadline_entries, deadline_entry}
use Rattle.nova_model.specs.declared.deed.Deed.{Deed}
use Rattle.nova_model.specs.declared.deed.Deed.TheVariants.{Ups, Blocks}
use Rattle.nova_model.specs.declared.event.Event.{Event}
use Rattle.nova_model.specs.declared.new_object.NewObject.{NewObject}
use Rattle.nova_model.specs.declared.times.AlarmState.{AlarmState}
use Rattle.nova_model.specs.declared.times.Deadline.{Deadline}
use Rattle.nova_model.specs.declared.times.Due.TheVariants as due
use Rattle.law_forest.specs.Effects.{Falls, Ticks, clears_by, deadline_by, deadlines_with, joined, made_by, no_deadline, passing_ends}
use Rattle.law_forest.specs.Turns.{Acts, Idles, IsTurning, Passes, Takes, Turning, turned}
use Rattle.law_forest.proofs.Turning.{acts_chosen, comes, nothing_due}
use Rattle.law_turns.specs.Moments.{IsOnTime}
use Rattle.law_turns.proofs.Alarms.{on_time}
use Rattle.law_turns.proofs.Dues.{due_is}
use Rattle.nova_gsi.specs.Deadlines.{all_rings_left}
use Rattle.nova_gsi.specs.Firings.{moment}
use Rattle.nova_gsi.proofs.Counted.{alarms_once, cleared_counted, counted_one, ends_fewer, joined_entries, one_if, rings_now}
use Rattle.law_response.specs.Dues.{AreDueBounded, deadlines_on, sets_in, sets_one, sets_once}
use Rattle.law_response.specs.Waits.{due_in, is_due}
use Rattle.law_response.proofs.Late.{clock_rises}
use Rattle.law_response.proofs.Waiting.{IsReached, reached_after}

abbrev any : Entry → Bool
any e = true

-- DEADLINES

-- one more at most where a deadline is set
set_most : (cpu n : ℕ) (ds : List (Option Deadline)) (i : ℕ) (x : Deadline) →
    length (deadline_entries cpu n (slice_set ds i (Some x))) ≤ length (deadline_entries cpu n ds) + one_if (x.cpu == cpu)
set_most cpu n [] i x = omega arith
set_most cpu n (None ∷ ds) zero x = by_test (x.cpu == cpu)
  where
    by_test : (t : Bool) → length (before_rest (if t then Some (record { moment = x.at; what = due.Deadline n }) else None) (deadline_entries cpu (n + 1) ds))
        ≤ length (deadline_entries cpu (n + 1) ds) + one_if t
    by_test true = omega arith
    by_test false = omega arith
set_most cpu n (Some y ∷ ds) zero x = by_test (x.cpu == cpu) (y.cpu == cpu)
  where
    by_test : (t u : Bool) → length (before_rest (if t then Some (record { moment = x.at; what = due.Deadline n }) else None) (deadline_entries cpu (n + 1) ds))
        ≤ length (before_rest (if u then Some (record { moment = y.at; what = due.Deadline n }) else None) (deadline_entries cpu (n + 1) ds)) + one_if t
    by_test true true = omega arith
    by_test true false = omega arith
    by_test false true = omega arith
    by_test false false = omega arith
set_most cpu n (None ∷ ds) (suc i) x = set_most cpu (n + 1) ds i x
set_most cpu n (Some y ∷ ds) (suc i) x = by_test (y.cpu == cpu) (set_most cpu (n + 1) ds i x)
  where
    by_test : (u : Bool) → length (deadline_entries cpu (n + 1) (slice_set ds i (Some x))) ≤ length (deadline_entries cpu (n + 1) ds) + one_if (x.cpu == cpu) →
        length (before_rest (if u then Some (record { moment = y.at; what = due.Deadline n }) else None) (deadline_entries cpu (n + 1) (slice_set ds i (Some x))))
        ≤ length (before_rest (if u then Some (record { moment = y.at; what = due.Deadline n }) else None) (deadline_entries cpu (n + 1) ds)) + one_if (x.cpu == cpu)
    by_test true rest = omega (arith, rest)
    by_test false rest = rest

-- to count all is to count
count_all : (es : List Entry) → length (filter any es) ≡ length es
count_all [] = refl
count_all (e ∷ es) = ap suc (count_all es)

cleared_most : (cpu : ℕ) (ds : List (Option Deadline)) (w : ℕ) →
    length (deadline_entries cpu 0 (slice_set ds w None)) + counted_one any (deadline_entry cpu w (entry (slice_get ds w))) ≡ length (deadline_entries cpu 0 ds)
cleared_most cpu ds w =
    let one = count_all (deadline_entries cpu 0 (slice_set ds w None)) in
    let two = count_all (deadline_entries cpu 0 ds) in
    let h = cleared_counted any cpu ds w in omega (arith, one, two, h)

ends_most : (cpu : ℕ) (ds : List (Option Deadline)) (o : Option (ℕ × Status)) → length (deadline_entries cpu 0 (deadlines_with ds (clears_by o))) ≤ length (deadline_entries cpu 0 ds)
ends_most cpu ds o =
    let one = count_all (deadline_entries cpu 0 (deadlines_with ds (clears_by o))) in
    let two = count_all (deadline_entries cpu 0 ds) in
    let h = ends_fewer any cpu ds o in omega (arith, one, two, h)

deed_most : (cpu a : ℕ) (ds : List (Option Deadline)) (d : Deed) → length (deadline_entries cpu 0 (deadlines_with ds (deadline_by a d))) ≤ length (deadline_entries cpu 0 ds) + one_if (sets_one cpu d)
deed_most cpu a ds (Ups sm None) = omega arith
deed_most cpu a ds (Ups sm (Some w)) = let h = cleared_most cpu ds w in omega (arith, h)
deed_most cpu a ds (Blocks sm None) = omega arith
deed_most cpu a ds (Blocks sm (Some x)) = set_most cpu 0 ds a x
deed_most cpu a ds d = omega arith

joined_most : (cpu : ℕ) (ds : List (Option Deadline)) (made : Option NewObject) → length (deadline_entries cpu 0 (joined ds (option_map no_deadline made))) ≡ length (deadline_entries cpu 0 ds)
joined_most cpu ds None = refl
joined_most cpu ds (Some made) = ap length (joined_entries cpu 0 ds)

-- A TURN

abbrev pub to_come : KernelState → ℕ → ℕ → ℕ
to_come k cpu at = all_rings_left cpu at k.times.alarms + deadlines_on k cpu

due_after : (here : Bool) → one_if (here && false) ≡ 0
due_after true = refl
due_after false = refl

turn_dues : (k : KernelState) (by cpu at : ℕ) (t : Turning) (e : Event) → IsTurning k by t e → IsReached k → clock k.times cpu ≤ at →
    one_if ((by == cpu) && is_due k by) + to_come (turned k by t) cpu at ≤ to_come k cpu at + one_if (sets_once cpu k (next_to_act k by))
turn_dues k by cpu at t e (Acts c chosen is event) r later =
    let calm : is_due k by ≡ false = ap is_some (acts_chosen k by c chosen).1 in
    let none : one_if ((by == cpu) && is_due k by) ≡ 0 = ap (λ (b : Bool). one_if ((by == cpu) && b)) calm ∙ due_after (by == cpu) in
    let d = deed k c.actor in
    let state = ap (λ (u : Turning). to_come (turned k by u) cpu at) is in
    let most = deed_most cpu c.actor k.times.deadlines d in
    let more = joined_most cpu (deadlines_with k.times.deadlines (deadline_by c.actor d)) (made_by d) in
    let once = ap (λ (o : Option Candidate). one_if (sets_once cpu k o)) chosen in
    omega (arith, none, state, most, more, once)
turn_dues k by cpu at t e (Passes Ticks comes is event) r later =
    let calm : is_due k by ≡ false = ap is_some comes.0 in
    let none : one_if ((by == cpu) && is_due k by) ≡ 0 = ap (λ (b : Bool). one_if ((by == cpu) && b)) calm ∙ due_after (by == cpu) in
    let state = ap (λ (u : Turning). to_come (turned k by u) cpu at) is in
    omega (arith, none, state)
turn_dues k by cpu at t e (Passes (Falls (due.Alarm n)) comes is event) r later =
    let its = due_is k.times by (due.Alarm n) comes in
    let a = its.entry.alarm in
    let on : IsOnTime a = on_time r.scenario r.turns n a (sym (ap (λ (s : KernelState). slice_get s.times.alarms n) r.is) ∙ its.entry.there) in
    let once = alarms_once cpu at n k.times.alarms (slice_get k.times.alarms n) a refl its.entry.there its.entry.more in
    let fewer = ends_most cpu k.times.deadlines (passing_ends k (Falls (due.Alarm n))) in
    let state = ap (λ (u : Turning). to_come (turned k by u) cpu at) is in
    let come : moment a.alarm a.rings ≤ clock k.times by = (let due = its.due in let next = its.entry.next in let time = on.next in omega arith) in
    let now = by_test (by == cpu) refl a its.entry.its come in
    omega (arith, once, fewer, state, now)
  where
    by_test : (b : Bool) → (by == cpu) ≡ b → (a : AlarmState) → a.alarm.cpu ≡ by → moment a.alarm a.rings ≤ clock k.times by → one_if ((by == cpu) && is_due k by) ≤ rings_now cpu at a
    by_test true same a home come =
        let here : by ≡ cpu = eqb-true by cpu same in
        let its : (a.alarm.cpu == cpu) ≡ true = grind arith in
        let clocks = ap (λ (n : ℕ). clock k.times n) here in
        let before : nat_le (moment a.alarm a.rings) at ≡ true = grind arith in
        let one : rings_now cpu at a ≡ 1 = rw (its, before) refl in
        by_due ((by == cpu) && is_due k by) one
      where
        by_due : (t : Bool) → rings_now cpu at a ≡ 1 → one_if t ≤ rings_now cpu at a
        by_due true one = omega (arith, one)
        by_due false one = omega arith
    by_test false same a home come = rw same (omega arith)
turn_dues k by cpu at t e (Passes (Falls (due.Deadline w)) comes is event) r later =
    let its = due_is k.times by (due.Deadline w) comes in
    let d = its.entry.deadline in
    let cleared = cleared_most cpu k.times.deadlines w in
    let counts : counted_one any (deadline_entry cpu w (entry (slice_get k.times.deadlines w))) ≡ counted_one any (deadline_entry cpu w (Some d)) =
    ap (λ (o : Option Deadline). counted_one any (deadline_entry cpu w o)) its.entry.there in
    let state = ap (λ (u : Turning). to_come (turned k by u) cpu at) is in
    let now = by_test (by == cpu) refl d its.entry.its in
    omega (arith, cleared, counts, state, now)
  where
    by_test : (b : Bool) → (by == cpu) ≡ b → (d : Deadline) → d.cpu ≡ by → one_if ((by == cpu) && is_due k by) ≤ counted_one any (deadline_entry cpu w (Some d))
    by_test true same d home =
        let its : (d.cpu == cpu) ≡ true = (let here : by ≡ cpu = eqb-true by cpu same in grind arith) in
        let one : counted_one any (deadline_entry cpu w (Some d)) ≡ 1 = rw its refl in
        by_due ((by == cpu) && is_due k by) one
      where
        by_due : (t : Bool) → counted_one any (deadline_entry cpu w (Some d)) ≡ 1 → one_if t ≤ counted_one any (deadline_entry cpu w (Some d))
        by_due true one = omega (arith, one)
        by_due false one = omega arith
    by_test false same d home = rw same (omega arith)

after_dues : (k : KernelState) (by cpu at : ℕ) → IsReached k → clock k.times cpu ≤ at →
    one_if ((by == cpu) && is_due k by) + to_come (after k by) cpu at ≤ to_come k cpu at + one_if (sets_once cpu k (next_to_act k by))
after_dues k by cpu at r later = elim (comes k by) [
  | Idles none moment same answer ↦ (
      let calm : is_due k by ≡ false = ap is_some (nothing_due k by moment) in
      let nothing : one_if ((by == cpu) && is_due k by) ≡ 0 = ap (λ (b : Bool). one_if ((by == cpu) && b)) calm ∙ due_after (by == cpu) in
      let state = ap (λ (s : KernelState). to_come s cpu at) same in omega (arith, nothing, state)
      )
  | Takes t e is state answer ↦ (
      let one = turn_dues k by cpu at t e is r later in
      let same = ap (λ (s : KernelState). to_come s cpu at) state in omega (arith, one, same)
      )
]

-- ALL TURNS

clocks_rise : (k : KernelState) (turns : List ℕ) (cpu : ℕ) → clock k.times cpu ≤ clock (run k turns).times cpu
clocks_rise k [] cpu = omega arith
clocks_rise k (by ∷ turns) cpu = let first = clock_rises k by cpu in let rest = clocks_rise (after k by) turns cpu in omega (arith, first, rest)

pub dues : (k : KernelState) (turns : List ℕ) (cpu at : ℕ) → IsReached k → clock (run k turns).times cpu ≤ at →
    due_in k cpu turns + to_come (run k turns) cpu at ≤ to_come k cpu at + sets_in k cpu turns
dues k [] cpu at r later = omega arith
dues k (by ∷ turns) cpu at r later =
    let rises = clocks_rise k (by ∷ turns) cpu in
    let first = after_dues k by cpu at r (omega (arith, rises, later)) in
    let rest = dues (after k by) turns cpu at (reached_after k by r) later in
    omega (arith, first, rest)

pub few_are_due : (s : Scenario) (before turns : List ℕ) (cpu : ℕ) → AreDueBounded (run (boot s) before) turns cpu
few_are_due s before turns cpu =
    let k = run (boot s) before in
    let h = dues k turns cpu (clock (run k turns).times cpu) (record { scenario = s; turns = before; is = refl }) (omega arith) in omega (arith, h)
