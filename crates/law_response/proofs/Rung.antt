-- Until an alarm whose moment has come rings, each turn of its processor is due.
use Rattle.std.proofs.Common.{◌≡◌, ℕ, zero, suc, ◌≤◌, List, [], ◌∷◌, inl, inr, refl, sym, ap, ◌∙◌, subst, arith}
use Rattle.std.specs.Prelude.{◌⊎◌, ◌&&◌, Bool, true, false, ◌==◌, slice_get, slice_set, Option, Some}
use Rattle.std.proofs.lemmas.Bool.{eqb-true, eqb-false}
use Rattle.nova_model.specs.Boot.{Scenario, boot}
use Rattle.nova_model.specs.Runs.{after, run}
use Rattle.nova_model.specs.State.{KernelState}
use Rattle.nova_model.specs.Times.{clock, goes_on, rung_in, rung_once}
use Rattle.nova_model.specs.declared.event.Event.{Event}
use Rattle.nova_model.specs.declared.times.AlarmState.{AlarmState}
use Rattle.nova_model.specs.declared.times.Due.TheVariants as due
use Rattle.law_forest.specs.Effects.{Falls, Passing, Ticks, alarms_with, passing_rings}
use Rattle.law_forest.specs.Turns.{Acts, Idles, IsTurning, Passes, Takes, Turning, turned}
use Rattle.law_forest.proofs.Turning.{comes}
use Rattle.law_turns.proofs.Moments.{has_entries}
use Rattle.law_turns.proofs.Ticks.{one_if}
use Rattle.law_response.specs.Dues.{IsPrompt}
use Rattle.law_response.specs.Waits.{is_due}
use Rattle.law_response.proofs.Called.{rung_other}
use Rattle.law_response.proofs.Drivers.{AreDue, nobody_acts, sets_none}
use Rattle.law_response.proofs.Dues.{few_are_due}
use Rattle.law_response.proofs.Late.{clock_rises, come_due}
use Rattle.law_response.proofs.Waiting.{IsReached, reached_after}

-- WHAT BECOMES OF AN ALARM

set_there : (alarms : List AlarmState) (n : ℕ) (a b : AlarmState) → slice_get alarms n ≡ Some a → slice_get (slice_set alarms n b) n ≡ Some b
set_there [] n a b at = absurd cc
set_there (x ∷ alarms) zero a b at = refl
set_there (x ∷ alarms) (suc n) a b at = set_there alarms n a b at

-- it stays, or has rung once more
abbrev IsStill : KernelState → ℕ → AlarmState → Type 0
IsStill s n a = (slice_get s.times.alarms n ≡ Some a) ⊎ (slice_get s.times.alarms n ≡ Some (rung_once a))

rings_once : (k : KernelState) (n : ℕ) (a : AlarmState) (p : Passing) → slice_get k.times.alarms n ≡ Some a →
    (slice_get (alarms_with k.times.alarms (passing_rings p)) n ≡ Some a) ⊎ (slice_get (alarms_with k.times.alarms (passing_rings p)) n ≡ Some (rung_once a))
rings_once k n a (Falls (due.Alarm m)) at = by_test (n == m) refl
  where
    by_test : (t : Bool) → (n == m) ≡ t →
        (slice_get (rung_in k.times.alarms m (slice_get k.times.alarms m)) n ≡ Some a) ⊎ (slice_get (rung_in k.times.alarms m (slice_get k.times.alarms m)) n ≡ Some (rung_once a))
    by_test true is =
        let same : n ≡ m = eqb-true n m is in
        inr (ap (λ (i : ℕ). slice_get (rung_in k.times.alarms i (slice_get k.times.alarms i)) n) (sym same)
        ∙ ap (λ (o : Option AlarmState). slice_get (rung_in k.times.alarms n o) n) at
        ∙ set_there k.times.alarms n a (rung_once a) at)
    by_test false is = inl (rung_other k.times.alarms m n (slice_get k.times.alarms m) a (eqb-false n m is) at)
rings_once k n a (Falls (due.Deadline w)) at = inl at
rings_once k n a Ticks at = inl at

alarm_turned : (k : KernelState) (by n : ℕ) (a : AlarmState) (t : Turning) (e : Event) → IsTurning k by t e → slice_get k.times.alarms n ≡ Some a → IsStill (turned k by t) n a
alarm_turned k by n a t e (Acts c chosen is event) at = subst (λ (u : Turning). IsStill (turned k by u) n a) (sym is) (inl at)
alarm_turned k by n a t e (Passes p passes is event) at = subst (λ (u : Turning). IsStill (turned k by u) n a) (sym is) (rings_once k n a p at)

alarm_after : (k : KernelState) (by n : ℕ) (a : AlarmState) → slice_get k.times.alarms n ≡ Some a → IsStill (after k by) n a
alarm_after k by n a at = elim (comes k by) [
  | Idles none moment same answer ↦ subst (λ (s : KernelState). IsStill s n a) (sym same) (inl at)
  | Takes t e is state answer ↦ subst (λ (s : KernelState). IsStill s n a) (sym state) (alarm_turned k by n a t e is at)
]

-- its rings never fall
record HasRung (k : KernelState) (n least : ℕ) : Type 0 where
  alarm : AlarmState
  at : slice_get k.times.alarms n ≡ Some alarm
  rings : least ≤ alarm.rings

rung_run : (k : KernelState) (turns : List ℕ) (n : ℕ) (a : AlarmState) → slice_get k.times.alarms n ≡ Some a → HasRung (run k turns) n a.rings
rung_run k [] n a at = record { alarm = a; at = at; rings = omega arith }
rung_run k (by ∷ turns) n a at = elim (alarm_after k by n a at) [
  | inl still ↦ rung_run (after k by) turns n a still
  | inr rung ↦ (
      let rest = rung_run (after k by) turns n (rung_once a) rung in
      let more = rest.rings in record { alarm = rest.alarm; at = rest.at; rings = omega (arith, more) }
      )
]

-- an alarm that is the same at the end was so in between
still_after : (k : KernelState) (by : ℕ) (turns : List ℕ) (n : ℕ) (a : AlarmState) → slice_get k.times.alarms n ≡ Some a → slice_get (run (after k by) turns).times.alarms n ≡ Some a →
    slice_get (after k by).times.alarms n ≡ Some a
still_after k by turns n a at ends = elim (alarm_after k by n a at) [
  | inl still ↦ still
  | inr rung ↦
      absurd (let later = rung_run (after k by) turns n (rung_once a) rung in
      let both : Some later.alarm ≡ Some a = sym later.at ∙ ends in
      let same : later.alarm ≡ a = cc in
      let rings = ap (λ (x : AlarmState). x.rings) same in
      let more = later.rings in omega (arith, rings, more))
]

-- UNTIL IT RINGS

alarm_due : (k : KernelState) (n : ℕ) (a : AlarmState) → slice_get k.times.alarms n ≡ Some a → goes_on a ≡ true → a.next ≤ clock k.times a.alarm.cpu → is_due k a.alarm.cpu ≡ true
alarm_due k n a at more come =
    come_due k.times a.alarm.cpu (record { moment = a.next; what = due.Alarm n }) ((has_entries k.times a.alarm.cpu).alarms n a at refl more) come

due_until : (k : KernelState) (turns : List ℕ) (n : ℕ) (a : AlarmState) → IsReached k → slice_get k.times.alarms n ≡ Some a → goes_on a ≡ true → a.next ≤ clock k.times a.alarm.cpu →
    slice_get (run k turns).times.alarms n ≡ Some a → AreDue k turns a.alarm.cpu
due_until k [] n a r at more come ends = record { due = refl; none = refl }
due_until k (by ∷ turns) n a r at more come ends =
    let rises = clock_rises k by a.alarm.cpu in
    let rest = due_until (after k by) turns n a (reached_after k by r) (still_after k by turns n a at ends) more (omega (arith, rises, come)) ends in
    let due : by ≡ a.alarm.cpu → is_due k by ≡ true = λ same. ap (is_due k) same ∙ alarm_due k n a at more come in
    let sets = ap one_if (sets_none k by a.alarm.cpu r (λ same. nobody_acts k by (due same))) in
    let here = counts (by == a.alarm.cpu) refl due in
    let all = rest.due in
    let none = rest.none in
    record { due = omega (arith, all, here); none = omega (arith, none, sets) }
  where
    counts : (t : Bool) → (by == a.alarm.cpu) ≡ t → (by ≡ a.alarm.cpu → is_due k by ≡ true) → one_if (by == a.alarm.cpu) ≡ one_if ((by == a.alarm.cpu) && is_due k by)
    counts true is due = let one = due (eqb-true by a.alarm.cpu is) in rw (is, one) refl
    counts false is due = rw is refl

pub rings_in_time : (s : Scenario) (before turns : List ℕ) (n : ℕ) (a : AlarmState) → slice_get (run (boot s) before).times.alarms n ≡ Some a → goes_on a ≡ true →
    a.next ≤ clock (run (boot s) before).times a.alarm.cpu → slice_get (run (run (boot s) before) turns).times.alarms n ≡ Some a → IsPrompt (run (boot s) before) turns a.alarm.cpu
rings_in_time s before turns n a at more come ends =
    let h = due_until (run (boot s) before) turns n a (record { scenario = s; turns = before; is = refl }) at more come ends in
    let few = few_are_due s before turns a.alarm.cpu in
    let due = h.due in let none = h.none in omega arith
