-- The firings of a source in the trace of a run from a boot state.
use Rattle.std.proofs.Common.{◌≡◌, ℕ, suc, ◌+◌, ◌*◌, ◌<◌, ◌≤◌, List, refl, sym, ap, ◌∙◌, subst, arith}
use Rattle.std.specs.Prelude.{◌-◌, Bool, true, false, nat_lt, nat_le, slice_get, IfSome, Option, Some, None, option_map}
use Rattle.nova_model.specs.Boot.{Scenario, boot}
use Rattle.nova_model.specs.Choice.{is_quiet}
use Rattle.nova_model.specs.Runs.{run, trace}
use Rattle.nova_model.specs.State.{KernelState}
use Rattle.nova_model.specs.Times.{clock, due_on, goes_on, next_moment}
use Rattle.nova_model.specs.declared.event.Event.{Event}
use Rattle.nova_model.specs.declared.times.Alarm.{Alarm}
use Rattle.law_forest.proofs.Turning.{none_chosen}
use Rattle.law_turns.specs.Moments.{IsEarly}
use Rattle.law_turns.proofs.Idleness.{quiet_idle}
use Rattle.law_turns.proofs.Moments.{early_far}
use Rattle.law_turns.proofs.TablesFit.{boot_run_fits}
use Rattle.nova_gsi.specs.Firings.{alarms_of, clock_at, count_of, fired, fired_before, is_firing, is_on, moment, moments_until, was_due}
use Rattle.nova_gsi.specs.Laws.{AreOfMoments}
use Rattle.nova_gsi.proofs.Boots.{boot_at}
use Rattle.nova_gsi.proofs.Lists.{fired_is, firing_is, first_pass, taken_fewer}
use Rattle.nova_gsi.proofs.Places.{IsAt, end_at, firing_due, none_lost, place_at, still_to_come}

-- from a state in which the source hasn't rung, at clock 0
from_start : (s : Alarm) (n : ℕ) (k : KernelState) (turns : List ℕ) → IsAt s n k 0 0 → AreOfMoments s n (trace k turns)
from_start s n k turns h = record {
  few = let last = (end_at s n k turns 0 0 h).most in let same = fired_is n 0 (trace k turns) in omega (arith, last, same);
  in_time = λ j place there.
      let f = firing_is n 0 (trace k turns) j place there in
      let its = (firing_due s n f.event (0 + fired_before (trace k turns) n f.ahead) (0 + clock_at (trace k turns) s.cpu f.ahead)
      (place_at s n k turns 0 0 h f.ahead f.event f.there) f.fires).0 in
      let one : f.ahead ≡ place = (let stands = f.stands in omega (arith, stands)) in
      let number : 0 + fired_before (trace k turns) n f.ahead ≡ j = (let before = f.before in omega (arith, before)) in
      let due_then : moment s j ≤ 0 + clock_at (trace k turns) s.cpu f.ahead = subst (λ (i : ℕ). moment s i ≤ 0 + clock_at (trace k turns) s.cpu f.ahead) number its in
      let due_now : moment s j ≤ clock_at (trace k turns) s.cpu f.ahead = omega (arith, due_then) in
      subst (λ (p : ℕ). moment s j ≤ clock_at (trace k turns) s.cpu p) one due_now;
  none_lost = λ j place e below there on came few. lost j place e below there on came few;
  none_between = λ j its place e fires before there on came.
      let f = firing_is n 0 (trace k turns) j its fires in
      let most = (firing_due s n f.event (0 + fired_before (trace k turns) n f.ahead) (0 + clock_at (trace k turns) s.cpu f.ahead)
      (place_at s n k turns 0 0 h f.ahead f.event f.there) f.fires).1 in
      let number = f.before in
      let stands = f.stands in
      let ahead : place ≤ f.ahead = omega (arith, stands, before) in
      let fewer = taken_fewer (is_firing n) (trace k turns) place f.ahead ahead in
      lost j place e (omega (arith, most, number)) there on came (omega (arith, fewer, number));
}
  where
    lost : (j place : ℕ) (e : Event) → j < s.count → slice_get (trace k turns) place ≡ Some e → e.cpu ≡ s.cpu → moment s j ≤ clock_at (trace k turns) s.cpu place →
        fired_before (trace k turns) n place ≤ j → was_due e.kind ≡ true
    lost j place e below there on came few =
        none_lost s n e (0 + fired_before (trace k turns) n place) (0 + clock_at (trace k turns) s.cpu place) j (place_at s n k turns 0 0 h place e there) on below
        (omega (arith, came)) (omega (arith, few))

pub of_moments : (scenario : Scenario) (turns : List ℕ) (n : ℕ) (s : Alarm) → slice_get (alarms_of scenario) n ≡ Some s → s.cpu < scenario.cpus →
    AreOfMoments s n (trace (boot scenario) turns)
of_moments scenario turns n s there processor = from_start s n (boot scenario) turns (boot_at scenario n s there processor)

-- the moments that have come are those that it has rung at, where no other has come
moment_least : (s : Alarm) (a b : ℕ) → a ≤ b → moment s a ≤ moment s b
moment_least s a b less = let factor : a * s.period ≤ b * s.period = grind (arith, less) in omega (arith, factor)

come : (s : Alarm) (rings now : ℕ) → rings ≤ s.count → ((j : ℕ) → j < rings → moment s j ≤ now) → (rings < s.count → now < moment s rings) → moments_until s now ≡ rings
come s rings now most past ahead =
    first_pass (λ j. nat_le (moment s j) now) 0 rings s.count most (λ j from below. passes j (past j (omega (arith, below))))
    (λ j from below. fails j (let next = ahead (omega (arith, from, below)) in let rest = moment_least s rings j (omega (arith, from)) in omega (arith, next, rest)))
  where
    passes : (j : ℕ) → moment s j ≤ now → nat_le (moment s j) now ≡ true
    passes j less = grind (arith, less)

    fails : (j : ℕ) → now < moment s j → nat_le (moment s j) now ≡ false
    fails j more = grind (arith, more)

pub fired_until : (scenario : Scenario) (turns : List ℕ) (n : ℕ) (s : Alarm) → slice_get (alarms_of scenario) n ≡ Some s → s.cpu < scenario.cpus →
    due_on (run (boot scenario) turns).times s.cpu ≡ None → fired (trace (boot scenario) turns) n ≡ moments_until s (clock (run (boot scenario) turns).times s.cpu)
fired_until scenario turns n s there processor calm =
    let last = end_at s n (boot scenario) turns 0 0 (boot_at scenario n s there processor) in
    let rings : ℕ = 0 + count_of (is_firing n) (trace (boot scenario) turns) in
    let now : ℕ = 0 + count_of (is_on s.cpu) (trace (boot scenario) turns) in
    let all = come s rings now last.most last.past (λ more. still_to_come s n (run (boot scenario) turns) rings now last calm more) in
    let time : moments_until s (clock (run (boot scenario) turns).times s.cpu) ≡ moments_until s now = ap (moments_until s) last.clock in
    let same : fired (trace (boot scenario) turns) n ≡ rings = (let count = fired_is n 0 (trace (boot scenario) turns) in omega (arith, count)) in
    same ∙ sym all ∙ sym time

-- and all of them in a quiet state
never_due : (k : KernelState) (cpu n : ℕ) → next_moment k.times cpu ≡ None → IsEarly k.times cpu n
never_due k cpu n none = by_next (next_moment k.times cpu) none
  where
    by_next : (o : Option ℕ) → o ≡ None → IfSome (option_map (λ moment. moment - clock k.times cpu) o) (λ left. n ≤ left)
    by_next None is = tt
    by_next (Some moment) is = absurd cc

all_rung : (s : Alarm) (n : ℕ) (k : KernelState) (rings now : ℕ) → IsAt s n k rings now → next_moment k.times s.cpu ≡ None → rings ≡ s.count
all_rung s n k rings now h none = by_test (nat_lt rings s.count) refl
  where
    by_test : (t : Bool) → nat_lt rings s.count ≡ t → rings ≡ s.count
    by_test true is =
        let on : h.alarm.alarm.cpu ≡ s.cpu = ap (λ (a : Alarm). a.cpu) h.its in
        let count : h.alarm.alarm.count ≡ s.count = ap (λ (a : Alarm). a.count) h.its in
        let rung = h.rung in
        let goes : goes_on h.alarm ≡ true = grind (arith, rung, count, is) in
        let far = (early_far k.times s.cpu (suc h.alarm.next) (never_due k s.cpu (suc h.alarm.next) none)).alarms n h.alarm h.there on goes in absurd (omega (arith, far))
    by_test false is = let most = h.most in grind (arith, most, is)

pub fired_all : (scenario : Scenario) (turns : List ℕ) (n : ℕ) (s : Alarm) → slice_get (alarms_of scenario) n ≡ Some s → s.cpu < scenario.cpus →
    is_quiet (run (boot scenario) turns) ≡ true → fired (trace (boot scenario) turns) n ≡ s.count
fired_all scenario turns n s there processor quiet =
    let k = run (boot scenario) turns in
    let last = end_at s n (boot scenario) turns 0 0 (boot_at scenario n s there processor) in
    let below : s.cpu < k.cpus = (let clocks = (boot_run_fits scenario turns).tables.clocks in let there = last.processor in omega (arith, clocks, there)) in
    let none = (none_chosen k s.cpu ((quiet_idle k).0 quiet s.cpu below)).1 in
    let same : fired (trace (boot scenario) turns) n ≡ 0 + count_of (is_firing n) (trace (boot scenario) turns) =
    (let count = fired_is n 0 (trace (boot scenario) turns) in omega (arith, count)) in
    same ∙ all_rung s n k _ _ last none
