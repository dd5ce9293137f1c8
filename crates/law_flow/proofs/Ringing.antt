-- What comes by itself on a processor of the side's: the same in two states, but for what an alarm at another's semaphore finds there.
use Rattle.std.proofs.Common.{◌≡◌, ℕ, zero, suc, List, [], ◌∷◌, length, refl, sym, ap, ap₂, ◌∙◌, subst, inl, inr}
use Rattle.std.specs.Prelude.{Bool, true, false, not, if◌then◌else◌, map, IsSome, slice_get, slice_set, option_and_then, Option, Some, None}
use Rattle.nova_range.specs.declared.status.Status.{Status}
use Rattle.nova_range.specs.Statuses.{status_code}
use Rattle.nova_range.specs.declared.status.Status.TheVariants.{Success, Timeout}
use Rattle.nova_model.specs.Boot.{Scenario, boot}
use Rattle.nova_model.specs.Choice.{Candidate, choice, next_to_act, unless_due}
use Rattle.nova_model.specs.Runs.{after, run}
use Rattle.nova_model.specs.Semaphores.{raised, semaphore, without_one, woken}
use Rattle.nova_model.specs.State.{KernelState, Semaphore, deadline_of, entry, pd_of}
use Rattle.nova_model.specs.Times.{alarm_sm, deadline_sm, due_on, rung_in, rung_once}
use Rattle.nova_model.specs.Turn.{event_without, number_in, status_of, whom_of}
use Rattle.nova_model.specs.declared.event.Event.{Event}
use Rattle.nova_model.specs.declared.event.EventKind.{EventKind}
use Rattle.nova_model.specs.declared.event.EventKind.TheVariants.{Irq, Late}
use Rattle.nova_model.specs.declared.times.Alarm.{Alarm}
use Rattle.nova_model.specs.declared.times.AlarmState.{AlarmState}
use Rattle.nova_model.specs.declared.times.Deadline.{Deadline}
use Rattle.nova_model.specs.declared.times.Due.{Due}
use Rattle.nova_model.specs.declared.times.Due.TheVariants as due
use Rattle.law_forest.specs.Effects.{Falls, Passing, Ticks, all_edited, clears_by, deadlines_with, ends_by, passing_ends, passing_semaphore, semaphores_with, with_status}
use Rattle.law_forest.specs.Turns.{IsPassing, passing, passing_event, turned}
use Rattle.law_forest.proofs.Turning.{due_turn}
use Rattle.law_turns.proofs.Dues.{due_is}
use Rattle.law_turns.proofs.Links.{place}
use Rattle.law_turns.proofs.Setting.{get_other}
use Rattle.law_isolation.specs.Sound.{IsSound}
use Rattle.law_integrity.specs.Confined.{Of}
use Rattle.law_flow.specs.Flow.{AreAlike, fronts, if_own, own_turn}
use Rattle.law_flow.specs.Processors.{AreTimed, IsAtHome, rings_without, unfound, unnumbered_event}
use Rattle.law_integrity.proofs.Passing.{due_in}
use Rattle.law_flow.proofs.Others.{IsForeign}
use Rattle.law_flow.proofs.Apart.{IsKeptApart, others_left}
use Rattle.law_flow.proofs.Guarding.{alarm_was}
use Rattle.law_flow.proofs.Seeing.{Both, semaphore_same}
use Rattle.law_flow.proofs.Doing.{Shown, shown_contexts}
use Rattle.law_flow.proofs.Tables.{change_same, deadlines_same, edits_alike, fronts_alike}
use Rattle.law_flow.proofs.Timing.{deadline_mine}
use Rattle.law_flow.proofs.Paying.{clocks_ticked}
use Rattle.law_flow.proofs.Turns.{alike_flipped, alike_through}

-- WHAT COMES BY ITSELF ON A PROCESSOR OF THE SIDE'S

-- it ends the same waits in both, changes the same semaphore in the same way, and has the same event
pub record PassSame (k l : KernelState) (cpu : ℕ) (p : Passing) : Type 0 where
  pub ends : passing_ends l p ≡ passing_ends k p
  pub semaphore : passing_semaphore l p ≡ passing_semaphore k p
  pub event : passing_event l cpu p ≡ passing_event k cpu p

pub passed_alike : (k l : KernelState) (S P : ℕ → Type 0) → Both k l S P → (cpu : ℕ) (p : Passing) → PassSame k l cpu p → AreAlike (turned k cpu (passing k p)) (turned l cpu (passing l p)) S P
passed_alike k l S P b cpu p same = record {
  objects = b.alike.objects;
  fronts = λ n q.
      ap (λ (e : Option (ℕ × Status)). slice_get (fronts (all_edited l.contexts (ends_by e))) n) same.ends ∙ fronts_alike P k.contexts l.contexts (ends_by (passing_ends k p)) b.alike.fronts n q;
  contexts = λ n q s.
      ap (λ (e : Option (ℕ × Status)). slice_get (all_edited l.contexts (ends_by e)) n) same.ends
      ∙ edits_alike (Shown k S P) k.contexts l.contexts (ends_by (passing_ends k p)) (shown_contexts k l S P b) n (q, s);
  messages = b.alike.messages;
  transfers = b.alike.transfers;
  identifiers = b.alike.identifiers;
  semaphores = λ n q.
      ap (λ (o : Option (ℕ × (Semaphore → Semaphore))). slice_get (semaphores_with l.semaphores o) n) same.semaphore
      ∙ change_same P k.semaphores l.semaphores (passing_semaphore k p) b.alike.semaphores n q;
  ticks = b.alike.ticks;
  deadlines = λ n q.
      ap (λ (e : Option (ℕ × Status)). slice_get (deadlines_with l.times.deadlines (clears_by e)) n) same.ends
      ∙ deadlines_same P k.times.deadlines l.times.deadlines (clears_by (passing_ends k p)) b.alike.deadlines n q;
  spaces = b.alike.spaces;
  origins = b.alike.origins;
  frames = b.alike.frames;
  size = b.alike.size;
}

abbrev alarm_ends : KernelState → Option AlarmState → Option (ℕ × Status)
alarm_ends k o = with_status Success (whom_of (woken (semaphore k.semaphores (alarm_sm o))))

abbrev rung_event : ℕ → ℕ → Semaphore → Event
rung_event cpu n s = event_without cpu (number_in (whom_of (woken s))) Irq n (status_of (woken s))

-- where an alarm is due, its semaphore is of the side's part
abbrev pub IsWithin : KernelState → (ℕ → Type 0) → Passing → Type 0
IsWithin k P (Falls (due.Alarm n)) = P (alarm_sm (slice_get k.times.alarms n))
IsWithin k P other = Unit {0}

-- an alarm of such a processor is the same in both
alarm_same : (k l : KernelState) (P C : ℕ → Type 0) → AreTimed k l P C → (cpu n : ℕ) → C cpu → due_on k.times cpu ≡ Some (due.Alarm n) → slice_get l.times.alarms n ≡ slice_get k.times.alarms n
alarm_same k l P C t cpu n c is =
    let its = due_is k.times cpu (due.Alarm n) is in
    t.alarms n its.entry.alarm its.entry.there (subst C (sym its.entry.its) c) ∙ sym its.entry.there

pub pass_same : (k l : KernelState) (S P C : ℕ → Type 0) → Both k l S P → IsSound k → IsAtHome k S P C → AreTimed k l P C → (cpu : ℕ) (p : Passing) → C cpu → IsPassing k cpu p → IsWithin k P p → PassSame k l cpu p
pass_same k l S P C b sound home t cpu (Falls (due.Alarm n)) c is mine =
    let one = alarm_same k l P C t cpu n c is in
    record {
      ends = ap (alarm_ends l) one ∙ ap (λ (s : Semaphore). with_status Success (whom_of (woken s))) (semaphore_same k l S P b (alarm_sm (slice_get k.times.alarms n)) mine);
      semaphore = ap (λ (o : Option AlarmState). Some (alarm_sm o, raised)) one;
      event = ap (λ (o : Option AlarmState). rung_event cpu n (semaphore l.semaphores (alarm_sm o))) one
          ∙ ap (rung_event cpu n) (semaphore_same k l S P b (alarm_sm (slice_get k.times.alarms n)) mine);
    }
pass_same k l S P C b sound home t cpu (Falls (due.Deadline ec)) c is mine =
    let its = due_is k.times cpu (due.Deadline ec) is in
    let p = deadline_mine k S P C sound b.side home ec its.entry.deadline its.entry.there (subst C (sym its.entry.its) c) in
    let one : deadline_of l.times ec ≡ deadline_of k.times ec = ap (λ (o : Option (Option Deadline)). entry o) (b.alike.deadlines ec p) in
    record {
      ends = refl;
      semaphore = ap (λ (o : Option Deadline). Some (deadline_sm o, without_one ec)) one;
      event = ap (λ (o : Option Deadline). event_without cpu ec Late (deadline_sm o) (status_code Timeout)) one;
    }
pass_same k l S P C b sound home t cpu Ticks c is mine = record { ends = refl; semaphore = refl; event = refl }

set_there : {T : Type 0} (xs : List T) (n : ℕ) (x : T) → IsSome (slice_get xs n) → slice_get (slice_set xs n x) n ≡ Some x
set_there [] n x there = absurd (cc)
set_there (y ∷ xs) zero x there = refl
set_there (y ∷ xs) (suc n) x there = set_there xs n x there

rung_same : (C : ℕ → Type 0) (xs ys : List AlarmState) (n : ℕ) (b : AlarmState) → slice_get xs n ≡ Some b → slice_get ys n ≡ Some b →
    ((i : ℕ) (a : AlarmState) → slice_get xs i ≡ Some a → C a.alarm.cpu → slice_get ys i ≡ Some a) → (i : ℕ) (a : AlarmState) → slice_get (rung_in xs n (slice_get xs n)) i ≡ Some a → C a.alarm.cpu →
    slice_get (rung_in ys n (slice_get ys n)) i ≡ Some a
rung_same C xs ys n b first second same i a at c = elim (place i n) [
  | inl is ↦
      let ours : slice_get (rung_in xs n (slice_get xs n)) i ≡ Some (rung_once b) =
      ap (λ (o : Option AlarmState). slice_get (rung_in xs n o) i) first ∙ ap (slice_get (slice_set xs n (rung_once b))) is ∙ set_there xs n (rung_once b) (subst IsSome (sym first) refl) in
      let theirs : slice_get (rung_in ys n (slice_get ys n)) i ≡ Some (rung_once b) =
      ap (λ (o : Option AlarmState). slice_get (rung_in ys n o) i) second ∙ ap (slice_get (slice_set ys n (rung_once b))) is ∙ set_there ys n (rung_once b) (subst IsSome (sym second) refl) in
      theirs ∙ sym ours ∙ at
  | inr other ↦
      ap (λ (o : Option AlarmState). slice_get (rung_in ys n o) i) second ∙ get_other ys n i (rung_once b) other
      ∙ same i a (sym (get_other xs n i (rung_once b) other) ∙ sym (ap (λ (o : Option AlarmState). slice_get (rung_in xs n o) i) first) ∙ at) c
]

pub passed_timed : (k l : KernelState) (P C : ℕ → Type 0) (cpu : ℕ) (p : Passing) → AreTimed k l P C → C cpu → IsPassing k cpu p → AreTimed (turned k cpu (passing k p)) (turned l cpu (passing l p)) P C
passed_timed k l P C cpu (Falls (due.Alarm n)) t c is =
    let its = due_is k.times cpu (due.Alarm n) is in
    let here : C its.entry.alarm.alarm.cpu = subst C (sym its.entry.its) c in
    let there = t.alarms n its.entry.alarm its.entry.there here in
    record {
      clocks = clocks_ticked k l P C cpu t c;
      alarms = rung_same C k.times.alarms l.times.alarms n its.entry.alarm its.entry.there there t.alarms;
      same_alarms = rung_same C l.times.alarms k.times.alarms n its.entry.alarm there its.entry.there t.same_alarms;
      left = t.left;
      order = t.order;
    }
passed_timed k l P C cpu (Falls (due.Deadline ec)) t c is = record { clocks = clocks_ticked k l P C cpu t c; alarms = t.alarms; same_alarms = t.same_alarms; left = t.left; order = t.order }
passed_timed k l P C cpu Ticks t c is = record { clocks = clocks_ticked k l P C cpu t c; alarms = t.alarms; same_alarms = t.same_alarms; left = t.left; order = t.order }

-- IN A TURN OF NOBODY'S

-- nobody acts
pub nobody_own : (S : ℕ → Bool) (k : KernelState) (cpu : ℕ) → next_to_act k cpu ≡ None → own_turn S k cpu ≡ None
nobody_own S k cpu none = ap (λ (o : Option Candidate). option_and_then (λ c. if_own (S (pd_of k c.actor)) c) o) none

pub due_nobody : (k : KernelState) (cpu : ℕ) (what : Due) → due_on k.times cpu ≡ Some what → next_to_act k cpu ≡ None
unfolding next_to_act
due_nobody k cpu what is = ap (λ (o : Option Due). unless_due o (choice k cpu)) is

pub not_both : {A : Type 0} (t : Bool) → t ≡ true → t ≡ false → A
not_both true first second = absurd (cc)
not_both false first second = absurd (cc)

-- what is due is this alarm, which rings at no semaphore of the side's
foreign_ring : (k : KernelState) (P : ℕ → Bool) (n : ℕ) → P (alarm_sm (slice_get k.times.alarms n)) ≡ false → IsForeign k (Of P) (Some (due.Alarm n))
foreign_ring k P n out = record {
  alarms = λ i a is at mine.
      let one : n ≡ i = cc in
      not_both (P a.alarm.sm) mine (sym (ap (λ (o : Option AlarmState). P (alarm_sm o)) (ap (slice_get k.times.alarms) one ∙ at)) ∙ out);
  deadlines = λ i is mine. absurd (cc);
}

-- such an alarm leaves the side's part alone: whom it wakes is none of the side's
pub rung_elsewhere : (creates : Bool) (s : Scenario) (before : List ℕ) (S P : ℕ → Bool) (T : ℕ → Type 0) (cpu n : ℕ) → IsKeptApart creates (run (boot s) before) S P T → due_on (run (boot s) before).times cpu ≡ Some (due.Alarm n) →
    P (alarm_sm (slice_get (run (boot s) before).times.alarms n)) ≡ false →
    AreAlike (run (boot s) before) (turned (run (boot s) before) cpu (passing (run (boot s) before) (Falls (due.Alarm n)))) (Of S) (Of P)
rung_elsewhere creates s before S P T cpu n part is out =
    let k = run (boot s) before in
    subst (λ (l : KernelState). AreAlike k l (Of S) (Of P)) (due_turn k cpu (due.Alarm n) is)
    (others_left creates s before S P T cpu part (nobody_own S k cpu (due_nobody k cpu (due.Alarm n) is)) foreign (λ yes none. ap (λ (l : KernelState). length l.objects) (due_turn k cpu (due.Alarm n) is))).same
  where
    foreign : (p : Passing) → IsPassing (run (boot s) before) cpu p → IsForeign (run (boot s) before) (Of P) (due_in p)
    foreign (Falls what) passes = subst (IsForeign (run (boot s) before) (Of P)) (sym is ∙ passes) (foreign_ring (run (boot s) before) P n out)
    foreign Ticks passes = record { alarms = λ i a none at mine. absurd (cc); deadlines = λ i none mine. absurd (cc) }

-- and in both
pub rung_alike : (creates : Bool) (a b : Scenario) (x y : List ℕ) (S P : ℕ → Bool) (C T U : ℕ → Type 0) (cpu n : ℕ) → IsKeptApart creates (run (boot a) x) S P T → IsKeptApart creates (run (boot b) y) S P U →
    AreAlike (run (boot a) x) (run (boot b) y) (Of S) (Of P) → AreTimed (run (boot a) x) (run (boot b) y) (Of P) C → C cpu → due_on (run (boot a) x).times cpu ≡ Some (due.Alarm n) →
    due_on (run (boot b) y).times cpu ≡ Some (due.Alarm n) → P (alarm_sm (slice_get (run (boot a) x).times.alarms n)) ≡ false →
    AreAlike (turned (run (boot a) x) cpu (passing (run (boot a) x) (Falls (due.Alarm n)))) (turned (run (boot b) y) cpu (passing (run (boot b) y) (Falls (due.Alarm n)))) (Of S) (Of P)
rung_alike creates a b x y S P C T U cpu n first second alike t c is its out =
    let k = run (boot a) x in
    let l = run (boot b) y in
    let m = turned k cpu (passing k (Falls (due.Alarm n))) in
    let other : P (alarm_sm (slice_get l.times.alarms n)) ≡ false = ap (λ (o : Option AlarmState). P (alarm_sm o)) (alarm_same k l (Of P) C t cpu n c is) ∙ out in
    alike_through m l (turned l cpu (passing l (Falls (due.Alarm n)))) (Of S) (Of P)
    (alike_through m k l (Of S) (Of P) (alike_flipped k m (Of S) (Of P) (rung_elsewhere creates a x S P T cpu n first is out)) alike) (rung_elsewhere creates b y S P U cpu n second its other)

-- WHAT ITS EVENT TELLS

-- those of these alarms that are of the side's processors ring within its part
abbrev pub RingThere : (ℕ → Bool) → KernelState → (ℕ → Bool) → (ℕ → Bool) → Type 0
RingThere A k P C = (n : ℕ) (a : AlarmState) → slice_get k.times.alarms n ≡ Some a → C a.alarm.cpu ≡ true → A n ≡ true → P a.alarm.sm ≡ true

-- alarms ring where they rang
pub ring_next : (A : ℕ → Bool) (s : Scenario) (before : List ℕ) (P C : ℕ → Bool) (cpu : ℕ) → RingThere A (run (boot s) before) P C → RingThere A (after (run (boot s) before) cpu) P C
ring_next A s before P C cpu rings = λ n a at c it.
    let b = alarm_was s before cpu n a at in
    subst (λ (x : Alarm). P x.sm ≡ true) b.2 (rings n b.0 b.1 (subst (λ (x : Alarm). C x.cpu ≡ true) (sym b.2) c) it)

-- an alarm that rings elsewhere is none of them
pub none_there : (A : ℕ → Bool) (k : KernelState) (P C : ℕ → Bool) (cpu n : ℕ) → RingThere A k P C → C cpu ≡ true → due_on k.times cpu ≡ Some (due.Alarm n) → P (alarm_sm (slice_get k.times.alarms n)) ≡ false → A n ≡ false
none_there A k P C cpu n rings c is out = by_test (A n) refl
  where
    by_test : (t : Bool) → A n ≡ t → t ≡ false
    by_test false it = refl
    by_test true it =
        let its = due_is k.times cpu (due.Alarm n) is in
        let a = its.entry.alarm in
        not_both (P a.alarm.sm) (rings n a its.entry.there (ap C its.entry.its ∙ c) it) (sym (ap (λ (o : Option AlarmState). P (alarm_sm o)) its.entry.there) ∙ out)

-- its event tells nothing but that it rang
pub unfound_ring : (A : ℕ → Bool) (k : KernelState) (cpu n : ℕ) → A n ≡ false → unfound A (unnumbered_event (passing_event k cpu (Falls (due.Alarm n)))) ≡ event_without cpu 0 Irq n 0
unfound_ring A k cpu n out =
    let s = semaphore k.semaphores (alarm_sm (slice_get k.times.alarms n)) in
    ap (λ (t : Bool). if not t then event_without cpu 0 Irq n 0 else unnumbered_event (rung_event cpu n s)) out

-- nothing is left out of what all of them find
all_found : (kind : EventKind) (n : ℕ) → rings_without (λ n. true) kind n ≡ false
all_found Irq n = refl
all_found other n = refl

pub unfound_none : (events : List Event) → map (unfound (λ n. true)) events ≡ events
unfound_none [] = refl
unfound_none (e ∷ es) = ap₂ (λ (t : Bool) (rest : List Event). (if t then record e { ec = 0; b = 0 } else e) ∷ rest) (all_found e.kind e.a) (unfound_none es)
