-- A turn in which no context acts, part by part: what is due answers a blocked context, and all else stays.
use Rattle.std.proofs.Common.{◌≡◌, ℕ, zero, suc, List, [], ◌∷◌, ◌⊎◌, refl, sym, ap, ◌∙◌, subst, inl, inr}
use Rattle.std.specs.Prelude.{true, IfSome, IsSome, is_some, slice_get, slice_set, Option, Some, None, Ok, Err, Result, option_map}
use Rattle.std.proofs.lemmas.Option.{same_Some}
use Rattle.nova_range.specs.declared.status.Status.TheVariants.{Success, Timeout}
use Rattle.nova_model.specs.Choice.{Candidate}
use Rattle.nova_model.specs.Deeds.{answered}
use Rattle.nova_model.specs.Semaphores.{changed, raised, semaphore, semaphore_at, without_one, woken}
use Rattle.nova_model.specs.State.{KernelState, Semaphore, context_at, deadline_of, ec_in, ec_of, entry}
use Rattle.nova_model.specs.Times.{alarm_sm, deadline_sm, next_moment, rung_in, rung_once}
use Rattle.nova_model.specs.Turn.{chosen_by, counted, event_without, number_in, state_after, status_of, tick_by, turn, turn_by, whom_of}
use Rattle.nova_model.specs.declared.context.EcState.{EcState}
use Rattle.nova_model.specs.declared.context.State.TheVariants.{Blocked}
use Rattle.nova_model.specs.declared.event.EventKind.TheVariants.{Irq}
use Rattle.nova_model.specs.declared.semaphore.Overflow.{Overflow}
use Rattle.nova_model.specs.declared.times.AlarmState.{AlarmState}
use Rattle.nova_model.specs.declared.times.Deadline.{Deadline}
use Rattle.nova_model.specs.declared.times.Due.{Due}
use Rattle.nova_model.specs.declared.times.Due.TheVariants as due
use Rattle.law_forest.specs.Effects.{Falls, Passing, Ticks, alarm_up, alarms_with, all_edited, clears_by, deadlines_with, ends_by, passing_ends, passing_rings, passing_semaphore, semaphores_with, with_status}
use Rattle.law_forest.specs.Turns.{IsPassing, passing, turned}
use Rattle.law_forest.proofs.Turning.{calm_counts, due_answers, due_turn, event_answered, event_in, tick_turn}
use Rattle.law_turns.proofs.Blocking.{first_waits, woken_blocked}
use Rattle.law_turns.proofs.Dues.{due_is}
use Rattle.law_turns.proofs.Links.{place}
use Rattle.law_turns.proofs.Passing.{blocked_state as waits_there, due_deadline as deadline_due, late_waits}
use Rattle.law_turns.proofs.Serving.{blocked_there}
use Rattle.law_turns.proofs.Setting.{entry_itself, entry_other}
use Rattle.law_turns.proofs.TablesFit.{TablesFit}
use Rattle.law_integrity.specs.Integrity.{AlarmByTime, ClearedAwake, ClearedLate, ContextByTime, DeadlineByTime, IsByTime, IsComing, IsDone, IsRaised, LeftByLate, Rings, Rung, RungAwake, SemaphoreByTime, TimedOut, passed_by}
use Rattle.law_integrity.proofs.Entries.{change_each, get_set}
use Rattle.law_integrity.proofs.Waking.{alarm_raises, changed_at, cleared_itself}

-- what is due, if anything
abbrev pub due_in : Passing → Option Due
due_in (Falls what) = Some what
due_in Ticks = None

pub coming : (k : KernelState) (cpu : ℕ) (p : Passing) → IsPassing k cpu p → IsComing k cpu (due_in p)
coming k cpu (Falls what) is = due_is k.times cpu what is
coming k cpu Ticks is = (is.0, ap (option_map (λ (c : Candidate). c.sc)) is.1, is.2)

-- the alarm, or the deadline, that is due
abbrev alarm_due : (k : KernelState) (cpu alarm : ℕ) → IsPassing k cpu (Falls (due.Alarm alarm)) → (a : AlarmState) × (slice_get k.times.alarms alarm ≡ Some a)
alarm_due k cpu alarm is = let its = due_is k.times cpu (due.Alarm alarm) is in (its.entry.alarm, its.entry.there)

-- at the alarm's semaphore
first_rung : (k : KernelState) (alarm w : ℕ) (a : AlarmState) → slice_get k.times.alarms alarm ≡ Some a → alarm_up k alarm ≡ Ok (Some w) →
    (rest : List ℕ) × ((semaphore k.semaphores a.alarm.sm).waiting ≡ w ∷ rest)
first_rung k alarm w a there up =
    let s = semaphore k.semaphores (alarm_sm (slice_get k.times.alarms alarm)) in
    let line = first_waits s.count w s.waiting up in
    (line.0, ap (λ (o : Option AlarmState). (semaphore k.semaphores (alarm_sm o)).waiting) (sym there) ∙ line.1)

-- EXECUTION CONTEXTS

abbrev IsContext : KernelState → Passing → ℕ → Option EcState → Type 0
IsContext k p n o = (o ≡ context_at k n) ⊎ ContextByTime k (due_in p) n (context_at k n) o

one_ends : (k : KernelState) (p : Passing) (w n : ℕ) (y : EcState) → (n ≡ w → ContextByTime k (due_in p) n (context_at k n) (Some y)) → is_some (ec_in k.contexts w) ≡ true →
    IsContext k p n (ec_in (slice_set k.contexts w (Some y)) n)
one_ends k p w n y new there = elim (place n w) [
  | inl same ↦
      subst (λ (o : Option EcState). IsContext k p n o) (sym (ap (ec_in (slice_set k.contexts w (Some y))) same ∙ entry_itself k.contexts w y there)) (inr (new same))
  | inr other ↦ inl (entry_other k.contexts w n y other)
]

pub contexts_in_time : (k : KernelState) (cpu n : ℕ) (p : Passing) → IsPassing k cpu p → TablesFit k → IsContext k p n (ec_in (all_edited k.contexts (ends_by (passing_ends k p))) n)
contexts_in_time k cpu n (Falls (due.Alarm alarm)) is fits = by_up (alarm_up k alarm) refl
  where
    its : (a : AlarmState) × (slice_get k.times.alarms alarm ≡ Some a)
    its = alarm_due k cpu alarm is

    by_up : (o : Result (Option ℕ) Overflow) → alarm_up k alarm ≡ o → IsContext k (Falls (due.Alarm alarm)) n (ec_in (all_edited k.contexts (ends_by (with_status Success (whom_of o)))) n)
    by_up (Ok None) up = inl refl
    by_up (Err full) up = inl refl
    by_up (Ok (Some w)) up =
        let sm = alarm_sm (slice_get k.times.alarms alarm) in
        let blocked = woken_blocked k sm w up fits.blocked in
        let there : ec_in k.contexts w ≡ Some (ec_of k.contexts w) = blocked_there k.contexts w sm blocked in
        let waits = waits_there (ec_in k.contexts w) (ec_of k.contexts w) sm there blocked in
        let first = first_rung k alarm w its.0 its.1 up in
        one_ends k (Falls (due.Alarm alarm)) w n (answered (ec_of k.contexts w) Success None)
        (λ same. subst (λ (m : ℕ). ContextByTime k (Some (due.Alarm alarm)) m (context_at k m) (Some (answered (ec_of k.contexts w) Success None))) (sym same)
        (RungAwake alarm its.0 refl its.1 first.0 first.1 (ec_of k.contexts w) there (waits ∙ ap (λ (o : Option AlarmState). Blocked (alarm_sm o)) its.1) refl))
        (ap is_some there)
contexts_in_time k cpu n (Falls (due.Deadline ec)) is fits =
    let its = deadline_due k cpu ec is in
    let sm = deadline_sm (deadline_of k.times ec) in
    let blocked = late_waits k cpu ec is fits.late in
    let there : ec_in k.contexts ec ≡ Some (ec_of k.contexts ec) = blocked_there k.contexts ec sm blocked in
    let waits = waits_there (ec_in k.contexts ec) (ec_of k.contexts ec) sm there blocked in
    one_ends k (Falls (due.Deadline ec)) ec n (answered (ec_of k.contexts ec) Timeout None)
    (λ same. subst (λ (m : ℕ). ContextByTime k (Some (due.Deadline ec)) m (context_at k m) (Some (answered (ec_of k.contexts ec) Timeout None))) (sym same)
    (TimedOut its.0 refl its.1 (ec_of k.contexts ec) there (waits ∙ ap (λ (o : Option Deadline). Blocked (deadline_sm o)) its.1) refl))
    (ap is_some there)
contexts_in_time k cpu n Ticks is fits = inl refl

-- SEMAPHORES

pub semaphores_in_time : (k : KernelState) (cpu n : ℕ) (p : Passing) → IsPassing k cpu p →
    (semaphore_at (semaphores_with k.semaphores (passing_semaphore k p)) n ≡ semaphore_at k.semaphores n)
    ⊎ SemaphoreByTime k (due_in p) n (semaphore_at k.semaphores n) (semaphore_at (semaphores_with k.semaphores (passing_semaphore k p)) n)
semaphores_in_time k cpu n (Falls (due.Alarm alarm)) passes =
    let its = alarm_due k cpu alarm passes in
    change_each Q k.semaphores (Some (sm, raised)) n (inl refl) (λ change s is there.
    inr (subst (λ (q : ℕ × (Semaphore → Semaphore)). semaphore_at k.semaphores q.0 ≡ Some s → SemaphoreByTime k what q.0 (semaphore_at k.semaphores q.0) (Some (q.1 s)))
    (same_Some (sm, raised) (n, change) is) (λ at. Rung alarm its.0 refl its.1 (ap alarm_sm its.1) s at refl) there))
  where
    sm : ℕ
    sm = alarm_sm (slice_get k.times.alarms alarm)

    what : Option Due
    what = Some (due.Alarm alarm)

    Q : Option Semaphore → Type 0
    Q o = (o ≡ semaphore_at k.semaphores n) ⊎ SemaphoreByTime k what n (semaphore_at k.semaphores n) o
semaphores_in_time k cpu n (Falls (due.Deadline ec)) passes =
    let its = deadline_due k cpu ec passes in
    change_each Q k.semaphores (Some (sm, without_one ec)) n (inl refl) (λ change s is there.
    inr (subst (λ (q : ℕ × (Semaphore → Semaphore)). semaphore_at k.semaphores q.0 ≡ Some s → SemaphoreByTime k what q.0 (semaphore_at k.semaphores q.0) (Some (q.1 s)))
    (same_Some (sm, without_one ec) (n, change) is) (λ at. LeftByLate ec its.0 refl its.1 (ap deadline_sm its.1) s at refl) there))
  where
    sm : ℕ
    sm = deadline_sm (deadline_of k.times ec)

    what : Option Due
    what = Some (due.Deadline ec)

    Q : Option Semaphore → Type 0
    Q o = (o ≡ semaphore_at k.semaphores n) ⊎ SemaphoreByTime k what n (semaphore_at k.semaphores n) o
semaphores_in_time k cpu n Ticks passes = inl refl

-- TIMES

abbrev IsDeadline : KernelState → Passing → ℕ → Option Deadline → Type 0
IsDeadline k p n o = (o ≡ deadline_of k.times n) ⊎ DeadlineByTime k (due_in p) n o

one_cleared : (k : KernelState) (p : Passing) (w n : ℕ) → (n ≡ w → DeadlineByTime k (due_in p) n None) → IsDeadline k p n (entry (slice_get (slice_set k.times.deadlines w None) n))
one_cleared k p w n new = get_set (λ (o : Option (Option Deadline)). IsDeadline k p n (entry o)) k.times.deadlines w n None (inl refl) (λ same. inr (new same))

pub deadlines_in_time : (k : KernelState) (cpu n : ℕ) (p : Passing) → IsPassing k cpu p → IsDeadline k p n (entry (slice_get (deadlines_with k.times.deadlines (clears_by (passing_ends k p))) n))
deadlines_in_time k cpu n (Falls (due.Alarm alarm)) is = by_up (alarm_up k alarm) refl
  where
    by_up : (o : Result (Option ℕ) Overflow) → alarm_up k alarm ≡ o →
        IsDeadline k (Falls (due.Alarm alarm)) n (entry (slice_get (deadlines_with k.times.deadlines (clears_by (with_status Success (whom_of o)))) n))
    by_up (Ok None) up = inl refl
    by_up (Err full) up = inl refl
    by_up (Ok (Some w)) up =
        let its = alarm_due k cpu alarm is in
        let first = first_rung k alarm w its.0 its.1 up in
        one_cleared k (Falls (due.Alarm alarm)) w n (λ same. subst (λ (m : ℕ). DeadlineByTime k (Some (due.Alarm alarm)) m None) (sym same) (ClearedAwake alarm its.0 refl its.1 first.0 first.1 refl))
deadlines_in_time k cpu n (Falls (due.Deadline ec)) is =
    one_cleared k (Falls (due.Deadline ec)) ec n (λ same. ClearedLate (ap (λ (m : ℕ). Some (due.Deadline m)) (sym same)) refl)
deadlines_in_time k cpu n Ticks is = inl refl

rung_each : (alarms : List AlarmState) (alarm n : ℕ) (o : Option AlarmState) → slice_get alarms alarm ≡ o →
    (slice_get (rung_in alarms alarm o) n ≡ slice_get alarms n) ⊎ AlarmByTime (Some (due.Alarm alarm)) n (slice_get alarms n) (slice_get (rung_in alarms alarm o) n)
rung_each alarms alarm n None at = inl refl
rung_each alarms alarm n (Some a) at =
    get_set (λ (o : Option AlarmState). (o ≡ slice_get alarms n) ⊎ AlarmByTime (Some (due.Alarm alarm)) n (slice_get alarms n) o) alarms alarm n (rung_once a) (inl refl)
    (λ same. inr (Rings (ap (λ (m : ℕ). Some (due.Alarm m)) (sym same)) a (ap (slice_get alarms) same ∙ at) refl))

pub alarms_in_time : (k : KernelState) (n : ℕ) (p : Passing) →
    (slice_get (alarms_with k.times.alarms (passing_rings p)) n ≡ slice_get k.times.alarms n)
    ⊎ AlarmByTime (due_in p) n (slice_get k.times.alarms n) (slice_get (alarms_with k.times.alarms (passing_rings p)) n)
alarms_in_time k n (Falls (due.Alarm alarm)) = rung_each k.times.alarms alarm n (slice_get k.times.alarms alarm) refl
alarms_in_time k n (Falls (due.Deadline ec)) = inl refl
alarms_in_time k n Ticks = inl refl

-- A TURN

-- what is due is done
get_itself : {T : Type 0} (xs : List T) (n : ℕ) (x v : T) → slice_get xs n ≡ Some x → slice_get (slice_set xs n v) n ≡ Some v
get_itself [] n x v at = absurd (cc)
get_itself (y ∷ xs) zero x v at = refl
get_itself (y ∷ xs) (suc n) x v at = get_itself xs n x v at

rung_itself : (alarms : List AlarmState) (n : ℕ) (a : AlarmState) → slice_get alarms n ≡ Some a → slice_get (rung_in alarms n (slice_get alarms n)) n ≡ Some (rung_once a)
rung_itself alarms n a at = ap (λ (o : Option AlarmState). slice_get (rung_in alarms n o) n) at ∙ get_itself alarms n a (rung_once a) at

done_in_time : (k : KernelState) (cpu : ℕ) (p : Passing) → IsPassing k cpu p → TablesFit k → IsDone k (turned k cpu (passing k p)) cpu (due_in p)
done_in_time k cpu (Falls (due.Alarm alarm)) is fits =
    let its = alarm_due k cpu alarm is in
    record {
      alarm = its.0;
      there = its.1;
      rises = rung_itself k.times.alarms alarm its.0 its.1;
      whom = whom_of (alarm_up k alarm);
      raises = subst (λ (sm : ℕ). IsRaised k (turned k cpu (passing k (Falls (due.Alarm alarm)))) sm (whom_of (alarm_up k alarm))) (ap alarm_sm its.1) (alarm_raises k cpu alarm fits);
      named = event_answered (turn k cpu) ∙ ap event_in (due_answers k cpu (due.Alarm alarm) is)
          ∙ ap (λ (o : Option AlarmState). Some (event_without cpu (number_in (whom_of (alarm_up k alarm))) Irq alarm (status_of (woken (semaphore k.semaphores (alarm_sm o)))))) its.1;
    }
done_in_time k cpu (Falls (due.Deadline ec)) is fits =
    let its = deadline_due k cpu ec is in
    let sm = deadline_sm (deadline_of k.times ec) in
    let blocked = late_waits k cpu ec is fits.late in
    let there : ec_in k.contexts ec ≡ Some (ec_of k.contexts ec) = blocked_there k.contexts ec sm blocked in
    record {
      deadline = its.0;
      set = its.1;
      context = ec_of k.contexts ec;
      there = there;
      blocked = waits_there (ec_in k.contexts ec) (ec_of k.contexts ec) sm there blocked ∙ ap (λ (o : Option Deadline). Blocked (deadline_sm o)) its.1;
      goes_on = entry_itself k.contexts ec (answered (ec_of k.contexts ec) Timeout None) (ap is_some there);
      leaves = subst (λ (n : ℕ). IfSome (semaphore_at k.semaphores n) (λ s. semaphore_at (changed (without_one ec) k.semaphores sm) n ≡ Some (without_one ec s))) (ap deadline_sm its.1)
          (changed_at (without_one ec) k.semaphores sm);
      cleared = cleared_itself k.times.deadlines ec;
    }
done_in_time k cpu Ticks is fits = tt

-- the state after is that of what comes
passed_is : (k : KernelState) (cpu : ℕ) (p : Passing) → IsPassing k cpu p → turned k cpu (passing k p) ≡ passed_by k cpu (due_in p)
unfolding turn
passed_is k cpu (Falls what) is = sym (due_turn k cpu what is) ∙ ap (λ (o : Option Due). state_after k (turn_by k cpu o)) is
passed_is k cpu Ticks is =
    sym (tick_turn k cpu is.0 is.1 is.2) ∙ ap (λ (o : Option Due). state_after k (turn_by k cpu o)) is.0 ∙ ap (λ (o : Option Candidate). state_after k (chosen_by k cpu o)) is.1
    ∙ by_moment (next_moment k.times cpu) is.2
  where
    by_moment : (o : Option ℕ) → IsSome o → state_after k (tick_by k cpu o) ≡ counted k cpu
    by_moment None some = absurd (cc)
    by_moment (Some moment) some = refl

pub turned_by_time : (k : KernelState) (cpu : ℕ) (p : Passing) → IsPassing k cpu p → TablesFit k → IsByTime k (turned k cpu (passing k p)) cpu (due_in p)
turned_by_time k cpu p is fits = record {
  after = passed_is k cpu p is;
  done = done_in_time k cpu p is fits;
  memory = refl;
  messages = refl;
  contexts = λ n. contexts_in_time k cpu n p is fits;
  transfers = refl;
  objects = refl;
  delegations = refl;
  identifiers = refl;
  semaphores = λ n. semaphores_in_time k cpu n p is;
  deadlines = λ n. deadlines_in_time k cpu n p is;
  alarms = λ n. alarms_in_time k n p;
  clocks = refl;
  budgets = record { budgets = refl; next = refl };
  counts = calm_counts 0 k.stirs.guests;
  turns = refl;
  processors = refl;
  cpus = refl;
  consoles = refl;
}
