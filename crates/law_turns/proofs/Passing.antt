-- What comes by itself: the context that goes on in such a turn was blocked, and all others wait where they did.
use Rattle.law_turns.proofs.Setting.{entry_itself, entry_other}
use Rattle.law_turns.specs.Links.{state_at}
use Rattle.law_turns.proofs.Links.{place}
use Rattle.std.proofs.Common.{◌≡◌, ℕ, refl, sym, ap, ◌∙◌, subst, inl, inr}
use Rattle.std.specs.Prelude.{true, false, Option, Some, None, IfSome, Ok, Err, Result, is_some, slice_get}
use Rattle.nova_range.specs.declared.status.Status.{Status}
use Rattle.nova_range.specs.declared.status.Status.TheVariants.{Success}
use Rattle.nova_model.specs.Deeds.{answered}
use Rattle.nova_model.specs.Edges.{state_in}
use Rattle.nova_model.specs.Semaphores.{upped, waits}
use Rattle.nova_model.specs.State.{Contexts, KernelState, deadline_of, ec_of, with_ec, ec_in}
use Rattle.nova_model.specs.Times.{alarm_sm, deadline_sm}
use Rattle.nova_model.specs.Turn.{whom_of}
use Rattle.nova_model.specs.declared.context.EcState.{EcState}
use Rattle.nova_model.specs.declared.context.State.{State}
use Rattle.nova_model.specs.declared.context.State.TheVariants.{Blocked}
use Rattle.nova_model.specs.declared.semaphore.Overflow.{Overflow}
use Rattle.nova_model.specs.declared.times.Deadline.{Deadline}
use Rattle.nova_model.specs.declared.times.Due.TheVariants as due
use Rattle.law_forest.specs.Effects.{Falls, Passing, Ticks, alarm_up, all_edited, ends_by, passing_effect, passing_ends, passing_semaphore, semaphores_with, with_status}
use Rattle.law_forest.specs.Turns.{IsPassing}
use Rattle.law_turns.specs.Waiting.{AreBlocked, AreDeadlines}
use Rattle.law_turns.proofs.Blocking.{leaves, wakes, wakes_none, woken_blocked}
use Rattle.law_turns.proofs.Dues.{due_is}
use Rattle.law_turns.proofs.Serving.{blocked_there, is_blocked}
use Rattle.law_turns.proofs.TablesKept.{AreThere, IsPlaced}

-- it was blocked at a semaphore
abbrev pub IsBlockedIn : Contexts → ℕ → Type 0
IsBlockedIn cs w = (sm : ℕ) × (state_in cs w ≡ Some (Blocked sm))

abbrev pub IsEnding : Contexts → Option (ℕ × Status) → Type 0
IsEnding cs o = IfSome o (λ p. IsBlockedIn cs p.0)

-- a deadline that is due is there
abbrev pub due_deadline : (k : KernelState) (cpu ec : ℕ) → IsPassing k cpu (Falls (due.Deadline ec)) → (d : Deadline) × (deadline_of k.times ec ≡ Some d)
due_deadline k cpu ec is = let its = due_is k.times cpu (due.Deadline ec) is in (its.entry.deadline, its.entry.there)

-- and the context that has it waits in the queue of its semaphore
pub late_waits : (k : KernelState) (cpu ec : ℕ) → IsPassing k cpu (Falls (due.Deadline ec)) → AreDeadlines k.contexts k.times.deadlines →
    state_in k.contexts ec ≡ Some (Blocked (deadline_sm (deadline_of k.times ec)))
late_waits k cpu ec is late =
    let its = due_deadline k cpu ec is in (late ec its.0 its.1).blocked ∙ ap (λ (o : Option Deadline). Some (Blocked (deadline_sm o))) (sym its.1)

pub passing_ending : (k : KernelState) (cpu : ℕ) (p : Passing) → IsPassing k cpu p → AreBlocked k.contexts k.semaphores → AreDeadlines k.contexts k.times.deadlines →
    IsEnding k.contexts (passing_ends k p)
passing_ending k cpu (Falls (due.Alarm alarm)) is blocked late = by_up (alarm_up k alarm) refl
  where
    by_up : (o : Result (Option ℕ) Overflow) → alarm_up k alarm ≡ o → IsEnding k.contexts (with_status Success (whom_of o))
    by_up (Ok None) up = tt
    by_up (Ok (Some w)) up = (alarm_sm (slice_get k.times.alarms alarm), woken_blocked k _ w up blocked)
    by_up (Err full) up = tt
passing_ending k cpu (Falls (due.Deadline ec)) is blocked late = (deadline_sm (deadline_of k.times ec), late_waits k cpu ec is late)
passing_ending k cpu Ticks is blocked late = tt

-- what holds of contexts as they are, and where a context that was blocked is answered, holds after it
pub passing_contexts : (P : Contexts → Type 0) (cs : Contexts) (o : Option (ℕ × Status)) → IsEnding cs o → P cs →
    ((w sm : ℕ) (status : Status) → state_in cs w ≡ Some (Blocked sm) → P (with_ec cs w (answered (ec_of cs w) status None))) → P (all_edited cs (ends_by o))
passing_contexts P cs None is rests wakes = rests
passing_contexts P cs (Some (w, status)) is rests wakes = wakes w is.0 status is.1

-- and semaphores with it
pub passing_blocked : (k : KernelState) (cpu : ℕ) (p : Passing) → IsPassing k cpu p → AreBlocked k.contexts k.semaphores → AreDeadlines k.contexts k.times.deadlines →
    AreBlocked (all_edited k.contexts (ends_by (passing_ends k p))) (semaphores_with k.semaphores (passing_semaphore k p))
passing_blocked k cpu (Falls (due.Alarm alarm)) is blocked late = by_up (alarm_up k alarm) refl
  where
    by_up : (o : Result (Option ℕ) Overflow) → alarm_up k alarm ≡ o →
        AreBlocked (all_edited k.contexts (ends_by (with_status Success (whom_of o)))) (upped k.semaphores (alarm_sm (slice_get k.times.alarms alarm)))
    by_up (Ok None) up = wakes_none k.contexts k.semaphores _ (ap whom_of up) blocked
    by_up (Ok (Some w)) up = wakes k.contexts k.semaphores _ w up blocked
    by_up (Err full) up = wakes_none k.contexts k.semaphores _ (ap whom_of up) blocked
passing_blocked k cpu (Falls (due.Deadline ec)) is blocked late = leaves k.contexts k.semaphores _ ec (late_waits k cpu ec is late) blocked
passing_blocked k cpu Ticks is blocked late = blocked

ending_there : (cs : Contexts) (o : Option (ℕ × Status)) → IsEnding cs o → AreThere cs (ends_by o)
ending_there cs None is = tt
ending_there cs (Some (w, status)) is = (ap is_some (blocked_there cs w is.0 is.1), tt)

pub passing_placed : (k : KernelState) (p : Passing) → IsEnding k.contexts (passing_ends k p) → IsPlaced k (passing_effect k p)
passing_placed k p is = record { made = tt; edits = ending_there k.contexts (passing_ends k p) is; words = tt; transfer = tt; identifier = tt }

-- each is as before, or it was blocked and is answered
pub data Passed (old new : Option EcState) : Type 0 where
  Same : new ≡ old → Passed old new
  Ended : (x : EcState) (sm : ℕ) (status : Status) → old ≡ Some x → x.state ≡ Blocked sm → new ≡ Some (answered x status None) → Passed old new

pub blocked_state : (o : Option EcState) (x : EcState) (sm : ℕ) → o ≡ Some x → state_at o ≡ Some (Blocked sm) → x.state ≡ Blocked sm
blocked_state o x sm is waits = let both : Some x.state ≡ Some (Blocked sm) = sym (ap state_at is) ∙ waits in cc

pub passing_each : (cs : Contexts) (o : Option (ℕ × Status)) → IsEnding cs o → (e : ℕ) → Passed (ec_in cs e) (ec_in (all_edited cs (ends_by o)) e)
passing_each cs None is e = Same refl
passing_each cs (Some (w, status)) is e = elim (place e w) [
  | inl same ↦
      let there : ec_in cs w ≡ Some (ec_of cs w) = blocked_there cs w is.0 is.1 in
      subst (λ (n : ℕ). Passed (ec_in cs n) (ec_in (with_ec cs w (answered (ec_of cs w) status None)) n)) (sym same)
      (Ended (ec_of cs w) is.0 status there (blocked_state (ec_in cs w) (ec_of cs w) is.0 there is.1) (entry_itself cs w (answered (ec_of cs w) status None) (ap is_some there)))
  | inr other ↦ Same (entry_other cs w e (answered (ec_of cs w) status None) other)
]

-- a context that isn't blocked stays
pub passing_stays : (cs : Contexts) (o : Option (ℕ × Status)) → IsEnding cs o → (e : ℕ) → is_blocked (state_in cs e) ≡ false → ec_in (all_edited cs (ends_by o)) e ≡ ec_in cs e
passing_stays cs o is e free = elim (passing_each cs o is e) [
  | Same same ↦ same
  | Ended x sm status old waits new ↦
      absurd (let blocked : is_blocked (state_in cs e) ≡ true = ap (λ (y : Option EcState). is_blocked (state_at y)) old ∙ ap (λ (s : State). is_blocked (Some s)) waits in cc)
]
