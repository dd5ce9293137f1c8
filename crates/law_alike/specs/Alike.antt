-- When two states are alike: but for what only counts turns they are the same, scheduling contexts that compete are in the same order, and moments are as far from clocks.
use Rattle.std.specs.Prelude.{◌≡◌, ◌<◌, ℕ, ◌+◌, ◌==◌, Bool, true, false, List, [], ◌∷◌, map, nat_lt, slice_get, Option, Some, None, IfSome}
use Rattle.nova_calls.specs.declared.numbers.TheConstants.{SC_CTRL}
use Rattle.nova_objects.specs.declared.object.Object.{Object}
use Rattle.nova_objects.specs.declared.object.Object.TheVariants.{Sc}
use Rattle.nova_model.specs.Choice.{next_to_act}
use Rattle.nova_model.specs.Deeds.{deed}
use Rattle.nova_model.specs.Numbers.{CpuId, EcId, ScId}
use Rattle.nova_model.specs.Runs.{after}
use Rattle.nova_model.specs.State.{KernelState, budget_at, deadline_of}
use Rattle.nova_model.specs.Times.{Times, clock, goes_on}
use Rattle.nova_model.specs.declared.deed.Deed.{Deed}
use Rattle.nova_model.specs.declared.deed.Deed.TheVariants.{Tells}
use Rattle.nova_model.specs.declared.event.EventKind.{EventKind}
use Rattle.nova_model.specs.declared.event.EventKind.TheVariants as event
use Rattle.nova_model.specs.declared.event.Turn.{Turn}
use Rattle.nova_model.specs.declared.event.Turn.TheVariants.{Idle, Stepped}
use Rattle.nova_model.specs.declared.times.AlarmState.{AlarmState}
use Rattle.nova_model.specs.declared.times.Deadline.{Deadline}
use Rattle.law_turns.specs.Budgets.{left_in, stamp_in}

-- the state without counts of turns, stir counts, times, the next stamp, and what is left, stamped and ticked of scheduling contexts
abbrev pub uncounted : KernelState → KernelState
uncounted k = record k {
  budgets = [];
  next_stamp = 0;
  turns = 0;
  stirs = record { guests = []; processors = [] };
  times = record { clocks = []; deadlines = []; alarms = [] };
}

-- by number of a scheduling context the turns that are left of its quantum
abbrev pub lefts : KernelState → List (Option ℕ)
lefts k = map left_in k.budgets

-- the stamp of a scheduling context, 0 where there is none
abbrev pub stamp : KernelState → ScId → ℕ
stamp k sc = stamp_in (budget_at k sc)

-- two scheduling contexts of one processor and one priority, between which stamps decide
pub record ArePeers (objects : List Object) (m n : ScId) : Type 0 where
  pub cpu : CpuId
  pub priority : ℕ
  pub first_ec : EcId
  pub first_quantum : ℕ
  pub second_ec : EcId
  pub second_quantum : ℕ
  pub first : slice_get objects m ≡ Some (Sc first_ec cpu priority first_quantum)
  pub second : slice_get objects n ≡ Some (Sc second_ec cpu priority second_quantum)

-- MOMENTS: clocks may differ, and moments are as far from them, before or after

-- neither has a deadline, or both have one of the same processor and semaphore, as far from its clock
abbrev pub IsDeadlineAlike : Times → Times → Option Deadline → Option Deadline → Type 0
IsDeadlineAlike t u None None = Unit {0}
IsDeadlineAlike t u None (Some e) = ⊥
IsDeadlineAlike t u (Some d) None = ⊥
IsDeadlineAlike t u (Some d) (Some e) = (d.cpu ≡ e.cpu) × (d.sm ≡ e.sm) × (d.at + clock u d.cpu ≡ e.at + clock t d.cpu)

-- neither is an alarm, or both are the same, which rang as often; and where it goes on it rings next as far from its clock
abbrev pub IsAlarmAlike : Times → Times → Option AlarmState → Option AlarmState → Type 0
IsAlarmAlike t u None None = Unit {0}
IsAlarmAlike t u None (Some b) = ⊥
IsAlarmAlike t u (Some a) None = ⊥
IsAlarmAlike t u (Some a) (Some b) = (a.alarm ≡ b.alarm) × (a.rings ≡ b.rings) × (goes_on a ≡ true → a.next + clock u a.alarm.cpu ≡ b.next + clock t a.alarm.cpu)

pub record AreTimesAlike (t u : Times) : Type 0 where
  pub deadlines : (ec : EcId) → IsDeadlineAlike t u (deadline_of t ec) (deadline_of u ec)
  pub alarms : (n : ℕ) → IsAlarmAlike t u (slice_get t.alarms n) (slice_get u.alarms n)

-- the same but for what is counted, with the same turns left; of any two peers the same one has the lesser stamp; and moments are as far from clocks
pub record IsAlike (k l : KernelState) : Type 0 where
  pub rest : uncounted k ≡ uncounted l
  pub left : lefts k ≡ lefts l
  pub order : (m n : ScId) → ArePeers k.objects m n → nat_lt (stamp k m) (stamp k n) ≡ nat_lt (stamp l m) (stamp l n)
  pub times : AreTimesAlike k.times l.times

-- WHERE THEIR TURNS ARE ALIKE

-- stamps are below the next: each was given
abbrev pub AreStampsGiven : KernelState → Type 0
AreStampsGiven k = (sc : ScId) → stamp k sc < k.next_stamp

-- a deed that tells ticks, which may differ in alike states
abbrev pub tells_ticks : Deed → Bool
tells_ticks (Tells call value) = call == SC_CTRL
tells_ticks other = false

-- the context that acts next on a processor doesn't; and so it is before each of these turns
abbrev pub TellsNoTicks : KernelState → CpuId → Type 0
TellsNoTicks k cpu = IfSome (next_to_act k cpu) (λ c. tells_ticks (deed k c.actor) ≡ false)

abbrev pub TellNoTicks : KernelState → List CpuId → Type 0
TellNoTicks k [] = Unit {0}
TellNoTicks k (cpu ∷ order) = TellsNoTicks k cpu × TellNoTicks (after k cpu) order

-- a turn's event is an answer to the hypercall that tells them, which may be a refusal
abbrev pub answers_ticks : EventKind → ℕ → Bool
answers_ticks event.Answer call = call == SC_CTRL
answers_ticks other call = false

abbrev pub may_tell_ticks : Turn → Bool
may_tell_ticks (Stepped e) = answers_ticks e.kind e.a
may_tell_ticks Idle = false
