-- One turn of a processor: what is due comes; else the execution context of the chosen scheduling context does its deed, and the scheduling context is
-- charged; else the clock goes on where something is to come.
use Rattle.std.specs.Prelude.{ℕ, ◌+◌, ◌-◌, ◌==◌, Bool, true, false, slice_get, slice_index, slice_set, Option, Some, None, Result, Ok, Err}
use Rattle.nova_model.specs.Numbers.{EcId, ScId, SmId, CpuId}
use Rattle.nova_model.specs.Choice.{Candidate, choice}
use Rattle.nova_model.specs.Deeds.{deed, done, ended_wait, sign_of, woken_in}
use Rattle.nova_model.specs.Inputs.{stirred}
use Rattle.nova_model.specs.Semaphores.{left, semaphore, upped, woken}
use Rattle.nova_model.specs.State.{KernelState, budget_at, deadline_of}
use Rattle.nova_model.specs.Times.{alarm_sm, deadline_sm, due_on, next_moment, rung, ticked}
use Rattle.nova_range.specs.Statuses.{status_code}
use Rattle.nova_range.specs.declared.status.Status.TheVariants as status
use Rattle.nova_range.specs.declared.status.Status.TheVariants.{Success, Timeout}
use Rattle.nova_objects.specs.declared.object.Object.{Object}
use Rattle.nova_objects.specs.declared.object.Object.TheVariants.{Sc}
use Rattle.nova_model.specs.declared.budget.Budget.{Budget}
use Rattle.nova_model.specs.declared.deed.Deed.{Deed}
use Rattle.nova_model.specs.declared.event.Event.{Event}
use Rattle.nova_model.specs.declared.event.EventKind.{EventKind}
use Rattle.nova_model.specs.declared.event.EventKind.TheVariants as event
use Rattle.nova_model.specs.declared.semaphore.Overflow.{Overflow}
use Rattle.nova_model.specs.declared.times.Due.{Due}
use Rattle.nova_model.specs.declared.times.Due.TheVariants as due
use Rattle.nova_model.specs.declared.event.Turn.{Turn}
use Rattle.nova_model.specs.declared.event.Turn.TheVariants.{Stepped, Idle}

-- the quantum of a scheduling context
abbrev pub quantum_in : Option Object → ℕ
quantum_in (Some (Sc ec cpu priority quantum)) = quantum
quantum_in other = 0

-- a turn is paid: one tick more, one turn less of what is left. At 0 the quantum begins anew, with the next stamp.
abbrev pub is_spent : Budget → Bool
is_spent b = b.left - 1 == 0

abbrev pub budget_after : Bool → ℕ → ℕ → Budget → Budget
budget_after true quantum stamp b = record { left = quantum; stamp = stamp; ticks = b.ticks + 1 }
budget_after false quantum stamp b = record { left = b.left - 1; stamp = b.stamp; ticks = b.ticks + 1 }

abbrev pub stamp_after : Bool → ℕ → ℕ
stamp_after true stamp = stamp + 1
stamp_after false stamp = stamp

abbrev pub paid : KernelState → ScId → ℕ → Budget → KernelState
paid k sc quantum b = record k {
  budgets = slice_set k.budgets sc (Some (budget_after (is_spent b) quantum k.next_stamp b));
  next_stamp = stamp_after (is_spent b) k.next_stamp;
}

abbrev pub paid_by : KernelState → ScId → ℕ → Option Budget → KernelState
paid_by k sc quantum (Some b) = paid k sc quantum b
paid_by k sc quantum None = k

-- the turn is counted, for the kernel and for the processor, whose clock goes on
abbrev pub counted : KernelState → CpuId → KernelState
counted k cpu = record k {
  turns = k.turns + 1;
  stirs = record k.stirs { processors = slice_set k.stirs.processors cpu (slice_index k.stirs.processors cpu + 1) };
  times = ticked k.times cpu;
}

unfoldable pub charged : KernelState → CpuId → ScId → KernelState
charged k cpu sc = counted (paid_by k sc (quantum_in (slice_get k.objects sc)) (budget_at k sc)) cpu

-- a turn that was taken: the state after it, and its event
pub record Step : Type 0 where
  pub kernel : KernelState
  pub event : Event

-- the event of a deed, by processor, scheduling context and the context that does it
abbrev pub event_by : CpuId → ScId → EcId → Deed → Event
event_by cpu sc ec d = record { cpu = cpu; sc = sc; ec = ec; kind = (sign_of d).0; a = (sign_of d).1; b = (sign_of d).2 }

abbrev pub event_of : CpuId → Candidate → Deed → Event
event_of cpu c d = event_by cpu c.sc c.actor d

abbrev pub taken : KernelState → CpuId → Candidate → Deed → Step
taken k cpu c d = record { kernel = charged (stirred k c.actor d (done k c.actor d)) cpu c.sc; event = event_of cpu c d }

-- a turn in which no execution context acts, and none is charged: the state before it is counted, and its event
abbrev pub event_without : CpuId → EcId → EventKind → ℕ → ℕ → Event
event_without cpu ec kind a b = record { cpu = cpu; sc = 0; ec = ec; kind = kind; a = a; b = b }

abbrev pub counted_step : KernelState → CpuId → Event → Step
counted_step k cpu e = record { kernel = counted k cpu; event = e }

-- an alarm ups its semaphore, which at the greatest counter with no context waiting stays
abbrev pub whom_of : Result (Option EcId) Overflow → Option EcId
whom_of (Ok whom) = whom
whom_of (Err full) = None

abbrev pub status_of : Result (Option EcId) Overflow → ℕ
status_of (Ok whom) = status_code Success
status_of (Err full) = status_code status.Overflow

-- an execution context that is woken, as a number: 0 where it is none
abbrev pub number_in : Option EcId → ℕ
number_in None = 0
number_in (Some ec) = ec

abbrev pub rings_at : KernelState → ℕ → SmId → Result (Option EcId) Overflow → KernelState
rings_at k alarm sm whom = woken_in (record k { semaphores = upped k.semaphores sm; times = rung k.times alarm }) (whom_of whom)

abbrev pub ringing : KernelState → CpuId → ℕ → SmId → Result (Option EcId) Overflow → Step
ringing k cpu alarm sm whom = counted_step (rings_at k alarm sm whom) cpu (event_without cpu (number_in (whom_of whom)) event.Irq alarm (status_of whom))

-- a deadline takes its execution context from the queue
abbrev pub expires : KernelState → EcId → SmId → KernelState
expires k ec sm = ended_wait (record k { semaphores = left k.semaphores sm ec }) ec Timeout

abbrev pub expiring : KernelState → CpuId → EcId → SmId → Step
expiring k cpu ec sm = counted_step (expires k ec sm) cpu (event_without cpu ec event.Late sm (status_code Timeout))

abbrev pub what_is_due : KernelState → CpuId → Due → Step
what_is_due k cpu (due.Alarm alarm) =
    ringing k cpu alarm (alarm_sm (slice_get k.times.alarms alarm)) (woken (semaphore k.semaphores (alarm_sm (slice_get k.times.alarms alarm))))
what_is_due k cpu (due.Deadline ec) = expiring k cpu ec (deadline_sm (deadline_of k.times ec))

-- a tick
abbrev pub ticking : KernelState → CpuId → Step
ticking k cpu = counted_step k cpu (event_without cpu 0 event.Tick 0 0)

-- What comes of a processor: what is due, else the deed of the chosen context, else a tick where something is to come
abbrev pub tick_by : KernelState → CpuId → Option ℕ → Option Step
tick_by k cpu None = None
tick_by k cpu (Some moment) = Some (ticking k cpu)

abbrev pub chosen_by : KernelState → CpuId → Option Candidate → Option Step
chosen_by k cpu None = tick_by k cpu (next_moment k.times cpu)
chosen_by k cpu (Some c) = Some (taken k cpu c (deed k c.actor))

abbrev pub turn_by : KernelState → CpuId → Option Due → Option Step
turn_by k cpu None = chosen_by k cpu (choice k cpu)
turn_by k cpu (Some what) = Some (what_is_due k cpu what)

-- the turn of a processor, or none where the processor is idle
unfoldable pub turn : KernelState → CpuId → Option Step
turn k cpu = turn_by k cpu (due_on k.times cpu)

-- the state after it: an idle processor leaves all as it was
abbrev pub state_after : KernelState → Option Step → KernelState
state_after k None = k
state_after k (Some s) = s.kernel

-- what a turn answers
abbrev pub answer_of : Option Step → Turn
answer_of None = Idle
answer_of (Some s) = Stepped s.event
