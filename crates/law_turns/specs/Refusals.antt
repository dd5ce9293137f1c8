-- A turn in which a hypercall is refused.
use Rattle.std.specs.Prelude.{◌≡◌, ◌≢◌, ◌<◌, ℕ, true, ◌+◌, ◌%◌, ◌^◌, length, slice_get, IsSome, None}
use Rattle.nova_model.specs.Edges.{is_asking}
use Rattle.rv_model.specs.Registers.{reg}
use Rattle.nova_range.specs.Statuses.{status_code}
use Rattle.nova_range.specs.declared.status.Status.{Status}
use Rattle.nova_model.specs.Deeds.{with_context, answered}
use Rattle.nova_model.specs.Runs.{after}
use Rattle.nova_model.specs.State.{KernelState, budget_at, context, context_at}
use Rattle.nova_model.specs.Turn.{charged}
use Rattle.nova_model.specs.declared.context.EcState.{EcState}
use Rattle.nova_model.specs.declared.context.State.TheVariants.{Ready}
use Rattle.nova_model.specs.declared.event.Event.{Event}

-- the caller has the status in x10, where it has that register, and its pc is after the instruction; a caller that helped is ready; all else of it is
-- as before
pub record IsAnswered (code : ℕ) (old new : EcState) : Type 0 where
  pub status : 10 < length old.regs.x → reg new.regs 10 ≡ code
  pub pc : new.regs.pc ≡ (old.regs.pc + 4) % 2 ^ 32
  pub registers : (i : ℕ) → i ≢ 10 → reg new.regs i ≡ reg old.regs i
  pub number : new.id ≡ old.id
  pub cpu : new.cpu ≡ old.cpu
  pub before : is_asking old.state ≡ true
  pub state : new.state ≡ Ready
  pub caller : new.caller ≡ old.caller
  pub recall : new.recall ≡ old.recall

-- the rest is as before: all but one execution context, the budget of one scheduling context, the next stamp, and the counts of turns and
-- the clock, of which those of other processors stay
pub record LeavesRest (old new : KernelState) (ec sc cpu : ℕ) : Type 0 where
  pub contexts : (other : ℕ) → other ≢ ec → context_at new other ≡ context_at old other
  pub budgets : (other : ℕ) → other ≢ sc → budget_at new other ≡ budget_at old other
  pub delegations : new.delegations ≡ old.delegations
  pub objects : new.objects ≡ old.objects
  pub messages : new.messages ≡ old.messages
  pub transfers : new.transfers ≡ old.transfers
  pub identifiers : new.identifiers ≡ old.identifiers
  pub semaphores : new.semaphores ≡ old.semaphores
  pub memory : new.memory ≡ old.memory
  pub cpus : new.cpus ≡ old.cpus
  pub consoles : new.consoles ≡ old.consoles
  pub guests : new.stirs.guests ≡ old.stirs.guests
  pub processors : (other : ℕ) → other ≢ cpu → slice_get new.stirs.processors other ≡ slice_get old.stirs.processors other
  pub turns : new.turns ≡ old.turns + 1
  pub deadlines : new.times.deadlines ≡ old.times.deadlines
  pub alarms : new.times.alarms ≡ old.times.alarms
  pub clocks : (other : ℕ) → other ≢ cpu → slice_get new.times.clocks other ≡ slice_get old.times.clocks other

-- the status is the event's second number: it changes x10 and pc of the caller, and the state of a caller that helped, the charge what it charges,
-- and nothing else is changed
pub record IsRefusal (k : KernelState) (cpu : ℕ) (e : Event) : Type 0 where
  pub status : Status
  pub code : status_code status ≡ e.b
  pub answer : IsSome (context_at k e.ec) → IsAnswered e.b (context k e.ec) (context (after k cpu) e.ec)
  pub rest : LeavesRest k (after k cpu) e.ec e.sc cpu
  pub after : after k cpu ≡ charged (with_context k e.ec (answered (context k e.ec) status None)) cpu e.sc
