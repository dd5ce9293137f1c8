-- Where the context that acts on a processor may take many instructions at once.
use Rattle.std.specs.Prelude.{◌≡◌, ◌+◌, ◌-◌, ◌^◌, ◌<◌, ◌≤◌, ℕ, List, [], replicate, slice_get, false, Option, Some, None, IsSome, IfSome, option_map, Result, Ok, Err}
use Rattle.rv_core.specs.declared.outcome.Outcome.TheVariants.{Raise}
use Rattle.rv_model.specs.Registers.{Registers}
use Rattle.nova_model.specs.Choice.{Candidate, choice}
use Rattle.nova_model.specs.Deeds.{instruction}
use Rattle.nova_model.specs.Runs.{run, trace}
use Rattle.nova_model.specs.State.{KernelState, budget_at, context, context_at, entry}
use Rattle.nova_model.specs.Times.{due_on}
use Rattle.nova_model.specs.declared.context.State.TheVariants.{Ready}
use Rattle.nova_model.specs.declared.event.Event.{Event}
use Rattle.nova_model.specs.declared.event.EventKind.TheVariants.{Step}
use Rattle.nova_model.specs.declared.budget.Budget.{Budget}
use Rattle.nova_model.specs.declared.event.Turn.{Turn}
use Rattle.nova_choice.specs.Choices.{chosen_of}
use Rattle.nova_choice.specs.Schedules.{AreQueued}
use Rattle.nova_turn.specs.Acts.{outcome_of}
use Rattle.nova_turn.specs.Counted.{IsCounted}
use Rattle.nova_sched.specs.Queues.{queued_at}
use Rattle.nova_turn.specs.Beside.{IsEntered, with_regs}
use Rattle.nova_turn.specs.Going.{HasRaised}
use Rattle.nova_turn.specs.Known.{AreKnown}
use Rattle.nova_turn.specs.Parts.{state_of}
use Rattle.nova_turn.specs.Revoking.{AreRunning}
use Rattle.nova_turn.specs.Homes.{HasCounts}
use Rattle.nova_turn.specs.Views.{turns_taken}
use Rattle.nova_turn.specs.declared.decide.deciding.Raised.{Raised}
use Rattle.nova_turn.specs.declared.parts.Parts.{Parts}
use Rattle.nova_choice.specs.declared.choice.Chosen.{Chosen}
use Rattle.law_turns.specs.Moments.{IsEarly}
use Rattle.law_leases.specs.Rides.{IsRideable}

-- the state after `n` turns of one processor
abbrev pub after_turns : KernelState → ℕ → ℕ → KernelState
after_turns k cpu n = run k (replicate n cpu)

-- how many turns the last one was, where one was tried: none where it was idle, or refused
abbrev pub last_turns : {E : Type 0} → Option (Result Turn E) → ℕ
last_turns None = 0
last_turns (Some (Ok t)) = turns_taken t
last_turns (Some (Err e)) = 0

-- the event of a plain step of the chosen context
abbrev pub step_by : ℕ → Chosen → Event
step_by cpu chosen = record { cpu = cpu; sc = chosen.sc; ec = chosen.actor; kind = Step; a = 0; b = 0 }

-- the instruction that is next of an execution context raises this
abbrev pub Raises : KernelState → ℕ → Raised → Type 0
Raises k ec r = Raise r.reason r.q0 r.q1 ≡ outcome_of (instruction k ec)

-- nothing is due on the processor, the chosen context acts there next, and its next instruction raises `r`
pub record IsHalted (k : KernelState) (cpu : ℕ) (chosen : Chosen) (r : Raised) : Type 0 where
  pub none_due : due_on k.times cpu ≡ None
  pub told : Some chosen ≡ option_map chosen_of (choice k cpu)
  pub there : IsSome (context_at k chosen.actor)
  pub pays : IsSome (budget_at k chosen.sc)
  pub raised : HasRaised k chosen.actor (Some r)

pub record MayRide (k : KernelState) (cpu : ℕ) (chosen : Chosen) (most : ℕ) : Type 0 where
  pub candidate : Candidate
  pub budget : Budget
  pub may : IsRideable k cpu candidate budget
  pub same : chosen ≡ chosen_of candidate
  pub left : most ≤ budget.left
  pub early : IsEarly k.times cpu most

-- it is about to take an instruction
pub record IsStepping (k : KernelState) (ec : ℕ) : Type 0 where
  pub there : IsSome (context_at k ec)
  pub ready : (context k ec).state ≡ Ready
  pub recall : (context k ec).recall ≡ false

-- one input more can be counted for each virtual CPU
pub record MayCount (k : KernelState) : Type 0 where
  pub counted : HasCounts k
  pub few : (g : ℕ) → IfSome (entry (slice_get k.stirs.guests g)) (λ n. n < 2 ^ 64 - 1)

-- the counts of virtual CPUs left out
abbrev pub without_counts : KernelState → KernelState
without_counts k = record k { stirs = record k.stirs { guests = [] } }

-- the processor's next turn is of the chosen scheduling context, which pays, and of the chosen context, which acts, unless something is due
pub record IsNext (p : Parts) (cpu : ℕ) (chosen : Chosen) : Type 0 where
  pub told : Some chosen ≡ option_map chosen_of (choice (state_of p) cpu)
  pub pays : IsSome (queued_at p.queues.all chosen.sc)

-- the state with registers that lie beside the table of the context that acts
abbrev pub beside : Parts → Chosen → Registers → KernelState
beside p chosen regs = with_regs (state_of p) chosen.actor regs

-- so the context that acts may go on, whose address space was entered; what is said of registers holds of those beside the table
pub record IsBeside (p : Parts) (chosen : Chosen) (regs : Registers) : Type 0 where
  pub acts : IsStepping (state_of p) chosen.actor
  pub entered : IsEntered p chosen.actor
  pub queued : AreQueued (state_of p) p.queues.all
  pub counted : IsCounted (beside p chosen regs)
  pub running : AreRunning (beside p chosen regs) p.revokes

-- `n` plain steps of the chosen context lead from one state to another
pub record AreSteps (k m : KernelState) (cpu : ℕ) (chosen : Chosen) (n : ℕ) : Type 0 where
  pub state : m ≡ run k (replicate n cpu)
  pub events : trace k (replicate n cpu) ≡ replicate n (step_by cpu chosen)

-- and from parts to parts, with registers beside them
pub record IsLater (old : Parts) (x : Registers) (new : Parts) (y : Registers) (cpu : ℕ) (chosen : Chosen) (n : ℕ) : Type 0 where
  pub steps : AreSteps (beside old chosen x) (beside new chosen y) cpu chosen n
  pub known : (known : List (Option Chosen)) → AreKnown (state_of old) known → AreKnown (state_of new) known
  pub turns : new.turns ≡ old.turns + n
  pub cpus : new.cpus ≡ old.cpus
  pub log : old.reach.room ≤ new.reach.room + n
