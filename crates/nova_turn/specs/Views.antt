-- What is seen of a kernel: its state, budgets, semaphores, and what a turn leaves.
use Rattle.std.specs.Prelude.{◌≡◌, ℕ, ◌+◌, ◌<◌, ◌≤◌, Option, option_map, slice_get, Result, IfOk, OnOk, OnErr}
use Rattle.nova_model.specs.State.{KernelState, Semaphore, entry, budget_at}
use Rattle.nova_model.specs.Runs.{after}
use Rattle.nova_model.specs.Turn.{answer_of, state_after, turn}
use Rattle.nova_model.specs.declared.event.Turn.{Turn}
use Rattle.nova_model.specs.declared.event.Turn.TheVariants.{Stepped, Idle}

-- the state, and how many more bytes the console log takes
pub record KernelView : Type 0 where
  pub state : KernelState
  pub room : ℕ

-- the turns that a scheduling context paid for, and those left of its quantum
abbrev pub ticks_of : KernelState → ℕ → Option ℕ
ticks_of k sc = option_map (λ b. b.ticks) (budget_at k sc)

abbrev pub left_of : KernelState → ℕ → Option ℕ
left_of k sc = option_map (λ b. b.left) (budget_at k sc)

-- a semaphore, where one of that number is there
abbrev pub semaphore_at : KernelState → ℕ → Option Semaphore
semaphore_at k sm = entry (slice_get k.semaphores sm)

-- the turns that an answer stands for
abbrev pub turns_taken : Turn → ℕ
turns_taken Idle = 0
turns_taken (Stepped event) = 1

-- from one state to another a derivation was made: each object has one
abbrev pub HasMade : KernelState → KernelState → Type 0
HasMade old new = old.delegations.next < new.delegations.next

-- the turn of a processor makes a derivation
abbrev pub IsMaking : KernelState → ℕ → Type 0
IsMaking k cpu = HasMade k (after k cpu)

-- What the turn of a processor answers and leaves: the answer and the state are those of the definition. Where it is refused memory, nothing has
-- changed, and it would make a derivation. It takes at most one place of the log, an idle one changes nothing, each other counts one turn, and
-- processors stay.
pub record IsTurnTaken {E : Type 0} (old new : KernelView) (cpu : ℕ) (result : Result Turn E) : Type 0 where
  pub answer : IfOk result (λ t. t ≡ answer_of (turn old.state cpu))
  pub state : OnOk result (new.state ≡ state_after old.state (turn old.state cpu))
  pub memory : OnErr result (new ≡ old)
  pub making : OnErr result (IsMaking old.state cpu)
  pub room : old.room ≤ new.room + 1
  pub idle : IfOk result (λ t. t ≡ Idle → new ≡ old)
  pub counted : IfOk result (λ t. new.state.turns ≡ old.state.turns + turns_taken t)
  pub cpus : new.state.cpus ≡ old.state.cpus
