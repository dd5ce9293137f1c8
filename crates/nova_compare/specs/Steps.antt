-- A turn that is taken on a copy, and the state that it leads to.
use Rattle.std.specs.Prelude.{◌≡◌, ◌+◌, ℕ, Option, Some, None, IsSome}
use Rattle.nova_model.specs.Runs.{after}
use Rattle.nova_model.specs.State.{KernelState}
use Rattle.nova_model.specs.Turn.{answer_of, turn}
use Rattle.nova_model.specs.declared.event.Event.{Event}
use Rattle.nova_model.specs.declared.event.Turn.{Turn}
use Rattle.nova_model.specs.declared.event.Turn.TheVariants.{Idle, Stepped}

-- a turn that is not idle leads from one state to another, with this event
pub record IsAfter (k : KernelState) (cpu : ℕ) (next : KernelState) (e : Event) : Type 0 where
  pub answer : answer_of (turn k cpu) ≡ Stepped e
  pub state : next ≡ after k cpu
  pub turns : next.turns ≡ k.turns + 1
  pub cpus : next.cpus ≡ k.cpus

-- the answer of taking a turn in place, and the state that it leads to
abbrev pub IsTurned : KernelState → ℕ → KernelState → Turn → Type 0
IsTurned k cpu next Idle = after k cpu ≡ k
IsTurned k cpu next (Stepped e) = IsAfter k cpu next e

-- the answer of taking a turn on a copy: the state after it and its event, or none where the processor is idle
abbrev pub IsStepped : KernelState → ℕ → Option (KernelState × Event) → Type 0
IsStepped k cpu None = after k cpu ≡ k
IsStepped k cpu (Some (next, e)) = IsAfter k cpu next e

-- a turn that is not idle leads from one state to another
pub record IsSuccessor (s : KernelState) (cpu : ℕ) (t : KernelState) : Type 0 where
  pub state : t ≡ after s cpu
  pub there : IsSome (turn s cpu)
  pub turns : t.turns ≡ s.turns + 1
  pub cpus : t.cpus ≡ s.cpus

-- the answer of trying a turn of a processor: the state after it, or none where the processor is idle
abbrev pub IsNext : KernelState → ℕ → Option KernelState → Type 0
IsNext s cpu (Some t) = IsSuccessor s cpu t
IsNext s cpu None = after s cpu ≡ s
