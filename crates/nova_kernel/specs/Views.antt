-- What a caller sees of a kernel.
use Rattle.std.specs.Prelude.{ℕ, Option}
use Rattle.nova_model.specs.Delegations.{from_id}
use Rattle.nova_model.specs.State.{KernelState}
use Rattle.nova_model.specs.declared.delegation.Derivation.{Derivation}
-- its state and room, budgets and semaphores, and what a turn leaves
pub use Rattle.nova_turn.specs.Views.{KernelView, ticks_of, left_of, semaphore_at, turns_taken, HasMade, IsMaking, IsTurnTaken}

-- the derivation of least id at or after a given one
abbrev pub derivation_from : KernelState → ℕ → Option Derivation
derivation_from k id = from_id k.delegations.list id
