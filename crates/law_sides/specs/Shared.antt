-- What a turn of one side changes of another, at semaphores that they share on purpose.
use Rattle.std.specs.Prelude.{◌≡◌, ℕ, Bool, true, Option, Some, None}
use Rattle.nova_range.specs.declared.status.Status.TheVariants.{Success}
use Rattle.nova_model.specs.Deeds.{answered}
use Rattle.nova_model.specs.State.{KernelState}
use Rattle.nova_model.specs.declared.context.EcState.{EcState}
use Rattle.nova_model.specs.declared.times.Deadline.{Deadline}
use Rattle.law_integrity.specs.Confined.{IsWoken}

-- an execution context was the first that waited at a semaphore that is shared, and that a domain of the set may raise
abbrev pub IsWokenAtShared : (ℕ → Bool) → KernelState → (ℕ → Type 0) → ℕ → Type 0
IsWokenAtShared shared k T n = (woken : IsWoken k T n) × (shared woken.sm ≡ true)

-- its state, registers and deadline stay; or it was woken so: its call is done, and it has no deadline
pub data StaysOrWakesAtShared (shared : ℕ → Bool) (k : KernelState) (T : ℕ → Type 0) (n : ℕ) (old new : Option EcState) (before after : Option Deadline) : Type 0 where
  Stays : new ≡ old → after ≡ before → StaysOrWakesAtShared shared k T n old new before after
  Wakes : IsWokenAtShared shared k T n → (x : EcState) → old ≡ Some x → new ≡ Some (answered x Success None) → after ≡ None → StaysOrWakesAtShared shared k T n old new before after
