-- The contexts that wait at a semaphore, and those that are blocked there.
use Rattle.std.specs.Prelude.{ℕ, ◌≡◌, true, List, Option, Some, slice_get}
use Rattle.nova_model.specs.Edges.{cpu_in, state_in}
use Rattle.nova_model.specs.Semaphores.{Semaphores, waits}
use Rattle.nova_model.specs.State.{Contexts, entry}
use Rattle.nova_model.specs.declared.context.State.TheVariants.{Blocked}
use Rattle.nova_model.specs.declared.times.Deadline.{Deadline}
use Rattle.nova_sem.specs.Sound.{AreSound}

-- a context with a deadline is blocked at its semaphore, and is of its processor
pub record IsAwaiting (cs : Contexts) (ec : ℕ) (d : Deadline) : Type 0 where
  pub blocked : state_in cs ec ≡ Some (Blocked d.sm)
  pub processor : cpu_in cs ec ≡ Some d.cpu

-- so is each that has one
abbrev pub AreDeadlines : Contexts → List (Option Deadline) → Type 0
AreDeadlines cs deadlines = (ec : ℕ) (d : Deadline) → entry (slice_get deadlines ec) ≡ Some d → IsAwaiting cs ec d

-- a context that waits at a semaphore is blocked there, and a context that is blocked there waits; each waits once, at one semaphore alone, and only
-- where the counter is 0
pub record AreBlocked (cs : Contexts) (all : Semaphores) : Type 0 where
  pub blocked : (sm ec : ℕ) → waits all sm ec ≡ true → state_in cs ec ≡ Some (Blocked sm)
  pub waiting : (sm ec : ℕ) → state_in cs ec ≡ Some (Blocked sm) → waits all sm ec ≡ true
  pub sound : AreSound all
