-- A change of one semaphore leaves every other.
use Rattle.std.proofs.Common.{◌≡◌, ℕ, refl, arith}
use Rattle.std.specs.Prelude.{Option, Some, None, option_map}
use Rattle.nova_model.specs.State.{Semaphore}
use Rattle.nova_model.specs.Creation.{idle_semaphore}
use Rattle.nova_model.specs.Semaphores.{Semaphores, semaphore_at, changed, changed_by, raised, lowered}
use Rattle.nova_sem.specs.Sound.{ChangesOne, ChangesAreOfOne}
use Rattle.nova_sem.proofs.Tables.{set_other, more_other}

pub changed_other : (change : Semaphore → Semaphore) (all : Semaphores) (sm : ℕ) → ChangesOne all sm (changed change all sm)
changed_other change all sm other h = by_entry (semaphore_at all sm)
  where
    by_entry : (o : Option Semaphore) → semaphore_at (changed_by change all sm o) other ≡ semaphore_at all other
    by_entry None = refl
    by_entry (Some s) = set_other all sm other (Some (change s)) h

pub changes_are_of_one : ChangesAreOfOne
changes_are_of_one = record {
  add = λ all count other lt. more_other all (option_map idle_semaphore count) other (λ same. absurd (omega (arith, lt, same)));
  up = λ all sm. changed_other raised all sm;
  down = λ all sm ec. changed_other (lowered ec) all sm;
}
