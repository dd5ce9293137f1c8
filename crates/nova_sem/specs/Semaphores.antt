-- The table of semaphores: an entry for each number, and the room that was made.
use Rattle.std.specs.Prelude.{ℕ}
use Rattle.nova_model.specs.Semaphores.{Semaphores}

-- by number a semaphore or nothing; for how many more entries there is room; and below which number execution contexts may wait
pub record SemsState : Type 0 where
  pub all : Semaphores
  pub spare : ℕ
  pub contexts : ℕ
