-- Which contexts wait where, after each change.
use Rattle.std.specs.Prelude.{◌≡◌, ℕ, true, [], ◌∷◌, ◌++◌, Option, Some, IsSome, option_map}
use Rattle.std.specs.declared.result.Result.TheVariants.{Ok}
use Rattle.nova_model.specs.Creation.{idle_semaphore}
use Rattle.nova_model.specs.Semaphores.{Semaphores, semaphore_at, semaphore, waits, woken, answer_of, upped, downed, left}
use Rattle.nova_sem.specs.Sound.{AreSound, IsFree}
use Rattle.nova_model.specs.declared.semaphore.Down.TheVariants.{Done, Blocked}

-- all wait where they did
abbrev pub AllWaitAsBefore : Semaphores → Semaphores → Type 0
AllWaitAsBefore all after = (sm ec : ℕ) → waits after sm ec ≡ waits all sm ec

-- all but `ec`
abbrev pub OthersWaitAsBefore : Semaphores → ℕ → Semaphores → Type 0
OthersWaitAsBefore all ec after = (sm other : ℕ) → ¬ (other ≡ ec) → waits after sm other ≡ waits all sm other

-- A woken context waits nowhere. A context that blocks waits there. No other comes or goes.
pub record OnlyTheWokenGoes : Type 0 where
  pub free : (all : Semaphores) (sm ec : ℕ) → AreSound all → woken (semaphore all sm) ≡ Ok (Some ec) → IsFree (upped all sm) ec
  pub up : (all : Semaphores) (sm ec : ℕ) → woken (semaphore all sm) ≡ Ok (Some ec) → OthersWaitAsBefore all ec (upped all sm)
  pub nobody : (all : Semaphores) (sm : ℕ) → (semaphore all sm).waiting ≡ [] → AllWaitAsBefore all (upped all sm)

-- a context that leaves a queue in which it waited waits nowhere, and no other comes or goes
pub record OnlyTheLateGoes : Type 0 where
  pub sound : (all : Semaphores) (sm ec : ℕ) → AreSound all → AreSound (left all sm ec)
  pub free : (all : Semaphores) (sm ec : ℕ) → AreSound all → waits all sm ec ≡ true → IsFree (left all sm ec) ec
  pub others : (all : Semaphores) (sm ec : ℕ) → OthersWaitAsBefore all ec (left all sm ec)

pub record OnlyTheBlockedComes : Type 0 where
  pub blocked : (all : Semaphores) (sm ec : ℕ) → IsSome (semaphore_at all sm) → answer_of (semaphore all sm) ≡ Blocked → waits (downed all sm ec) sm ec ≡ true
  pub down : (all : Semaphores) (sm ec : ℕ) → OthersWaitAsBefore all ec (downed all sm ec)
  pub done : (all : Semaphores) (sm ec : ℕ) → answer_of (semaphore all sm) ≡ Done → AllWaitAsBefore all (downed all sm ec)
  pub add : (all : Semaphores) (count : Option ℕ) → AllWaitAsBefore all (all ++ option_map idle_semaphore count ∷ [])
