-- Which contexts wait, in plain terms, and which a change is of.
use Rattle.std.specs.Prelude.{◌≡◌, ◌<◌, ◌==◌, ℕ, true, false, if◌then◌else◌, List, [], ◌∷◌, ◌++◌, length, Option, Some, None, option_map, Result, ⊤}
use Rattle.std.specs.declared.result.Result.TheVariants.{Ok, Err}
use Rattle.nova_model.specs.State.{Semaphore}
use Rattle.nova_model.specs.Creation.{idle_semaphore}
use Rattle.nova_model.specs.Semaphores.{Semaphores, semaphore_at, semaphore, has, waits, woken, raised, lowered, upped, downed}
use Rattle.nova_model.specs.declared.semaphore.Overflow.{Overflow}

-- none is there twice
abbrev pub AreOnce : List ℕ → Type 0
AreOnce [] = ⊤
AreOnce (ec ∷ ecs) = (has ecs ec ≡ false) × AreOnce ecs

-- an execution context waits once, and at one semaphore alone, and any waits only where the counter is 0
pub record AreSound (all : Semaphores) : Type 0 where
  pub once : (sm : ℕ) → AreOnce (semaphore all sm).waiting
  pub alone : (ec a b : ℕ) → waits all a ec ≡ true → waits all b ec ≡ true → a ≡ b
  pub idle : (sm ec : ℕ) → waits all sm ec ≡ true → (semaphore all sm).count ≡ 0

-- it waits nowhere
abbrev pub IsFree : Semaphores → ℕ → Type 0
IsFree all ec = (sm : ℕ) → waits all sm ec ≡ false

-- that is so of no semaphores, and each change keeps it
pub record EachWaitsAlone : Type 0 where
  pub none : AreSound []
  pub add : (all : Semaphores) (count : Option ℕ) → AreSound all → AreSound (all ++ option_map idle_semaphore count ∷ [])
  pub up : (all : Semaphores) (sm : ℕ) → AreSound all → AreSound (upped all sm)
  pub down : (all : Semaphores) (sm ec : ℕ) → IsFree all ec → AreSound all → AreSound (downed all sm ec)

-- every other stays as it was
abbrev pub ChangesOne : Semaphores → ℕ → Semaphores → Type 0
ChangesOne all sm after = (other : ℕ) → ¬ (other ≡ sm) → semaphore_at after other ≡ semaphore_at all other

-- a new entry leaves those that were there, and an up and a down leave every other
pub record ChangesAreOfOne : Type 0 where
  pub add : (all : Semaphores) (count : Option ℕ) (other : ℕ) → other < length all →
      semaphore_at (all ++ option_map idle_semaphore count ∷ []) other ≡ semaphore_at all other
  pub up : (all : Semaphores) (sm : ℕ) → ChangesOne all sm (upped all sm)
  pub down : (all : Semaphores) (sm ec : ℕ) → ChangesOne all sm (downed all sm ec)

-- FIRST IN, FIRST OUT

-- calls for one semaphore
pub data Call : Type 0 where
  Up : Call
  DownBy : (ec : ℕ) → Call

abbrev pub called : Semaphore → Call → Semaphore
called s Up = raised s
called s (DownBy ec) = lowered ec s

abbrev pub after : Semaphore → List Call → Semaphore
after s [] = s
after s (call ∷ calls) = after (called s call) calls

-- the contexts that come to wait
abbrev pub comes : Semaphore → Call → List ℕ
comes s Up = []
comes s (DownBy ec) = if s.count == 0 then ec ∷ [] else []

abbrev pub all_that_come : Semaphore → List Call → List ℕ
all_that_come s [] = []
all_that_come s (call ∷ calls) = comes s call ++ all_that_come (called s call) calls

-- the contexts that are woken
abbrev pub woken_one : Result (Option ℕ) Overflow → List ℕ
woken_one (Ok (Some ec)) = ec ∷ []
woken_one (Ok None) = []
woken_one (Err e) = []

abbrev pub goes : Semaphore → Call → List ℕ
goes s Up = woken_one (woken s)
goes s (DownBy ec) = []

abbrev pub all_that_go : Semaphore → List Call → List ℕ
all_that_go s [] = []
all_that_go s (call ∷ calls) = goes s call ++ all_that_go (called s call) calls

-- Those that waited at first, and then those that came, each in turn, are those that were woken, each in turn, and then those that still wait.
abbrev pub FirstInFirstOut : Type 0
FirstInFirstOut = (s : Semaphore) (calls : List Call) → s.waiting ++ all_that_come s calls ≡ all_that_go s calls ++ (after s calls).waiting
