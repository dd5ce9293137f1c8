-- Notes of what turns touch, and a reduced search on its way.
use Rattle.std.specs.Prelude.{◌≡◌, ◌&&◌, ℕ, ◌+◌, ◌<◌, Bool, true, List, length, All}
use Rattle.nova_model.specs.State.{KernelState}
use Rattle.nova_search.specs.declared.found.Found.{Found}
use Rattle.nova_search.specs.declared.merging.Merging.{Merging}
use Rattle.nova_search.specs.Reductions.{IsTaken}
use Rattle.nova_search.specs.Searches.{AreLinked, AreOfTurnsBefore, Grows, IsReached, Keeps, state_at, states_of}

-- something that a turn touches no more than is among what was noted
pub record IsMarked (T : Type 0) (touched : T → Type 0) (noted : T → Bool) : Type 0 where
  pub touch : T
  pub touches : touched touch
  pub is : noted touch ≡ true

-- among what was noted, and what was noted as taken alone
abbrev pub both : {T : Type 0} → (T → Bool) → (T → Bool) → T → Bool
both noted lone t = noted t && lone t

-- what was noted stays so, and what was as taken alone
pub record StayNoted (T : Type 0) (noted lone since lone_since : ℕ → T → Bool) : Type 0 where
  pub all : (cpu : ℕ) (t : T) → noted cpu t ≡ true → since cpu t ≡ true
  pub alone : (cpu : ℕ) (t : T) → lone cpu t ≡ true → lone_since cpu t ≡ true

-- the state at a place of what was found was expanded in one of the two ways
pub record IsGoneThrough (T : Type 0) (touched : KernelState → ℕ → T → Type 0) (noted lone : ℕ → T → Bool) (m : Merging) (old new : List Found) (place : ℕ) (s : KernelState) : Type 0 where
  pub grows : Grows (states_of old) (states_of new) (s.turns + 1)
  pub keeps : Keeps (states_of old) (states_of new)
  pub linked : AreLinked new
  pub turns : AreOfTurnsBefore new (place + 1) 0
  pub taken : IsTaken T touched noted lone m s.cpus (states_of new) place s

-- states that were found from `k`, each after a turn in one before it
pub record AreFoundFrom (k : KernelState) (found : List Found) : Type 0 where
  pub there : 0 < length found
  pub first : (d : KernelState) → state_at found 0 d ≡ k
  pub reached : All (IsReached k) (states_of found)
  pub linked : AreLinked found

-- the states at places before one were expanded
pub record AreGoneThrough (T : Type 0) (touched : KernelState → ℕ → T → Type 0) (noted lone : ℕ → T → Bool) (m : Merging) (k : KernelState) (found : List Found) (place : ℕ) : Type 0 where
  pub from : AreFoundFrom k found
  pub turns : AreOfTurnsBefore found place 0
  pub taken : (i : ℕ) (d : KernelState) → i < place → IsTaken T touched noted lone m k.cpus (states_of found) i (state_at found i d)
