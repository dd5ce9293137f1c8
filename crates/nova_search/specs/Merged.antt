-- Which states a search takes for one.
use Rattle.std.specs.Prelude.{◌≡◌, ℕ, ◌<◌, List, length, slice_index_or, Contains}
use Rattle.nova_model.specs.State.{KernelState}
use Rattle.law_turns.specs.Keeping.{IsKept}
use Rattle.law_alike.specs.Alike.{AreStampsGiven, IsAlike, TellsNoTicks}
use Rattle.nova_search.specs.declared.merging.Merging.{Merging}
use Rattle.nova_search.specs.declared.merging.Merging.TheVariants.{Alike, Same}

-- two states are taken for one: they are the same, or alike
abbrev pub IsOne : Merging → KernelState → KernelState → Type 0
IsOne Same s t = s ≡ t
IsOne Alike s t = IsAlike s t

-- one of the states is taken for one with `s`
pub record HasOne (m : Merging) (states : List KernelState) (s : KernelState) : Type 0 where
  pub one : KernelState
  pub there : Contains states one
  pub is : IsOne m one s

-- one that stands at a place is
pub record IsOneAt (m : Merging) (states : List KernelState) (place : ℕ) (s : KernelState) : Type 0 where
  pub there : place < length states
  pub is : (d : KernelState) → IsOne m (slice_index_or states place d) s

-- a state after which turns of alike states are alike: tables go with objects, and stamps are below the next
pub record IsApt (s : KernelState) : Type 0 where
  pub kept : IsKept s
  pub given : AreStampsGiven s

-- a turn of a processor leads from states that are one to states that are one: where alike states are, it tells no ticks
abbrev pub StaysOne : Merging → KernelState → ℕ → Type 0
StaysOne Same s cpu = Unit {0}
StaysOne Alike s cpu = TellsNoTicks s cpu
