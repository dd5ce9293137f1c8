-- The virtual CPUs for which stores of an execution context to a frame are counted, as it is remembered.
use Rattle.std.specs.Prelude.{ℕ, ◌≡◌, true, Some, slice_get}
use Rattle.nova_model.specs.State.{KernelState}
use Rattle.nova_model.specs.declared.deed.Deed.TheVariants.{Steps}
use Rattle.nova_deeds.specs.Stirs.{is_stirring}
use Rattle.nova_turn.specs.Homes.{AreStirred}
use Rattle.nova_turn.specs.declared.act.seers.Seen.{Seen}
use Rattle.nova_turn.specs.declared.act.seers.Seer.{Seer}
use Rattle.nova_turn.specs.declared.act.seers.Seer.TheVariants.{Unknown, Nobody, Only}
use Rattle.nova_turn.specs.declared.act.seers.Seers.{Seers}
use Rattle.nova_turn.specs.declared.tables.inventory.Numbers.TheVariants.{Empty, Single}

-- of what is stored to a frame no virtual CPU is told, or this one alone
abbrev pub IsSeer : KernelState → ℕ → ℕ → Seer → Type 0
IsSeer k ec frame Unknown = Unit {0}
IsSeer k ec frame Nobody = AreStirred k (is_stirring k (Some frame) ec Steps) Empty
IsSeer k ec frame (Only guest) = AreStirred k (is_stirring k (Some frame) ec Steps) (Single guest) × (is_stirring k (Some frame) ec Steps guest ≡ true)

abbrev pub AreSeersOf : KernelState → ℕ → Seers → Type 0
AreSeersOf k ec seers = (i : ℕ) (x : Seen) → slice_get seers.places i ≡ Some x → IsSeer k ec x.frame x.seer
