-- Stir counts of virtual CPUs: how often something came to each from outside.
use Rattle.std.specs.Prelude.{◌≡◌, ◌≤◌, ℕ, Option, Some, slice_get}
use Rattle.nova_model.specs.State.{KernelState, entry}

-- that of the virtual CPU of a number
abbrev pub stirs_of : KernelState → ℕ → Option ℕ
stirs_of k g = entry (slice_get k.stirs.guests g)

-- none is greater than the count of turns
abbrev pub AreWithinTurns : KernelState → Type 0
AreWithinTurns k = (g count : ℕ) → stirs_of k g ≡ Some count → count ≤ k.turns
