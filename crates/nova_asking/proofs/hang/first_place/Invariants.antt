use Rattle.std.proofs.Common.{◌≡◌, ◌<◌, ℕ, slice_index_or}
use Rattle.std.specs.Prelude.{false}
use Rattle.nova_model.specs.State.{KernelState}
use Rattle.nova_search.specs.Searches.{states_of}
use Rattle.nova_asking.specs.Least.{least_at, seems}
use Rattle.nova_asking.proofs.hang.first_place.Given as goal

-- none so far seems to hang
abbrev pub invariant-loop-place : goal.invariant-loop-place
invariant-loop-place l = (i : ℕ) (d : KernelState) → i < l.place → seems l.turns l.aim (slice_index_or (states_of l.found) i d) (least_at l.least i) ≡ false
