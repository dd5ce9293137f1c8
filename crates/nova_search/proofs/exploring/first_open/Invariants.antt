use Rattle.std.proofs.Common.{◌≡◌, ◌<◌, ℕ, false, slice_index_or}
use Rattle.nova_model.specs.State.{KernelState}
use Rattle.nova_search.proofs.exploring.first_open.Given as goal

-- none so far is looked for
abbrev pub invariant-loop-i : goal.invariant-loop-i
invariant-loop-i g l = (j : ℕ) (d : KernelState) → j < l.i → g.G.Goal.met l.goal (slice_index_or l.frontier j d) ≡ false
