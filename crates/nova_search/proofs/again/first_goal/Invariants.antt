use Rattle.std.proofs.Common.{◌≡◌, ◌<◌, ℕ, false}
use Rattle.nova_model.specs.State.{KernelState}
use Rattle.nova_search.specs.Searches.{state_at}
use Rattle.nova_search.proofs.again.first_goal.Given as goal

-- none so far is looked for
abbrev pub invariant-loop-i : goal.invariant-loop-i
invariant-loop-i g l = (j : ℕ) (d : KernelState) → j < l.i → g.G.Goal.met l.goal (state_at l.found j d) ≡ false
