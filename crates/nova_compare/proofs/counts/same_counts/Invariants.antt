use Rattle.std.proofs.Common.{ℕ, ◌<◌}
use Rattle.law_sameness.specs.States.{IsCountedAt}
use Rattle.nova_compare.proofs.counts.same_counts.Given as goal

-- the same is counted at those so far
abbrev pub invariant-loop-n : goal.invariant-loop-n
invariant-loop-n l = (m : ℕ) → m < l.n → IsCountedAt l.a.state l.b.state m
