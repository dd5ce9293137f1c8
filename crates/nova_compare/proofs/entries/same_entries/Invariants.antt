use Rattle.std.proofs.Common.{ℕ, ◌<◌}
use Rattle.law_sameness.specs.States.{IsSameAt}
use Rattle.nova_compare.proofs.entries.same_entries.Given as goal

-- the same at those so far
abbrev pub invariant-loop-n : goal.invariant-loop-n
invariant-loop-n l = (m : ℕ) → m < l.n → IsSameAt l.a.state l.b.state m
