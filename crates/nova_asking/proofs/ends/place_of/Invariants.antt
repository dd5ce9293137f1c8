use Rattle.std.proofs.Common.{◌≡◌, ◌<◌, ℕ, slice_index_or}
use Rattle.nova_asking.specs.declared.ends.End.{End}
use Rattle.nova_asking.proofs.Ended.{outcome_of}
use Rattle.nova_asking.proofs.ends.place_of.Given as goal

-- none so far has the outcome
abbrev pub invariant-loop-i : goal.invariant-loop-i
invariant-loop-i l = (d : End) (j : ℕ) → j < l.i → outcome_of (slice_index_or l.ends j d) ≡ l.outcome → ⊥
