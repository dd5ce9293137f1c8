-- A frame that no context that acts may write.
use Rattle.std.specs.Prelude.{ℕ, List, [], ◌∷◌}
use Rattle.nova_range.specs.Rights.{write_right}
use Rattle.nova_model.specs.Runs.{after}
use Rattle.nova_model.specs.State.{KernelState, pd_of}
use Rattle.law_origins.specs.Giving.{Acts}
use Rattle.law_integrity.specs.Rights.{PageLeadsTo}

-- in each of these turns the domain of the context that acts reaches the frame by no page with the right to write
abbrev pub IsUnwrittenFrame : KernelState → List ℕ → ℕ → Type 0
IsUnwrittenFrame k [] frame = Unit {0}
IsUnwrittenFrame k (cpu ∷ turns) frame = ((ec page : ℕ) → Acts k cpu ec → PageLeadsTo k (pd_of k ec) page write_right frame → ⊥) × IsUnwrittenFrame (after k cpu) turns frame
