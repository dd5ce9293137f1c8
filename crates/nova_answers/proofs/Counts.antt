-- Counts of failed fetches through the parts of a call.
use Rattle.std.proofs.Common.{ℕ, ◌<◌, ◌≤◌, inl, inr, arith}
use Rattle.std.specs.Prelude.{◌⊎◌}
use Rattle.std.proofs.lemmas.Bool.{cases_lt}
use Rattle.nova_io.specs.Faults.{Rose}

-- a count that rose after it had not fallen rose in all
pub rose_in_all : (first between last : ℕ) → first ≤ between → between ≤ last → Rose between last → Rose first last
rose_in_all first between last kept kept_too (inl rose) = inl (omega arith)
rose_in_all first between last kept kept_too (inr full) = by_case (cases_lt first between)
  where
    by_case : (first < between) ⊎ (between ≤ first) → Rose first last
    by_case (inl less) = inl (omega arith)
    by_case (inr same) = inr (omega arith)
