-- Histories, whose entries are the numbers of seats.
use Rattle.std.specs.Prelude.{◌≡◌, ◌+◌, ◌++◌, List, [], ◌∷◌, ℕ, ◌==◌, replicate, if◌then◌else◌}
use mathlib.Core.List.{IsPrefix}

-- the history after is the history before, with entries of this seat alone behind it
abbrev pub Adds : ℕ → List ℕ → List ℕ → Type 0
Adds seat before after = (count : ℕ) × (after ≡ before ++ replicate count seat)

-- how many entries a seat has
abbrev pub entries : ℕ → List ℕ → ℕ
entries seat [] = 0
entries seat (x ∷ xs) = (if seat == x then 1 else 0) + entries seat xs

-- the front is the beginning of a history, and has all entries of its seat
pub record IsFrontOf (seat : ℕ) (front now : List ℕ) : Type 0 where
  pub prefix : IsPrefix front now
  pub whole : entries seat front ≡ entries seat now
