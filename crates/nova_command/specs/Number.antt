-- Numbers on a command line.
use Rattle.std.specs.Prelude.{ℕ, ◌&&◌, nat_le, List, Option, Some, None, if◌then◌else◌, option_and_then}
use Rattle.nova_text.specs.Number.{number}

-- a number from the first to the last one
abbrev pub within : ℕ → ℕ → ℕ → Option ℕ
within first last n = if nat_le first n && nat_le n last then Some n else None

-- the number that a text writes
unfoldable pub number_within : ℕ → ℕ → List ℕ → Option ℕ
number_within first last text = option_and_then (within first last) (number text)
