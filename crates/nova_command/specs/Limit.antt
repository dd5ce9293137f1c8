-- The numbers of a command: the most turns that a run is given, and how many domains a bench makes.
use Rattle.std.specs.Prelude.{ℕ, ◌≤◌, List, Option}
use Rattle.nova_command.specs.Number.{number_within}

-- from 1 to 10,000,000 turns
abbrev pub IsLimit : ℕ → Type 0
IsLimit n = (1 ≤ n) × (n ≤ 10000000)

-- from 1 to 90,000 domains
abbrev pub IsSize : ℕ → Type 0
IsSize n = (1 ≤ n) × (n ≤ 90000)

-- the limit that a text writes
abbrev pub limit_of : List ℕ → Option ℕ
limit_of = number_within 1 10000000

-- the number of domains that a text writes
abbrev pub size_of : List ℕ → Option ℕ
size_of = number_within 1 90000
