-- Parts of memory, each its first address with the address after it.
use Rattle.std.specs.Prelude.{ℕ, ◌<◌, ◌≤◌, Bool, min, max, nat_lt, List, [], ◌∷◌}
use Rattle.std.specs.List.{AllByRecursion}

-- whether an address lies from one up to another and in a part too
abbrev pub meets : ℕ → ℕ → ℕ × ℕ → Bool
meets start end part = nat_lt (max start part.0) (min end part.1)

abbrev pub no_parts : List (ℕ × ℕ)
no_parts = []

-- each has an address, and begins where those before it have ended
abbrev pub AreSpread : List (ℕ × ℕ) → Type 0
AreSpread [] = Unit {0}
AreSpread (part ∷ parts) = (part.0 < part.1) × AllByRecursion (λ next. part.1 ≤ next.0) parts × AreSpread parts
