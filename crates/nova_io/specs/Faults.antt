-- Counts of faults, and of calls.
use Rattle.std.specs.Prelude.{◌≡◌, ℕ, ◌+◌, ◌-◌, ◌^◌, ◌<◌, ◌≤◌, ◌⊎◌, min, List}

-- the count rose; a count that stood at its last value counts as risen
abbrev pub Rose : ℕ → ℕ → Type 0
Rose before after = (before < after) ⊎ (before ≡ 2 ^ 64 - 1)

-- the count of no name fell
abbrev pub NeverFalls : (List ℕ → ℕ) → (List ℕ → ℕ) → Type 0
NeverFalls before after = (name : List ℕ) → before name ≤ after name

-- the count of every name stayed
abbrev pub Stay : (List ℕ → ℕ) → (List ℕ → ℕ) → Type 0
Stay before after = (name : List ℕ) → after name ≡ before name

-- one number is told for both names, always
abbrev pub IsShared : {D : Type 0} → (D → List ℕ → ℕ) → List ℕ → List ℕ → Type 0
IsShared {D} counts name other = (any : D) → counts any other ≡ counts any name

-- the count of every other name stayed, but where one number is told for it and this name
abbrev pub OthersStay : {D : Type 0} → (D → List ℕ → ℕ) → List ℕ → D → D → Type 0
OthersStay counts name before after = (other : List ℕ) → IsShared counts name other ⊎ (counts after other ≡ counts before other)

-- one more, up to the last value
abbrev pub raised : ℕ → ℕ
raised count = min (count + 1) (2 ^ 64 - 1)

-- the faults of a depot that tells one number of each kind for every name
pub record FaultCounts : Type 0 where
  pub fetches : ℕ
  pub appends : ℕ
