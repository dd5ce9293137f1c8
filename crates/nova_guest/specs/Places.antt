-- Where an item goes among others.
use Rattle.std.specs.Prelude.{ℕ, List, Option, Some, None}
use Rattle.std.specs.List.{insert}

-- an item put in at a place, or left out
abbrev pub inserted : {T : Type 0} → T → List T → Option ℕ → List T
inserted x xs (Some i) = insert xs i x
inserted x xs None = xs
