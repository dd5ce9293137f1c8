-- The table of message words: an entry for each object, and room for `spare` more.
use Rattle.std.specs.Prelude.{ℕ, List, Option}

pub record MessageTable : Type 0 where
  pub items : List (Option (List ℕ))
  pub spare : ℕ
