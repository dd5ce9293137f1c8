-- A line that is written from its end.
use Rattle.std.specs.Prelude.{ℕ, List}

-- its text, and for how many bytes there is room before it
pub record LineView : Type 0 where
  pub text : List ℕ
  pub room : ℕ
