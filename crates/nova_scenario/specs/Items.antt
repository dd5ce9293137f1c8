-- The text as items: lines of their own, and images, each with the lines of its block.
use Rattle.std.specs.Prelude.{ℕ, Bool, true, false, not, List, [], ◌∷◌, codes, Option, Some, None, Result, Ok, Err}
use Rattle.std.specs.List.{find, before_first}
use Rattle.std.specs.Str.{bytes_eq}
use Rattle.nova_text.specs.Line.{Row}
use Rattle.nova_text.specs.Piece.{Piece}
use Rattle.nova_text.specs.Token.{tokens}
use Rattle.nova_scenario.specs.Statement.{said}
use Rattle.nova_scenario.specs.declared.fault.Why.{Why}
use Rattle.nova_scenario.specs.declared.statement.Head.{Head}
use Rattle.nova_scenario.specs.declared.statement.SourceHead.{SourceHead}
use Rattle.nova_scenario.specs.declared.statement.Setting.{Setting}
use Rattle.nova_scenario.specs.declared.statement.Statement.{Statement}
use Rattle.nova_scenario.specs.declared.statement.Statement.TheVariants.{Sets, Adds, Begins}

-- a line `end`: that is its only token
abbrev pub is_end_in : List Piece → Bool
is_end_in (t ∷ []) = bytes_eq t.text (codes "end")
is_end_in _ = false

abbrev pub is_end : Row → Bool
is_end row = is_end_in (tokens row.start row.text)

-- an image's first line, the lines after it up to its line `end`, and that line, if it is there
pub record Block : Type 0 where
  pub first : Row
  pub lines : List Row
  pub end : Option Row

abbrev pub block : Row → List Row → Block
block first rows = record { first = first; lines = before_first is_end rows; end = find is_end rows }

-- a line at fault, a line that sets something and a line of a source, by their numbers; an image
pub data Item : Type 0 where
  FaultyLine : ℕ → Why → Item
  SettingLine : ℕ → Setting → Item
  SourceLine : ℕ → SourceHead → Item
  ImageBlock : Head → Block → Item

-- the item that a line begins, before those of the lines after it; a blank line is none
abbrev pub item_before : Row → Result (Option Statement) Why → List Row → (Bool → List Item) → List Item
item_before row (Err why) rows items = FaultyLine row.number why ∷ items false
item_before row (Ok None) rows items = items false
item_before row (Ok (Some (Sets setting))) rows items = SettingLine row.number setting ∷ items false
item_before row (Ok (Some (Adds head))) rows items = SourceLine row.number head ∷ items false
item_before row (Ok (Some (Begins head))) rows items = ImageBlock head (block row rows) ∷ items true

-- the items of lines, of which the first still belong to a block where the lines before them are in one
abbrev pub items : Bool → List Row → List Item
items in_block [] = []
items true (row ∷ rows) = items (not (is_end row)) rows
items false (row ∷ rows) = item_before row (said row) rows (λ in_block. items in_block rows)
