-- Orders as texts.
use Rattle.std.specs.Prelude.{ℕ, ◌==◌, Bool, List, [], ◌∷◌, ◌++◌, flat_map, Option, Some, None}
use Rattle.std.specs.Fmt.{decimal}
use Rattle.std.specs.List.{before_first, after_first}
pub use Rattle.nova_text.specs.Bytes.{is_line_feed}
use Rattle.nova_order.specs.Numbers.{number}
use Rattle.nova_order.specs.declared.block.Block.{Block}

-- the line of a block: processor, space, count, line feed
abbrev pub line_of : Block → List ℕ
line_of block = decimal block.cpu ++ 32 ∷ (decimal block.count ++ 10 ∷ [])

-- the text of an order
unfoldable pub text_of : List Block → List ℕ
text_of blocks = flat_map line_of blocks

-- the block of two numbers, where both are there
abbrev pub block_of_numbers : Option ℕ → Option ℕ → Option Block
block_of_numbers None count = None
block_of_numbers (Some cpu) None = None
block_of_numbers (Some cpu) (Some count) = Some (record { cpu = cpu; count = count })

-- a space, and a line feed
abbrev pub is_space : ℕ → Bool
is_space b = b == 32

-- the block that a line says, without its line feed
unfoldable pub block_of : List ℕ → Option Block
block_of line = block_of_numbers (number (before_first is_space line)) (number (after_first is_space line))
