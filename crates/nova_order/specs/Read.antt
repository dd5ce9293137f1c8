-- How an order's text is read.
use Rattle.std.specs.Prelude.{◌≡◌, ℕ, ◌+◌, ◌==◌, if◌then◌else◌, List, [], ◌∷◌, ◌++◌, length, nat_lt, nat_le, Option, Some, None, Result, Ok, Err}
use Rattle.std.specs.List.{last_or, slice_split}
use Rattle.nova_order.specs.Blocks.{total, is_of, BlockList}
use Rattle.nova_order.specs.Text.{block_of, is_line_feed, line_of}
use Rattle.nova_order.specs.declared.block.Block.{Block}
use Rattle.nova_order.specs.declared.fault.OrderFault.{OrderFault}
use Rattle.nova_order.specs.declared.fault.OrderFault.TheVariants.{BadLine, BadCpu, ZeroCount, NotMerged, TooMany, Memory}

-- the number of the line after those of blocks
abbrev pub next_line : List Block → ℕ
next_line before = length before + 1

-- the block of a line after those of other blocks, or the line's first fault
abbrev pub judged : ℕ → ℕ → List Block → Option Block → Result Block OrderFault
judged cpus most before None = Err (BadLine (next_line before))
judged cpus most before (Some block) =
    if nat_le cpus block.cpu then Err (BadCpu (next_line before))
    else if block.count == 0 then Err (ZeroCount (next_line before))
    else if is_of (last_or None before) block.cpu then Err (NotMerged (next_line before))
    else if nat_lt most (total before + block.count) then Err (TooMany (next_line before))
    else Ok block

-- one block more, unless there is a fault
abbrev pub with_block : List Block → Result Block OrderFault → Result (List Block) OrderFault
with_block before (Err fault) = Err fault
with_block before (Ok block) = Ok (before ++ block ∷ [])

-- the blocks with that of one line more
abbrev pub with_line : ℕ → ℕ → List Block → List ℕ → Result (List Block) OrderFault
with_line cpus most before line = with_block before (judged cpus most before (block_of line))

-- what comes next, unless there is a fault
abbrev pub and_then : Result (List Block) OrderFault → (List Block → Result (List Block) OrderFault) → Result (List Block) OrderFault
and_then (Err fault) next = Err fault
and_then (Ok blocks) next = next blocks

-- after the last line feed nothing may stand
abbrev pub ended : List Block → List ℕ → Result (List Block) OrderFault
ended blocks [] = Ok blocks
ended blocks (b ∷ bs) = Err (BadLine (next_line blocks))

-- blocks with those of lines, of which the last is what stands after the last line feed
abbrev pub read_lines : ℕ → ℕ → List Block → List (List ℕ) → Result (List Block) OrderFault
read_lines cpus most blocks [] = Ok blocks
read_lines cpus most blocks (rest ∷ []) = ended blocks rest
read_lines cpus most blocks (line ∷ next ∷ lines) =
    and_then (with_line cpus most blocks line) (λ more. read_lines cpus most more (next ∷ lines))

-- the order that a text writes, of processors below `cpus` and of at most `most` turns, or the first fault of its first line at fault
unfoldable pub order_of : List ℕ → ℕ → ℕ → Result (List Block) OrderFault
order_of bytes cpus most = read_lines cpus most [] (slice_split is_line_feed bytes)

-- a fault is that which is wanted. Want of memory may be answered instead of anything
abbrev pub IsFault : {A : Type 0} → Result A OrderFault → OrderFault → Type 0
IsFault wanted (BadLine line) = wanted ≡ Err (BadLine line)
IsFault wanted (BadCpu line) = wanted ≡ Err (BadCpu line)
IsFault wanted (ZeroCount line) = wanted ≡ Err (ZeroCount line)
IsFault wanted (NotMerged line) = wanted ≡ Err (NotMerged line)
IsFault wanted (TooMany line) = wanted ≡ Err (TooMany line)
IsFault wanted Memory = Unit {0}

-- what was found, as it is seen, is what is wanted
abbrev pub Gives : {A B : Type 0} → (A → B) → Result B OrderFault → Result A OrderFault → Type 0
Gives seen wanted (Ok found) = wanted ≡ Ok (seen found)
Gives seen wanted (Err fault) = IsFault wanted fault

-- the order that was read is that which is wanted
abbrev pub IsRead : Result (List Block) OrderFault → Result BlockList OrderFault → Type 0
IsRead wanted result = Gives (λ list. list.blocks) wanted result

-- the text begins with the line of a block that may stand first
pub record BeginsWell (bytes : List ℕ) (cpus most : ℕ) : Type 0 where
  pub block : Block
  pub rest : List ℕ
  pub whole : bytes ≡ line_of block ++ rest
  pub fits : judged cpus most [] (Some block) ≡ Ok block
