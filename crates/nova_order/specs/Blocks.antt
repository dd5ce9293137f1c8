-- Orders of turns as blocks.
use Rattle.std.specs.Prelude.{◌≡◌, ℕ, ◌+◌, ◌-◌, ◌^◌, ◌<◌, ◌==◌, Bool, true, false, not, ◌&&◌, if◌then◌else◌, List, [], ◌∷◌, ◌++◌, length, replicate, nat_lt, nat_le, slice_set, sum_by, flat_map, IsTrue, Option, Some, None}
use Rattle.std.specs.List.{last_or, list_all}
use Rattle.nova_order.specs.declared.block.Block.{Block}

-- the turns that blocks stand for: the processor of each turn
unfoldable pub turns : List Block → List ℕ
turns blocks = flat_map (λ block. replicate block.count block.cpu) blocks

-- how many turns they are
abbrev pub total : List Block → ℕ
total blocks = sum_by (λ block. block.count) blocks

-- whether there is a block, and it is of a processor
abbrev pub is_of : Option Block → ℕ → Bool
is_of None cpu = false
is_of (Some block) cpu = block.cpu == cpu

-- whether neighbours are of different processors, where the block before them may be another
abbrev pub is_merged_after : Option Block → List Block → Bool
is_merged_after before [] = true
is_merged_after before (block ∷ blocks) = not (is_of before block.cpu) && is_merged_after (Some block) blocks

-- blocks of one or more turns, neighbours of different processors, and fewer than 2 ^ 64 turns together
pub record IsOrder (blocks : List Block) : Type 0 where
  pub counted : IsTrue (list_all (λ block. nat_lt 0 block.count) blocks)
  pub merged : IsTrue (is_merged_after None blocks)
  pub fits : total blocks < 2 ^ 64

-- whether all turns are of processors below a number, and no more than there may be
abbrev pub is_within : ℕ → ℕ → List Block → Bool
is_within cpus most blocks = list_all (λ block. nat_lt block.cpu cpus) blocks && nat_le (total blocks) most

-- the blocks of an order, and for how many more there is room
pub record BlockList : Type 0 where
  pub blocks : List Block
  pub spare : ℕ

-- more turns of the last block's processor
abbrev pub grown : Option Block → ℕ → BlockList → BlockList
grown None count list = list
grown (Some last) count list =
    record list { blocks = slice_set list.blocks (length list.blocks - 1) (record { cpu = last.cpu; count = last.count + count }) }

-- one more block, in reserved room
abbrev pub added : ℕ → ℕ → BlockList → BlockList
added cpu count list =
    record { blocks = list.blocks ++ record { cpu = cpu; count = count } ∷ []; spare = list.spare - 1 }

-- turns of a processor after all others
abbrev pub pushed : ℕ → ℕ → BlockList → BlockList
pushed cpu count list =
    let last = last_or None list.blocks in if is_of last cpu then grown last count list else added cpu count list

-- turns are those of an order
pub record HasOrder (sequence : List ℕ) : Type 0 where
  pub blocks : List Block
  pub order : IsOrder blocks
  pub said : turns blocks ≡ sequence
