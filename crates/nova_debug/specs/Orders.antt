-- The turns of an order that words ask for, and what is replied.
use Rattle.std.specs.Prelude.{◌≡◌, ℕ, ◌+◌, ◌==◌, Bool, true, false, ◌&&◌, if◌then◌else◌, List, [], ◌∷◌, ◌++◌, codes, decimal, replicate, nat_lt, nat_le, Option, Some, None, option_map, ⊤}
use Rattle.std.specs.List.{list_all}
use Rattle.std.specs.Option.{option_and_then}
use Rattle.std.specs.Str.{bytes_eq}
use Rattle.nova_model.specs.Runs.{IsFreeOfIdle, run, trace}
use Rattle.nova_model.specs.State.{KernelState}
use Rattle.nova_order.specs.Blocks.{IsOrder, total, turns}
use Rattle.nova_order.specs.Text.{block_of_numbers}
use Rattle.nova_order.specs.declared.block.Block.{Block}
use Rattle.nova_report.specs.Report.{report}
use Rattle.nova_report.specs.Words.{line_feed}
use Rattle.nova_finished.specs.Finished.{IsIdleLine}
use Rattle.nova_debug.specs.Commands.{number_of}
use Rattle.nova_debug.specs.declared.orders.OrderReply.{OrderReply}
use Rattle.nova_debug.specs.declared.orders.OrderReply.TheVariants.{No, Report, Idle, Memory}

-- the words behind `order`, where that is the first
abbrev pub behind_order : List (List ℕ) → Option (List (List ℕ))
behind_order [] = None
behind_order (word ∷ words) = if bytes_eq word (codes "order") then Some words else None

-- a block before others, where all are there
abbrev pub in_front : Option Block → Option (List Block) → Option (List Block)
in_front None blocks = None
in_front (Some block) blocks = option_map (λ bs. block ∷ bs) blocks

-- the blocks of words: pairs of a processor and a count
abbrev pub blocks_of : List (List ℕ) → Option (List Block)
blocks_of [] = Some []
blocks_of (cpu ∷ []) = None
blocks_of (cpu ∷ count ∷ words) = in_front (block_of_numbers (number_of cpu) (number_of count)) (blocks_of words)

-- the turns of blocks, where each has some, and they are no more than there may be
abbrev pub has_turns : Block → Bool
has_turns block = nat_lt 0 block.count

abbrev pub turns_within : ℕ → List Block → Option (List ℕ)
turns_within most blocks = if list_all has_turns blocks && nat_le (total blocks) most then Some (turns blocks) else None

-- the turns that words ask for
abbrev pub turns_asked : ℕ → List (List ℕ) → Option (List ℕ)
turns_asked most words = option_and_then (turns_within most) (blocks_of words)

-- a block was added to others, where it has turns and with them there are no more than there may be
abbrev pub may_be_added : ℕ → List Block → Block → Bool
may_be_added most blocks block = has_turns block && nat_le (total blocks + block.count) most

abbrev pub IsAdded : ℕ → List Block → Block → Bool → List Block → Type 0
IsAdded most old block true new =
    (may_be_added most old block ≡ true) × (turns new ≡ turns old ++ replicate block.count block.cpu) × (total new ≡ total old + block.count)
IsAdded most old block false new = may_be_added most old block ≡ false

-- turns may be run: no turn was taken before, and they are of processors that are there
abbrev pub may_run : KernelState → List ℕ → Bool
may_run k ts = (k.turns == 0) && list_all (λ cpu. nat_lt cpu k.cpus) ts

-- turns were run, and none of them was idle: the report of the state after them and of their trace
pub record HasRunAll (k : KernelState) (ts text : List ℕ) : Type 0 where
  pub may : may_run k ts ≡ true
  pub free : IsFreeOfIdle k ts
  pub told : text ≡ report (run k ts) (trace k ts)

-- a turn is idle: the first such turn is in the block of this number, counted from 1, where the turns of a processor one after another are a block
pub record HasMetIdle (k : KernelState) (ts : List ℕ) (number : ℕ) : Type 0 where
  pub may : may_run k ts ≡ true
  pub blocks : List Block
  pub order : IsOrder blocks
  pub said : turns blocks ≡ ts
  pub idle : IsIdleLine k blocks number

-- what is replied to turns that are asked for, or to words that ask for none
abbrev pub IsReplyTo : KernelState → Option (List ℕ) → OrderReply → Type 0
IsReplyTo k asked Memory = ⊤
IsReplyTo k None No = ⊤
IsReplyTo k None reply = ⊥
IsReplyTo k (Some ts) No = may_run k ts ≡ false
IsReplyTo k (Some ts) (Report text) = HasRunAll k ts text.items
IsReplyTo k (Some ts) (Idle number) = HasMetIdle k ts number

-- the lines of a reply
abbrev pub order_text : OrderReply → List ℕ
order_text No = codes "no\n"
order_text (Report text) = text.items ++ codes "ok\n"
order_text (Idle number) = codes "idle " ++ (decimal number ++ line_feed)
order_text Memory = codes "memory\n"
