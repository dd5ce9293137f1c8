-- How many own turns an execution context that gives items takes for them at most.
use Rattle.std.specs.Prelude.{◌≡◌, ℕ, zero, suc, ◌+◌, ◌-◌, ◌%◌, ◌==◌, true, max, if◌then◌else◌, List, [], ◌∷◌, Option, Some, None}
use Rattle.rv_model.specs.Registers.{reg}
use Rattle.nova_range.specs.RangeWords.{meaning_of}
use Rattle.nova_range.specs.Ranges.{end_of}
use Rattle.nova_range.specs.declared.range.Range.{Range}
use Rattle.nova_range.specs.declared.rights.Rights.{Rights}
use Rattle.nova_utcb.specs.Messages.{counted_items, item_at}
use Rattle.nova_model.specs.Edges.{is_giving}
use Rattle.nova_model.specs.Runs.{after}
use Rattle.nova_model.specs.State.{KernelState, context, message, transfer}
use Rattle.nova_model.specs.Transfers.{read_as}
use Rattle.law_turns.specs.Giving.{source}

-- the places of a range from the cursor on
abbrev pub places_left : Option (Range × Rights) → ℕ → ℕ
places_left None cursor = 0
places_left (Some (range, rights)) cursor = end_of range - max range.base cursor

-- an item of these two words: at most a turn for each of its places, where it delegates, and a turn that ends it
abbrev pub item_turns : ℕ × ℕ → ℕ → ℕ
item_turns words cursor = (if words.1 % 2 == 1 then places_left (read_as (meaning_of words.0)) cursor else 0) + 1

-- as many items of a message as the number says, from `item` on
abbrev pub later_turns : List ℕ → ℕ → ℕ → ℕ
later_turns m item zero = 0
later_turns m item (suc n) = item_turns (item_at m item) 0 + later_turns m (item + 1) n

-- the present item from the cursor on, and those that come later: of this thread's message, or the single range of a creator
abbrev pub turns_from : KernelState → ℕ → Option ℕ → ℕ → ℕ → ℕ
turns_from k ec None item cursor = item_turns (reg (context k ec).regs 12, 1) cursor
turns_from k ec (Some thread) item cursor =
    item_turns (item_at (message k thread) item) cursor + later_turns (message k thread) (item + 1) (counted_items (message k thread) - (item + 1))

abbrev pub turns_of_items : KernelState → ℕ → ℕ
turns_of_items k ec = turns_from k ec (source k ec) (transfer k ec).item (transfer k ec).cursor

-- before each of these turns the execution context gives items
abbrev pub GivesAlong : KernelState → ℕ → List ℕ → Type 0
GivesAlong k ec [] = Unit {0}
GivesAlong k ec (by ∷ turns) = (is_giving (context k ec).state ≡ true) × GivesAlong (after k by) ec turns
