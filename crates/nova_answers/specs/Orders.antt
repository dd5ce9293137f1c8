-- The order of turns that a command runs.
use Rattle.std.specs.Prelude.{◌≡◌, ℕ, List, [], length, Some, None}
use Rattle.nova_model.specs.State.{KernelState}
use Rattle.nova_model.specs.Runs.{rounds}
use Rattle.nova_command.specs.declared.command.Command.{Command}
use Rattle.nova_command.specs.declared.command.Command.TheVariants.{Run, Solo, Check, Bench, Twin}
use Rattle.nova_order.specs.Blocks.{IsOrder, turns}
use Rattle.nova_order.specs.Text.{text_of}
use Rattle.nova_order.specs.declared.block.Block.{Block}
use Rattle.nova_io.specs.Outside.{Depots}
use Rattle.nova_loading.specs.Came.{OrderCame}

-- an order was read, and these are its turns
pub record IsOrderRead {D : Type 0} (d : Depots D) (name : List ℕ) (cpus most : ℕ) (old new : D) (order : List ℕ) : Type 0 where
  pub blocks : List Block
  pub came : OrderCame d name cpus most old blocks new
  pub all : order ≡ turns blocks

-- bytes are the text of an order
pub record IsTextOf (order bytes : List ℕ) : Type 0 where
  pub blocks : List Block
  pub sound : IsOrder blocks
  pub text : bytes ≡ text_of blocks
  pub all : order ≡ turns blocks

-- the order that a command runs from a state, what the depot has to do with it, and the bytes that are to be appended. Where a thread for each
-- processor runs, it is the order whose text the bytes are. Else it is round robin of at most `most` turns, or was read; and no bytes are.
abbrev pub IsOrderOf : {D : Type 0} → Depots D → Command → KernelState → D → D → List ℕ → List ℕ → Type 0
IsOrderOf d (Run scenario name most) k old new order bytes = IsTextOf order bytes × (new ≡ old)
IsOrderOf d (Solo scenario None most) k old new order bytes = (order ≡ rounds k most) × (new ≡ old) × (bytes ≡ [])
IsOrderOf d (Solo scenario (Some name) most) k old new order bytes = IsOrderRead d name k.cpus most old new order × (bytes ≡ [])
IsOrderOf d (Check scenario) k old new order bytes = ⊥
IsOrderOf d (Twin name most) k old new order bytes = ⊥
IsOrderOf d (Bench number most) k old new order bytes = (order ≡ rounds k most) × (new ≡ old) × (bytes ≡ [])

-- how many turns it may have at most
abbrev pub most_turns : Command → ℕ
most_turns (Run scenario order most) = most
most_turns (Solo scenario order most) = most
most_turns (Check scenario) = 0
most_turns (Twin name most) = 0
most_turns (Bench number most) = most

-- where the run does not end quiet: an order that no file gave has all the turns that it may have
abbrev pub IsSpent : Command → List ℕ → Type 0
IsSpent (Run scenario name most) order = length order ≡ most
IsSpent (Solo scenario None most) order = length order ≡ most
IsSpent (Solo scenario (Some name) most) order = Unit {0}
IsSpent (Check scenario) order = Unit {0}
IsSpent (Twin name most) order = Unit {0}
IsSpent (Bench number most) order = length order ≡ most

-- a command that takes turns by round robin
abbrev pub IsByRounds : Command → Type 0
IsByRounds (Run scenario name most) = ⊥
IsByRounds (Solo scenario None most) = Unit {0}
IsByRounds (Solo scenario (Some name) most) = ⊥
IsByRounds (Check scenario) = ⊥
IsByRounds (Twin name most) = ⊥
IsByRounds (Bench number most) = Unit {0}
