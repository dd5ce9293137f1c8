-- What comes of the file of a scenario, and of that of an order.
use Rattle.std.specs.Prelude.{◌≡◌, ℕ, List, Result, Ok, Err}
use Rattle.nova_io.specs.Outside.{Depots, FileCame, HasFailed, TooManyCame}
use Rattle.nova_order.specs.Blocks.{BlockList}
use Rattle.nova_order.specs.Read.{order_of}
use Rattle.nova_order.specs.declared.block.Block.{Block}
use Rattle.nova_order.specs.declared.fault.OrderFault.{OrderFault}
use Rattle.nova_scenario.specs.Scenario.{scenario}
use Rattle.nova_scenario.specs.declared.fault.Why.{Why}
use Rattle.nova_scenario.specs.declared.scenario.Scenario.{Scenario}
use Rattle.nova_loading.specs.declared.unread.OrderUnread.{OrderUnread}
use Rattle.nova_loading.specs.declared.unread.OrderUnread.TheVariants as order
use Rattle.nova_loading.specs.declared.unread.ScenarioUnread.{ScenarioUnread}
use Rattle.nova_loading.specs.declared.unread.ScenarioUnread.TheVariants as text

-- the most bytes: of a scenario 16 MiB, of an order 64 MiB
abbrev pub most_of_scenario : ℕ
most_of_scenario = 16777216

abbrev pub most_of_order : ℕ
most_of_order = 67108864

-- a file came whose bytes are the text of a scenario; or are none, with the first line at fault and why
pub record ScenarioCame {D : Type 0} (d : Depots D) (name : List ℕ) (old : D) (from : Scenario) (new : D) : Type 0 where
  pub bytes : List ℕ
  pub came : FileCame d most_of_scenario name old bytes new
  pub valid : scenario bytes ≡ Ok from

pub record NoScenarioCame {D : Type 0} (d : Depots D) (name : List ℕ) (line : ℕ) (why : Why) (old new : D) : Type 0 where
  pub bytes : List ℕ
  pub came : FileCame d most_of_scenario name old bytes new
  pub invalid : scenario bytes ≡ Err (record { line = line; why = why })

-- a file came whose bytes are the text of these blocks, of processors below `cpus` and of at most `most` turns; or are no order, with this fault
pub record OrderCame {D : Type 0} (d : Depots D) (name : List ℕ) (cpus most : ℕ) (old : D) (blocks : List Block) (new : D) : Type 0 where
  pub bytes : List ℕ
  pub came : FileCame d most_of_order name old bytes new
  pub reads : order_of bytes cpus most ≡ Ok blocks

pub record NoOrderCame {D : Type 0} (d : Depots D) (name : List ℕ) (cpus most : ℕ) (fault : OrderFault) (old new : D) : Type 0 where
  pub bytes : List ℕ
  pub came : FileCame d most_of_order name old bytes new
  pub faulty : order_of bytes cpus most ≡ Err fault

-- a scenario was loaded, or why none was
abbrev pub IsScenarioLoaded : {D : Type 0} → Depots D → List ℕ → D → D → Result Scenario ScenarioUnread → Type 0
IsScenarioLoaded d name old new (Ok from) = ScenarioCame d name old from new
IsScenarioLoaded d name old new (Err text.Failed) = HasFailed d name old new
IsScenarioLoaded d name old new (Err text.TooLong) = TooManyCame d most_of_scenario name old new
IsScenarioLoaded d name old new (Err (text.Refused line why)) = NoScenarioCame d name line why old new
IsScenarioLoaded d name old new (Err text.Memory) = Unit {0}

-- an order was loaded, or why none was
abbrev pub IsOrderLoaded : {D : Type 0} → Depots D → List ℕ → ℕ → ℕ → D → D → Result BlockList OrderUnread → Type 0
IsOrderLoaded d name cpus most old new (Ok list) = OrderCame d name cpus most old list.blocks new
IsOrderLoaded d name cpus most old new (Err order.Failed) = HasFailed d name old new
IsOrderLoaded d name cpus most old new (Err order.TooLong) = TooManyCame d most_of_order name old new
IsOrderLoaded d name cpus most old new (Err (order.Refused fault)) = NoOrderCame d name cpus most fault old new
IsOrderLoaded d name cpus most old new (Err order.Memory) = Unit {0}
