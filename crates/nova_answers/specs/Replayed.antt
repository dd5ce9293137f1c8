-- What a run that wrote its order comes to when it is taken again by one thread.
use Rattle.std.specs.Prelude.{◌≡◌, ℕ, Bool, List, Some, Ok}
use Rattle.nova_model.specs.Boot.{boot}
use Rattle.nova_model.specs.Runs.{IsFreeOfIdle}
use Rattle.nova_boot.specs.Boot.{scenario_of}
use Rattle.nova_command.specs.Limit.{IsLimit}
use Rattle.nova_command.specs.declared.command.Command.TheVariants.{Run, Solo}
use Rattle.nova_order.specs.Blocks.{turns}
use Rattle.nova_order.specs.Read.{order_of}
use Rattle.nova_order.specs.declared.block.Block.{Block}
use Rattle.nova_scenario.specs.declared.scenario.Scenario.{Scenario}
use Rattle.nova_answers.specs.Made.{IsOutcome}
use Rattle.nova_io.specs.Outside.{Depots}

-- bytes are read as an order of a scenario, and none of its turns is idle: an order that `solo` does not refuse
pub record IsTakenAgain (from : Scenario) (most : ℕ) (bytes : List ℕ) : Type 0 where
  pub blocks : List Block
  pub reads : order_of bytes (boot (scenario_of from)).cpus most ≡ Ok blocks
  pub no_idle : IsFreeOfIdle (boot (scenario_of from)) (turns blocks)

-- where `run` made bytes to append, `solo` refuses them as an order of the same scenario for no fault of a line
abbrev pub AreTakenAgain : {D : Type 0} → Depots D → Type 0
AreTakenAgain {D} d =
    (scenario order : List ℕ) (most : ℕ) (old new : D) (complete : Bool) (bytes text : List ℕ) → IsLimit most →
    (ran : IsOutcome d (Run scenario order most) old new complete bytes text) → IsTakenAgain ran.from most bytes

-- where `run` made bytes and a text, and `solo` with the same limit read those bytes as its order and the same scenario, `solo` made
-- the same text, and was complete as `run` was
abbrev pub AreSameAgain : {D : Type 0} → Depots D → Type 0
AreSameAgain {D} d =
    (scenario order scenario_again order_read : List ℕ) (most : ℕ) (old new old_again new_again : D) (complete complete_again : Bool)
    (bytes text none text_again : List ℕ) → IsLimit most →
    (ran : IsOutcome d (Run scenario order most) old new complete bytes text) →
    (again : IsOutcome d (Solo scenario_again (Some order_read) most) old_again new_again complete_again none text_again) →
    again.from ≡ ran.from → again.done.of_command.0.came.bytes ≡ bytes →
    (text_again ≡ text) × (complete_again ≡ complete)
