-- What a command makes of what it fetches.
use Rattle.std.specs.Prelude.{◌≡◌, Bool, true, ℕ, List, [], Ok}
use Rattle.nova_model.specs.Boot.{boot}
use Rattle.nova_boot.specs.Boot.{scenario_of}
use Rattle.nova_command.specs.declared.command.Command.{Command}
use Rattle.nova_command.specs.declared.command.Command.TheVariants.{Run, Solo, Check, Bench, Twin}
use Rattle.nova_gen.specs.Generated.{generated}
use Rattle.nova_scenario.specs.Scenario.{scenario}
use Rattle.nova_scenario.specs.declared.scenario.Scenario.{Scenario}
use Rattle.nova_answers.specs.Compared.{AreCompared}
use Rattle.nova_io.specs.Outside.{Depots}
use Rattle.nova_loading.specs.Came.{ScenarioCame}
use Rattle.nova_answers.specs.Runs.{IsOutcomeFrom}

-- the scenario of a command: it was read, or is that of a bench
abbrev pub IsScenarioOf : {D : Type 0} → Depots D → Command → D → Scenario → D → Type 0
IsScenarioOf d (Run name order most) old from new = ScenarioCame d name old from new
IsScenarioOf d (Solo name order most) old from new = ScenarioCame d name old from new
IsScenarioOf d (Check name) old from new = ScenarioCame d name old from new
IsScenarioOf d (Bench number most) old from new = (scenario (generated number) ≡ Ok from) × (new ≡ old)
IsScenarioOf d (Twin name most) old from new = ⊥

-- first the scenario came, and then the command was done from its boot state: the bytes that are to be appended, and the text
pub record IsOutcomeOfOne {D : Type 0} (d : Depots D) (command : Command) (old new : D) (complete : Bool) (bytes text : List ℕ) : Type 0 where
  pub from : Scenario
  pub between : D
  pub came : IsScenarioOf d command old from between
  pub done : IsOutcomeFrom d command (boot (scenario_of from)) between new complete bytes text

-- what a command makes: of one scenario, or of two guests
abbrev pub IsOutcome : {D : Type 0} → Depots D → Command → D → D → Bool → List ℕ → List ℕ → Type 0
IsOutcome d (Run name order most) old new complete bytes text = IsOutcomeOfOne d (Run name order most) old new complete bytes text
IsOutcome d (Solo name order most) old new complete bytes text = IsOutcomeOfOne d (Solo name order most) old new complete bytes text
IsOutcome d (Check name) old new complete bytes text = IsOutcomeOfOne d (Check name) old new complete bytes text
IsOutcome d (Bench number most) old new complete bytes text = IsOutcomeOfOne d (Bench number most) old new complete bytes text
IsOutcome d (Twin name most) old new complete bytes text = (complete ≡ true) × (bytes ≡ []) × AreCompared d name most old new text
