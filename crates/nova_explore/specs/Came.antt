-- What comes of the file that is named.
use Rattle.std.specs.Prelude.{ℕ, List}
use Rattle.nova_io.specs.Outside.{Depots, HasFailed, TooManyCame}
use Rattle.nova_loading.specs.Came.{NoScenarioCame, most_of_scenario}
use Rattle.nova_explore.specs.declared.exit.Exit.{Exit}
use Rattle.nova_explore.specs.declared.exit.Exit.TheVariants.{ReadFault, TooLong, Scenario, Memory}

-- why no scenario came
abbrev pub IsScenarioFault : {D : Type 0} → Depots D → List ℕ → D → D → Exit → Type 0
IsScenarioFault d name old new ReadFault = HasFailed d name old new
IsScenarioFault d name old new TooLong = TooManyCame d most_of_scenario name old new
IsScenarioFault d name old new (Scenario line why) = NoScenarioCame d name line why old new
IsScenarioFault d name old new Memory = Unit {0}
IsScenarioFault d name old new _ = ⊥
