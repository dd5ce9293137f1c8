-- What the top call answers to a request, with the cause of each answer and what is written then.
use Rattle.std.specs.Prelude.{◌≡◌, ◌⊎◌, ℕ, true, false, List, Result, Ok, Err}
use Rattle.nova_boot.specs.Boot.{scenario_of}
use Rattle.nova_io.specs.Outside.{Depots, IsOut, IsPartOut, Sinks}
use Rattle.nova_loading.specs.Came.{ScenarioCame}
use Rattle.nova_model.specs.Boot.{boot}
use Rattle.nova_scenario.specs.declared.scenario.Scenario.{Scenario as ScenarioText}
use Rattle.nova_explore.specs.Came.{IsScenarioFault}
use Rattle.nova_explore.specs.Tellings.{IsTold, has_place}
use Rattle.nova_explore.specs.declared.exit.Exit.{Exit}
use Rattle.nova_explore.specs.declared.exit.Exit.TheVariants as exit
use Rattle.nova_explore.specs.declared.request.Request.{Request}
use Rattle.nova_explore.specs.declared.told.Told.{Told}
use Rattle.nova_explore.specs.declared.verdict.Verdict.{Verdict}

-- what is told of the orders of a scenario
pub record IsToldOver (from : ScenarioText) (q : Request) (verdict : Verdict) (text : List ℕ) : Type 0 where
  pub there : has_place from q.question ≡ true
  pub told : IsTold q.question (boot (scenario_of from)) from.cpus q.turns q.states verdict text

-- or why nothing is: it has no such console or frame, or memory was refused
abbrev pub IsUntold : ScenarioText → Request → Exit → Type 0
IsUntold from q exit.Absent = has_place from q.question ≡ false
IsUntold from q exit.Memory = Unit {0}
IsUntold from q _ = ⊥

abbrev pub IsExplored : ScenarioText → Request → Result Told Exit → Type 0
IsExplored from q (Ok t) = IsToldOver from q t.verdict t.text.items
IsExplored from q (Err exit) = IsUntold from q exit

-- a scenario came, and there is no answer
pub record IsUnanswered {D : Type 0} (d : Depots D) (q : Request) (old new : D) (exit : Exit) : Type 0 where
  pub from : ScenarioText
  pub came : ScenarioCame d q.scenario old from new
  pub fault : IsUntold from q exit

-- why nothing is told
abbrev pub IsFault : {D : Type 0} → Depots D → Request → D → D → Exit → Type 0
IsFault d q old new exit = IsScenarioFault d q.scenario old new exit ⊎ IsUnanswered d q old new exit

-- a scenario came, and this is told of its orders
pub record IsToldOf {D : Type 0} (d : Depots D) (q : Request) (old new : D) (verdict : Verdict) (text : List ℕ) : Type 0 where
  pub from : ScenarioText
  pub came : ScenarioCame d q.scenario old from new
  pub told : IsToldOver from q verdict text

abbrev pub IsPrepared : {D : Type 0} → Depots D → Request → D → D → Result Told Exit → Type 0
IsPrepared d q old new (Ok t) = IsToldOf d q old new t.verdict t.text.items
IsPrepared d q old new (Err exit) = IsFault d q old new exit

abbrev pub IsSent : {O : Type 0} → Sinks O → Told → Exit → O → O → Type 0
IsSent o t (exit.Told verdict) before after = (verdict ≡ t.verdict) × IsOut o t.text.items before after
IsSent o t exit.WriteFault before after = IsPartOut o t.text.items before after
IsSent o t _ before after = ⊥

-- THE ANSWER

-- what is told is written
pub record IsWritten {D O : Type 0} (d : Depots D) (o : Sinks O) (q : Request) (verdict : Verdict) (old new : D) (before after : O) : Type 0 where
  pub text : List ℕ
  pub told : IsToldOf d q old new verdict text
  pub out : IsOut o text before after

pub record IsCut {D O : Type 0} (d : Depots D) (o : Sinks O) (q : Request) (old new : D) (before after : O) : Type 0 where
  pub verdict : Verdict
  pub text : List ℕ
  pub told : IsToldOf d q old new verdict text
  pub out : IsPartOut o text before after

-- each exit with its cause
abbrev pub IsAnswer : {D O : Type 0} → Depots D → Sinks O → Request → Exit → D → D → O → O → Type 0
IsAnswer d o q (exit.Told verdict) old new before after = IsWritten d o q verdict old new before after
IsAnswer d o q exit.WriteFault old new before after = IsCut d o q old new before after
IsAnswer d o q exit old new before after = IsFault d q old new exit
