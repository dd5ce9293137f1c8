-- What the top call answers to a request, with the cause of each answer and what is written then.
use Rattle.std.specs.Prelude.{◌≡◌, ◌⊎◌, ℕ, List, Option, Result, Ok, Err, string_bytes}
use Rattle.nova_boot.specs.Boot.{scenario_of}
use Rattle.nova_io.specs.Outside.{Depots, IsOut, IsPartOut, Sinks}
use Rattle.nova_judging.specs.declared.answer.Answer.{Answer}
use Rattle.nova_judging.specs.declared.answer.Told.{Told}
use Rattle.nova_loading.specs.Came.{ScenarioCame}
use Rattle.nova_model.specs.Boot.{boot}
use Rattle.nova_naming.specs.Statements.{Stated}
use Rattle.nova_order.specs.Blocks.{BlockList}
use Rattle.nova_scenario.specs.declared.scenario.Scenario.{Scenario as ScenarioText}
use Rattle.nova_policy.specs.Came.{IsOrderFaultIfNamed, IsPolicyFaultIfNamed, IsScenarioFault, OrderCameIfNamed, PolicyCameIfNamed}
use Rattle.nova_policy.specs.Runs.{IsToldIn, IsUndecided}
use Rattle.nova_policy.specs.declared.exit.Exit.{Exit}
use Rattle.nova_policy.specs.declared.exit.Exit.TheVariants as exit
use Rattle.nova_policy.specs.declared.request.Request.{Request}

-- all files came: the scenario, and where they are named, the order and the policy
pub record AllCame {D : Type 0} (d : Depots D) (q : Request) (old : D) (from : ScenarioText) (order : Option BlockList) (policy : Option (List Stated)) (new : D) : Type 0 where
  pub first : D
  pub second : D
  pub scenario : ScenarioCame d q.scenario old from first
  pub along : OrderCameIfNamed d q.order from.cpus first order second
  pub named : PolicyCameIfNamed d q.policy second policy new

-- the order isn't read, after a scenario came; or the policy isn't, after an order came or none was named
pub record IsOrderUnread {D : Type 0} (d : Depots D) (q : Request) (old new : D) (exit : Exit) : Type 0 where
  pub from : ScenarioText
  pub first : D
  pub scenario : ScenarioCame d q.scenario old from first
  pub fault : IsOrderFaultIfNamed d q.order from.cpus first new exit

pub record IsPolicyUnread {D : Type 0} (d : Depots D) (q : Request) (old new : D) (exit : Exit) : Type 0 where
  pub from : ScenarioText
  pub order : Option BlockList
  pub first : D
  pub second : D
  pub scenario : ScenarioCame d q.scenario old from first
  pub along : OrderCameIfNamed d q.order from.cpus first order second
  pub fault : IsPolicyFaultIfNamed d q.policy second new exit

-- or all came, and there is no answer
pub record IsUnanswered {D : Type 0} (d : Depots D) (q : Request) (old new : D) (exit : Exit) : Type 0 where
  pub from : ScenarioText
  pub order : Option BlockList
  pub policy : Option (List Stated)
  pub came : AllCame d q old from order policy new
  pub fault : IsUndecided (boot (scenario_of from)) order policy q.span q.flow exit

-- why nothing is told
abbrev pub IsFault : {D : Type 0} → Depots D → Request → D → D → Exit → Type 0
IsFault d q old new exit = IsScenarioFault d q.scenario old new exit ⊎ (IsOrderUnread d q old new exit ⊎ (IsPolicyUnread d q old new exit ⊎ IsUnanswered d q old new exit))

-- all came, and this is told of the turns that are asked for of the scenario's run
pub record IsToldOf {D : Type 0} (d : Depots D) (q : Request) (old new : D) (answer : Answer) (text : List ℕ) : Type 0 where
  pub from : ScenarioText
  pub order : Option BlockList
  pub policy : Option (List Stated)
  pub came : AllCame d q old from order policy new
  pub told : IsToldIn (boot (scenario_of from)) order policy q.span q.flow answer text

abbrev pub IsPrepared : {D : Type 0} → Depots D → Request → D → D → Result Told Exit → Type 0
IsPrepared d q old new (Ok t) = IsToldOf d q old new t.answer (string_bytes t.text)
IsPrepared d q old new (Err exit) = IsFault d q old new exit

abbrev pub IsSent : {O : Type 0} → Sinks O → Told → Exit → O → O → Type 0
IsSent o t (exit.Told answer) before after = (answer ≡ t.answer) × IsOut o (string_bytes t.text) before after
IsSent o t exit.WriteFault before after = IsPartOut o (string_bytes t.text) before after
IsSent o t _ before after = ⊥

-- THE ANSWER

-- what is told is written
pub record IsWritten {D O : Type 0} (d : Depots D) (o : Sinks O) (q : Request) (answer : Answer) (old new : D) (before after : O) : Type 0 where
  pub text : List ℕ
  pub told : IsToldOf d q old new answer text
  pub out : IsOut o text before after

pub record IsCut {D O : Type 0} (d : Depots D) (o : Sinks O) (q : Request) (old new : D) (before after : O) : Type 0 where
  pub answer : Answer
  pub text : List ℕ
  pub told : IsToldOf d q old new answer text
  pub out : IsPartOut o text before after

-- each exit with its cause
abbrev pub IsAnswer : {D O : Type 0} → Depots D → Sinks O → Request → Exit → D → D → O → O → Type 0
IsAnswer d o q (exit.Told answer) old new before after = IsWritten d o q answer old new before after
IsAnswer d o q exit.WriteFault old new before after = IsCut d o q old new before after
IsAnswer d o q exit old new before after = IsFault d q old new exit
