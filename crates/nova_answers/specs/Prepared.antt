-- What is made before the first byte goes out.
use Rattle.std.specs.Prelude.{◌≡◌, ℕ, ◌<◌, ◌≤◌, true, false, List, [], length, Option, Some, Result, Ok, Err}
use Rattle.std.specs.List.{AllByRecursion}
use Rattle.nova_command.specs.declared.command.Command.{Command}
use Rattle.nova_model.specs.State.{KernelState}
use Rattle.nova_model.specs.Choice.{is_quiet}
use Rattle.nova_model.specs.Runs.{run, trace}
use Rattle.nova_model.specs.Runs.{IsFreeOfIdle}
use Rattle.nova_order.specs.Blocks.{BlockList, IsOrder, turns}
use Rattle.nova_order.specs.Text.{text_of}
use Rattle.nova_order.specs.declared.block.Block.{Block}
use Rattle.nova_model.specs.declared.event.Event.{Event}
use Rattle.nova_report.specs.Report.{report}
use Rattle.nova_scenario.specs.declared.scenario.Scenario.{Scenario as ScenarioText}
use Rattle.nova_answers.specs.Came.{Followed, SubjectsCame}
use Rattle.nova_answers.specs.Causes.{IsReadFault, IsScenarioFault, IsOrderFault, IsTwinFault, IsUnread, IsUnfollowed, IsRefusedAfter, ScenarioRefused, SubjectsRefused, TextRefused}
use Rattle.nova_answers.specs.Compared.{line_of}
use Rattle.nova_answers.specs.Made.{IsOutcome}
use Rattle.nova_io.specs.Outside.{Depots, HasFailed}
use Rattle.nova_loading.specs.Came.{OrderCame, ScenarioCame}
use Rattle.nova_finished.specs.Finished.{IsIdleLine}
use Rattle.nova_answers.specs.declared.exit.Exit.{Exit}
use Rattle.nova_answers.specs.declared.exit.Exit.TheVariants.{Done, Usage, ReadFault, Scenario, OrderFault, Twin, WriteFault, Limit, Memory}
use Rattle.nova_answers.specs.declared.exit.OrderWhy.TheVariants.{Idle}
use Rattle.nova_answers.specs.declared.outcome.Outcome.{Outcome}
use Rattle.nova_answers.specs.declared.subjects.Subject.{Subject}
use Rattle.nova_answers.specs.declared.subjects.Subjects.{Subjects}
use Rattle.nova_twin.specs.declared.side.Side.{Side}
use Rattle.nova_twin.specs.declared.verdict.Verdict.{Verdict}

-- the end that an error makes, where any other is as good as Done
abbrev pub exit_of : {T : Type 0} → Result T Exit → Exit
exit_of (Ok made) = Done
exit_of (Err exit) = exit

-- a scenario of one processor
unfoldable pub IsAlone : ScenarioText → Type 0
IsAlone from = from.cpus ≡ 1

-- a scenario that was read, or why it wasn't
abbrev pub IsScenarioRead : {D : Type 0} → Depots D → List ℕ → D → D → Result ScenarioText Exit → Type 0
IsScenarioRead d name old new (Ok from) = ScenarioCame d name old from new
IsScenarioRead d name old new (Err ReadFault) = HasFailed d name old new
IsScenarioRead d name old new (Err (Scenario line why)) = ScenarioRefused d name line why old new
IsScenarioRead d name old new (Err Memory) = Unit {0}
IsScenarioRead d name old new (Err Done) = ⊥
IsScenarioRead d name old new (Err Usage) = ⊥
IsScenarioRead d name old new (Err (OrderFault line why)) = ⊥
IsScenarioRead d name old new (Err WriteFault) = ⊥
IsScenarioRead d name old new (Err Limit) = ⊥
IsScenarioRead d name old new (Err (Twin line why)) = ⊥

-- an order that was read, or why it wasn't
abbrev pub IsOrderReadBy : {D : Type 0} → Depots D → List ℕ → ℕ → ℕ → D → D → Result BlockList Exit → Type 0
IsOrderReadBy d name cpus most old new (Ok order) = OrderCame d name cpus most old order.blocks new
IsOrderReadBy d name cpus most old new (Err ReadFault) = HasFailed d name old new
IsOrderReadBy d name cpus most old new (Err (OrderFault line why)) = TextRefused d name cpus most line why old new
IsOrderReadBy d name cpus most old new (Err Memory) = Unit {0}
IsOrderReadBy d name cpus most old new (Err Done) = ⊥
IsOrderReadBy d name cpus most old new (Err Usage) = ⊥
IsOrderReadBy d name cpus most old new (Err (Scenario line why)) = ⊥
IsOrderReadBy d name cpus most old new (Err WriteFault) = ⊥
IsOrderReadBy d name cpus most old new (Err Limit) = ⊥
IsOrderReadBy d name cpus most old new (Err (Twin line why)) = ⊥

-- a text of two guests that was read, or why it wasn't
abbrev pub AreSubjectsRead : {D : Type 0} → Depots D → List ℕ → D → D → Result Subjects Exit → Type 0
AreSubjectsRead d name old new (Ok subjects) = SubjectsCame d name old subjects new
AreSubjectsRead d name old new (Err ReadFault) = HasFailed d name old new
AreSubjectsRead d name old new (Err (Twin line why)) = SubjectsRefused d name line why old new
AreSubjectsRead d name old new (Err Memory) = Unit {0}
AreSubjectsRead d name old new (Err (Scenario line why)) = ⊥
AreSubjectsRead d name old new (Err (OrderFault line why)) = ⊥
AreSubjectsRead d name old new (Err Done) = ⊥
AreSubjectsRead d name old new (Err Usage) = ⊥
AreSubjectsRead d name old new (Err WriteFault) = ⊥
AreSubjectsRead d name old new (Err Limit) = ⊥

-- what was found at the number of a guest, or why it could not be followed
abbrev pub IsFollowed : {D : Type 0} → Depots D → Subject → ℕ → D → D → Result (Option Side) Exit → Type 0
IsFollowed d subject most old new (Ok found) = Followed d subject most old found new
IsFollowed d subject most old new (Err ReadFault) = IsUnread d subject.scenario subject.order old new
IsFollowed d subject most old new (Err (Scenario line why)) = ScenarioRefused d subject.scenario line why old new
IsFollowed d subject most old new (Err (OrderFault line why)) = IsRefusedAfter d subject.scenario subject.order most line why old new
IsFollowed d subject most old new (Err Memory) = Unit {0}
IsFollowed d subject most old new (Err (Twin line why)) = ⊥
IsFollowed d subject most old new (Err Done) = ⊥
IsFollowed d subject most old new (Err Usage) = ⊥
IsFollowed d subject most old new (Err WriteFault) = ⊥
IsFollowed d subject most old new (Err Limit) = ⊥

-- the side of the guest of a line, or why there is none
abbrev pub IsFollowedAt : {D : Type 0} → Depots D → ℕ → Subject → ℕ → D → D → Result Side Exit → Type 0
IsFollowedAt d line subject most old new (Ok side) = Followed d subject most old (Some side) new
IsFollowedAt d line subject most old new (Err ReadFault) = IsUnread d subject.scenario subject.order old new
IsFollowedAt d line subject most old new (Err (Twin at why)) = (at ≡ line) × IsUnfollowed d subject most why old new
IsFollowedAt d line subject most old new (Err Memory) = Unit {0}
IsFollowedAt d line subject most old new (Err (Scenario at why)) = ⊥
IsFollowedAt d line subject most old new (Err (OrderFault at why)) = ⊥
IsFollowedAt d line subject most old new (Err Done) = ⊥
IsFollowedAt d line subject most old new (Err Usage) = ⊥
IsFollowedAt d line subject most old new (Err WriteFault) = ⊥
IsFollowedAt d line subject most old new (Err Limit) = ⊥

-- two sides compared: nothing is to be appended, and the text is the line of a verdict of which this holds
pub record IsComparison (P : Verdict → Type 0) (made : Outcome) : Type 0 where
  pub complete : made.is_complete ≡ true
  pub none : made.order.items ≡ []
  pub verdict : Verdict
  pub holds : P verdict
  pub line : made.text.items ≡ line_of verdict

-- what is said of the run over an order of turns from a state, and whether it ends quiet
pub record IsReportOf (said : KernelState → List Event → List ℕ) (k : KernelState) (order : List ℕ) (most : ℕ) (made : Outcome) : Type 0 where
  pub no_idle : IsFreeOfIdle k order
  pub text : made.text.items ≡ said (run k order) (trace k order)
  pub quiet : made.is_complete ≡ is_quiet (run k order)
  pub within : length order ≤ most
  pub processors : AllByRecursion (λ cpu. cpu < k.cpus) order

-- the report of a run with a thread for each processor: of one order of turns, whose text is to be appended. Where it does not end quiet it
-- has as many turns as it may have
pub record IsTogether (k : KernelState) (most : ℕ) (made : Outcome) : Type 0 where
  pub blocks : List Block
  pub order : IsOrder blocks
  pub appended : made.order.items ≡ text_of blocks
  pub reported : IsReportOf report k (turns blocks) most made
  pub spent : made.is_complete ≡ false → length (turns blocks) ≡ most

-- an order that was read is not run only for an idle turn, or for want of memory
abbrev pub IsIdleFault : KernelState → BlockList → Exit → Type 0
IsIdleFault k order (OrderFault line Idle) = IsIdleLine k order.blocks line
IsIdleFault k order Memory = Unit {0}
IsIdleFault k order _ = ⊥

-- what a command makes, or why it makes nothing
abbrev pub IsPrepared : {D : Type 0} → Depots D → Command → D → D → Result Outcome Exit → Type 0
IsPrepared d command old new (Ok made) = IsOutcome d command old new made.is_complete made.order.items made.text.items
IsPrepared d command old new (Err ReadFault) = IsReadFault d command old new
IsPrepared d command old new (Err (Scenario line why)) = IsScenarioFault d command line why old new
IsPrepared d command old new (Err (OrderFault line why)) = IsOrderFault d command line why old new
IsPrepared d command old new (Err Memory) = Unit {0}
IsPrepared d command old new (Err Done) = ⊥
IsPrepared d command old new (Err Usage) = ⊥
IsPrepared d command old new (Err WriteFault) = ⊥
IsPrepared d command old new (Err Limit) = ⊥
IsPrepared d command old new (Err (Twin line why)) = IsTwinFault d command line why old new
