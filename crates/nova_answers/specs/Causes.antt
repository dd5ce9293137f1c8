-- Why nothing was made.
use Rattle.std.specs.Prelude.{◌≡◌, ◌⊎◌, ℕ, List, Some, None, Err}
use Rattle.nova_model.specs.State.{KernelState}
use Rattle.nova_model.specs.Boot.{boot}
use Rattle.nova_boot.specs.Boot.{scenario_of}
use Rattle.nova_command.specs.declared.command.Command.{Command}
use Rattle.nova_command.specs.declared.command.Command.TheVariants.{Run, Solo, Check, Bench, Twin}
use Rattle.nova_order.specs.declared.block.Block.{Block}
use Rattle.nova_order.specs.declared.fault.OrderFault.TheVariants as fault
use Rattle.nova_scenario.specs.Scenario.{scenario}
use Rattle.nova_scenario.specs.declared.scenario.Scenario.{Scenario}
use Rattle.nova_answers.specs.Came.{Followed, SubjectsCame}
use Rattle.nova_answers.specs.Names.{most_of_subjects}
use Rattle.nova_io.specs.Outside.{Depots, HasFailed, FileCame, TooManyCame}
use Rattle.nova_loading.specs.Came.{NoOrderCame, NoScenarioCame, OrderCame, ScenarioCame, most_of_order, most_of_scenario}
use Rattle.nova_answers.specs.Subjects.{subjects_of}
use Rattle.nova_finished.specs.Finished.{IsIdleLine}
use Rattle.nova_answers.specs.declared.exit.OrderWhy.{OrderWhy}
use Rattle.nova_answers.specs.declared.exit.OrderWhy.TheVariants.{BadLine, BadCpu, ZeroCount, NotMerged, TooMany, Idle, TooLong as OrderTooLong}
use Rattle.nova_answers.specs.declared.exit.ScenarioWhy.{ScenarioWhy}
use Rattle.nova_answers.specs.declared.exit.ScenarioWhy.TheVariants.{TooLong, Text}
use Rattle.nova_answers.specs.declared.exit.TwinWhy.{TwinWhy}
use Rattle.nova_answers.specs.declared.exit.TwinWhy.TheVariants as twin
use Rattle.nova_answers.specs.declared.subjects.Subject.{Subject}
use Rattle.nova_answers.specs.declared.subjects.Subjects.{Subjects}
use Rattle.nova_twin.specs.declared.side.Side.{Side}

-- a scenario came, and then fetches of the order failed, and so failed in the call as a whole
pub record OrderUnread {D : Type 0} (d : Depots D) (scenario_name order_name : List ℕ) (old new : D) : Type 0 where
  pub from : Scenario
  pub between : D
  pub came : ScenarioCame d scenario_name old from between
  pub failed : HasFailed d order_name between new
  pub in_all : HasFailed d order_name old new

-- fetches of a scenario failed, or those of an order after it
abbrev pub IsUnread : {D : Type 0} → Depots D → List ℕ → List ℕ → D → D → Type 0
IsUnread d scenario order old new = HasFailed d scenario old new ⊎ OrderUnread d scenario order old new

-- the line of a guest is tried from a depot on: that of the first one from where the text came, and that of the second from where the first guest was followed
pub record IsFirst {D : Type 0} (d : Depots D) (name : List ℕ) (old : D) (subject : Subject) (at : D) : Type 0 where
  pub subjects : Subjects
  pub came : SubjectsCame d name old subjects at
  pub is : subject ≡ subjects.first

pub record IsSecond {D : Type 0} (d : Depots D) (name : List ℕ) (most : ℕ) (old : D) (subject : Subject) (at : D) : Type 0 where
  pub subjects : Subjects
  pub between : D
  pub came : SubjectsCame d name old subjects between
  pub first : Side
  pub followed : Followed d subjects.first most between (Some first) at
  pub is : subject ≡ subjects.second

abbrev pub IsTried : {D : Type 0} → Depots D → List ℕ → ℕ → ℕ → D → Subject → D → Type 0
IsTried d name most line old subject at = ((line ≡ 1) × IsFirst d name old subject at) ⊎ ((line ≡ 2) × IsSecond d name most old subject at)

-- fetches of a name in a line that was tried failed, and so failed in the call as a whole
pub record LineUnread {D : Type 0} (d : Depots D) (name : List ℕ) (most : ℕ) (old new : D) : Type 0 where
  pub line : ℕ
  pub subject : Subject
  pub at : D
  pub tried : IsTried d name most line old subject at
  pub unread : IsUnread d subject.scenario subject.order at new
  pub in_all : HasFailed d subject.scenario old new ⊎ HasFailed d subject.order old new

-- fetches of the scenario failed, or those of the order that the command names; or those of the text of two guests, or of a name in it
abbrev pub IsReadFault : {D : Type 0} → Depots D → Command → D → D → Type 0
IsReadFault d (Run name order most) old new = HasFailed d name old new
IsReadFault d (Solo name None most) old new = HasFailed d name old new
IsReadFault d (Solo name (Some order) most) old new = IsUnread d name order old new
IsReadFault d (Check name) old new = HasFailed d name old new
IsReadFault d (Bench number most) old new = ⊥
IsReadFault d (Twin name most) old new = HasFailed d name old new ⊎ LineUnread d name most old new

-- a file came whose bytes are no scenario, with the line and the cause that the grammar gives; or too many came, and then the line is 0
abbrev pub ScenarioRefused : {D : Type 0} → Depots D → List ℕ → ℕ → ScenarioWhy → D → D → Type 0
ScenarioRefused d name line TooLong old new = (line ≡ 0) × TooManyCame d most_of_scenario name old new
ScenarioRefused d name line (Text why) old new = NoScenarioCame d name line why old new

abbrev pub IsScenarioFault : {D : Type 0} → Depots D → Command → ℕ → ScenarioWhy → D → D → Type 0
IsScenarioFault d (Run name order most) line why old new = ScenarioRefused d name line why old new
IsScenarioFault d (Solo name order most) line why old new = ScenarioRefused d name line why old new
IsScenarioFault d (Check name) line why old new = ScenarioRefused d name line why old new
IsScenarioFault d (Bench number most) line why old new = ⊥
IsScenarioFault d (Twin name most) line why old new = ⊥

-- why a text is refused at a line: it is at fault there; or too many bytes came, and then the line is 0. An idle turn is no fault of a text.
abbrev pub TextRefused : {D : Type 0} → Depots D → List ℕ → ℕ → ℕ → ℕ → OrderWhy → D → D → Type 0
TextRefused d name cpus most line BadLine old new = NoOrderCame d name cpus most (fault.BadLine line) old new
TextRefused d name cpus most line BadCpu old new = NoOrderCame d name cpus most (fault.BadCpu line) old new
TextRefused d name cpus most line ZeroCount old new = NoOrderCame d name cpus most (fault.ZeroCount line) old new
TextRefused d name cpus most line NotMerged old new = NoOrderCame d name cpus most (fault.NotMerged line) old new
TextRefused d name cpus most line TooMany old new = NoOrderCame d name cpus most (fault.TooMany line) old new
TextRefused d name cpus most line OrderTooLong old new = (line ≡ 0) × TooManyCame d most_of_order name old new
TextRefused d name cpus most line Idle old new = ⊥

-- why an order is refused at a line: it was read, and the first idle turn from the state on is one of that line; or its text is refused
abbrev pub OrderRefused : {D : Type 0} → Depots D → List ℕ → KernelState → ℕ → ℕ → OrderWhy → D → D → Type 0
OrderRefused d name k most line Idle old new = (blocks : List Block) × OrderCame d name k.cpus most old blocks new × IsIdleLine k blocks line
OrderRefused d name k most line why old new = TextRefused d name k.cpus most line why old new

-- a scenario came, and then the order was refused, seen from the scenario's boot state
pub record IsRefusedAfter {D : Type 0} (d : Depots D) (scenario_name order_name : List ℕ) (most line : ℕ) (why : OrderWhy) (old new : D) : Type 0 where
  pub from : Scenario
  pub between : D
  pub came : ScenarioCame d scenario_name old from between
  pub refused : OrderRefused d order_name (boot (scenario_of from)) most line why between new

-- the order that the command names is refused; where it names none, it never is
abbrev pub IsOrderFault : {D : Type 0} → Depots D → Command → ℕ → OrderWhy → D → D → Type 0
IsOrderFault d (Run name order most) line why old new = ⊥
IsOrderFault d (Solo name None most) line why old new = ⊥
IsOrderFault d (Solo name (Some order) most) line why old new = IsRefusedAfter d name order most line why old new
IsOrderFault d (Check name) line why old new = ⊥
IsOrderFault d (Bench number most) line why old new = ⊥
IsOrderFault d (Twin name most) line why old new = ⊥

-- why a text does not name two guests, at its first line at fault; or too many bytes came, and then the line is 0
abbrev pub SubjectsRefused : {D : Type 0} → Depots D → List ℕ → ℕ → TwinWhy → D → D → Type 0
SubjectsRefused d name line twin.Syntax old new = (bytes : List ℕ) × FileCame d most_of_subjects name old bytes new × (subjects_of bytes ≡ Err line)
SubjectsRefused d name line twin.TooLong old new = (line ≡ 0) × TooManyCame d most_of_subjects name old new
SubjectsRefused d name line twin.Guest old new = ⊥
SubjectsRefused d name line (twin.Scenario at why) old new = ⊥
SubjectsRefused d name line (twin.Order at why) old new = ⊥

-- why a guest is not followed: its scenario is refused; or its order is, after a valid scenario; or no virtual CPU has its number at the end
abbrev pub IsUnfollowed : {D : Type 0} → Depots D → Subject → ℕ → TwinWhy → D → D → Type 0
IsUnfollowed d subject most (twin.Scenario line why) old new = ScenarioRefused d subject.scenario line why old new
IsUnfollowed d subject most (twin.Order line why) old new = IsRefusedAfter d subject.scenario subject.order most line why old new
IsUnfollowed d subject most twin.Guest old new = Followed d subject most old None new
IsUnfollowed d subject most twin.Syntax old new = ⊥
IsUnfollowed d subject most twin.TooLong old new = ⊥

-- the guest of a line that was tried is not followed
pub record LineRefused {D : Type 0} (d : Depots D) (name : List ℕ) (most line : ℕ) (why : TwinWhy) (old new : D) : Type 0 where
  pub subject : Subject
  pub at : D
  pub tried : IsTried d name most line old subject at
  pub refused : IsUnfollowed d subject most why at new

-- two guests are not compared: their text is refused, or a line of it is
abbrev pub IsTwinFault : {D : Type 0} → Depots D → Command → ℕ → TwinWhy → D → D → Type 0
IsTwinFault d (Run name order most) line why old new = ⊥
IsTwinFault d (Solo name order most) line why old new = ⊥
IsTwinFault d (Check name) line why old new = ⊥
IsTwinFault d (Bench number most) line why old new = ⊥
IsTwinFault d (Twin name most) line why old new = SubjectsRefused d name line why old new ⊎ LineRefused d name most line why old new
