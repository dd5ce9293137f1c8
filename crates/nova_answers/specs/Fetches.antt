-- What a call does to the depot: the fetches of which names, the appends to which one, and which counts may change.
use Rattle.std.specs.Prelude.{◌≡◌, ◌⊎◌, ℕ, Bool, true, false, List, [], ◌∷◌, Some, None}
use Rattle.nova_command.specs.declared.command.Command.{Command}
use Rattle.nova_command.specs.declared.command.Command.TheVariants.{Run, Solo, Check, Bench, Twin}
use Rattle.nova_io.specs.Faults.{IsShared, OthersStay}
use Rattle.nova_io.specs.Files.{with_appended}
use Rattle.nova_io.specs.Taken.{WentWhole, WentInPart}
use Rattle.nova_loading.specs.Fetches.{CameBy, IsFetched}
use Rattle.nova_scenario.specs.declared.scenario.Scenario.{Scenario as ScenarioText}
use Rattle.nova_answers.specs.Came.{Followed, SubjectsCame}
use Rattle.nova_answers.specs.Names.{most_of_subjects, names_of, names_in, appended_names}
use Rattle.nova_io.specs.Outside.{Depots}
use Rattle.nova_loading.specs.Came.{ScenarioCame, most_of_order, most_of_scenario}
use Rattle.nova_answers.specs.Exit.{IsUnwritten}
use Rattle.nova_answers.specs.declared.exit.Exit.{Exit}
use Rattle.nova_answers.specs.declared.exit.Exit.TheVariants.{Done, Usage, ReadFault, Scenario, OrderFault, Twin as TwinFault, WriteFault, Limit, Memory}
use Rattle.nova_answers.specs.declared.subjects.Subjects.{Subjects}
use Rattle.nova_twin.specs.declared.side.Side.{Side}

-- one number is always told for a name and for one of these
abbrev pub IsSharedByAny : {D : Type 0} → (D → List ℕ → ℕ) → List (List ℕ) → List ℕ → Type 0
IsSharedByAny counts [] other = ⊥
IsSharedByAny counts (name ∷ names) other = IsShared counts name other ⊎ IsSharedByAny counts names other

-- the count of every name stayed but of these, and of those for which the number of one of these is told
abbrev pub AllOthersStay : {D : Type 0} → (D → List ℕ → ℕ) → List (List ℕ) → D → D → Type 0
AllOthersStay counts names old new = (other : List ℕ) → IsSharedByAny counts names other ⊎ (counts new other ≡ counts old other)

-- before ReadFault the last fetch failed
abbrev pub is_read_fault : Exit → Bool
is_read_fault ReadFault = true
is_read_fault _ = false

-- bytes that came by fetches of a name, each from the place after the bytes before it
abbrev pub CameBefore : {D : Type 0} → Exit → Depots D → List ℕ → D → List ℕ → D → Type 0
CameBefore exit d name old bytes new = CameBy (is_read_fault exit) d name old bytes new

-- fetches of one name alone: no byte comes after the first one too many, and no other name's count changes
abbrev pub FetchesOf : {D : Type 0} → Depots D → ℕ → List ℕ → Exit → D → D → Type 0
FetchesOf d most name exit old new = IsFetched d most name (is_read_fault exit) old new

-- the scenario came, and after it the order was fetched
pub record FetchesBoth {D : Type 0} (d : Depots D) (scenario_name order_name : List ℕ) (exit : Exit) (old new : D) : Type 0 where
  pub from : ScenarioText
  pub between : D
  pub came : ScenarioCame d scenario_name old from between
  pub others : OthersStay d.fetch_faults scenario_name old between
  pub order : FetchesOf d most_of_order order_name exit between new

-- the fetches of a scenario, and after a valid one of an order
abbrev pub FetchesOfRun : {D : Type 0} → Depots D → List ℕ → List ℕ → Exit → D → D → Type 0
FetchesOfRun d scenario order exit old new = FetchesOf d most_of_scenario scenario exit old new ⊎ FetchesBoth d scenario order exit old new

-- the first guest was followed, and after it come the fetches of the second
pub record FetchesSecond {D : Type 0} (d : Depots D) (subjects : Subjects) (most : ℕ) (exit : Exit) (old new : D) : Type 0 where
  pub first : Side
  pub between : D
  pub followed : Followed d subjects.first most old (Some first) between
  pub others : AllOthersStay d.fetch_faults (subjects.first.scenario ∷ subjects.first.order ∷ []) old between
  pub second : FetchesOfRun d subjects.second.scenario subjects.second.order exit between new

-- the text of two guests came, and after it come the fetches of the first, or those of both
pub record FetchesLines {D : Type 0} (d : Depots D) (name : List ℕ) (most : ℕ) (exit : Exit) (old new : D) : Type 0 where
  pub subjects : Subjects
  pub between : D
  pub came : SubjectsCame d name old subjects between
  pub others : OthersStay d.fetch_faults name old between
  pub lines : FetchesOfRun d subjects.first.scenario subjects.first.order exit between new ⊎ FetchesSecond d subjects most exit between new

-- the fetches of a command: of its scenario, and after a valid one of the order that it names; or of the text of two guests, and after it of what its lines name
abbrev pub Fetches : {D : Type 0} → Depots D → Command → Exit → D → D → Type 0
Fetches d (Run name order most) exit old new = FetchesOf d most_of_scenario name exit old new
Fetches d (Solo name None most) exit old new = FetchesOf d most_of_scenario name exit old new
Fetches d (Solo name (Some order) most) exit old new = FetchesOfRun d name order exit old new
Fetches d (Check name) exit old new = FetchesOf d most_of_scenario name exit old new
Fetches d (Bench number most) exit old new = new ≡ old
Fetches d (Twin name most) exit old new = FetchesOf d most_of_subjects name exit old new ⊎ FetchesLines d name most exit old new

-- the appends of a command: of some bytes to the file of its order, up to an append that failed where they did not go whole
abbrev pub Appends : {D : Type 0} → Depots D → Command → D → D → Type 0
Appends d (Run scenario name most) old new =
    (bytes : List ℕ) × (WentWhole (λ depot. d.took depot name) bytes old new ⊎ WentInPart (λ depot. d.took depot name) (λ depot. d.append_failed depot name) bytes old new)
Appends d (Solo scenario order most) old new = new ≡ old
Appends d (Check scenario) old new = new ≡ old
Appends d (Bench number most) old new = new ≡ old
Appends d (Twin name most) old new = new ≡ old

-- all that is done to the depot: first the fetches, and then the appends; there are none where nothing is written
pub record Calls {D : Type 0} (d : Depots D) (command : Command) (exit : Exit) (old new : D) : Type 0 where
  pub between : D
  pub fetches : Fetches d command exit old between
  pub appends : Appends d command between new
  pub none : IsUnwritten exit → new ≡ between

-- the files are as before, but for bytes that a run appends to the file of its order; there are none where nothing is written
abbrev pub HasFiles : {D : Type 0} → Depots D → Command → Exit → D → D → Type 0
HasFiles d (Run scenario name most) exit old new = (bytes : List ℕ) × (d.files new ≡ with_appended (d.files old) name bytes) × (IsUnwritten exit → bytes ≡ [])
HasFiles d (Solo scenario order most) exit old new = d.files new ≡ d.files old
HasFiles d (Check scenario) exit old new = d.files new ≡ d.files old
HasFiles d (Bench number most) exit old new = d.files new ≡ d.files old
HasFiles d (Twin name most) exit old new = d.files new ≡ d.files old

-- the names that a call appends to: none where nothing is written
abbrev pub appended_before : Exit → Command → List (List ℕ)
appended_before Done command = appended_names command
appended_before Limit command = appended_names command
appended_before WriteFault command = appended_names command
appended_before Usage command = []
appended_before ReadFault command = []
appended_before (Scenario line why) command = []
appended_before (OrderFault line why) command = []
appended_before Memory command = []
appended_before (TwinFault line why) command = []

-- the names in a text of two guests, where it came
pub record LinesNamed {D : Type 0} (d : Depots D) (name : List ℕ) (old new : D) : Type 0 where
  pub subjects : Subjects
  pub between : D
  pub came : SubjectsCame d name old subjects between
  pub others : AllOthersStay d.fetch_faults (name ∷ names_in subjects) old new

-- the counts of fetches of every name stayed but of those that the command names, or that the text does which it names
abbrev pub OtherFetchesStay : {D : Type 0} → Depots D → Command → D → D → Type 0
OtherFetchesStay d (Run name order most) old new = AllOthersStay d.fetch_faults (names_of (Run name order most)) old new
OtherFetchesStay d (Solo name order most) old new = AllOthersStay d.fetch_faults (names_of (Solo name order most)) old new
OtherFetchesStay d (Check name) old new = AllOthersStay d.fetch_faults (names_of (Check name)) old new
OtherFetchesStay d (Bench number most) old new = AllOthersStay d.fetch_faults (names_of (Bench number most)) old new
OtherFetchesStay d (Twin name most) old new = AllOthersStay d.fetch_faults (names_of (Twin name most)) old new ⊎ LinesNamed d name old new
