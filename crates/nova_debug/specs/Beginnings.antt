-- How a session begins, by a limit and the files that are named on the command line; and why none does.
use Rattle.std.specs.Prelude.{◌≡◌, ℕ, Bool, false, ◌&&◌, if◌then◌else◌, List, [], ◌++◌, codes, nat_lt, nat_le, Option, Some, None, Result, Ok, Err, is_ok, ⊤}
use Rattle.std.specs.Option.{option_and_then}
use Rattle.nova_boot.specs.Boot.{scenario_of}
use Rattle.nova_io.specs.Outside.{Depots, FileCame, HasFailed, TooManyCame}
use Rattle.nova_loading.specs.Came.{OrderCame, ScenarioCame, most_of_order, most_of_scenario}
use Rattle.nova_model.specs.Boot.{boot}
use Rattle.nova_model.specs.Runs.{rounds, trace}
use Rattle.nova_order.specs.Blocks.{BlockList, turns}
use Rattle.nova_order.specs.Read.{order_of}
use Rattle.nova_order.specs.declared.block.Block.{Block}
use Rattle.nova_recording.specs.Recordings.{order_of as order_in}
use Rattle.nova_scenario.specs.Scenario.{scenario}
use Rattle.nova_scenario.specs.declared.scenario.Scenario.{Scenario as ScenarioText}
use Rattle.nova_finished.specs.Fault.{message_of}
use Rattle.nova_finished.specs.Finished.{IsIdleLine}
use Rattle.nova_finished.specs.declared.fault.RunFault.TheVariants.{OrderIdle, Memory}
use Rattle.nova_debug.specs.Commands.{number_of}
use Rattle.nova_debug.specs.declared.refusal.Refusal.{Refusal}
use Rattle.nova_debug.specs.declared.refusal.Refusal.TheVariants.{Usage, Limit, Scenario, Order, Run}
use Rattle.nova_debug.specs.declared.refusal.Unfit.{Unfit}
use Rattle.nova_debug.specs.declared.refusal.Unfit.TheVariants.{Unread, TooLong, Wrong}
use Rattle.nova_debug.specs.declared.serving.Session.{Session}

-- the most bytes of kept states, until a line says otherwise: 64 MiB
abbrev pub most_kept : ℕ
most_kept = 67108864

-- the most turns of a run, of a number and of a word, where it is one from 1 to 10,000,000
abbrev pub limit_in : ℕ → Option ℕ
limit_in n = if nat_lt 0 n && nat_le n 10000000 then Some n else None

abbrev pub limit_of : List ℕ → Option ℕ
limit_of word = option_and_then limit_in (number_of word)

-- FILES

-- a file came, and is no text of its kind
pub record IsWrong {D : Type 0} (d : Depots D) (most : ℕ) (is_text : List ℕ → Bool) (name : List ℕ) (old new : D) : Type 0 where
  pub bytes : List ℕ
  pub came : FileCame d most name old bytes new
  pub none : is_text bytes ≡ false

-- why a file doesn't serve
abbrev pub IsUnfit : {D : Type 0} → Depots D → ℕ → (List ℕ → Bool) → List ℕ → D → D → Unfit → Type 0
IsUnfit d most is_text name old new Unread = HasFailed d name old new
IsUnfit d most is_text name old new TooLong = TooManyCame d most name old new
IsUnfit d most is_text name old new Wrong = IsWrong d most is_text name old new

abbrev pub is_scenario : List ℕ → Bool
is_scenario bytes = is_ok (scenario bytes)

abbrev pub is_order : ℕ → ℕ → List ℕ → Bool
is_order cpus most bytes = is_ok (order_of bytes cpus most)

-- a scenario was read, or why it wasn't
abbrev pub IsScenarioRead : {D : Type 0} → Depots D → List ℕ → D → D → Result ScenarioText Refusal → Type 0
IsScenarioRead d name old new (Ok from) = ScenarioCame d name old from new
IsScenarioRead d name old new (Err (Scenario why)) = IsUnfit d most_of_scenario is_scenario name old new why
IsScenarioRead d name old new (Err (Run Memory)) = ⊤
IsScenarioRead d name old new (Err other) = ⊥

-- an order was read, of processors below `cpus` and at most `most` turns, or why it wasn't
abbrev pub IsOrderRead : {D : Type 0} → Depots D → List ℕ → ℕ → ℕ → D → D → Result BlockList Refusal → Type 0
IsOrderRead d name cpus most old new (Ok list) = OrderCame d name cpus most old list.blocks new
IsOrderRead d name cpus most old new (Err (Order why)) = IsUnfit d most_of_order (is_order cpus most) name old new why
IsOrderRead d name cpus most old new (Err (Run Memory)) = ⊤
IsOrderRead d name cpus most old new (Err other) = ⊥

-- THE SESSION

-- a session at the beginning of a scenario's run along an order, of which each turn has its event; nothing is looked for
pub record IsAtBeginning (from : ScenarioText) (order : List ℕ) (s : Session) : Type 0 where
  pub opening : s.recording.opening ≡ boot (scenario_of from)
  pub events : s.recording.events ≡ trace (boot (scenario_of from)) order
  pub taken : order_in s.recording.events ≡ order
  pub turn : s.recording.turn ≡ 0
  pub most : s.recording.most ≡ most_kept
  pub wants : s.search.wants.items ≡ []
  pub watches : s.search.watches.items ≡ []

-- by round robin, of at most `limit` turns
abbrev pub IsBegunRound : ScenarioText → ℕ → Result Session Refusal → Type 0
IsBegunRound from limit (Ok s) = IsAtBeginning from (rounds (boot (scenario_of from)) limit) s
IsBegunRound from limit (Err (Run Memory)) = ⊤
IsBegunRound from limit (Err other) = ⊥

-- along an order that came; or the first idle turn of an order that came is in the block of this line
pub record HasBegunAlong {D : Type 0} (d : Depots D) (from : ScenarioText) (name : List ℕ) (limit : ℕ) (old new : D) (s : Session) : Type 0 where
  pub blocks : List Block
  pub came : OrderCame d name from.cpus limit old blocks new
  pub begun : IsAtBeginning from (turns blocks) s

pub record HasMetIdleLine {D : Type 0} (d : Depots D) (from : ScenarioText) (name : List ℕ) (limit : ℕ) (old new : D) (line : ℕ) : Type 0 where
  pub blocks : List Block
  pub came : OrderCame d name from.cpus limit old blocks new
  pub idle : IsIdleLine (boot (scenario_of from)) blocks line

abbrev pub IsBegunAlong : {D : Type 0} → Depots D → ScenarioText → List ℕ → ℕ → D → D → Result Session Refusal → Type 0
IsBegunAlong d from name limit old new (Ok s) = HasBegunAlong d from name limit old new s
IsBegunAlong d from name limit old new (Err (Order why)) = IsUnfit d most_of_order (is_order from.cpus limit) name old new why
IsBegunAlong d from name limit old new (Err (Run (OrderIdle line))) = HasMetIdleLine d from name limit old new line
IsBegunAlong d from name limit old new (Err (Run Memory)) = ⊤
IsBegunAlong d from name limit old new (Err other) = ⊥

-- of a scenario, along an order if it is named
abbrev pub IsBegunOf : {D : Type 0} → Depots D → ScenarioText → ℕ → Option (List ℕ) → D → D → Result Session Refusal → Type 0
IsBegunOf d from limit None old new result = IsBegunRound from limit result × (new ≡ old)
IsBegunOf d from limit (Some order) old new result = IsBegunAlong d from order limit old new result

-- a scenario came, and the answer is that of its run
pub record HasGoneOn {D : Type 0} (d : Depots D) (name : List ℕ) (limit : ℕ) (order : Option (List ℕ)) (old new : D) (result : Result Session Refusal) : Type 0 where
  pub from : ScenarioText
  pub between : D
  pub came : ScenarioCame d name old from between
  pub begun : IsBegunOf d from limit order between new result

-- by the names of a scenario and perhaps an order, and by the limit, where the word was one
abbrev pub IsBegun : {D : Type 0} → Depots D → List ℕ → Option ℕ → Option (List ℕ) → D → D → Result Session Refusal → Type 0
IsBegun d name None order old new (Err Limit) = new ≡ old
IsBegun d name None order old new result = ⊥
IsBegun d name (Some limit) order old new (Err (Scenario why)) = IsUnfit d most_of_scenario is_scenario name old new why
IsBegun d name (Some limit) order old new (Err (Run Memory)) = ⊤
IsBegun d name (Some limit) order old new (Err (Run (OrderIdle line))) = HasGoneOn d name limit order old new (Err (Run (OrderIdle line)))
IsBegun d name (Some limit) order old new (Err (Order why)) = HasGoneOn d name limit order old new (Err (Order why))
IsBegun d name (Some limit) order old new (Ok s) = HasGoneOn d name limit order old new (Ok s)
IsBegun d name (Some limit) order old new (Err other) = ⊥

-- the line of a refusal
abbrev pub refusal_text : Refusal → List ℕ
refusal_text Usage = codes "usage: nova_debug SCENARIO LIMIT [ORDER]"
refusal_text Limit = codes "no limit"
refusal_text (Scenario why) = codes "no scenario"
refusal_text (Order why) = codes "no order"
refusal_text (Run fault) = codes "no run: " ++ message_of fault
