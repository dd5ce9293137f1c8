-- What a command needs to be done.
use Rattle.std.specs.Prelude.{◌≡◌, ◌⊎◌, ℕ, ◌≤◌, List, [], ◌∷◌, length, Option, Some, None, Result, Ok, Err}
use Rattle.std.specs.FinMap.{get}
use Rattle.std.specs.List.{AllByRecursion}
use Rattle.nova_model.specs.State.{KernelState}
use Rattle.nova_model.specs.Boot.{boot}
use Rattle.nova_model.specs.Runs.{IsFreeOfIdle, run}
use Rattle.nova_boot.specs.Boot.{scenario_of}
use Rattle.nova_command.specs.declared.command.Command.{Command}
use Rattle.nova_command.specs.declared.command.Command.TheVariants.{Run, Solo, Check, Bench, Twin}
use Rattle.nova_io.specs.Faults.{Rose}
use Rattle.nova_io.specs.Files.{Files, bytes_of}
use Rattle.law_isolation.specs.Sound.{IsVirtual}
use Rattle.nova_order.specs.Blocks.{turns}
use Rattle.nova_order.specs.Read.{order_of}
use Rattle.nova_order.specs.declared.block.Block.{Block}
use Rattle.nova_scenario.specs.Scenario.{scenario}
use Rattle.nova_scenario.specs.declared.scenario.Scenario.{Scenario}
use Rattle.nova_answers.specs.Names.{most_of_subjects, names_of, names_in, appended_names}
use Rattle.nova_io.specs.Outside.{Depots, Sinks, HasFailed, HasFailedToAppend}
use Rattle.nova_loading.specs.Came.{most_of_order, most_of_scenario}
use Rattle.nova_answers.specs.Subjects.{subjects_of}
use Rattle.nova_answers.specs.declared.subjects.Subject.{Subject}
use Rattle.nova_answers.specs.declared.subjects.Subjects.{Subjects}
use Rattle.nova_answers.specs.declared.exit.Exit.{Exit}
use Rattle.nova_answers.specs.declared.exit.Exit.TheVariants.{Done, Limit, Memory}

-- a name has a scenario, of no more bytes than there may be
pub record HasScenario (held : Files) (name : List ℕ) (from : Scenario) : Type 0 where
  pub bytes : List ℕ
  pub there : get held name ≡ Some bytes
  pub fits : length bytes ≤ most_of_scenario
  pub valid : scenario bytes ≡ Ok from

-- a name has an order, of no more bytes and turns than there may be, and none of its turns is idle from the state on
pub record HasOrder (held : Files) (name : List ℕ) (k : KernelState) (most : ℕ) : Type 0 where
  pub bytes : List ℕ
  pub there : get held name ≡ Some bytes
  pub fits : length bytes ≤ most_of_order
  pub blocks : List Block
  pub reads : order_of bytes k.cpus most ≡ Ok blocks
  pub no_idle : IsFreeOfIdle k (turns blocks)

-- a virtual CPU has a number; none has one of 2^32 or more
abbrev pub IsGuest : KernelState → Option ℕ → Type 0
IsGuest k (Some guest) = IsVirtual k guest
IsGuest k None = ⊥

-- a guest is there at the end of the run of its scenario over its order
pub record HasGuest (held : Files) (subject : Subject) (most : ℕ) : Type 0 where
  pub from : Scenario
  pub scenario : HasScenario held subject.scenario from
  pub order : HasOrder held subject.order (boot (scenario_of from)) most
  pub there : IsGuest (run (boot (scenario_of from)) (turns order.blocks)) subject.guest

-- a name has a text of two guests, of no more bytes than there may be, and both are there
pub record HasGuests (held : Files) (name : List ℕ) (most : ℕ) : Type 0 where
  pub bytes : List ℕ
  pub there : get held name ≡ Some bytes
  pub fits : length bytes ≤ most_of_subjects
  pub subjects : Subjects
  pub names : subjects_of bytes ≡ Ok subjects
  pub first : HasGuest held subjects.first most
  pub second : HasGuest held subjects.second most

-- the files have what a command needs
abbrev pub HasAll : Files → Command → Type 0
HasAll held (Run name order most) = (from : Scenario) × HasScenario held name from
HasAll held (Solo name None most) = (from : Scenario) × HasScenario held name from
HasAll held (Solo name (Some order) most) = (from : Scenario) × HasScenario held name from × HasOrder held order (boot (scenario_of from)) most
HasAll held (Check name) = (from : Scenario) × HasScenario held name from
HasAll held (Bench number most) = Unit {0}
HasAll held (Twin name most) = HasGuests held name most

-- the names that a command fetches where these are the files
abbrev pub names_read : Result Subjects ℕ → List (List ℕ)
names_read (Ok subjects) = names_in subjects
names_read (Err line) = []

abbrev pub names_from : Files → Command → List (List ℕ)
names_from held (Run name order most) = names_of (Run name order most)
names_from held (Solo name order most) = names_of (Solo name order most)
names_from held (Check name) = names_of (Check name)
names_from held (Bench number most) = names_of (Bench number most)
names_from held (Twin name most) = name ∷ names_read (subjects_of (bytes_of held name))

-- the depot tells its files, they have what the command needs, and nothing fails outside: neither a fetch of a name of the command, or of the text that it names,
-- nor an append nor a write
pub record IsServable {D O : Type 0} (d : Depots D) (o : Sinks O) (command : Command) (old new : D) (before after : O) : Type 0 where
  pub held : Files
  pub told : d.files old ≡ Some held
  pub has : HasAll held command
  pub read : AllByRecursion (λ name. HasFailed d name old new → ⊥) (names_from held command)
  pub appended : AllByRecursion (λ name. HasFailedToAppend d name old new → ⊥) (appended_names command)
  pub written : Rose (o.faults before) (o.faults after) → ⊥

-- the command is done, or was stopped by its limit or by want of memory
abbrev pub IsDoneOrStopped : Exit → Type 0
IsDoneOrStopped exit = (exit ≡ Done) ⊎ ((exit ≡ Limit) ⊎ (exit ≡ Memory))
