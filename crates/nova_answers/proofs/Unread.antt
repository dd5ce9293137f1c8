-- Where a command could not be read for want of memory, nothing was done to the depot.
use Rattle.std.proofs.Common.{◌≡◌, ℕ, List, [], inl, inr, refl, sym, ◌∙◌, subst, arith}
use Rattle.std.specs.Prelude.{◌⊎◌, Option, Some, None, Err, IfSome}
use Rattle.nova_command.specs.CommandFault.{Answers}
use Rattle.nova_command.specs.declared.command.Command.{Command}
use Rattle.nova_command.specs.declared.command.Command.TheVariants.{Run, Solo, Check, Bench, Twin}
use Rattle.nova_command.specs.declared.fault.CommandFault.{CommandFault}
use Rattle.nova_command.specs.declared.fault.CommandFault.TheVariants as command
use Rattle.nova_io.specs.Fetched.{Nothing}
use Rattle.nova_io.specs.Files.{Files, with_appended}
use Rattle.nova_io.specs.Taken.{Nothing as Nothing_taken}
use Rattle.nova_answers.specs.Exit.{of_command}
use Rattle.nova_answers.specs.Fetches.{Appends, Calls, HasFiles, AllOthersStay, Fetches, FetchesOf, FetchesOfRun, FetchesSecond, OtherFetchesStay, CameBefore}
use Rattle.nova_answers.specs.Names.{most_of_subjects, names_of}
use Rattle.nova_io.specs.Outside.{Depots}
use Rattle.nova_loading.specs.Came.{most_of_order, most_of_scenario}
use Rattle.nova_answers.specs.declared.exit.Exit.{Exit}
use Rattle.nova_answers.specs.declared.exit.Exit.TheVariants.{Done, Memory}
use Rattle.nova_answers.specs.declared.subjects.Subjects.{Subjects}

-- no bytes change no files
pub nothing_more : (files : Option Files) (name : List ℕ) → files ≡ with_appended files name []
nothing_more (Some files) name = refl
nothing_more None name = refl

none_of : {D : Type 0} (d : Depots D) (most : ℕ) (name : List ℕ) (depot : D) → FetchesOf d most name Memory depot depot
none_of d most name depot = record { bytes = []; few = omega arith; came = inl Nothing; others = λ other. inr refl }

none_for : {D : Type 0} (d : Depots D) (read : Command) (depot : D) → Fetches d read Memory depot depot
none_for d (Run name order most) depot = none_of d most_of_scenario name depot
none_for d (Twin name most) depot = inl (none_of d most_of_subjects name depot)
none_for d (Bench number most) depot = refl
none_for d (Solo name None most) depot = none_of d most_of_scenario name depot
none_for d (Solo name (Some order) most) depot = inl (none_of d most_of_scenario name depot)
none_for d (Check name) depot = none_of d most_of_scenario name depot

-- nothing is appended
pub none_appended : {D : Type 0} (d : Depots D) (command : Command) (depot : D) → Appends d command depot depot
none_appended d (Run name order most) depot = ([], inl Nothing_taken)
none_appended d (Solo name order most) depot = refl
none_appended d (Check name) depot = refl
none_appended d (Bench number most) depot = refl
none_appended d (Twin name most) depot = refl

pub files_stay : {D : Type 0} (d : Depots D) (command : Command) (exit : Exit) (old new : D) → d.files new ≡ d.files old → HasFiles d command exit old new
files_stay d (Run name order most) exit old new same = ([], same ∙ nothing_more (d.files old) order, λ unwritten. refl)
files_stay d (Solo name order most) exit old new same = same
files_stay d (Check name) exit old new same = same
files_stay d (Bench number most) exit old new same = same
files_stay d (Twin name most) exit old new same = same

-- a call that was not read, or that made nothing: it has no appends
pub without_appends : {D : Type 0} (d : Depots D) (command : Command) (exit : Exit) (old new : D) → Fetches d command exit old new → Calls d command exit old new
without_appends d command exit old new fetches = record { between = new; fetches = fetches; appends = none_appended d command new; none = λ unwritten. refl }

pub unread : {D : Type 0} (d : Depots D) (read : Option Command) (depot : D) (fault : CommandFault) (exit : Exit) →
    exit ≡ of_command fault → Answers read (Err fault) → IfSome read (λ command. Calls d command exit depot depot)
unread d None depot fault exit is h = tt
unread d (Some read) depot command.Usage exit is h = absurd (cc)
unread d (Some read) depot command.Memory exit is h = subst (λ (e : Exit). Calls d read e depot depot) (sym is) (without_appends d read Memory depot depot (none_for d read depot))

pub unread_files : {D : Type 0} (d : Depots D) (read : Option Command) (depot : D) (exit : Exit) → IfSome read (λ command. HasFiles d command exit depot depot)
unread_files d None depot exit = tt
unread_files d (Some read) depot exit = files_stay d read exit depot depot refl

none_fetched : {D : Type 0} (d : Depots D) (names : List (List ℕ)) (depot : D) → AllOthersStay d.fetch_faults names depot depot
none_fetched d names depot other = inr refl

others_none : {D : Type 0} (d : Depots D) (command : Command) (depot : D) → OtherFetchesStay d command depot depot
others_none d (Run name order most) depot = none_fetched d (names_of (Run name order most)) depot
others_none d (Solo name order most) depot = none_fetched d (names_of (Solo name order most)) depot
others_none d (Check name) depot = none_fetched d (names_of (Check name)) depot
others_none d (Bench number most) depot = none_fetched d (names_of (Bench number most)) depot
others_none d (Twin name most) depot = inl (none_fetched d (names_of (Twin name most)) depot)

pub unread_others : {D : Type 0} (d : Depots D) (read : Option Command) (depot : D) → IfSome read (λ command. OtherFetchesStay d command depot depot)
unread_others d None depot = tt
unread_others d (Some read) depot = others_none d read depot

-- THE FETCHES BEFORE ONE ANSWER, WHICH ARE AS GOOD BEFORE ANOTHER

abbrev pub IsAsGood : {D : Type 0} → Depots D → Exit → Exit → Type 0
IsAsGood {D} d first exit = (name bytes : List ℕ) (a b : D) → CameBefore first d name a bytes b → CameBefore exit d name a bytes b

moved : {D : Type 0} (d : Depots D) (most : ℕ) (name : List ℕ) (first exit : Exit) (old new : D) → IsAsGood d first exit → FetchesOf d most name first old new →
    FetchesOf d most name exit old new
moved d most name first exit old new as_good f = record { bytes = f.bytes; few = f.few; came = as_good name f.bytes old new f.came; others = f.others }

pub run_moved : {D : Type 0} (d : Depots D) (scenario order : List ℕ) (first exit : Exit) (old new : D) → IsAsGood d first exit → FetchesOfRun d scenario order first old new →
    FetchesOfRun d scenario order exit old new
run_moved d scenario order first exit old new as_good (inl f) = inl (moved d most_of_scenario scenario first exit old new as_good f)
run_moved d scenario order first exit old new as_good (inr f) = inr (record {
  from = f.from;
  between = f.between;
  came = f.came;
  others = f.others;
  order = moved d most_of_order order first exit f.between new as_good f.order;
})

lines_moved : {D : Type 0} (d : Depots D) (subjects : Subjects) (most : ℕ) (first exit : Exit) (old new : D) → IsAsGood d first exit →
    FetchesOfRun d subjects.first.scenario subjects.first.order first old new ⊎ FetchesSecond d subjects most first old new →
    FetchesOfRun d subjects.first.scenario subjects.first.order exit old new ⊎ FetchesSecond d subjects most exit old new
lines_moved d subjects most first exit old new as_good (inl f) = inl (run_moved d subjects.first.scenario subjects.first.order first exit old new as_good f)
lines_moved d subjects most first exit old new as_good (inr f) = inr (record {
  first = f.first;
  between = f.between;
  followed = f.followed;
  others = f.others;
  second = run_moved d subjects.second.scenario subjects.second.order first exit f.between new as_good f.second;
})

pub as_well : {D : Type 0} (d : Depots D) (command : Command) (exit : Exit) (old new : D) → IsAsGood d Done exit → Fetches d command Done old new → Fetches d command exit old new
as_well d (Run name order most) exit old new as_good f = moved d most_of_scenario name Done exit old new as_good f
as_well d (Bench number most) exit old new as_good f = f
as_well d (Solo name None most) exit old new as_good f = moved d most_of_scenario name Done exit old new as_good f
as_well d (Check name) exit old new as_good f = moved d most_of_scenario name Done exit old new as_good f
as_well d (Solo name (Some order) most) exit old new as_good f = run_moved d name order Done exit old new as_good f
as_well d (Twin name most) exit old new as_good (inl f) = inl (moved d most_of_subjects name Done exit old new as_good f)
as_well d (Twin name most) exit old new as_good (inr f) = inr (record {
  subjects = f.subjects;
  between = f.between;
  came = f.came;
  others = f.others;
  lines = lines_moved d f.subjects most Done exit f.between new as_good f.lines;
})
