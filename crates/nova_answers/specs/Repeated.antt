-- What `solo` answers over the order that a `run` appended.
use Rattle.std.specs.Prelude.{◌≡◌, ◌≢◌, ◌⊎◌, ℕ, ◌<◌, ◌≤◌, Bool, true, false, List, [], length, Some}
use Rattle.std.specs.Io.KnownBytes.{append_known}
use Rattle.nova_command.specs.Limit.{IsLimit}
use Rattle.nova_command.specs.declared.command.Command.TheVariants.{Run, Solo}
use Rattle.nova_io.specs.Faults.{Rose}
use Rattle.nova_io.specs.Files.{Files, bytes_of}
use Rattle.nova_answers.specs.Main.{IsAnswer, IsWritten}
use Rattle.nova_answers.specs.Made.{IsOutcome}
use Rattle.nova_io.specs.Outside.{Depots, Sinks, HasFailed, FileCame, TooManyCame}
use Rattle.nova_loading.specs.Came.{most_of_order, most_of_scenario}
use Rattle.nova_answers.specs.declared.exit.Exit.{Exit}
use Rattle.nova_answers.specs.declared.exit.Exit.TheVariants.{Done, Limit, Memory}

-- the exit of a run, by whether it ended quiet
abbrev pub exit_of_run : Bool → Exit
exit_of_run true = Done
exit_of_run false = Limit

-- what comes of a scenario's name and then of an order's, whole or too much of it, is of these bytes: a file that holds them gives them
pub record AreGiven {D : Type 0} (d : Depots D) (scenario order scenario_bytes order_bytes : List ℕ) (old new : D) : Type 0 where
  pub scenario_whole : (came : List ℕ) (between : D) → FileCame d most_of_scenario scenario old came between → came ≡ scenario_bytes
  pub scenario_cut : (between : D) → TooManyCame d most_of_scenario scenario old between → most_of_scenario < length scenario_bytes
  pub order_whole : (first came : List ℕ) (between : D) → FileCame d most_of_scenario scenario old first between →
      FileCame d most_of_order order between came new → came ≡ order_bytes
  pub order_cut : (first : List ℕ) (between : D) → FileCame d most_of_scenario scenario old first between →
      TooManyCame d most_of_order order between new → most_of_order < length order_bytes

-- nothing fails outside in a call of `solo` with an order: neither a fetch nor a write
pub record IsUndisturbed {D O : Type 0} (d : Depots D) (o : Sinks O) (scenario order : List ℕ) (old new : D) (before after : O) : Type 0 where
  pub scenario_read : HasFailed d scenario old new → ⊥
  pub order_read : HasFailed d order old new → ⊥
  pub written : Rose (o.faults before) (o.faults after) → ⊥

-- two calls wrote the same text, each after what was written before it
pub record WroteTheSame {O : Type 0} (o : Sinks O) (before after before_again after_again : O) : Type 0 where
  pub text : List ℕ
  pub first : o.written after ≡ append_known (o.written before) text
  pub again : o.written after_again ≡ append_known (o.written before_again) text

-- a call answers as a run did, and writes the same text; or memory was refused
abbrev pub IsRepeated : {O : Type 0} → Sinks O → Bool → Exit → O → O → O → O → Type 0
IsRepeated o complete exit before after before_again after_again =
    (exit ≡ Memory) ⊎ ((exit ≡ exit_of_run complete) × WroteTheSame o before after before_again after_again)

-- the text that `run` makes to append is no longer than an order may be
abbrev pub AreShort : {D : Type 0} → Depots D → Type 0
AreShort {D} d =
    (scenario order : List ℕ) (most : ℕ) (old new : D) (complete : Bool) (bytes text : List ℕ) → IsLimit most →
    IsOutcome d (Run scenario order most) old new complete bytes text → length bytes ≤ most_of_order

-- where `run` was Done or Limit, and what `solo` with the same limit is given is the same scenario and what was appended, and nothing fails, `solo` repeats it
abbrev pub AreRepeated : {D O : Type 0} → Depots D → Sinks O → Type 0
AreRepeated {D} {O} d o =
    (scenario order scenario_again order_again : List ℕ) (most : ℕ) (complete : Bool) (exit : Exit) (old new old_again new_again : D)
    (before after before_again after_again : O) → IsLimit most →
    (ran : IsWritten d o (Run scenario order most) complete old new before after) →
    AreGiven d scenario_again order_again ran.made.came.bytes ran.bytes old_again new_again →
    IsUndisturbed d o scenario_again order_again old_again new_again before_again after_again →
    IsAnswer d o (Solo scenario_again (Some order_again) most) exit old_again new_again before_again after_again →
    IsRepeated o complete exit before after before_again after_again

-- where the depot tells its files, and the name of the order had no bytes, so it is with the files that `run` left, whatever else holds of the depot then
abbrev pub AreRepeatedFromFiles : {D O : Type 0} → Depots D → Sinks O → Type 0
AreRepeatedFromFiles {D} {O} d o =
    (scenario order : List ℕ) (most : ℕ) (complete : Bool) (exit : Exit) (held : Files) (old new old_again new_again : D)
    (before after before_again after_again : O) → IsLimit most → d.files old ≡ Some held → bytes_of held order ≡ [] → scenario ≢ order →
    (ran : IsWritten d o (Run scenario order most) complete old new before after) → d.files old_again ≡ d.files new →
    IsUndisturbed d o scenario order old_again new_again before_again after_again →
    IsAnswer d o (Solo scenario (Some order) most) exit old_again new_again before_again after_again →
    IsRepeated o complete exit before after before_again after_again
