-- What the top call answers to a command, with the cause of each answer and what is written then.
use Rattle.std.specs.Prelude.{◌≡◌, ◌⊎◌, ℕ, ◌<◌, Bool, true, false, List, length, take}
use Rattle.std.specs.Io.KnownBytes.{append_known}
use Rattle.nova_command.specs.declared.command.Command.{Command}
use Rattle.nova_command.specs.declared.command.Command.TheVariants.{Run, Solo, Check, Bench, Twin}
use Rattle.nova_io.specs.Faults.{Rose}
use Rattle.nova_io.specs.Taken.{WentWhole, WentInPart}
use Rattle.nova_answers.specs.Causes.{IsReadFault, IsScenarioFault, IsOrderFault, IsTwinFault}
use Rattle.nova_answers.specs.Made.{IsOutcome}
use Rattle.nova_io.specs.Outside.{Depots, Sinks, HasFailedToAppend, WereAppended, WereCut}
use Rattle.nova_answers.specs.declared.exit.Exit.{Exit}
use Rattle.nova_answers.specs.declared.exit.Exit.TheVariants.{Done, Usage, ReadFault, Scenario, OrderFault, Twin as TwinFault, WriteFault, Limit, Memory}

-- the text of an order is out: it went whole to the file that the command names for it. Other commands append nothing
abbrev pub IsOrderOut : {D : Type 0} → Depots D → Command → List ℕ → D → D → Type 0
IsOrderOut d (Run scenario name most) bytes old new = WereAppended d name bytes old new
IsOrderOut d (Solo scenario order most) bytes old new = new ≡ old
IsOrderOut d (Check scenario) bytes old new = new ≡ old
IsOrderOut d (Bench number most) bytes old new = new ≡ old
IsOrderOut d (Twin name most) bytes old new = new ≡ old

-- or appends of it failed, and a part of it is out
abbrev pub IsOrderCut : {D : Type 0} → Depots D → Command → List ℕ → D → D → Type 0
IsOrderCut d (Run scenario name most) bytes old new = WereCut d name bytes old new
IsOrderCut d (Solo scenario order most) bytes old new = ⊥
IsOrderCut d (Check scenario) bytes old new = ⊥
IsOrderCut d (Bench number most) bytes old new = ⊥
IsOrderCut d (Twin name most) bytes old new = ⊥

-- the count of failed appends to the file of a command's order rose
abbrev pub HasOrderFailed : {D : Type 0} → Depots D → Command → D → D → Type 0
HasOrderFailed d (Run scenario name most) old new = HasFailedToAppend d name old new
HasOrderFailed d (Solo scenario order most) old new = ⊥
HasOrderFailed d (Check scenario) old new = ⊥
HasOrderFailed d (Bench number most) old new = ⊥
HasOrderFailed d (Twin name most) old new = ⊥

-- what the command makes is out: the order, and then the text, whole, after what was written before; its writes are all that was done to the sink
pub record IsWritten {D O : Type 0} (d : Depots D) (o : Sinks O) (command : Command) (complete : Bool) (old new : D) (before after : O) : Type 0 where
  pub bytes : List ℕ
  pub text : List ℕ
  pub between : D
  pub made : IsOutcome d command old between complete bytes text
  pub order : IsOrderOut d command bytes between new
  pub went : WentWhole o.took text before after
  pub written : o.written after ≡ append_known (o.written before) text

-- or a write failed after the order was out, which was the last, and a part of the text is written, from its first byte on
pub record IsTextCut {D O : Type 0} (d : Depots D) (o : Sinks O) (command : Command) (old new : D) (before after : O) : Type 0 where
  pub complete : Bool
  pub bytes : List ℕ
  pub text : List ℕ
  pub between : D
  pub made : IsOutcome d command old between complete bytes text
  pub order : IsOrderOut d command bytes between new
  pub went : WentInPart o.took o.write_failed text before after
  pub count : ℕ
  pub within : count < length text
  pub written : o.written after ≡ append_known (o.written before) (take count text)
  pub failed : Rose (o.faults before) (o.faults after)

-- or appends of the order failed in this call, a part of it is out, and nothing is written
pub record IsCut {D O : Type 0} (d : Depots D) (command : Command) (old new : D) (before after : O) : Type 0 where
  pub complete : Bool
  pub bytes : List ℕ
  pub text : List ℕ
  pub between : D
  pub made : IsOutcome d command old between complete bytes text
  pub order : IsOrderCut d command bytes between new
  pub failed : HasOrderFailed d command old new
  pub unwritten : after ≡ before

-- the answer to a command, with its cause
abbrev pub IsAnswer : {D O : Type 0} → Depots D → Sinks O → Command → Exit → D → D → O → O → Type 0
IsAnswer d o command Usage old new before after = ⊥
IsAnswer d o command ReadFault old new before after = IsReadFault d command old new
IsAnswer d o command (Scenario line why) old new before after = IsScenarioFault d command line why old new
IsAnswer d o command (OrderFault line why) old new before after = IsOrderFault d command line why old new
IsAnswer d o command WriteFault old new before after = IsTextCut d o command old new before after ⊎ IsCut d command old new before after
IsAnswer d o command Done old new before after = IsWritten d o command true old new before after
IsAnswer d o command Limit old new before after = IsWritten d o command false old new before after
IsAnswer d o command Memory old new before after = Unit {0}
IsAnswer d o command (TwinFault line why) old new before after = IsTwinFault d command line why old new
