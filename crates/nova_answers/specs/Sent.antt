-- How what a command made goes out.
use Rattle.std.specs.Prelude.{◌≡◌, ◌⊎◌, ℕ, ◌<◌, true, false, length, take}
use Rattle.std.specs.Io.KnownBytes.{append_known}
use Rattle.nova_command.specs.declared.command.Command.{Command}
use Rattle.nova_io.specs.Faults.{Rose}
use Rattle.nova_io.specs.Taken.{WentWhole, WentInPart}
use Rattle.nova_answers.specs.Main.{IsOrderOut, IsOrderCut, HasOrderFailed}
use Rattle.nova_io.specs.Outside.{Depots, Sinks}
use Rattle.nova_answers.specs.declared.exit.Exit.{Exit}
use Rattle.nova_answers.specs.declared.exit.Exit.TheVariants.{Done, Usage, ReadFault, Scenario, OrderFault, Twin, WriteFault, Limit, Memory}
use Rattle.nova_answers.specs.declared.outcome.Outcome.{Outcome}

-- the order, and then the text, went out whole
pub record IsOut {D O : Type 0} (d : Depots D) (o : Sinks O) (command : Command) (made : Outcome) (old new : D) (before after : O) : Type 0 where
  pub order : IsOrderOut d command made.order.items old new
  pub went : WentWhole o.took made.text.items before after
  pub written : o.written after ≡ append_known (o.written before) made.text.items

-- the order did, and of the text a part
pub record IsTextPart {D O : Type 0} (d : Depots D) (o : Sinks O) (command : Command) (made : Outcome) (old new : D) (before after : O) : Type 0 where
  pub order : IsOrderOut d command made.order.items old new
  pub went : WentInPart o.took o.write_failed made.text.items before after
  pub count : ℕ
  pub within : count < length made.text.items
  pub written : o.written after ≡ append_known (o.written before) (take count made.text.items)
  pub failed : Rose (o.faults before) (o.faults after)

-- a part of the order did
pub record IsOrderPart {D O : Type 0} (d : Depots D) (command : Command) (made : Outcome) (old new : D) (before after : O) : Type 0 where
  pub order : IsOrderCut d command made.order.items old new
  pub failed : HasOrderFailed d command old new
  pub unwritten : after ≡ before

-- how it went, by the answer
abbrev pub IsSent : {D O : Type 0} → Depots D → Sinks O → Command → Outcome → Exit → D → D → O → O → Type 0
IsSent d o command made Done old new before after = (made.is_complete ≡ true) × IsOut d o command made old new before after
IsSent d o command made Limit old new before after = (made.is_complete ≡ false) × IsOut d o command made old new before after
IsSent d o command made WriteFault old new before after = IsTextPart d o command made old new before after ⊎ IsOrderPart d command made old new before after
IsSent d o command made Usage old new before after = ⊥
IsSent d o command made ReadFault old new before after = ⊥
IsSent d o command made (Scenario line why) old new before after = ⊥
IsSent d o command made (OrderFault line why) old new before after = ⊥
IsSent d o command made Memory old new before after = ⊥
IsSent d o command made (Twin line why) old new before after = ⊥
