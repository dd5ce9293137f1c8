-- The statuses of the program, and the end that each fault makes.
use Rattle.std.specs.Prelude.{ℕ}
use Rattle.nova_command.specs.CommandFault.{by_fault}
use Rattle.nova_command.specs.declared.fault.CommandFault.{CommandFault}
use Rattle.nova_io.specs.declared.faults.FetchFault.{FetchFault}
use Rattle.nova_io.specs.declared.faults.FetchFault.TheVariants as fetch
use Rattle.nova_judging.specs.declared.answer.Answer.TheVariants.{Apart, Served, Single, Breach, Stuck}
use Rattle.nova_loading.specs.declared.unread.OrderUnread.{OrderUnread}
use Rattle.nova_loading.specs.declared.unread.OrderUnread.TheVariants as order
use Rattle.nova_loading.specs.declared.unread.ScenarioUnread.{ScenarioUnread}
use Rattle.nova_loading.specs.declared.unread.ScenarioUnread.TheVariants as text
use Rattle.nova_naming.specs.declared.fault.PolicyFault.{PolicyFault}
use Rattle.nova_naming.specs.declared.fault.PolicyFault.TheVariants as policy
use Rattle.nova_finished.specs.declared.fault.RunFault.{RunFault}
use Rattle.nova_finished.specs.declared.fault.RunFault.TheVariants as turn
use Rattle.nova_policy.specs.declared.exit.Exit.{Exit}
use Rattle.nova_policy.specs.declared.exit.Exit.TheVariants.{Told, Usage, ReadFault, TooLong, Scenario, Order, Idle, Policy, Misnamed, WriteFault, Memory}
use Rattle.nova_policy.specs.declared.exit.Input.TheVariants as input

abbrev pub status_of : Exit → ℕ
status_of (Told Apart) = 0
status_of (Told Served) = 1
status_of (Told Breach) = 9
status_of (Told Stuck) = 10
status_of (Told Single) = 11
status_of Usage = 2
status_of ReadFault = 3
status_of (TooLong input.Scenario) = 4
status_of (Scenario line why) = 4
status_of (TooLong input.Order) = 5
status_of (Order fault) = 5
status_of (Idle line) = 5
status_of WriteFault = 6
status_of (TooLong input.Policy) = 7
status_of (Policy line why) = 7
status_of (Misnamed line expected number) = 7
status_of Memory = 8

-- the words ask for nothing, or memory was refused for them
abbrev pub of_command : CommandFault → Exit
of_command = by_fault Usage Memory

-- the scenario was not loaded, or the order
abbrev pub of_scenario : ScenarioUnread → Exit
of_scenario text.Failed = ReadFault
of_scenario text.TooLong = TooLong input.Scenario
of_scenario (text.Refused line why) = Scenario line why
of_scenario text.Memory = Memory

abbrev pub of_order : OrderUnread → Exit
of_order order.Failed = ReadFault
of_order order.TooLong = TooLong input.Order
of_order (order.Refused fault) = Order fault
of_order order.Memory = Memory

-- the policy did not come, or is none
abbrev pub of_policy_fetch : FetchFault → Exit
of_policy_fetch fetch.Failed = ReadFault
of_policy_fetch fetch.TooLong = TooLong input.Policy
of_policy_fetch fetch.Memory = Memory

abbrev pub of_policy : PolicyFault → Exit
of_policy (policy.At line why) = Policy line why
of_policy policy.Memory = Memory

abbrev pub of_run : RunFault → Exit
of_run (turn.OrderIdle line) = Idle line
of_run turn.Memory = Memory

-- nothing is written
abbrev pub IsUnwritten : Exit → Type 0
IsUnwritten (Told answer) = ⊥
IsUnwritten WriteFault = ⊥
IsUnwritten Usage = Unit {0}
IsUnwritten ReadFault = Unit {0}
IsUnwritten (TooLong i) = Unit {0}
IsUnwritten (Scenario line why) = Unit {0}
IsUnwritten (Order fault) = Unit {0}
IsUnwritten (Idle line) = Unit {0}
IsUnwritten (Policy line why) = Unit {0}
IsUnwritten (Misnamed line expected number) = Unit {0}
IsUnwritten Memory = Unit {0}
