-- The statuses of the program, and the end that each fault makes.
use Rattle.std.specs.Prelude.{ℕ}
use Rattle.nova_command.specs.CommandFault.{by_fault}
use Rattle.nova_command.specs.declared.fault.CommandFault.{CommandFault}
use Rattle.nova_io.specs.declared.faults.FetchFault.{FetchFault}
use Rattle.nova_io.specs.declared.faults.FetchFault.TheVariants as fetch
use Rattle.nova_loading.specs.declared.unread.OrderUnread.{OrderUnread}
use Rattle.nova_loading.specs.declared.unread.OrderUnread.TheVariants as order
use Rattle.nova_loading.specs.declared.unread.ScenarioUnread.{ScenarioUnread}
use Rattle.nova_loading.specs.declared.unread.ScenarioUnread.TheVariants as text
use Rattle.nova_order.specs.declared.fault.OrderFault.{OrderFault as OrderTextFault}
use Rattle.nova_order.specs.declared.fault.OrderFault.TheVariants as fault
use Rattle.nova_answers.specs.declared.exit.Exit.{Exit}
use Rattle.nova_answers.specs.declared.exit.Exit.TheVariants.{Done, Usage, ReadFault, Scenario, OrderFault, Twin, WriteFault, Limit, Memory}
use Rattle.nova_answers.specs.declared.exit.OrderWhy.TheVariants.{BadLine, BadCpu, ZeroCount, NotMerged, TooMany, Idle, TooLong as OrderTooLong}
use Rattle.nova_answers.specs.declared.exit.ScenarioWhy.TheVariants.{TooLong, Text}
use Rattle.nova_answers.specs.declared.exit.TwinWhy.TheVariants as twin
use Rattle.nova_answers.specs.declared.subjects.SubjectsFault.{SubjectsFault}
use Rattle.nova_answers.specs.declared.subjects.SubjectsFault.TheVariants as subjects
use Rattle.nova_finished.specs.declared.fault.RunFault.{RunFault}
use Rattle.nova_finished.specs.declared.fault.RunFault.TheVariants as turn

abbrev pub status_of : Exit → ℕ
status_of Done = 0
status_of Usage = 2
status_of ReadFault = 3
status_of (Scenario line why) = 4
status_of (OrderFault line why) = 5
status_of WriteFault = 6
status_of Limit = 7
status_of Memory = 8
status_of (Twin line why) = 10

-- the words are no command, or memory was refused for them
abbrev pub of_command : CommandFault → Exit
of_command = by_fault Usage Memory

-- the scenario was not loaded
abbrev pub of_scenario : ScenarioUnread → Exit
of_scenario text.Failed = ReadFault
of_scenario text.TooLong = Scenario 0 TooLong
of_scenario (text.Refused line why) = Scenario line (Text why)
of_scenario text.Memory = Memory

-- the order was not
abbrev pub of_order_text : OrderTextFault → Exit
of_order_text (fault.BadLine line) = OrderFault line BadLine
of_order_text (fault.BadCpu line) = OrderFault line BadCpu
of_order_text (fault.ZeroCount line) = OrderFault line ZeroCount
of_order_text (fault.NotMerged line) = OrderFault line NotMerged
of_order_text (fault.TooMany line) = OrderFault line TooMany
of_order_text fault.Memory = Memory

abbrev pub of_order : OrderUnread → Exit
of_order order.Failed = ReadFault
of_order order.TooLong = OrderFault 0 OrderTooLong
of_order (order.Refused fault) = of_order_text fault
of_order order.Memory = Memory

abbrev pub of_run : RunFault → Exit
of_run (turn.OrderIdle line) = OrderFault line Idle
of_run turn.Memory = Memory

-- the text of two guests did not come
abbrev pub of_subjects_fetch : FetchFault → Exit
of_subjects_fetch fetch.Failed = ReadFault
of_subjects_fetch fetch.TooLong = Twin 0 twin.TooLong
of_subjects_fetch fetch.Memory = Memory

abbrev pub of_subjects : SubjectsFault → Exit
of_subjects (subjects.Syntax line) = Twin line twin.Syntax
of_subjects subjects.Memory = Memory

-- the guest of a line is not followed
abbrev pub at_line : ℕ → Exit → Exit
at_line number (Scenario line why) = Twin number (twin.Scenario line why)
at_line number (OrderFault line why) = Twin number (twin.Order line why)
at_line number ReadFault = ReadFault
at_line number Memory = Memory
at_line number Done = Done
at_line number Usage = Usage
at_line number WriteFault = WriteFault
at_line number Limit = Limit
at_line number (Twin line why) = Twin line why

-- nothing is appended and nothing is written
abbrev pub IsUnwritten : Exit → Type 0
IsUnwritten Usage = Unit {0}
IsUnwritten ReadFault = Unit {0}
IsUnwritten (Scenario line why) = Unit {0}
IsUnwritten (OrderFault line why) = Unit {0}
IsUnwritten Memory = Unit {0}
IsUnwritten (Twin line why) = Unit {0}
IsUnwritten Done = ⊥
IsUnwritten WriteFault = ⊥
IsUnwritten Limit = ⊥
