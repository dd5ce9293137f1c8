-- The statuses of the program, and the end that each fault makes.
use Rattle.std.specs.Prelude.{ℕ}
use Rattle.nova_command.specs.CommandFault.{by_fault}
use Rattle.nova_command.specs.declared.fault.CommandFault.{CommandFault}
use Rattle.nova_loading.specs.declared.unread.ScenarioUnread.{ScenarioUnread}
use Rattle.nova_loading.specs.declared.unread.ScenarioUnread.TheVariants as text
use Rattle.nova_explore.specs.declared.exit.Exit.{Exit}
use Rattle.nova_explore.specs.declared.exit.Exit.TheVariants.{Told, Usage, ReadFault, TooLong, Scenario, Absent, WriteFault, Memory}
use Rattle.nova_explore.specs.declared.verdict.Verdict.TheVariants.{All, Found, Within, Cut}

abbrev pub status_of : Exit → ℕ
status_of (Told All) = 0
status_of (Told Found) = 1
status_of Usage = 2
status_of ReadFault = 3
status_of TooLong = 4
status_of (Scenario line why) = 4
status_of Absent = 5
status_of WriteFault = 6
status_of (Told Cut) = 7
status_of Memory = 8
status_of (Told Within) = 9

-- the words are no request, or memory was refused for them
abbrev pub of_command : CommandFault → Exit
of_command = by_fault Usage Memory

-- the scenario was not loaded
abbrev pub of_scenario : ScenarioUnread → Exit
of_scenario text.Failed = ReadFault
of_scenario text.TooLong = TooLong
of_scenario (text.Refused line why) = Scenario line why
of_scenario text.Memory = Memory

-- nothing is written
abbrev pub IsUnwritten : Exit → Type 0
IsUnwritten (Told verdict) = ⊥
IsUnwritten WriteFault = ⊥
IsUnwritten Usage = Unit {0}
IsUnwritten ReadFault = Unit {0}
IsUnwritten TooLong = Unit {0}
IsUnwritten (Scenario line why) = Unit {0}
IsUnwritten Absent = Unit {0}
IsUnwritten Memory = Unit {0}
