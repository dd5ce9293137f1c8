-- Texts and bytes of which it is computed what they are read as.
use Rattle.std.specs.Prelude.{ℕ, List, [], ◌∷◌, ◌++◌, codes, Result, Ok, Err}
use Rattle.nova_boot.specs.Boot.{scenario_of}
use Rattle.nova_model.specs.Boot.{Scenario, boot}
use Rattle.nova_model.specs.declared.event.Event.{Event}
use Rattle.nova_model.specs.declared.event.EventKind.TheVariants.{Raise}
use Rattle.nova_model.specs.declared.times.AlarmState.{AlarmState}
use Rattle.nova_scenario.specs.Fault.{At}
use Rattle.nova_scenario.specs.Scenario.{scenario}
use Rattle.nova_scenario.specs.declared.scenario.Scenario.{Scenario as ScenarioText}
use Rattle.nova_text.specs.Line.{Row}

-- the header of an executable of entry 4,100, with `count` program headers from byte 52 on
abbrev pub file_header : ℕ → List ℕ
file_header count =
    127 ∷ 69 ∷ 76 ∷ 70 ∷ 1 ∷ 1 ∷ 1 ∷ 0 ∷ 0 ∷ 0 ∷ 0 ∷ 0 ∷ 0 ∷ 0 ∷ 0 ∷ 0
    ∷ 2 ∷ 0 ∷ 243 ∷ 0 ∷ 1 ∷ 0 ∷ 0 ∷ 0 ∷ 4 ∷ 16 ∷ 0 ∷ 0 ∷ 52 ∷ 0 ∷ 0 ∷ 0
    ∷ 0 ∷ 0 ∷ 0 ∷ 0 ∷ 0 ∷ 0 ∷ 0 ∷ 0 ∷ 52 ∷ 0 ∷ 32 ∷ 0 ∷ count ∷ 0 ∷ 0 ∷ 0 ∷ 0 ∷ 0 ∷ 0 ∷ 0 ∷ []

-- a program header: type, then offset 8, address 4,096, physical address 7, `file` bytes of the file and `memory` of memory, flags 5, alignment 1
abbrev pub program_header : ℕ → ℕ → ℕ → List ℕ
program_header kind file memory =
    kind ∷ 0 ∷ 0 ∷ 0 ∷ 8 ∷ 0 ∷ 0 ∷ 0 ∷ 0 ∷ 16 ∷ 0 ∷ 0 ∷ 7 ∷ 0 ∷ 0 ∷ 0
    ∷ file ∷ 0 ∷ 0 ∷ 0 ∷ memory ∷ 0 ∷ 0 ∷ 0 ∷ 5 ∷ 0 ∷ 0 ∷ 0 ∷ 1 ∷ 0 ∷ 0 ∷ 0 ∷ []

abbrev pub one_segment : ℕ → ℕ → List ℕ
one_segment file memory = file_header 1 ++ program_header 1 file memory

-- a segment, and a header of another type behind it
abbrev pub segment_and : ℕ → List ℕ
segment_and kind = file_header 2 ++ (program_header 1 20 50 ++ program_header kind 20 50)

-- a text as its only line
abbrev pub line_of : List ℕ → Row
line_of text = record { number = 1; start = 0; text = text }

-- a root with pc 8, stack pointer 12, priority 5 and a quantum of 6, two frames of RAM, a console and a source; and a breakpoint of the root's
abbrev pub a_start : Scenario
a_start = record {
  cpus = 1;
  ram = 1;
  consoles = 1;
  root = record { pc = 8; sp = 12; priority = 5; quantum = 6 };
  images = [];
  sources = record { cpu = 0; first = 7; period = 9; count = 2 } ∷ [];
}

abbrev pub a_raise : Event
a_raise = record { cpu = 0; sc = 2; ec = 1; kind = Raise; a = 7; b = 3 }

-- the alarms that a text begins with, none where it is no scenario
abbrev pub alarms_by : Result ScenarioText At → List AlarmState
alarms_by (Ok s) = (boot (scenario_of s)).times.alarms
alarms_by (Err fault) = []

abbrev pub alarms_of_text : List ℕ → List AlarmState
alarms_of_text bytes = alarms_by (scenario bytes)
