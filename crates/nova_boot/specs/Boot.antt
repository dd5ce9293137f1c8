-- What a scenario that was read starts a kernel with.
use Rattle.std.specs.Prelude.{ℕ, ◌+◌, ◌≤◌, List, length, map}
use Rattle.std.specs.List.{AllByRecursion}
use Rattle.nova_model.specs.Boot.{Scenario, Image}
use Rattle.nova_model.specs.Sources.{Source}
use Rattle.nova_scenario.specs.declared.scenario.Scenario.{Scenario as ScenarioText}
use Rattle.nova_scenario.specs.declared.image.Image.{Image as ImageText}
use Rattle.nova_scenario.specs.declared.source.SourceRow.{SourceRow}

-- the words of an image, from its address on
abbrev pub image_of : ImageText → Image
image_of image = record { address = image.address; bytes = image.bytes }

-- a source as the kernel has it
abbrev pub source_of : SourceRow → Source
source_of row = record { cpu = row.cpu; first = row.first; period = row.period; count = row.count }

-- the machine, its root, its images and its sources
abbrev pub scenario_of : ScenarioText → Scenario
scenario_of s = record {
  cpus = s.cpus;
  ram = s.ram;
  consoles = s.consoles;
  root = record { pc = s.pc; sp = s.sp; priority = s.priority; quantum = s.quantum };
  images = map image_of s.images;
  sources = map source_of s.sources;
}

-- an image ends within `size` bytes
abbrev pub EndsWithin : ℕ → ImageText → Type 0
EndsWithin size image = image.address + length image.bytes ≤ size

-- each does
abbrev pub LieInRam : ℕ → List ImageText → Type 0
LieInRam size images = AllByRecursion (EndsWithin size) images
