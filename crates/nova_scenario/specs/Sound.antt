-- What every scenario keeps.
use Rattle.std.specs.Prelude.{◌≡◌, ℕ, ◌*◌, ◌^◌, ◌%◌, ◌<◌, ◌≤◌, List, [], ◌∷◌, length}
use Rattle.std.specs.List.{AllByRecursion}
use Rattle.nova_scenario.specs.Images.{end_of}
use Rattle.nova_scenario.specs.declared.image.Image.{Image}
use Rattle.nova_scenario.specs.declared.source.SourceRow.{SourceRow}
use Rattle.nova_scenario.specs.declared.scenario.Scenario.{Scenario}

-- an image lies in RAM
pub record IsIn (ram : ℕ) (image : Image) : Type 0 where
  pub within : end_of image ≤ ram

-- an image begins at a multiple of 4
abbrev pub IsAligned : Image → Type 0
IsAligned image = image.address % 4 ≡ 0

-- a byte of an image lies at an address
abbrev pub LiesAt : Image → ℕ → Type 0
LiesAt image address = (image.address ≤ address) × (address < end_of image)

-- no byte is of two images
abbrev pub ShareNone : Image → Image → Type 0
ShareNone a b = (address : ℕ) → LiesAt a address → LiesAt b address → ⊥

abbrev pub AreApart : List Image → Type 0
AreApart [] = Unit {0}
AreApart (image ∷ images) = AllByRecursion (ShareNone image) images × AreApart images

-- a source is of a processor that is there, and its numbers are in their ranges
pub record IsSourceOf (cpus : ℕ) (row : SourceRow) : Type 0 where
  pub cpu : row.cpu < cpus
  pub first : row.first ≤ 10000000
  pub some_turn : 1 ≤ row.period
  pub period : row.period ≤ 10000000
  pub some_time : 1 ≤ row.count
  pub count : row.count ≤ 10000000

pub record IsSound (s : Scenario) : Type 0 where
  pub some_cpu : 1 ≤ s.cpus
  pub cpus : s.cpus ≤ 8
  pub ram : s.ram ≤ 14
  pub consoles : s.consoles ≤ 16
  pub pc_aligned : s.pc % 4 ≡ 0
  pub pc : s.pc < 2 ^ 32
  pub sp : s.sp < 2 ^ 32
  pub priority : s.priority < 256
  pub some_turn : 1 ≤ s.quantum
  pub quantum : s.quantum < 2 ^ 24
  pub images : AllByRecursion (IsIn (4096 * 2 ^ s.ram)) s.images
  pub apart : AreApart s.images
  pub sources : AllByRecursion (IsSourceOf s.cpus) s.sources
  pub few : length s.sources ≤ 32
