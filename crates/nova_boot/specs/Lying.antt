-- What lies in RAM after the images were laid there.
use Rattle.std.specs.Prelude.{◌≡◌, false, Some, Ok, ℕ, ◌+◌, ◌*◌, ◌%◌, ◌<◌, ◌≤◌, List, length, slice_index}
use Rattle.std.specs.List.{AllByRecursion}
use Rattle.nova_elf.specs.Executable.{program}
use Rattle.nova_elf.specs.declared.program.Program.{Program}
use Rattle.nova_elf.specs.declared.program.Segment.{Segment}
use Rattle.nova_model.specs.Memory.{Memory}
use Rattle.nova_text.specs.Line.{lines}
use Rattle.nova_scenario.specs.Digits.{elf_bytes}
use Rattle.nova_scenario.specs.Items.{Item, FaultyLine, SettingLine, SourceLine, ImageBlock, items}
use Rattle.nova_scenario.specs.Origins.{IsOfSome}
use Rattle.nova_scenario.specs.Sound.{LiesAt}
use Rattle.nova_scenario.specs.declared.image.Image.{Image}
use Rattle.nova_scenario.specs.declared.statement.Form.TheVariants as form
use Rattle.nova_boot.specs.Laid.{byte_at}

-- byte j of an image lies at its address and j
abbrev pub LiesThere : Memory → Image → Type 0
LiesThere m image = (j : ℕ) → j < length image.bytes → byte_at m (image.address + j) ≡ slice_index image.bytes j % 256

-- each image does, and every other byte of RAM is 0
pub record HoldsImages (images : List Image) (m : Memory) : Type 0 where
  pub there : AllByRecursion (LiesThere m) images
  pub others : (address : ℕ) → address < 4096 * length m.ram → AllByRecursion (λ image. LiesAt image address → ⊥) images → byte_at m address ≡ 0

-- of a text: its images do, and each is the image of a block of words of the text or of a segment of one of its executables
pub record HoldsText (bytes : List ℕ) (images : List Image) (m : Memory) : Type 0 where
  pub held : HoldsImages images m
  pub origins : AllByRecursion (IsOfSome bytes (items false (lines bytes))) images

-- of an executable that lies from an address on: byte j of a segment is the byte of the executable at the segment's offset and j, and
-- after those of the file, as far as the segment's memory goes, it is 0
pub record HoldsSegment (m : Memory) (address : ℕ) (file : List ℕ) (s : Segment) : Type 0 where
  pub bytes : (j : ℕ) → j < s.file → byte_at m (address + s.address + j) ≡ slice_index file (s.offset + j)
  pub zeros : (j : ℕ) → s.file ≤ j → j < s.memory → byte_at m (address + s.address + j) ≡ 0

-- of a block of an executable: it has an address and bytes that are a program, each segment of which lies there
pub record HoldsProgram (m : Memory) (address : ℕ) (file : List ℕ) (p : Program) : Type 0 where
  pub is_program : program file ≡ Ok p
  pub segments : AllByRecursion (HoldsSegment m address file) p.segments

abbrev pub HoldsItem : Memory → Item → Type 0
HoldsItem m (FaultyLine line why) = Unit {0}
HoldsItem m (SettingLine line setting) = Unit {0}
HoldsItem m (SourceLine line head) = Unit {0}
HoldsItem m (ImageBlock head block) = head.form ≡ form.Elf →
    (address : ℕ) × (file : List ℕ) × (p : Program) × (head.address ≡ Some address) × (elf_bytes block.lines ≡ Ok file) × HoldsProgram m address file p
