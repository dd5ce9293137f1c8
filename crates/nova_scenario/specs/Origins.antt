-- Where each image of a scenario comes from.
use Rattle.std.specs.Prelude.{◌≡◌, ℕ, ◌⊎◌, Bool, true, false, List, [], ◌∷◌, Some, map, Result, Ok}
use Rattle.std.specs.List.{list_any}
use Rattle.nova_elf.specs.Executable.{program}
use Rattle.nova_elf.specs.declared.program.Program.{Program}
use Rattle.nova_scenario.specs.Digits.{elf_bytes}
use Rattle.nova_scenario.specs.Executables.{IsAmong}
use Rattle.nova_scenario.specs.Fault.{At}
use Rattle.nova_scenario.specs.Items.{Block, Item, FaultyLine, SettingLine, SourceLine, ImageBlock}
use Rattle.nova_scenario.specs.Segments.{segment_image}
use Rattle.nova_scenario.specs.Sound.{IsAligned}
use Rattle.nova_scenario.specs.Words.{hex_words, asm_words, in_bytes}
use Rattle.nova_scenario.specs.declared.image.Image.{Image}
use Rattle.nova_scenario.specs.declared.statement.Form.{Form}
use Rattle.nova_scenario.specs.declared.statement.Form.TheVariants as form
use Rattle.nova_scenario.specs.declared.statement.Head.{Head}

-- the image of a block of words: their bytes, from the block's address on, which is a multiple of 4
pub record IsOfWords (words : Result (List ℕ) At) (head : Head) (image : Image) : Type 0 where
  pub address : head.address ≡ Some image.address
  pub aligned : IsAligned image
  pub bytes : in_bytes words ≡ Ok image.bytes

-- the image of a segment of a block's executable
abbrev pub IsOfExecutable : Head → Block → Image → Type 0
IsOfExecutable head block image =
    (address : ℕ) × (file : List ℕ) × (p : Program) × (head.address ≡ Some address) × (elf_bytes block.lines ≡ Ok file) × (program file ≡ Ok p) × IsAmong image (map (segment_image address file) p.segments)

abbrev pub IsOfBlock : List ℕ → Form → Head → Block → Image → Type 0
IsOfBlock bytes form.Hex head block image = IsOfWords (hex_words block.lines) head image
IsOfBlock bytes form.Asm head block image = IsOfWords (asm_words bytes block) head image
IsOfBlock bytes form.Elf head block image = IsOfExecutable head block image

abbrev pub IsOfItem : List ℕ → Item → Image → Type 0
IsOfItem bytes (FaultyLine line why) image = ⊥
IsOfItem bytes (SettingLine line setting) image = ⊥
IsOfItem bytes (SourceLine line head) image = ⊥
IsOfItem bytes (ImageBlock head block) image = IsOfBlock bytes head.form head block image

-- the image is of one of some items
abbrev pub IsOfSome : List ℕ → List Item → Image → Type 0
IsOfSome bytes [] image = ⊥
IsOfSome bytes (item ∷ items) image = IsOfItem bytes item image ⊎ IsOfSome bytes items image

-- no block is of an executable
abbrev pub is_executable : Form → Bool
is_executable form.Hex = false
is_executable form.Asm = false
is_executable form.Elf = true

abbrev pub has_executable : Item → Bool
has_executable (FaultyLine line why) = false
has_executable (SettingLine line setting) = false
has_executable (SourceLine line head) = false
has_executable (ImageBlock head block) = is_executable head.form

abbrev pub HaveWordsAlone : List Item → Type 0
HaveWordsAlone items = list_any has_executable items ≡ false
