-- The executables of a text among the images of its scenario.
use Rattle.std.specs.Prelude.{◌≡◌, ℕ, ◌⊎◌, List, [], ◌∷◌, Some, Ok}
use Rattle.std.specs.List.{AllByRecursion}
use Rattle.nova_elf.specs.Executable.{program}
use Rattle.nova_elf.specs.declared.program.Program.{Program}
use Rattle.nova_elf.specs.declared.program.Segment.{Segment}
use Rattle.nova_scenario.specs.Digits.{elf_bytes}
use Rattle.nova_scenario.specs.Items.{Item, FaultyLine, SettingLine, SourceLine, ImageBlock}
use Rattle.nova_scenario.specs.Segments.{segment_image}
use Rattle.nova_scenario.specs.declared.image.Image.{Image}
use Rattle.nova_scenario.specs.declared.statement.Form.TheVariants as form

-- an image is one of a list
abbrev pub IsAmong : Image → List Image → Type 0
IsAmong image [] = ⊥
IsAmong image (first ∷ images) = (image ≡ first) ⊎ IsAmong image images

-- each segment's image is
abbrev pub AreLaidIn : List Image → ℕ → List ℕ → List Segment → Type 0
AreLaidIn images address file segments = AllByRecursion (λ s. IsAmong (segment_image address file s) images) segments

-- a block of an executable has an address and bytes that are a program, whose segments are among the images
pub record IsLaidBlock (images : List Image) (address : ℕ) (file : List ℕ) (p : Program) : Type 0 where
  pub is_program : program file ≡ Ok p
  pub laid : AreLaidIn images address file p.segments

abbrev pub IsLaidItem : List Image → Item → Type 0
IsLaidItem images (FaultyLine line why) = Unit {0}
IsLaidItem images (SettingLine line setting) = Unit {0}
IsLaidItem images (SourceLine line head) = Unit {0}
IsLaidItem images (ImageBlock head block) = head.form ≡ form.Elf →
    (address : ℕ) × (file : List ℕ) × (p : Program) × (head.address ≡ Some address) × (elf_bytes block.lines ≡ Ok file) × IsLaidBlock images address file p
