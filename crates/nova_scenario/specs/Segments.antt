-- The segments of an executable as images.
use Rattle.std.specs.Prelude.{ℕ, ◌+◌, ◌-◌, nat_lt, Bool, List, [], ◌∷◌, ◌++◌, map, replicate, slice_range, Result, Ok, Err, if◌then◌else◌}
use Rattle.std.specs.List.{list_any}
use Rattle.nova_elf.specs.Executable.{program}
use Rattle.nova_elf.specs.declared.fault.ElfFault.{ElfFault}
use Rattle.nova_elf.specs.declared.program.Program.{Program}
use Rattle.nova_elf.specs.declared.program.Segment.{Segment}
use Rattle.nova_scenario.specs.Fault.{and_then}
use Rattle.nova_scenario.specs.Images.{Draft, with_apart}
use Rattle.nova_scenario.specs.Settings.{entered, ram_size}
use Rattle.nova_scenario.specs.declared.fault.Why.{Why}
use Rattle.nova_scenario.specs.declared.fault.Why.TheVariants.{Range, Elf}
use Rattle.nova_scenario.specs.declared.image.Image.{Image}
use Rattle.nova_scenario.specs.declared.settings.Settings.{Settings}

-- a segment of an executable that lies from an address on: its bytes, and zeros in the rest of its memory
abbrev pub segment_image : ℕ → List ℕ → Segment → Image
segment_image address file s = record {
  address = address + s.address;
  bytes = slice_range file s.offset (s.offset + s.file) ++ replicate (s.memory - s.file) 0;
}

-- whether its memory reaches past RAM
abbrev pub reaches_past : ℕ → ℕ → Segment → Bool
reaches_past ram address s = nat_lt ram (address + s.address + s.memory)

-- images one after another: Overlap where one shares a byte with an earlier one
abbrev pub with_images : Draft → List Image → Result Draft Why
with_images d [] = Ok d
with_images d (image ∷ images) = and_then (with_apart d image) (λ e. with_images e images)

-- the segments: Range where one reaches past RAM, and then Overlap
abbrev pub with_segments : ℕ → List ℕ → List Segment → Draft → Result Draft Why
with_segments address file segments d =
    if list_any (reaches_past (ram_size d.settings) address) segments then Err Range
    else with_images d (map (segment_image address file) segments)

abbrev pub with_settings : Draft → Result Settings Why → Result Draft Why
with_settings draft (Ok settings) = Ok (record draft { settings = settings })
with_settings draft (Err why) = Err why

-- a program with its entry, from an address on
abbrev pub with_program : Draft → ℕ → List ℕ → Program → Result Draft Why
with_program d address file p =
    and_then (with_settings d (entered d.settings d.settings.root (address + p.entry))) (with_segments address file p.segments)

-- bytes as an executable
abbrev pub executable : Result Program ElfFault → Result Program Why
executable (Ok p) = Ok p
executable (Err fault) = Err (Elf fault)

abbrev pub with_executable : Draft → ℕ → List ℕ → Result Draft Why
with_executable d address file = and_then (executable (program file)) (with_program d address file)
