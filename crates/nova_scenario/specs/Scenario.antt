-- The scenario that a text is, or its first line at fault.
use Rattle.std.specs.Prelude.{ℕ, ◌+◌, Bool, false, is_ok, List, [], ◌∷◌, length, Option, Some, None, Result, Ok, Err}
use Rattle.nova_text.specs.Line.{Row, lines}
use Rattle.nova_scenario.specs.Fault.{At, at, and_then, on_line}
use Rattle.nova_scenario.specs.Digits.{elf_bytes}
use Rattle.nova_scenario.specs.Images.{Draft, empty, begun, with_image}
use Rattle.nova_scenario.specs.Items.{Block, Item, FaultyLine, SettingLine, SourceLine, ImageBlock, items}
use Rattle.nova_scenario.specs.Segments.{with_executable, with_settings}
use Rattle.nova_scenario.specs.Settings.{with_setting}
use Rattle.nova_scenario.specs.Sources.{closing, with_source}
use Rattle.nova_scenario.specs.declared.source.SourceRow.{SourceRow}
use Rattle.nova_scenario.specs.Words.{hex_words, asm_words, in_bytes}
use Rattle.nova_scenario.specs.declared.fault.Why.{Why}
use Rattle.nova_scenario.specs.declared.fault.Why.TheVariants.{Missing}
use Rattle.nova_scenario.specs.declared.image.Image.{Image}
use Rattle.nova_scenario.specs.declared.scenario.Scenario.{Scenario}
use Rattle.nova_scenario.specs.declared.settings.Root.{Root}
use Rattle.nova_scenario.specs.declared.statement.Form.{Form}
use Rattle.nova_scenario.specs.declared.statement.Form.TheVariants as form
use Rattle.nova_scenario.specs.declared.statement.Head.{Head}

-- what is missing at the end of a text is missing on the line after its last
abbrev pub missing : {A : Type 0} → List ℕ → Result A At
missing bytes = at (length (lines bytes) + 1) Missing

-- the bytes of a block: those of its words, or those of an executable
abbrev pub block_bytes : List ℕ → Block → Form → Result (List ℕ) At
block_bytes bytes block form.Hex = in_bytes (hex_words block.lines)
block_bytes bytes block form.Asm = in_bytes (asm_words bytes block)
block_bytes bytes block form.Elf = elf_bytes block.lines

-- what a block of a form lays from an address on: its bytes, or the segments of the executable that they are
abbrev pub with_bytes : Form → Draft → ℕ → List ℕ → Result Draft Why
with_bytes form.Hex draft address bytes = with_image draft (record { address = address; bytes = bytes })
with_bytes form.Asm draft address bytes = with_image draft (record { address = address; bytes = bytes })
with_bytes form.Elf draft address bytes = with_executable draft address bytes

-- at the line that ends a block
abbrev pub ended : List ℕ → Option Row → Result Draft Why → Result Draft At
ended bytes None laid = missing bytes
ended bytes (Some row) laid = on_line row.number laid

-- the image of a block: its first line, its bytes, and its end
abbrev pub with_block : List ℕ → Draft → Head → Block → Result Draft At
with_block bytes draft head block =
    and_then (on_line block.first.number (begun draft.settings head.address)) (λ address.
    and_then (block_bytes bytes block head.form) (λ image_bytes.
    ended bytes block.end (with_bytes head.form draft address image_bytes)))

-- what was read so far with one more item
abbrev pub with_item : List ℕ → Draft → Item → Result Draft At
with_item bytes draft (FaultyLine line why) = at line why
with_item bytes draft (SettingLine line setting) = on_line line (with_settings draft (with_setting draft.settings setting))
with_item bytes draft (SourceLine line head) = on_line line (with_source draft head)
with_item bytes draft (ImageBlock head block) = with_block bytes (closing draft) head block

-- what was read, where all settings stand, and where the first thread starts is known
abbrev pub with_pc : ℕ → ℕ → ℕ → Root → Option ℕ → List Image → List SourceRow → Option Scenario
with_pc cpus ram consoles root None images sources = None
with_pc cpus ram consoles root (Some pc) images sources = Some (record {
  cpus = cpus;
  ram = ram;
  consoles = consoles;
  pc = pc;
  sp = root.sp;
  priority = root.priority;
  quantum = root.quantum;
  images = images;
  sources = sources;
})

abbrev pub whole : Option ℕ → Option ℕ → Option ℕ → Option Root → List Image → List SourceRow → Option Scenario
whole (Some cpus) (Some ram) (Some consoles) (Some root) images sources = with_pc cpus ram consoles root root.pc images sources
whole _ _ _ _ images sources = None

abbrev pub finished : Draft → Option Scenario
finished d = whole d.settings.cpus d.settings.ram d.settings.consoles d.settings.root d.images d.sources

abbrev pub or_missing : List ℕ → Option Scenario → Result Scenario At
or_missing bytes None = missing bytes
or_missing bytes (Some scenario) = Ok scenario

-- the items in their order, each with what stands before it
abbrev pub read_items : List ℕ → Draft → List Item → Result Scenario At
read_items bytes draft [] = or_missing bytes (finished draft)
read_items bytes draft (item ∷ more) = and_then (with_item bytes draft item) (λ d. read_items bytes d more)

-- whether an image begins, or a source stands, before any line at fault
abbrev pub if_ok : {A : Type 0} → Result A Why → (A → Bool) → Bool
if_ok (Ok x) next = next x
if_ok (Err why) next = false

abbrev pub begins_image : Draft → List Item → Bool
begins_image draft [] = false
begins_image draft (FaultyLine line why ∷ more) = false
begins_image draft (SettingLine line setting ∷ more) = if_ok (with_settings draft (with_setting draft.settings setting)) (λ d. begins_image d more)
begins_image draft (SourceLine line head ∷ more) = is_ok (with_source draft head)
begins_image draft (ImageBlock head block ∷ more) = is_ok (begun draft.settings head.address)

-- only the images and sources of a text take memory
unfoldable pub takes_memory : List ℕ → Bool
takes_memory bytes = begins_image empty (items false (lines bytes))

-- the scenario of a text
unfoldable pub scenario : List ℕ → Result Scenario At
scenario bytes = read_items bytes empty (items false (lines bytes))
