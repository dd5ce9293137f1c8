-- Words of a scenario's text that lie in memory.
use Rattle.std.specs.Prelude.{◌≡◌, ℕ, ◌+◌, ◌*◌, ◌/◌, ◌%◌, ◌^◌, ◌<◌, List, length, slice_index, Some, Result, Ok}
use Rattle.nova_model.specs.Memory.{Memory}
use Rattle.nova_scenario.specs.Fault.{At}
use Rattle.nova_scenario.specs.Items.{Block, Item, FaultyLine, SettingLine, SourceLine, ImageBlock}
use Rattle.nova_scenario.specs.Words.{hex_words, asm_words}
use Rattle.nova_scenario.specs.declared.statement.Form.{Form}
use Rattle.nova_scenario.specs.declared.statement.Form.TheVariants as form
use Rattle.nova_scenario.specs.declared.statement.Head.{Head}
use Rattle.nova_boot.specs.Laid.{byte_at}

-- words one after another from an address on: byte i of word j, where byte 0 is the lowest, lies at the address and 4 * j + i
abbrev pub LieFrom : Memory → ℕ → List ℕ → Type 0
LieFrom m address words = (j i : ℕ) → j < length words → i < 4 → byte_at m (address + (4 * j + i)) ≡ slice_index words j / 256 ^ i % 256

-- a block has an address and words, and they lie there
pub record HoldsWords (m : Memory) (said : Result (List ℕ) At) (head : Head) : Type 0 where
  pub address : ℕ
  pub there : head.address ≡ Some address
  pub words : List ℕ
  pub are : said ≡ Ok words
  pub lie : LieFrom m address words

abbrev pub HoldsBlock : Memory → List ℕ → Form → Head → Block → Type 0
HoldsBlock m bytes form.Hex head block = HoldsWords m (hex_words block.lines) head
HoldsBlock m bytes form.Asm head block = HoldsWords m (asm_words bytes block) head
HoldsBlock m bytes form.Elf head block = Unit {0}

abbrev pub HoldsItem : Memory → List ℕ → Item → Type 0
HoldsItem m bytes (FaultyLine line why) = Unit {0}
HoldsItem m bytes (SettingLine line setting) = Unit {0}
HoldsItem m bytes (SourceLine line head) = Unit {0}
HoldsItem m bytes (ImageBlock head block) = HoldsBlock m bytes head.form head block
