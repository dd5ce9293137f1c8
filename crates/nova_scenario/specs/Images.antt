-- The images so far, and where a further one may lie.
use Rattle.std.specs.Prelude.{ℕ, ◌+◌, ◌==◌, ◌%◌, Bool, false, ◌&&◌, min, max, nat_le, nat_lt, List, [], ◌∷◌, ◌++◌, length, Option, Some, None, Result, Ok, Err, if◌then◌else◌}
use Rattle.std.specs.List.{list_any}
use Rattle.nova_scenario.specs.Settings.{is_whole, ram_size, unset}
use Rattle.nova_scenario.specs.declared.fault.Why.{Why}
use Rattle.nova_scenario.specs.declared.fault.Why.TheVariants.{Missing, Range, Overlap}
use Rattle.nova_scenario.specs.declared.image.Image.{Image}
use Rattle.nova_scenario.specs.declared.source.SourceRow.{SourceRow}
use Rattle.nova_scenario.specs.declared.settings.Settings.{Settings}

-- what was read so far, and whether an image was among it
pub record Draft : Type 0 where
  pub settings : Settings
  pub images : List Image
  pub sources : List SourceRow
  pub closed : Bool

abbrev pub empty : Draft
empty = record { settings = unset; images = []; sources = []; closed = false }

-- the address after an image
abbrev pub end_of : Image → ℕ
end_of image = image.address + length image.bytes

-- whether two images share a byte: the greater of their addresses is below the lesser of their ends
abbrev pub shares : Image → Image → Bool
shares a b = nat_lt (max a.address b.address) (min (end_of a) (end_of b))

-- whether an address is a multiple of 4 in RAM
abbrev pub is_word_address : ℕ → ℕ → Bool
is_word_address ram address = address % 4 == 0 && nat_le (address + 4) ram

abbrev pub address_in : ℕ → Option ℕ → Result ℕ Why
address_in ram None = Err Range
address_in ram (Some address) = if is_word_address ram address then Ok address else Err Range

-- the address of an image that begins: Missing where not all settings stand before it, Range where it is no such address
abbrev pub begun : Settings → Option ℕ → Result ℕ Why
begun s address = if is_whole s then address_in (ram_size s) address else Err Missing

-- the images with one more: Overlap where it shares a byte with an earlier one
abbrev pub with_apart : Draft → Image → Result Draft Why
with_apart d image = if list_any (shares image) d.images then Err Overlap else Ok (record d { images = d.images ++ image ∷ [] })

-- the images with one of words that ends: Range where it reaches past RAM, and then Overlap
abbrev pub with_image : Draft → Image → Result Draft Why
with_image d image = if nat_lt (ram_size d.settings) (end_of image) then Err Range else with_apart d image
