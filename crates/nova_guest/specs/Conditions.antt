-- What holds of a guest, and of an input to it, wherever an input is applied.
use Rattle.std.specs.Prelude.{◌≡◌, ◌<◌, ◌≤◌, ◌⊎◌, ℕ, ◌+◌, ◌*◌, ◌%◌, ◌^◌, false, List, [], ◌∷◌, length, IsSome}
use Rattle.std.specs.List.{All, AllPairs, list_any}
use Rattle.nova_range.specs.Ranges.{IsRange}
use Rattle.nova_range.specs.declared.range.Kind.TheVariants.{Mem}
pub use Rattle.rv_model.specs.Step.{IsWidth}
use Rattle.nova_guest.specs.Alone.{applied}
use Rattle.nova_guest.specs.Maps.{overlaps}
use Rattle.nova_guest.specs.declared.cell.Cell.{Cell}
use Rattle.nova_guest.specs.declared.guest.Guest.{Guest}
use Rattle.nova_guest.specs.declared.input.Input.{Input}
use Rattle.nova_guest.specs.declared.input.Input.TheVariants.{Given, Taken, Foreign}
use Rattle.nova_guest.specs.declared.map.Map.{Map}

-- base and order are those of a range of pages
abbrev pub ArePages : ℕ → ℕ → Type 0
ArePages base order = IsRange (record { kind = Mem; base = base; order = order })

-- a map of a range of pages: its first frame is a multiple of 2^order, and its last is below 2^32
pub record IsMap (m : Map) : Type 0 where
  pub pages : ArePages m.base m.order
  pub aligned : m.frame % 2 ^ m.order ≡ 0
  pub frames : m.frame + 2 ^ m.order ≤ 2 ^ 32

-- two maps share no page
abbrev pub AreApart : Map → Map → Type 0
AreApart a b = overlaps a.base a.order b ≡ false

pub record AreMaps (maps : List Map) : Type 0 where
  pub each : All IsMap maps
  pub apart : AllPairs AreApart maps

-- each cell has 4,096 bytes
abbrev pub AreWhole : List Cell → Type 0
AreWhole cells = All (λ c. length c.contents ≡ 4096) cells

pub record IsGuest (v : Guest) : Type 0 where
  pub maps : AreMaps v.maps
  pub cells : AreWhole v.cells

-- contents are those of all frames of a map, or there are none
abbrev pub AreContents : ℕ → List ℕ → Type 0
AreContents order contents = (length contents ≡ 0) ⊎ (length contents ≡ 4096 * 2 ^ order)

-- a store that lies within a frame
pub record IsStore (offset width : ℕ) : Type 0 where
  pub size : IsWidth width
  pub within : offset < 4096
  pub aligned : offset % width ≡ 0

-- a map that is given or taken has a range of pages, and what another stores lies within a frame
abbrev pub IsInput : Input → Type 0
IsInput (Given base order rights frame contents) =
    IsMap (record { base = base; order = order; rights = rights; frame = frame }) × AreContents order contents
IsInput (Taken base order) = ArePages base order
IsInput (Foreign frame offset width value) = IsStore offset width
IsInput other = Unit {0}

-- memory is wanted for a map alone that is given and overlaps none
abbrev pub WantsMemory : Guest → Input → Type 0
WantsMemory v (Given base order rights frame contents) = list_any (overlaps base order) v.maps ≡ false
WantsMemory v other = ⊥

-- along inputs memory is wanted where one of them wants it, or where something is put out, which is kept in a list
abbrev pub WantMemory : Guest → List Input → Type 0
WantMemory v [] = ⊥
WantMemory v (i ∷ is) = WantsMemory v i ⊎ (IsSome (applied v i).out ⊎ WantMemory (applied v i).guest is)
