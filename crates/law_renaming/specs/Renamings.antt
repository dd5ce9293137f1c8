-- Guests, inputs and what is put out that agree but for the frames.
use Rattle.std.specs.Prelude.{◌≡◌, ◌<◌, ◌≤◌, ℕ, ◌+◌, ◌/◌, ◌^◌, Bool, true, List, [], ◌∷◌, length, Option, option_and_then}
use Rattle.nova_guest.specs.Cells.{cell_at, page_size}
use Rattle.nova_guest.specs.Maps.{page_in}
use Rattle.nova_guest.specs.declared.cell.Cell.{Cell}
use Rattle.nova_guest.specs.declared.guest.Guest.{Guest}
use Rattle.nova_guest.specs.declared.input.Input.{Input}
use Rattle.nova_guest.specs.declared.input.Input.TheVariants.{Given, Foreign}
use Rattle.nova_guest.specs.declared.input.Out.{Out}
use Rattle.nova_guest.specs.declared.input.Out.TheVariants as out
use Rattle.nova_guest.specs.declared.map.Map.{Map}

-- A RENAMING says which frame of a second guest stands for which of a first. It need not name every frame.
abbrev pub Renames : (ℕ → ℕ → Bool) → ℕ → ℕ → Type 0
Renames r a b = r a b ≡ true

-- no frame stands for two, and none has two that stand for it
pub record IsOneToOne (r : ℕ → ℕ → Bool) : Type 0 where
  pub to : (a b c : ℕ) → Renames r a b → Renames r a c → b ≡ c
  pub from : (a b c : ℕ) → Renames r a c → Renames r b c → a ≡ b

-- MAPS: the i-th frame of the second stands for the i-th of the first
abbrev pub AreRenamed : (ℕ → ℕ → Bool) → ℕ → ℕ → ℕ → Type 0
AreRenamed r order frame new = (i : ℕ) → i < 2 ^ order → Renames r (frame + i) (new + i)

pub record MapAgrees (r : ℕ → ℕ → Bool) (m n : Map) : Type 0 where
  pub base : n.base ≡ m.base
  pub order : n.order ≡ m.order
  pub rights : n.rights ≡ m.rights
  pub frames : AreRenamed r m.order m.frame n.frame

abbrev pub MapsAgree : (ℕ → ℕ → Bool) → List Map → List Map → Type 0
MapsAgree r [] [] = Unit {0}
MapsAgree r (m ∷ ms) (n ∷ ns) = MapAgrees r m n × MapsAgree r ms ns
MapsAgree r ms ns = ⊥

-- CELLS: a frame has the bytes of that which it stands for; both have a cell, or neither, so that RAM stands for RAM and a console for a console
abbrev pub CellsAgree : (ℕ → ℕ → Bool) → List Cell → List Cell → Type 0
CellsAgree r cells new = (a b : ℕ) → Renames r a b → cell_at new b ≡ cell_at cells a

pub record GuestsAgree (r : ℕ → ℕ → Bool) (u v : Guest) : Type 0 where
  pub regs : v.regs ≡ u.regs
  pub state : v.state ≡ u.state
  pub recall : v.recall ≡ u.recall
  pub maps : MapsAgree r u.maps v.maps
  pub cells : CellsAgree r u.cells v.cells

-- INPUTS: a map that is given comes with equal contents and to frames that stand for each other; a store of another is to such a frame; all else is equal
abbrev pub InputAgrees : (ℕ → ℕ → Bool) → Input → Input → Type 0
InputAgrees r (Given base order rights frame contents) j =
    (new : ℕ) × (j ≡ Given base order rights new contents) × AreRenamed r order frame new
InputAgrees r (Foreign frame offset width value) j = (new : ℕ) × (j ≡ Foreign new offset width value) × Renames r frame new
InputAgrees r i j = j ≡ i

abbrev pub InputsAgree : (ℕ → ℕ → Bool) → List Input → List Input → Type 0
InputsAgree r [] [] = Unit {0}
InputsAgree r (i ∷ is) (j ∷ js) = InputAgrees r i j × InputsAgree r is js
InputsAgree r is js = ⊥

-- a map comes with the bytes of no more frames than it has
abbrev pub InputFits : Input → Type 0
InputFits (Given base order rights frame contents) = length contents / page_size ≤ 2 ^ order
InputFits other = Unit {0}

-- WHAT IS PUT OUT: exits are equal, and bytes are but for the console
abbrev pub OutAgrees : (ℕ → ℕ → Bool) → Out → Out → Type 0
OutAgrees r (out.Exit reason q0 q1) o = o ≡ out.Exit reason q0 q1
OutAgrees r (out.Byte frame value) o = (new : ℕ) × (o ≡ out.Byte new value) × Renames r frame new

abbrev pub OutsAgree : (ℕ → ℕ → Bool) → List Out → List Out → Type 0
OutsAgree r [] [] = Unit {0}
OutsAgree r (o ∷ os) (p ∷ ps) = OutAgrees r o p × OutsAgree r os ps
OutsAgree r os ps = ⊥

-- the bytes behind a page, where it leads to RAM
abbrev pub bytes_behind : Guest → ℕ → Option (List ℕ)
bytes_behind v page = option_and_then (λ p. cell_at v.cells p.frame) (page_in v.maps page)
