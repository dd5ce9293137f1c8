-- What a map that is given makes of a guest alone.
use Rattle.std.specs.Prelude.{◌≡◌, ◌<◌, ℕ, ◌-◌, ◌*◌, ◌^◌, true, false, List, ◌∷◌, ◌++◌, length, take, drop, slice_get, Some, None, IfSome}
use Rattle.std.specs.List.{All, AllPairs}
use Rattle.nova_guest.specs.Alone.{Told}
use Rattle.nova_guest.specs.Cells.{cell_at}
use Rattle.nova_guest.specs.Conditions.{AreContents}
use Rattle.nova_guest.specs.Maps.{leads_to}
use Rattle.nova_guest.specs.declared.cell.Cell.{Cell}
use Rattle.nova_guest.specs.declared.guest.Guest.{Guest}
use Rattle.nova_guest.specs.declared.input.Input.{Input}
use Rattle.nova_guest.specs.declared.input.Input.TheVariants.{Given}
use Rattle.nova_guest.specs.declared.map.Map.{Map}

-- the input that gives this map, with the contents of its frames
abbrev pub given : Map → List ℕ → Input
given m contents = Given m.base m.order m.rights m.frame contents

-- cells once a map has come: those that were there stay; a frame that had none has its 4,096 bytes of the contents, where the map leads to it, and
-- none elsewhere or where nothing comes; and they rise by frame where they rose
pub record AreCellsWith (m : Map) (contents : List ℕ) (old new : List Cell) : Type 0 where
  pub kept : (frame : ℕ) (bytes : List ℕ) → cell_at old frame ≡ Some bytes → cell_at new frame ≡ Some bytes
  pub brought : (frame : ℕ) → cell_at old frame ≡ None → leads_to frame m ≡ true → length contents ≡ 4096 * 2 ^ m.order →
      cell_at new frame ≡ Some (take 4096 (drop (4096 * (frame - m.frame)) contents))
  pub beyond : (frame : ℕ) → cell_at old frame ≡ None → leads_to frame m ≡ false → AreContents m.order contents → cell_at new frame ≡ None
  pub empty : (frame : ℕ) → cell_at old frame ≡ None → length contents ≡ 0 → cell_at new frame ≡ None
  pub rising : AllPairs (λ a b. a.frame < b.frame) old → AllPairs (λ a b. a.frame < b.frame) new

-- maps once one has come: all that were there, in their order, and `m` before the first of a greater base, behind lesser ones alone
pub record AreMapsWith (m : Map) (old new : List Map) : Type 0 where
  pub before : List Map
  pub after : List Map
  pub were : old ≡ before ++ after
  pub are : new ≡ before ++ m ∷ after
  pub lesser : All (λ n. n.base < m.base) before
  pub greater : IfSome (slice_get after 0) (λ n. m.base < n.base)

-- registers, recall flag and state stay, and nothing is put out
pub record IsElseSame (v : Guest) (t : Told) : Type 0 where
  pub registers : t.guest.regs ≡ v.regs
  pub recall : t.guest.recall ≡ v.recall
  pub state : t.guest.state ≡ v.state
  pub silent : t.out ≡ None
