-- A store to a frame, as cells have it.
use Rattle.std.proofs.Common.{◌≡◌, ℕ, zero, suc, ◌+◌, ◌<◌, List, [], ◌∷◌, sym, subst, refl, arith}
use Rattle.std.specs.Prelude.{slice_get, slice_set, map, Option, Some, None}
use Rattle.byteorder.specs.Endian.{little_bytes}
use Rattle.nova_guest.specs.Cells.{cell_at, stored_in, stored_in_cell}
use Rattle.nova_guest.specs.Frames.{replaced}
use Rattle.nova_guest.specs.declared.cell.Cell.{Cell}
use Rattle.nova_guest.specs.declared.map.Map.{Map}
use Rattle.nova_model.specs.Memory.{Memory, written, written_in}
use Rattle.nova_model.specs.Views.{cells_from, cells_of}

cells_before : (maps : List Map) (n f : ℕ) (ram : List (List ℕ)) (o w v : ℕ) → f < n →
    map (stored_in_cell f o w v) (cells_from maps n ram) ≡ cells_from maps n ram
cells_before maps n f [] o w v h = refl
cells_before maps n f (bytes ∷ ram) o w v h = grind (arith, cells_before maps (n + 1) f ram o w v)

cells_past : (maps : List Map) (n i : ℕ) (ram : List (List ℕ)) (o w v : ℕ) → slice_get ram i ≡ None →
    map (stored_in_cell (n + i) o w v) (cells_from maps n ram) ≡ cells_from maps n ram
cells_past maps n i [] o w v h = refl
cells_past maps n zero (bytes ∷ ram) o w v h = absurd (cc)
cells_past maps n (suc i) (bytes ∷ ram) o w v h =
    let e : n + suc i ≡ (n + 1) + i = omega arith in grind (arith, cells_past maps (n + 1) i ram o w v)

cells_set : (maps : List Map) (n i : ℕ) (ram : List (List ℕ)) (o w v : ℕ) (b : List ℕ) → slice_get ram i ≡ Some b →
    cells_from maps n (slice_set ram i (replaced b o (little_bytes w v))) ≡ map (stored_in_cell (n + i) o w v) (cells_from maps n ram)
cells_set maps n i [] o w v b h = absurd (cc)
cells_set maps n zero (bytes ∷ ram) o w v b h = grind (arith, cells_before maps (n + 1) n ram o w v)
cells_set maps n (suc i) (bytes ∷ ram) o w v b h =
    let e : n + suc i ≡ (n + 1) + i = omega arith in grind (arith, cells_set maps (n + 1) i ram o w v b)

written_found : (maps : List Map) (m : Memory) (f o w v : ℕ) (b : Option (List ℕ)) → slice_get m.ram f ≡ b →
    cells_of maps (written_in m b f o w v).ram ≡ stored_in (cells_of maps m.ram) f o w v
written_found maps m f o w v None h =
    let e : 0 + f ≡ f = omega arith in subst (λ (g : ℕ). cells_of maps m.ram ≡ stored_in (cells_of maps m.ram) g o w v) e (sym (cells_past maps 0 f m.ram o w v h))
written_found maps m f o w v (Some b) h =
    let e : 0 + f ≡ f = omega arith in
    subst (λ (g : ℕ). cells_of maps (slice_set m.ram f (replaced b o (little_bytes w v))) ≡ stored_in (cells_of maps m.ram) g o w v) e
    (cells_set maps 0 f m.ram o w v b h)

-- whatever frame it is to, and whatever maps cover
pub cells_written : (maps : List Map) (m : Memory) (f o w v : ℕ) →
    cells_of maps (written m f o w v).ram ≡ stored_in (cells_of maps m.ram) f o w v
cells_written maps m f o w v = written_found maps m f o w v (slice_get m.ram f) refl

-- a store to a frame without a cell
pub stored_nowhere : (cells : List Cell) (f o w v : ℕ) → cell_at cells f ≡ None → stored_in cells f o w v ≡ cells
stored_nowhere [] f o w v h = refl
stored_nowhere (c ∷ cells) f o w v h = grind (arith, stored_nowhere cells f o w v)
