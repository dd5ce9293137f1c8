-- Cells: the bytes of the frames that a guest reaches.
use Rattle.std.specs.Prelude.{ℕ, zero, suc, ◌+◌, ◌/◌, ◌==◌, List, [], ◌∷◌, length, take, drop, filter, map, Option, is_none, option_map, if◌then◌else◌}
use Rattle.std.specs.List.{find}
use Rattle.byteorder.specs.Endian.{little_bytes}
use Rattle.nova_guest.specs.Frames.{replaced}
use Rattle.nova_guest.specs.declared.cell.Cell.{Cell}

abbrev pub frame_of : Cell → ℕ
frame_of c = c.frame

-- the bytes of a frame, where it has a cell
abbrev pub cell_at : List Cell → ℕ → Option (List ℕ)
cell_at cells frame = option_map (λ c. c.contents) (find (λ c. c.frame == frame) cells)

-- the cells after a store of the lowest bytes of a value to a frame
abbrev pub stored_in_cell : ℕ → ℕ → ℕ → ℕ → Cell → Cell
stored_in_cell frame offset width value c =
    if c.frame == frame then record c { contents = replaced c.contents offset (little_bytes width value) } else c

abbrev pub stored_in : List Cell → ℕ → ℕ → ℕ → ℕ → List Cell
stored_in cells frame offset width value = map (stored_in_cell frame offset width value) cells

-- contents as the cells of frames one after another, from a frame on: pieces of `page_size` bytes
unfoldable pub page_size : ℕ
page_size = 4096

abbrev pub pieces : ℕ → ℕ → ℕ → List ℕ → List Cell
pieces size zero frame bytes = []
pieces size (suc n) frame bytes = record { frame = frame; contents = take size bytes } ∷ pieces size n (frame + 1) (drop size bytes)

abbrev pub cells_given : ℕ → List ℕ → List Cell
cells_given frame bytes = pieces page_size (length bytes / page_size) frame bytes

-- of cells that are given, those of frames that have none
abbrev pub missing : List Cell → List Cell → List Cell
missing cells given = filter (λ c. is_none (cell_at cells c.frame)) given
