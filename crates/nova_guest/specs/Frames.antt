-- Frames: what an address leads to through pages, and what is found there. A frame without bytes is a console.
use Rattle.std.specs.Prelude.{ℕ, ◌+◌, ◌/◌, ◌%◌, List, ◌++◌, length, take, drop, Option, Some, None, option_map, option_and_then, if◌then◌else◌}
use Rattle.byteorder.specs.Endian.{little_number}
use Rattle.nova_range.specs.Rights.{allows}
use Rattle.nova_guest.specs.declared.page.Page.{Page}

-- the number in the bytes from an offset on, the lowest byte first; a console gives 0
abbrev pub read_in : Option (List ℕ) → ℕ → ℕ → ℕ
read_in (Some bytes) offset width = little_number width (drop offset bytes)
read_in None offset width = 0

-- bytes put in the place of those from an offset on
abbrev pub replaced : List ℕ → ℕ → List ℕ → List ℕ
replaced bytes offset new = take offset bytes ++ (new ++ drop (offset + length new) bytes)

-- the frame that an address leads to, where the right is there
abbrev pub frame_with : ℕ → Page → Option ℕ
frame_with right p = if allows p.rights right then Some p.frame else None

abbrev pub frame_from : (ℕ → Option Page) → ℕ → ℕ → Option ℕ
frame_from page right address = option_and_then (frame_with right) (page (address / 4096))

-- what is found there, where `bytes` are those of a frame
abbrev pub found_in : (ℕ → Option Page) → (ℕ → Option (List ℕ)) → ℕ → ℕ → ℕ → Option ℕ
found_in page bytes right address width = option_map (λ frame. read_in (bytes frame) (address % 4096) width) (frame_from page right address)
