-- What an instruction of a guest reaches, and what it leaves there.
use Rattle.std.specs.Prelude.{ℕ, ◌%◌, Bool, List, Option, Some, None}
use Rattle.rv_model.specs.Step.{Store}
use Rattle.nova_range.specs.Rights.{write_right}
use Rattle.nova_guest.specs.Alone.{byte_out, guest_space}
use Rattle.nova_guest.specs.Cells.{cell_at, stored_in}
use Rattle.nova_guest.specs.Frames.{frame_from}
use Rattle.nova_guest.specs.Maps.{page_in}
use Rattle.nova_guest.specs.declared.cell.Cell.{Cell}
use Rattle.nova_guest.specs.declared.input.Out.{Out}
use Rattle.nova_guest.specs.declared.map.Map.{Map}

-- the maps and cells, and what was put out
pub record SightState : Type 0 where
  pub maps : List Map
  pub cells : List Cell
  pub out : Option Out

abbrev pub fetched : SightState → ℕ → Option ℕ
fetched s = (guest_space s.maps s.cells).fetch

abbrev pub loaded : SightState → ℕ → ℕ → Option ℕ
loaded s = (guest_space s.maps s.cells).load

abbrev pub takes : SightState → ℕ → ℕ → Bool
takes s = (guest_space s.maps s.cells).takes

-- a store to a frame with a cell changes its bytes, and one to a console puts out a byte
abbrev pub put_in : SightState → Store → ℕ → Option (List ℕ) → SightState
put_in s store frame (Some bytes) = record s { cells = stored_in s.cells frame (store.address % 4096) store.width store.value }
put_in s store frame None = record s { out = byte_out frame (store.address % 4096) store.value }

abbrev pub put_at : SightState → Store → Option ℕ → SightState
put_at s store (Some frame) = put_in s store frame (cell_at s.cells frame)
put_at s store None = s

abbrev pub put : Store → SightState → SightState
put store s = put_at s store (frame_from (page_in s.maps) write_right store.address)
