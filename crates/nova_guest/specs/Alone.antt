-- The guest alone: what each input makes of it, and what it puts out then. It knows no kernel, no other execution context and no scheduler.
use Rattle.std.specs.Prelude.{ℕ, ◌%◌, ◌==◌, Bool, true, false, not, List, [], ◌∷◌, ◌++◌, take, drop, slice_index, Option, Some, None, is_some, if◌then◌else◌}
use Rattle.std.specs.List.{filter, list_any}
use Rattle.rv_model.specs.Registers.{Registers}
use Rattle.rv_model.specs.Step.{Space, Store, Once, Raised, Went, one}
use Rattle.nova_range.specs.Mtds.{names}
use Rattle.nova_range.specs.Rights.{read_right, write_right, execute_right}
use Rattle.nova_range.specs.declared.mtd.Mtd.{Mtd}
use Rattle.nova_range.specs.declared.mtd.TheConstants.Mtd.{PC, LOW, HIGH}
use Rattle.nova_guest.specs.Cells.{cell_at, cells_given, frame_of, missing, stored_in}
use Rattle.nova_guest.specs.Frames.{frame_from, found_in}
use Rattle.nova_guest.specs.Keyed.{placed, placed_all}
use Rattle.nova_guest.specs.Maps.{base_of, is_covered, is_map, overlaps, page_in}
use Rattle.nova_guest.specs.declared.cell.Cell.{Cell}
use Rattle.nova_guest.specs.declared.guest.Guest.{Guest}
use Rattle.nova_guest.specs.declared.guest.GuestState.{GuestState}
use Rattle.nova_guest.specs.declared.guest.GuestState.TheVariants.{Fresh, Ready, Exit, Waiting, Dead}
use Rattle.nova_guest.specs.declared.input.Input.{Input}
use Rattle.nova_guest.specs.declared.input.Input.TheVariants.{Own, Reply, Recall, Given, Taken, Foreign, Sent, Died}
use Rattle.nova_guest.specs.declared.input.Out.{Out}
use Rattle.nova_guest.specs.declared.input.Out.TheVariants as out
use Rattle.nova_guest.specs.declared.map.Map.{Map}
use Rattle.nova_guest.specs.declared.page.Page.{Page}

-- what an input leaves, and what it puts out
pub record Told : Type 0 where
  pub guest : Guest
  pub out : Option Out

abbrev pub told : Guest → Option Out → Told
told v out = record { guest = v; out = out }

-- the address space of maps and cells
abbrev pub space_over : (ℕ → Option Page) → (ℕ → Option (List ℕ)) → Space
space_over page bytes = record {
  fetch = λ address. found_in page bytes execute_right address 4;
  load = λ address width. found_in page bytes read_right address width;
  takes = λ address width. is_some (frame_from page write_right address);
}

abbrev pub guest_space : List Map → List Cell → Space
guest_space maps cells = space_over (page_in maps) (cell_at cells)

-- A TURN OF ITS OWN

-- an exit is raised
abbrev pub raised : Guest → ℕ → ℕ → ℕ → Told
raised v reason q0 q1 = told (record v { state = Exit reason q0 q1 }) (Some (out.Exit reason q0 q1))

-- a store to a console puts out its low byte at offset 0, and does nothing elsewhere; one to a cell changes its bytes
abbrev pub byte_out : ℕ → ℕ → ℕ → Option Out
byte_out frame offset value = if offset == 0 then Some (out.Byte frame (value % 256)) else None

abbrev pub written : Guest → ℕ → ℕ → ℕ → ℕ → Option (List ℕ) → Told
written v frame offset width value (Some bytes) = told (record v { cells = stored_in v.cells frame offset width value }) None
written v frame offset width value None = told v (byte_out frame offset value)

abbrev pub stored_at : Guest → Store → Option ℕ → Told
stored_at v s (Some frame) = written v frame (s.address % 4096) s.width s.value (cell_at v.cells frame)
stored_at v s None = told v None

abbrev pub stored : Guest → Option Store → Told
stored v (Some s) = stored_at v s (frame_from (page_in v.maps) write_right s.address)
stored v None = told v None

abbrev pub stepped : Guest → Once → Told
stepped v (Raised reason q0 q1) = raised v reason q0 q1
stepped v (Went regs store) = stored (record v { regs = regs }) store

-- a recall comes before the next instruction, and is answered by its exit
abbrev pub ran : Guest → Bool → Told
ran v true = raised (record v { recall = false }) 8 0 0
ran v false = stepped v (one v.regs (guest_space v.maps v.cells))

abbrev pub acted : Guest → GuestState → Told
acted v Fresh = raised v 0 0 0
acted v Ready = ran v v.recall
acted v other = told v None

-- WHAT COMES TO IT

abbrev pub sent : Guest → GuestState → Guest
sent v (Exit reason q0 q1) = record v { state = Waiting }
sent v other = v

abbrev pub died : Guest → GuestState → Guest
died v (Exit reason q0 q1) = record v { state = Dead }
died v Waiting = record v { state = Dead }
died v other = v

-- the groups that a reply names are written: pc, x1 to x15, and x16 to x31; the other registers stay
abbrev pub with_pc : Bool → List ℕ → Registers → Registers
with_pc true words r = record r { pc = slice_index words 0 }
with_pc false words r = r

abbrev pub with_low : Bool → List ℕ → Registers → Registers
with_low true words r = record r { x = take 1 r.x ++ (take 15 (drop 2 words) ++ drop 16 r.x) }
with_low false words r = r

abbrev pub with_high : Bool → List ℕ → Registers → Registers
with_high true words r = record r { x = take 16 r.x ++ take 16 (drop 17 words) }
with_high false words r = r

abbrev pub written_back : Mtd → List ℕ → Registers → Registers
written_back mtd words r = with_high (names mtd HIGH) words (with_low (names mtd LOW) words (with_pc (names mtd PC) words r))

abbrev pub replied : Guest → Mtd → List ℕ → GuestState → Guest
replied v mtd words Waiting = record v { state = Ready; regs = written_back mtd words v.regs }
replied v mtd words other = v

-- a map comes, with a cell for each of its RAM frames that has none
abbrev pub with_map : Guest → Map → List ℕ → Guest
with_map v m contents = record v {
  maps = placed base_of m v.maps;
  cells = placed_all frame_of (missing v.cells (cells_given m.frame contents)) v.cells;
}

-- given, where it overlaps no map
abbrev pub given : Guest → Map → List ℕ → Guest
given v m contents = if list_any (overlaps m.base m.order) v.maps then v else with_map v m contents

-- maps go, and each cell that none of those left leads to
abbrev pub with_maps : Guest → List Map → Guest
with_maps v maps = record v { maps = maps; cells = filter (λ c. is_covered maps c.frame) v.cells }

-- taken, where there is a map of this base and order
abbrev pub taken : Guest → ℕ → ℕ → Guest
taken v base order =
    if list_any (is_map base order) v.maps then with_maps v (filter (λ m. not (is_map base order m)) v.maps) else v

-- ONE INPUT, AND ALL

-- an input that the state doesn't admit changes nothing and puts out nothing
unfoldable pub applied : Guest → Input → Told
applied v Own = acted v v.state
applied v Sent = told (sent v v.state) None
applied v Died = told (died v v.state) None
applied v (Reply mtd words) = told (replied v mtd words v.state) None
applied v Recall = told (record v { recall = true }) None
applied v (Given base order rights frame contents) =
    told (given v (record { base = base; order = order; rights = rights; frame = frame }) contents) None
applied v (Taken base order) = told (taken v base order) None
applied v (Foreign frame offset width value) = told (record v { cells = stored_in v.cells frame offset width value }) None

-- inputs one after another: what they leave, and what they put out, in order
abbrev pub out_before : Option Out → List Out → List Out
out_before None outs = outs
out_before (Some o) outs = o ∷ outs

abbrev pub alone : Guest → List Input → Guest
alone v [] = v
alone v (i ∷ is) = alone (applied v i).guest is

abbrev pub outputs : Guest → List Input → List Out
outputs v [] = []
outputs v (i ∷ is) = out_before (applied v i).out (outputs (applied v i).guest is)
