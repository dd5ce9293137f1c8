-- A lease: the registers of a guest and copies of some frames, on which it steps by itself.
use Rattle.std.specs.Prelude.{◌≡◌, ℕ, zero, suc, ◌+◌, ◌%◌, ◌==◌, List, length, filter, map, Option, Some, None, IsSome, is_some, option_map, option_and_then, if◌then◌else◌}
use Rattle.byteorder.specs.Endian.{little_bytes}
use Rattle.rv_model.specs.Registers.{Registers}
use Rattle.rv_model.specs.Step.{Space, Store, Once, Raised, Went, one}
use Rattle.nova_range.specs.Rights.{read_right, write_right, execute_right}
use Rattle.nova_guest.specs.Cells.{cell_at}
use Rattle.nova_guest.specs.Frames.{frame_from, read_in, replaced}
use Rattle.nova_guest.specs.Maps.{page_in}
use Rattle.nova_guest.specs.declared.cell.Cell.{Cell}
use Rattle.nova_guest.specs.declared.guest.Guest.{Guest}
use Rattle.nova_guest.specs.declared.page.Page.{Page as Place}
use Rattle.law_leases.specs.declared.steps.Page.{Page}

pub record LeaseState : Type 0 where
  pub regs : Registers
  pub pages : List Page

-- copies as cells
abbrev pub cell_of : Page → Cell
cell_of p = record { frame = p.frame; contents = p.bytes }

abbrev pub cells_in : List Page → List Cell
cells_in pages = map cell_of pages

-- the bytes of the copy of a frame
abbrev pub copy_at : List Page → ℕ → Option (List ℕ)
copy_at pages frame = cell_at (cells_in pages) frame

-- what is read in a copy
abbrev pub read_copy : List Page → ℕ → ℕ → Option ℕ → Option ℕ
read_copy pages offset width o = option_and_then (λ frame. option_map (λ bytes. read_in (Some bytes) offset width) (copy_at pages frame)) o

-- the address space of the copies, where these pages are known: what is not known or not copied is not there
abbrev pub copied_space : (ℕ → Option Place) → List Page → Space
copied_space known pages = record {
  fetch = λ address. read_copy pages (address % 4096) 4 (frame_from known execute_right address);
  load = λ address width. read_copy pages (address % 4096) width (frame_from known read_right address);
  takes = λ address width. is_some (option_and_then (copy_at pages) (frame_from known write_right address));
}

-- a store to the copy of a frame is counted
abbrev pub stored_in_page : ℕ → ℕ → ℕ → ℕ → Page → Page
stored_in_page frame offset width value p =
    if p.frame == frame then record p { bytes = replaced p.bytes offset (little_bytes width value); stores = p.stores + 1 } else p

abbrev pub stored_in_pages : List Page → ℕ → ℕ → ℕ → ℕ → List Page
stored_in_pages pages frame offset width value = map (stored_in_page frame offset width value) pages

-- one instruction on the copies, or none: it would raise, or it touches what is not copied
abbrev pub lease_written : Registers → List Page → Store → ℕ → Option (List ℕ) → Option LeaseState
lease_written regs pages s frame (Some bytes) = Some (record { regs = regs; pages = stored_in_pages pages frame (s.address % 4096) s.width s.value })
lease_written regs pages s frame None = None

abbrev pub lease_put : Registers → List Page → Store → Option ℕ → Option LeaseState
lease_put regs pages s (Some frame) = lease_written regs pages s frame (copy_at pages frame)
lease_put regs pages s None = None

abbrev pub lease_stored : (ℕ → Option Place) → Registers → List Page → Option Store → Option LeaseState
lease_stored known regs pages None = Some (record { regs = regs; pages = pages })
lease_stored known regs pages (Some s) = lease_put regs pages s (frame_from known write_right s.address)

abbrev pub lease_by : (ℕ → Option Place) → List Page → Once → Option LeaseState
lease_by known pages (Raised reason q0 q1) = None
lease_by known pages (Went regs store) = lease_stored known regs pages store

abbrev pub lease_step : (ℕ → Option Place) → LeaseState → Option LeaseState
lease_step known l = lease_by known l.pages (one l.regs (copied_space known l.pages))

abbrev pub lease_steps : (ℕ → Option Place) → ℕ → LeaseState → Option LeaseState
lease_steps known zero l = Some l
lease_steps known (suc n) l = option_and_then (lease_steps known n) (lease_step known l)

-- a guest with a lease put back
abbrev pub overlaid : Cell → Option (List ℕ) → Cell
overlaid c (Some bytes) = record { frame = c.frame; contents = bytes }
overlaid c None = c

abbrev pub overlay : List Page → List Cell → List Cell
overlay pages cells = map (λ c. overlaid c (copy_at pages c.frame)) cells

abbrev pub put_back : Guest → LeaseState → Guest
put_back v l = record v { regs = l.regs; cells = overlay l.pages v.cells }

-- pages are known as the guest has them, and each copy is of a cell that is there
pub record IsOfGuest (known : ℕ → Option Place) (pages : List Page) (v : Guest) : Type 0 where
  pub places : (page : ℕ) (p : Place) → known page ≡ Some p → page_in v.maps page ≡ Some p
  pub copies : (frame : ℕ) → IsSome (copy_at pages frame) → IsSome (cell_at v.cells frame)

-- how often a frame stands among frames, and the stores to copies where these are still to come
abbrev pub times : ℕ → List ℕ → ℕ
times frame frames = length (filter (λ x. frame == x) frames)

abbrev pub tally : List ℕ → Page → ℕ × ℕ
tally frames p = (p.frame, p.stores + times p.frame frames)

abbrev pub tallied : List ℕ → List Page → List (ℕ × ℕ)
tallied frames pages = map (tally frames) pages
