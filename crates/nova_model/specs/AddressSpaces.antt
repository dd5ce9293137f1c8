-- Address spaces: what addresses lead to, over what a page leads to and what a frame holds.
use Rattle.std.specs.Prelude.{ℕ, ◌/◌, ◌%◌, ◌==◌, ◌&&◌, ◌||◌, nat_lt, List, slice_get, slice_set, Option, Some, None, is_some, if◌then◌else◌}
use Rattle.nova_model.specs.Numbers.{PdId, EcId, PageNumber, FrameNumber}
use Rattle.nova_guest.specs.Frames.{frame_from, found_in}
use Rattle.nova_guest.specs.declared.page.Page.{Page}
use Rattle.nova_model.specs.Memory.{Memory, written}
use Rattle.nova_model.specs.Delegations.{reach}
use Rattle.nova_range.specs.Rights.{read_right, write_right, execute_right}
use Rattle.nova_model.specs.declared.delegation.Derivation.{Derivation}
use Rattle.nova_utcb.specs.Messages.{loaded, stored}
use Rattle.rv_model.specs.Step.{Space, Store}

-- what a page leads to, the bytes of a RAM frame, where a console has none, and the message words of a thread
pub record AddressSpace : Type 0 where
  pub page : PageNumber → Option Page
  pub bytes : FrameNumber → Option (List ℕ)
  pub words : Option (List ℕ)

-- a thread has one page of its own, which begins with its message words: no delegation leads there
abbrev pub own_page : PageNumber
own_page = 1048575  -- 0xfffff

abbrev pub message_size : ℕ
message_size = 512

-- the message words, where an address is among theirs
abbrev pub words_at : AddressSpace → ℕ → Option (List ℕ)
words_at a address = if (address / 4096 == own_page) && nat_lt (address % 4096) message_size then a.words else None

-- the frame that an address leads to, where the right is there, and what is found in it
abbrev pub frame_for : AddressSpace → ℕ → ℕ → Option FrameNumber
frame_for a right address = frame_from a.page right address

abbrev pub found : AddressSpace → ℕ → ℕ → ℕ → Option ℕ
found a right address width = found_in a.page a.bytes right address width

-- a load finds message words or frames; a fetch finds frames alone
abbrev pub loaded_from : AddressSpace → ℕ → ℕ → Option (List ℕ) → Option ℕ
loaded_from a address width (Some m) = Some (loaded m (address % 4096) width)
loaded_from a address width None = found a read_right address width

abbrev pub space : AddressSpace → Space
space a = record {
  fetch = λ address. found a execute_right address 4;
  load = λ address width. loaded_from a address width (words_at a address);
  takes = λ address width. is_some (words_at a address) || is_some (frame_for a write_right address);
}

-- an address space in which nothing is found to load; an instruction that loads raises there, with the address
abbrev pub without_loads : Space → Space
without_loads a = record a { load = λ address width. None }

-- memory after a store that the address space takes; one to message words leaves it
abbrev pub stored_at : Memory → Store → Option FrameNumber → Memory
stored_at m s (Some frame) = written m frame (s.address % 4096) s.width s.value
stored_at m s None = m

abbrev pub after_store : AddressSpace → Store → Memory → Memory
after_store a s m = stored_at m s (frame_for a write_right s.address)

-- the message words of all after a store by an execution context
abbrev pub stored_among : List (Option (List ℕ)) → EcId → Store → Option (List ℕ) → List (Option (List ℕ))
stored_among messages ec s (Some m) = slice_set messages ec (Some (stored m (s.address % 4096) s.width s.value))
stored_among messages ec s None = messages

abbrev pub words_after_store : AddressSpace → EcId → Store → List (Option (List ℕ)) → List (Option (List ℕ))
words_after_store a ec s messages = stored_among messages ec s (words_at a s.address)

-- the address space of an execution context of a protection domain, with the words of its own: each other page leads through the domain's
-- delegations
abbrev pub page_through : List Derivation → PdId → Option (List ℕ) → PageNumber → Option Page
page_through list pd own page = if is_some own && (page == own_page) then None else reach list pd page

abbrev pub space_through : List Derivation → Memory → PdId → Option (List ℕ) → AddressSpace
space_through list memory pd own = record { page = page_through list pd own; bytes = slice_get memory.ram; words = own }
