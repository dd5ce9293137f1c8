-- Copies of frames, with the pages that are known to lead there.
use Rattle.std.specs.Prelude.{◌≡◌, ℕ, ◌-◌, ◌^◌, ◌<◌, ◌≤◌, ◌%◌, ◌==◌, Bool, List, Option, Some, None, option_and_then, option_map, slice_get, length}
use Rattle.std.specs.List.{All, find}
use Rattle.rv_model.specs.Registers.{Registers}
use Rattle.rv_model.specs.Step.{Store}
use Rattle.nova_guest.specs.Frames.{frame_from, frame_with}
use Rattle.nova_guest.specs.declared.page.Page.{Page as Place}
use Rattle.nova_range.specs.Rights.{execute_right, read_right, write_right}
use Rattle.law_leases.specs.Leases.{LeaseState, copied_space, stored_in_pages}
use Rattle.law_leases.specs.Paging.{AreOnce}
use Rattle.law_leases.specs.declared.steps.Page.{Page}
use Rattle.nova_burst.specs.declared.copies.Known.{Known}

pub record CopiesState : Type 0 where
  pub known : List Known
  pub pages : List Page

-- what a page is known to lead to
abbrev pub place_of : Known → Place
place_of k = record { frame = k.frame; rights = k.rights }

abbrev pub known_in : List Known → ℕ → Option Place
known_in list page = option_map place_of (find (λ k. k.page == page) list)

abbrev pub fetched : CopiesState → ℕ → Option ℕ
fetched s = (copied_space (known_in s.known) s.pages).fetch

abbrev pub loaded : CopiesState → ℕ → ℕ → Option ℕ
loaded s = (copied_space (known_in s.known) s.pages).load

abbrev pub takes : CopiesState → ℕ → ℕ → Bool
takes s = (copied_space (known_in s.known) s.pages).takes

-- a store to the copy of a frame
abbrev pub put_at : CopiesState → Store → Option ℕ → CopiesState
put_at s store (Some frame) = record s { pages = stored_in_pages s.pages frame (store.address % 4096) store.width store.value }
put_at s store None = s

abbrev pub put : Store → CopiesState → CopiesState
put store s = put_at s store (frame_from (known_in s.known) write_right store.address)

-- one more store can be counted
abbrev pub HasRoom : CopiesState → Type 0
HasRoom s = All (λ (p : Page). p.stores < 2 ^ 64 - 1) s.pages

-- registers and copies, as a lease
abbrev pub lease_of : Registers → CopiesState → LeaseState
lease_of regs s = record { regs = regs; pages = s.pages }

-- no copy counts more stores than this
abbrev pub HasFewStores : ℕ → CopiesState → Type 0
HasFewStores n s = All (λ (p : Page). p.stores ≤ n) s.pages

-- the copy of a frame stands at a place
pub record IsCopyOf (pages : List Page) (f copy : ℕ) : Type 0 where
  pub page : Page
  pub at : slice_get pages copy ≡ Some page
  pub is : page.frame ≡ f

-- a page leads to the frame of the copy at a place, and the right is there
pub record IsCopyFor (known : ℕ → Option Place) (pages : List Page) (right page copy : ℕ) : Type 0 where
  pub its : Page
  pub at : slice_get pages copy ≡ Some its
  pub leads : option_and_then (frame_with right) (known page) ≡ Some its.frame

-- so it is of the page that was touched last, where there is one; pages are below 2^20
abbrev pub IsRecent : (ℕ → Option Place) → List Page → ℕ → ℕ → ℕ → Type 0
IsRecent known pages right page copy = page < 1048576 → IsCopyFor known pages right page copy

-- what always holds of copies: each is of a whole frame, each frame is copied once, and the pages that were touched last, to fetch, to load and to store, are where they say
abbrev pub AreSound : (ℕ → Option Place) → List Page → ℕ → ℕ → ℕ → ℕ → ℕ → ℕ → Type 0
AreSound known pages fetch fetched load loaded store stored = All (λ (p : Page). length p.bytes ≡ 4096) pages × (AreOnce pages
    × (IsRecent known pages execute_right fetch fetched × (IsRecent known pages read_right load loaded × IsRecent known pages write_right store stored)))
