-- The pages of a protection domain that were looked up last, with the frames that they lead to, and the capability that is at hand.
use Rattle.std.specs.Prelude.{◌≡◌, ◌≢◌, ℕ, ◌<◌, ◌^◌, List, Some, IfSome, option_and_then, slice_get}
use Rattle.nova_guest.specs.Frames.{frame_with}
use Rattle.nova_range.specs.Rights.{execute_right, read_right, write_right}
use Rattle.nova_range.specs.declared.range.Kind.TheVariants.{Obj}
use Rattle.nova_model.specs.AddressSpaces.{own_page}
use Rattle.nova_model.specs.Delegations.{reach}
use Rattle.nova_model.specs.declared.delegation.Derivation.{Derivation}
use Rattle.nova_memory.specs.Reach.{IsFound}
use Rattle.nova_memory.specs.declared.recent.Pages.{Pages}
use Rattle.nova_memory.specs.declared.recent.Recent.{Recent}
use Rattle.nova_memory.specs.declared.recent.Recents.{Recents}

-- a page of a protection domain that isn't a thread's own leads to its frame, with a right
pub record LeadsOn (list : List Derivation) (pd right : ℕ) (r : Recent) : Type 0 where
  pub own : r.page ≢ own_page
  pub frame : option_and_then (frame_with right) (reach list pd r.page) ≡ Some r.frame

-- unless none was looked up yet
abbrev pub IsRecent : List Derivation → ℕ → ℕ → Recent → Type 0
IsRecent list pd right r = r.page < 2 ^ 20 → LeadsOn list pd right r

-- each of several
abbrev pub AreRecentPages : List Derivation → ℕ → ℕ → Pages → Type 0
AreRecentPages list pd right pages = (i : ℕ) (x : Recent) → slice_get pages.places i ≡ Some x → IsRecent list pd right x

pub record AreRecent (list : List Derivation) (r : Recents) : Type 0 where
  pub fetched : IsRecent list r.pd execute_right r.fetched
  pub loaded : AreRecentPages list r.pd read_right r.loaded
  pub stored : AreRecentPages list r.pd write_right r.stored
  pub capability : IfSome r.capability (IsFound Obj list)
