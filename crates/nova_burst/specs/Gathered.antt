-- Copies as they are gathered from the memory of a protection domain.
use Rattle.std.specs.Prelude.{◌≡◌, ◌≤◌, ◌<◌, ℕ, ◌∷◌, [], ◌++◌, List, length, slice_get, Some, None, IsSome}
use Rattle.nova_guest.specs.declared.page.Page.{Page as Place}
use Rattle.nova_model.specs.Delegations.{reach}
use Rattle.nova_model.specs.State.{KernelState}
use Rattle.law_leases.specs.Leases.{copy_at}
use Rattle.law_leases.specs.Paging.{AreFresh}
use Rattle.law_leases.specs.declared.steps.Page.{Page}
use Rattle.nova_burst.specs.Copies.{CopiesState, known_in, place_of}
use Rattle.nova_burst.specs.declared.copies.Known.{Known}

-- some page of a protection domain leads to a frame
pub record IsLedTo (k : KernelState) (pd frame : ℕ) : Type 0 where
  pub page : ℕ
  pub place : Place
  pub leads : reach k.delegations.list pd page ≡ Some place
  pub is : place.frame ≡ frame

-- pages are known as the protection domain has them; copies were just made, at most `most`, of frames to which its memory leads
pub record AreGathered (k : KernelState) (pd most : ℕ) (s : CopiesState) : Type 0 where
  pub places : (page : ℕ) (p : Place) → known_in s.known page ≡ Some p → reach k.delegations.list pd page ≡ Some p
  pub fresh : AreFresh k.memory.ram s.pages
  pub led : (frame : ℕ) → IsSome (copy_at s.pages frame) → IsLedTo k pd frame
  pub few : length s.pages ≤ most

-- where a page leads to RAM, it is known, and its frame is copied
abbrev pub HasPage : KernelState → ℕ → ℕ → CopiesState → Type 0
HasPage k pd page s =
    (p : Place) → reach k.delegations.list pd page ≡ Some p → p.frame < length k.memory.ram → (known_in s.known page ≡ Some p) × IsSome (copy_at s.pages p.frame)

-- copies to which some came: they are gathered as before, and have what they had
pub record HaveGrown (k : KernelState) (pd most : ℕ) (old new : CopiesState) : Type 0 where
  pub gathered : AreGathered k pd most old → AreGathered k pd most new
  pub has : (page : ℕ) → HasPage k pd page old → HasPage k pd page new

-- a page came, if it leads to RAM and there was place for its frame
pub record HaveGrownBy (k : KernelState) (pd most page : ℕ) (old new : CopiesState) : Type 0 where
  pub grown : HaveGrown k pd most old new
  pub added : known_in old.known page ≡ None → length old.pages < most → HasPage k pd page new

-- a fresh copy of a frame came
pub record HasCopy (ram : List (List ℕ)) (f : ℕ) (old new : CopiesState) : Type 0 where
  pub bytes : List ℕ
  pub page : Page
  pub at : slice_get ram f ≡ Some bytes
  pub its : page.frame ≡ f
  pub holds : page.bytes ≡ bytes
  pub stores : page.stores ≡ 0
  pub is : new ≡ record old { pages = old.pages ++ page ∷ [] }

-- a page leads to this frame of RAM
pub record IsRamPage (k : KernelState) (pd page : ℕ) (x : Known) : Type 0 where
  pub its : x.page ≡ page
  pub leads : reach k.delegations.list pd page ≡ Some (place_of x)
  pub ram : x.frame < length k.memory.ram

-- it leads to none
abbrev pub IsNoRamPage : KernelState → ℕ → ℕ → Type 0
IsNoRamPage k pd page = (p : Place) → reach k.delegations.list pd page ≡ Some p → length k.memory.ram ≤ p.frame
