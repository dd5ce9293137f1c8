-- What was read on copies, by its address.
use Rattle.std.specs.Prelude.{◌≡◌, ◌≢◌, ◌⊎◌, ℕ, ◌/◌, ◌%◌, List, Some, None, length, option_and_then, slice_get}
use Rattle.std.specs.List.{All}
use Rattle.rv_model.specs.Codes.{instr_of}
use Rattle.nova_guest.specs.Frames.{frame_from}
use Rattle.nova_range.specs.Rights.{execute_right}
use Rattle.law_leases.specs.declared.steps.Page.{Page}
use Rattle.nova_burst.specs.Copies.{CopiesState, fetched, known_in}
use Rattle.nova_burst.specs.declared.run.Slot.{Slot}

-- a word lies at an address, which is a multiple of 4
pub record IsReadAt (s : CopiesState) (address word : ℕ) : Type 0 where
  pub aligned : address % 4 ≡ 0
  pub there : fetched s address ≡ Some word

-- no instruction does
abbrev pub IsUnread : CopiesState → ℕ → Type 0
IsUnread s address = (address % 4 ≢ 0) ⊎ (option_and_then instr_of (fetched s address) ≡ None)

-- the word that was read at an address still lies there, in a frame
pub record IsRead (s : CopiesState) (x : Slot) : Type 0 where
  pub at : IsReadAt s x.address x.reading.word
  pub leads : frame_from (known_in s.known) execute_right x.address ≡ Some x.frame

-- what is remembered at the place of its address still lies there; copies are whole frames
pub record AreRead (s : CopiesState) (slots : List Slot) : Type 0 where
  pub whole : All (λ (p : Page). length p.bytes ≡ 4096) s.pages
  pub each : (i : ℕ) (x : Slot) → slice_get slots i ≡ Some x → x.address / 4 % 256 ≡ i → IsRead s x

-- of what was remembered nothing is left that lies in a frame at this place
abbrev pub AreLeft : List Slot → List Slot → ℕ → ℕ → Type 0
AreLeft old new frame place = (i : ℕ) (x : Slot) → slice_get new i ≡ Some x → x.address / 4 % 256 ≡ i → (slice_get old i ≡ Some x) × (i ≡ place → x.frame ≢ frame)
