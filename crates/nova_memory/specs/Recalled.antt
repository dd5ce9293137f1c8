-- Words that were read at addresses, by protection domain.
use Rattle.std.specs.Prelude.{◌≡◌, ◌≢◌, ◌⊎◌, ◌<◌, ◌≤◌, ℕ, ◌+◌, ◌/◌, ◌%◌, ◌^◌, List, Some, slice_get}
use Rattle.nova_range.specs.Rights.{execute_right}
use Rattle.nova_model.specs.Memory.{Memory, read}
use Rattle.nova_model.specs.declared.delegation.Derivation.{Derivation}
use Rattle.nova_memory.specs.Reach.{ReachState, fetched}
use Rattle.nova_memory.specs.Recents.{LeadsOn}
use Rattle.nova_memory.specs.declared.stepping.Recalled.{Recalled}
use Rattle.nova_memory.specs.declared.stepping.Slot.{Slot}

-- an instruction that is fetched at an address finds a word there
pub record IsReadAt (s : ReachState) (address word : ℕ) : Type 0 where
  pub aligned : address % 4 ≡ 0
  pub there : fetched s address ≡ Some word

-- an address of a protection domain, on a page that isn't a thread's own, may be fetched from and leads to a frame, in which a word lies
pub record LiesAt (list : List Derivation) (memory : Memory) (pd address frame word : ℕ) : Type 0 where
  pub aligned : address % 4 ≡ 0
  pub leads : LeadsOn list pd execute_right (record { page = address / 4096; frame = frame })
  pub there : read memory frame (address % 4096) 4 ≡ word

-- what stands at a place lies at an address of that place
pub record StandsAt (list : List Derivation) (memory : Memory) (pd i : ℕ) (x : Slot) : Type 0 where
  pub place : x.address / 4 % 1024 ≡ i
  pub lies : LiesAt list memory pd x.address x.frame x.reading.word

-- what was read since all was forgotten last still lies there; what was read before has a lesser scope than any protection domain has now
pub record AreRecalled (list : List Derivation) (memory : Memory) (r : Recalled) : Type 0 where
  pub began : 0 < r.base
  pub room : r.base + 2 ^ 32 ≤ 2 ^ 64
  pub before : (i : ℕ) (x : Slot) → slice_get r.slots i ≡ Some x → x.scope < r.base + 2 ^ 32
  pub each : (i pd : ℕ) (x : Slot) → slice_get r.slots i ≡ Some x → x.scope ≡ r.base + pd → StandsAt list memory pd i x

-- of what was remembered nothing is left that lies in a frame at this place
pub record AreLeft (old new : Recalled) (frame place : ℕ) : Type 0 where
  pub base : new.base ≡ old.base
  pub each : (i : ℕ) (x : Slot) → slice_get new.slots i ≡ Some x → (x.scope ≡ 0) ⊎ ((slice_get old.slots i ≡ Some x) × (i ≡ place → x.frame ≢ frame))
