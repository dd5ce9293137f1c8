-- States that are kept on the way, and what they take.
use Rattle.std.specs.Prelude.{◌≡◌, ℕ, ◌+◌, ◌*◌, ◌≤◌, ◌++◌, ◌∷◌, [], ◌⊎◌, List, length, sum_by, Contains, All}
use Rattle.nova_model.specs.State.{KernelState}
use Rattle.nova_recording.specs.declared.copies.Kept.{Kept}

-- the bytes that a kept state is reckoned to take: for itself, each frame of RAM, object, derivation and byte in the console log; nothing is
-- measured
abbrev pub size_of : KernelState → ℕ
size_of k = 16384 + (length k.memory.ram * 4096 + (length k.objects * 1024 + (length k.delegations.list * 128 + length k.memory.log * 8)))

-- the bytes that kept states take together
abbrev pub sizes_of : List Kept → ℕ
sizes_of kept = sum_by (λ (x : Kept). size_of x.kernel.state) kept

-- none of them takes more than `each` bytes
pub record AreNoLarger (each : ℕ) (kept : List Kept) : Type 0 where
  pub all : All (λ (x : Kept). size_of x.kernel.state ≤ each) kept

-- the kept states, the most bytes that they may take together, and the most that one of them takes
pub record CopiesView : Type 0 where
  pub kept : List Kept
  pub most : ℕ
  pub each : ℕ

-- each of some is one of all
pub record AreAmong (some all : List Kept) : Type 0 where
  pub each : All (Contains all) some

-- those that were there, and perhaps one more
abbrev pub IsMore : List Kept → Kept → List Kept → Type 0
IsMore old kept new = (new ≡ old) ⊎ (new ≡ old ++ kept ∷ [])
