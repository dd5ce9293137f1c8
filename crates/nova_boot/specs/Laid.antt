-- Bytes that were laid into RAM.
use Rattle.std.specs.Prelude.{◌≡◌, ℕ, ◌+◌, ◌/◌, ◌%◌, ◌<◌, ◌≤◌, ◌⊎◌, List, length, slice_index}
use Rattle.nova_model.specs.Memory.{Memory, read}

-- the byte at an address
abbrev pub byte_at : Memory → ℕ → ℕ
byte_at m address = read m (address / 4096) (address % 4096) 1

-- byte j lies at the address and j, and at each other address the byte that lay there
pub record IsLaid (m : Memory) (address : ℕ) (bytes : List ℕ) (new : Memory) : Type 0 where
  pub laid : (j : ℕ) → j < length bytes → byte_at new (address + j) ≡ slice_index bytes j % 256
  pub others : (other : ℕ) → (other < address) ⊎ (address + length bytes ≤ other) → byte_at new other ≡ byte_at m other
