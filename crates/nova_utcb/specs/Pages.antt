-- Loads and stores of the page by its bytes.
use Rattle.std.specs.Prelude.{◌≡◌, ◌<◌, ℕ, zero, suc, ◌+◌, ◌*◌, ◌/◌, ◌%◌, ◌^◌, List}
pub use Rattle.rv_model.specs.Step.{IsWidth}
use Rattle.nova_utcb.specs.Messages.{byte_at}

-- a load or a store that lies within one of the words
pub record IsAccess (offset width : ℕ) : Type 0 where
  pub wide : IsWidth width
  pub within : offset < 512
  pub aligned : offset % width ≡ 0

-- byte i of a number, the lowest first
abbrev pub byte_of : ℕ → ℕ → ℕ
byte_of n i = n / 2 ^ (8 * i) % 2 ^ 8

-- the number that bytes of the page make, from an offset on and the lowest first
abbrev pub number_from : List ℕ → ℕ → ℕ → ℕ
number_from m offset zero = 0
number_from m offset (suc n) = byte_at m offset + 2 ^ 8 * number_from m (offset + 1) n
