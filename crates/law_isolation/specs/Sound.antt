-- What always holds of a state, as far as the law of one turn asks.
use Rattle.std.specs.Prelude.{◌≡◌, ◌≤◌, ◌⊎◌, ℕ, ◌+◌, ◌^◌, true, List, length}
use Rattle.std.specs.List.{AllByRecursion}
use Rattle.nova_guest.specs.Cells.{page_size}
use Rattle.nova_range.specs.Ranges.{IsRange}
use Rattle.nova_model.specs.Capabilities.{is_ec, is_vcpu}
use Rattle.nova_model.specs.Delegations.{is_memory, range_of}
use Rattle.nova_model.specs.Forest.{IsForest}
use Rattle.nova_model.specs.State.{KernelState, context, message}
use Rattle.nova_model.specs.declared.delegation.Derivation.{Derivation}
use Rattle.law_turns.specs.Keeping.{IsKept}
use Rattle.law_turns.specs.Tables.{IsOf}

-- every RAM frame has its 4,096 bytes
abbrev pub AreWhole : List (List ℕ) → Type 0
AreWhole ram = AllByRecursion (λ (bytes : List ℕ). length bytes ≡ page_size) ram

-- frames are whole, messages have 128 words and execution contexts 32 registers; and each object has a place among execution contexts
pub record IsWhole (k : KernelState) : Type 0 where
  pub frames : AreWhole k.memory.ram
  pub messages : (ec : ℕ) → length (message k ec) ≡ 128
  pub registers : (ec : ℕ) → IsOf k.objects is_ec ec → length (context k ec).regs.x ≡ 32
  pub places : length k.contexts ≡ length k.objects

-- delegations are a sound forest, what turns keep holds, and all is whole
pub record IsSound (k : KernelState) : Type 0 where
  pub forest : IsForest k.delegations
  pub kept : IsKept k
  pub whole : IsWhole k

-- a virtual CPU that was made
abbrev pub IsVirtual : KernelState → ℕ → Type 0
IsVirtual k g = IsOf k.objects is_vcpu g

-- a derivation has a range; a derivation of memory leads to frames below 2^32, all of them in RAM or none, where `frames` frames are
pub record IsRanged (frames : ℕ) (d : Derivation) : Type 0 where
  pub range : IsRange (range_of d)
  pub last : is_memory d.kind ≡ true → d.target + 2 ^ d.order ≤ 2 ^ 32
  pub sort : is_memory d.kind ≡ true → (d.target + 2 ^ d.order ≤ frames) ⊎ (frames ≤ d.target)

abbrev pub AreRanges : KernelState → Type 0
AreRanges k = AllByRecursion (IsRanged (length k.memory.ram)) k.delegations.list
