-- The instructions that have a word: registers x0 to x31, and an immediate that the format holds.
use Rattle.std.specs.Prelude.{◌≡◌, ◌<◌, ◌≤◌, ◌⊎◌, ℕ, ◌-◌, ◌%◌, ◌^◌}
use Rattle.rv_model.specs.Table.{row_of, mnemonic_of, operands_of}
use Rattle.rv_model.specs.declared.instr.Instr.{Instr}
use Rattle.rv_model.specs.declared.mnemonic.Format.{Format}
use Rattle.rv_model.specs.declared.mnemonic.Format.TheVariants as format
use Rattle.rv_core.specs.Rows.{HasRegisters}

-- a signed number of `bits` bits, as a word
abbrev pub IsSigned : ℕ → ℕ → Type 0
IsSigned bits n = (n < 2 ^ (bits - 1)) ⊎ ((2 ^ 32 - 2 ^ (bits - 1) ≤ n) × (n < 2 ^ 32))

-- the immediates that a format holds
abbrev pub HoldsImmediate : Format → ℕ → Type 0
HoldsImmediate format.Register n = Unit {0}
HoldsImmediate format.Immediate n = IsSigned 12 n
HoldsImmediate format.Shift n = n < 32
HoldsImmediate format.Store n = IsSigned 12 n
HoldsImmediate format.Branch n = IsSigned 13 n × (n % 2 ≡ 0)
HoldsImmediate format.Upper n = (n < 2 ^ 32) × (n % 2 ^ 12 ≡ 0)
HoldsImmediate format.Jump n = IsSigned 21 n × (n % 2 ≡ 0)
HoldsImmediate format.Fence n = Unit {0}
HoldsImmediate (format.Alone v) n = Unit {0}

pub record IsEncodable (i : Instr) : Type 0 where
  pub registers : HasRegisters (operands_of i)
  pub immediate : HoldsImmediate (row_of (mnemonic_of i)).format (operands_of i).imm
