-- What the fields of a word are that was put together from operands, format by format.
use Rattle.std.proofs.Common.{◌≡◌, ◌<◌, ℕ, ◌^◌, Option, Some, None, refl, arith}
use Rattle.rv_model.specs.Words.{field}
use Rattle.rv_model.specs.Table.{row_of}
use Rattle.rv_model.specs.Codes.{code, packed, immediate_of}
use Rattle.rv_model.specs.declared.instr.Operands.{Operands}
use Rattle.rv_model.specs.declared.mnemonic.Format.{Format}
use Rattle.rv_model.specs.declared.mnemonic.Format.TheVariants as format
use Rattle.rv_model.specs.declared.mnemonic.Mnemonic.{Mnemonic}
use Rattle.rv_model.specs.declared.mnemonic.Mnemonic.TheVariants.{Lui}
use Rattle.rv_core.specs.Rows.{HasRegisters}
use Rattle.rv_core.specs.Encodable.{HoldsImmediate}

-- a word of a format has these codes, and the operands that the format has
abbrev pub Holds : Format → ℕ → Option ℕ → Option ℕ → ℕ → Operands → Type 0
Holds format.Register opcode (Some funct3) (Some funct7) w o =
    (field w 0 7 ≡ opcode) × (field w 12 3 ≡ funct3) × (field w 25 7 ≡ funct7) × (field w 7 5 ≡ o.rd) × (field w 15 5 ≡ o.rs1) × (field w 20 5 ≡ o.rs2)
Holds format.Immediate opcode (Some funct3) None w o =
    (field w 0 7 ≡ opcode) × (field w 12 3 ≡ funct3) × (field w 7 5 ≡ o.rd) × (field w 15 5 ≡ o.rs1) × (immediate_of format.Immediate w ≡ o.imm)
Holds format.Shift opcode (Some funct3) (Some funct7) w o =
    (field w 0 7 ≡ opcode) × (field w 12 3 ≡ funct3) × (field w 25 7 ≡ funct7) × (field w 7 5 ≡ o.rd) × (field w 15 5 ≡ o.rs1) × (immediate_of format.Shift w ≡ o.imm)
Holds format.Store opcode (Some funct3) None w o =
    (field w 0 7 ≡ opcode) × (field w 12 3 ≡ funct3) × (field w 15 5 ≡ o.rs1) × (field w 20 5 ≡ o.rs2) × (immediate_of format.Store w ≡ o.imm)
Holds format.Branch opcode (Some funct3) None w o =
    (field w 0 7 ≡ opcode) × (field w 12 3 ≡ funct3) × (field w 15 5 ≡ o.rs1) × (field w 20 5 ≡ o.rs2) × (immediate_of format.Branch w ≡ o.imm)
Holds format.Upper opcode None None w o = (field w 0 7 ≡ opcode) × (field w 7 5 ≡ o.rd) × (immediate_of format.Upper w ≡ o.imm)
Holds format.Jump opcode None None w o = (field w 0 7 ≡ opcode) × (field w 7 5 ≡ o.rd) × (immediate_of format.Jump w ≡ o.imm)
Holds format.Fence opcode funct3 funct7 w o = w ≡ 267386895
Holds (format.Alone v) opcode funct3 funct7 w o = w ≡ v
Holds f opcode funct3 funct7 w o = ⊥

-- the codes that a format has
abbrev pub Takes : Format → Option ℕ → Option ℕ → Type 0
Takes format.Register (Some funct3) (Some funct7) = Unit {0}
Takes format.Immediate (Some funct3) None = Unit {0}
Takes format.Shift (Some funct3) (Some funct7) = Unit {0}
Takes format.Store (Some funct3) None = Unit {0}
Takes format.Branch (Some funct3) None = Unit {0}
Takes format.Upper None None = Unit {0}
Takes format.Jump None None = Unit {0}
Takes format.Fence funct3 funct7 = Unit {0}
Takes (format.Alone v) funct3 funct7 = Unit {0}
Takes f funct3 funct7 = ⊥

-- each row has the codes of its format
pub takes_codes : (m : Mnemonic) → Takes (row_of m).format (row_of m).funct3 (row_of m).funct7
takes_codes Lui = tt
takes_codes _ = tt

-- a word holds what it was put together from
pub packed_holds : (f : Format) (opcode : ℕ) (funct3 funct7 : Option ℕ) (o : Operands) → opcode < 2 ^ 7 → code funct3 < 2 ^ 3 → code funct7 < 2 ^ 7 →
    Takes f funct3 funct7 → HasRegisters o → HoldsImmediate f o.imm → Holds f opcode funct3 funct7 (packed f opcode (code funct3) (code funct7) o) o
packed_holds format.Register opcode (Some funct3) (Some funct7) o a b c t r h = (grind arith, grind arith, grind arith, grind arith, grind arith, grind arith)
packed_holds format.Immediate opcode (Some funct3) None o a b c t r h = (grind arith, grind arith, grind arith, grind arith, grind arith)
packed_holds format.Shift opcode (Some funct3) (Some funct7) o a b c t r h = (grind arith, grind arith, grind arith, grind arith, grind arith, grind arith)
packed_holds format.Store opcode (Some funct3) None o a b c t r h = (grind arith, grind arith, grind arith, grind arith, grind arith)
packed_holds format.Branch opcode (Some funct3) None o a b c t r h = (grind arith, grind arith, grind arith, grind arith, grind arith)
packed_holds format.Upper opcode None None o a b c t r h = (grind arith, grind arith, grind arith)
packed_holds format.Jump opcode None None o a b c t r h = (grind arith, grind arith, grind arith)
packed_holds format.Fence opcode funct3 funct7 o a b c t r h = refl
packed_holds (format.Alone v) opcode funct3 funct7 o a b c t r h = refl
packed_holds f opcode funct3 funct7 o a b c t r h = absurd t
