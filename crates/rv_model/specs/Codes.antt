-- Words and instructions: which instruction a word is, and the word of an instruction. (RV32I, "Base Instruction Formats" and
-- "Immediate Encoding Variants".)
use Rattle.std.specs.Prelude.{ℕ, ◌+◌, ◌*◌, ◌^◌, ◌==◌, ◌&&◌, Bool, true, Option, Some, None, option_map}
use Rattle.std.specs.List.{find}
use Rattle.rv_model.specs.Words.{field, extended}
use Rattle.rv_model.specs.Table.{Row, row_of, mnemonics, instr_from, mnemonic_of, operands_of}
use Rattle.rv_model.specs.declared.instr.Instr.{Instr}
use Rattle.rv_model.specs.declared.instr.Operands.{Operands}
use Rattle.rv_model.specs.declared.mnemonic.Format.{Format}
use Rattle.rv_model.specs.declared.mnemonic.Format.TheVariants as format

-- the immediate that a word holds in a format
abbrev pub immediate_of : Format → ℕ → ℕ
immediate_of format.Register w = 0
immediate_of format.Immediate w = extended 12 (field w 20 12)
immediate_of format.Shift w = field w 20 5
immediate_of format.Store w = extended 12 (field w 25 7 * 2 ^ 5 + field w 7 5)
immediate_of format.Branch w = extended 13 (field w 31 1 * 2 ^ 12 + field w 7 1 * 2 ^ 11 + field w 25 6 * 2 ^ 5 + field w 8 4 * 2)
immediate_of format.Upper w = field w 12 20 * 2 ^ 12
immediate_of format.Jump w = extended 21 (field w 31 1 * 2 ^ 20 + field w 12 8 * 2 ^ 12 + field w 20 1 * 2 ^ 11 + field w 21 10 * 2)
immediate_of format.Fence w = 0
immediate_of (format.Alone v) w = 0

-- the registers in their places, and the immediate
abbrev pub operands_in : Format → ℕ → Operands
operands_in f w = record { rd = field w 7 5; rs1 = field w 15 5; rs2 = field w 20 5; imm = immediate_of f w }

-- a code that the row leaves open, or the field has it
abbrev pub agrees : Option ℕ → ℕ → Bool
agrees None n = true
agrees (Some code) n = n == code

-- an instruction that is one word is that word
abbrev pub is_alone : Format → ℕ → Bool
is_alone (format.Alone v) w = w == v
is_alone f w = true

-- the word is of this row
abbrev pub has_row : ℕ → Row → Bool
has_row w r = (field w 0 7 == r.opcode) && (agrees r.funct3 (field w 12 3) && (agrees r.funct7 (field w 25 7) && is_alone r.format w))

-- the instruction that a word is, or none
unfoldable pub instr_of : ℕ → Option Instr
instr_of w = option_map (λ m. instr_from m (operands_in (row_of m).format w)) (find (λ m. has_row w (row_of m)) mnemonics)

-- the code of a row at its bit, or 0 where the row leaves it open
abbrev pub code : Option ℕ → ℕ
code None = 0
code (Some n) = n

-- the registers in their places
abbrev pub rd_bits : Operands → ℕ
rd_bits o = field o.rd 0 5 * 2 ^ 7

abbrev pub rs1_bits : Operands → ℕ
rs1_bits o = field o.rs1 0 5 * 2 ^ 15

abbrev pub rs2_bits : Operands → ℕ
rs2_bits o = field o.rs2 0 5 * 2 ^ 20

-- the word of a format with these codes and operands; of a register its five bits, of an immediate the bits that the format holds
abbrev pub packed : Format → ℕ → ℕ → ℕ → Operands → ℕ
packed format.Register opcode funct3 funct7 o = opcode + rd_bits o + funct3 * 2 ^ 12 + rs1_bits o + rs2_bits o + funct7 * 2 ^ 25
packed format.Immediate opcode funct3 funct7 o = opcode + rd_bits o + funct3 * 2 ^ 12 + rs1_bits o + field o.imm 0 12 * 2 ^ 20
packed format.Shift opcode funct3 funct7 o =
    opcode + rd_bits o + funct3 * 2 ^ 12 + rs1_bits o + field o.imm 0 5 * 2 ^ 20 + funct7 * 2 ^ 25
packed format.Store opcode funct3 funct7 o =
    opcode + field o.imm 0 5 * 2 ^ 7 + funct3 * 2 ^ 12 + rs1_bits o + rs2_bits o + field o.imm 5 7 * 2 ^ 25
packed format.Branch opcode funct3 funct7 o =
    opcode + field o.imm 11 1 * 2 ^ 7 + field o.imm 1 4 * 2 ^ 8 + funct3 * 2 ^ 12 + rs1_bits o + rs2_bits o
    + field o.imm 5 6 * 2 ^ 25 + field o.imm 12 1 * 2 ^ 31
packed format.Upper opcode funct3 funct7 o = opcode + rd_bits o + field o.imm 12 20 * 2 ^ 12
packed format.Jump opcode funct3 funct7 o =
    opcode + rd_bits o + field o.imm 12 8 * 2 ^ 12 + field o.imm 11 1 * 2 ^ 20 + field o.imm 1 10 * 2 ^ 21 + field o.imm 20 1 * 2 ^ 31
packed format.Fence opcode funct3 funct7 o = 267386895  -- 0x0ff0000f
packed (format.Alone v) opcode funct3 funct7 o = v

-- the word of a row with these operands
abbrev pub word_by : Row → Operands → ℕ
word_by r o = packed r.format r.opcode (code r.funct3) (code r.funct7) o

-- the word of an instruction; of fence, which has many, 0x0ff0000f
unfoldable pub word_of : Instr → ℕ
word_of i = word_by (row_of (mnemonic_of i)) (operands_of i)
