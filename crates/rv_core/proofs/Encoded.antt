-- An instruction that can be encoded is decoded from its word, and each decoded instruction can be encoded.
use Rattle.std.proofs.Common.{◌≡◌, ◌<◌, ℕ, ◌^◌, true, Some, refl, ap, sym, subst, ◌∙◌, lit<, arith}
use Rattle.std.proofs.lemmas.Bool.Decides.{nat_tests}
use Rattle.rv_model.specs.Table.{Row, row_of, instr_from, mnemonic_of, operands_of}
use Rattle.rv_model.specs.Codes.{code, has_row, immediate_of, operands_in, word_by, instr_of, word_of}
use Rattle.rv_model.specs.declared.instr.Instr.{Instr}
use Rattle.rv_model.specs.declared.instr.Instr.TheVariants as instr
use Rattle.rv_model.specs.declared.instr.Operands.{Operands}
use Rattle.rv_model.specs.declared.mnemonic.Format.{Format}
use Rattle.rv_model.specs.declared.mnemonic.Format.TheVariants as format
use Rattle.rv_model.specs.declared.mnemonic.Mnemonic.{Mnemonic}
use Rattle.rv_model.specs.declared.mnemonic.Mnemonic.TheVariants.{Lui}
use Rattle.rv_core.specs.Rows.{HasRegisters}
use Rattle.rv_core.specs.Encodable.{HoldsImmediate, IsEncodable}
use Rattle.rv_core.proofs.Fields.{Holds, takes_codes, packed_holds}
use Rattle.rv_core.proofs.Found.{found, read}

-- the codes of a row fit their places
record HasCodes (r : Row) : Type 0 where
  opcode : r.opcode < 2 ^ 7
  funct3 : code r.funct3 < 2 ^ 3
  funct7 : code r.funct7 < 2 ^ 7

has_codes : (m : Mnemonic) → HasCodes (row_of m)
has_codes Lui = record { opcode = lit< tt; funct3 = lit< tt; funct7 = lit< tt }
has_codes _ = record { opcode = lit< tt; funct3 = lit< tt; funct7 = lit< tt }

-- the word of a row holds its operands
row_holds : (m : Mnemonic) (o : Operands) → HasRegisters o → HoldsImmediate (row_of m).format o.imm →
    Holds (row_of m).format (row_of m).opcode (row_of m).funct3 (row_of m).funct7 (word_by (row_of m) o) o
row_holds m o r h =
    let row = row_of m in
    let has = has_codes m in
    packed_holds row.format row.opcode row.funct3 row.funct7 o has.opcode has.funct3 has.funct7 (takes_codes m) r h

-- a word that holds the operands of a row has the row, and is read as the instruction
has_row_of : (m : Mnemonic) (w : ℕ) (o : Operands) → Holds (row_of m).format (row_of m).opcode (row_of m).funct3 (row_of m).funct7 w o → has_row w (row_of m) ≡ true
has_row_of Lui w o h = grind (arith, nat_tests)
has_row_of _ w o h = grind (arith, nat_tests)

same_operands : (m : Mnemonic) (w : ℕ) (o : Operands) → Holds (row_of m).format (row_of m).opcode (row_of m).funct3 (row_of m).funct7 w o →
    instr_from m (operands_in (row_of m).format w) ≡ instr_from m o
same_operands Lui w o h = cc
same_operands _ w o h = cc

-- the name and the operands of an instruction make it
pub parts_again : (i : Instr) → instr_from (mnemonic_of i) (operands_of i) ≡ i
parts_again (instr.Lui rd imm) = refl
parts_again _ = refl

-- what can be encoded is decoded again
by_row : (m : Mnemonic) (o : Operands) → HasRegisters o → HoldsImmediate (row_of m).format o.imm → instr_of (word_by (row_of m) o) ≡ Some (instr_from m o)
unfolding instr_of
by_row m o r h =
    let w = word_by (row_of m) o in
    let held = row_holds m o r h in
    rw (found m w (has_row_of m w o held)) (ap Some (same_operands m w o held))

pub encoded : (i : Instr) → IsEncodable i → instr_of (word_of i) ≡ Some i
unfolding word_of
encoded i e = by_row (mnemonic_of i) (operands_of i) e.registers e.immediate ∙ ap Some (parts_again i)

-- what was decoded can be encoded
held : (f : Format) (w : ℕ) → w < 2 ^ 32 → HoldsImmediate f (immediate_of f w)
held format.Register w h = tt
held format.Immediate w h = grind arith
held format.Shift w h = grind arith
held format.Store w h = grind arith
held format.Branch w h = grind arith
held format.Upper w h = grind arith
held format.Jump w h = grind arith
held format.Fence w h = tt
held (format.Alone v) w h = tt

of_row : (m : Mnemonic) (w : ℕ) → w < 2 ^ 32 → IsEncodable (instr_from m (operands_in (row_of m).format w))
of_row Lui w h = record { registers = record { rd = grind arith; rs1 = grind arith; rs2 = grind arith }; immediate = held format.Upper w h }
of_row m w h = record { registers = record { rd = grind arith; rs1 = grind arith; rs2 = grind arith }; immediate = held (row_of m).format w h }

pub decoded : (w : ℕ) (i : Instr) → w < 2 ^ 32 → instr_of w ≡ Some i → IsEncodable i
decoded w i h e = let found = read w i e in subst IsEncodable (sym found.1.1) (of_row found.0 w h)
