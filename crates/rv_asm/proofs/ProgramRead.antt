-- The words of a program are read as what was written.
use Rattle.std.proofs.Common.{◌≡◌, inl, inr, ℕ, ◌+◌, ◌-◌, ◌%◌, ◌^◌, ◌<◌, lit<, lit≤, Bool, true, false, List, [], ◌∷◌, ◌++◌, length, Option, Some, None, Result, Ok, Err, refl, subst, ◌∙◌, arith}
use Rattle.std.specs.Prelude.{nat_eq, nat_lt, if◌then◌else◌}
use Rattle.std.proofs.lemmas.Bool.Decides.{nat_tests}
use Rattle.rv_model.specs.Words.{field, minus}
use Rattle.rv_model.specs.Table.{instr_from}
use Rattle.rv_model.specs.Codes.{instr_of, word_of}
use Rattle.rv_model.specs.declared.instr.Instr.{Instr}
use Rattle.rv_model.specs.declared.instr.Operands.{Operands}
use Rattle.rv_model.specs.declared.mnemonic.Mnemonic.TheVariants.{Lui, Addi, Jal, Jalr}
use Rattle.rv_core.specs.Rows.{HasRegisters}
use Rattle.rv_core.specs.Encodable.{IsSigned, IsEncodable}
use Rattle.nova_text.specs.Line.{Row, lines}
use Rattle.nova_text.specs.Piece.{Piece}
use Rattle.rv_asm.specs.Syntax.{labelled, Written, written}
use Rattle.rv_asm.specs.Operand.{Labels, with_operands}
use Rattle.rv_asm.specs.Name.{Item, name_of, slots_of, given, items_of, lower_part, upper_part}
use Rattle.rv_asm.specs.Program.{items_or_fault, statement, statement_of, is_earlier, after_label, line_items, in_front, before_rest, items_from, labels_of, program}
use Rattle.rv_asm.specs.Read.{AreRead}
use Rattle.rv_asm.specs.declared.fault.AsmFault.{AsmFault}
use Rattle.rv_asm.specs.declared.fault.AsmFault.TheVariants.{BadOperand, TwiceLabel}
use Rattle.rv_asm.specs.declared.fault.FaultyOperand.{FaultyOperand}
use Rattle.rv_asm.specs.declared.name.Name.{Name}
use Rattle.rv_asm.specs.declared.name.Name.TheVariants.{Instruction, Short}
use Rattle.rv_asm.specs.declared.name.ShortForm.TheVariants.{Nop, Mv, J, Ret, Li, Word}
use Rattle.rv_asm.proofs.Ranges.{IsWithin}
use Rattle.rv_asm.proofs.OperandFits.{AreSmall, FitAll, all_fit, row_small, encodable, signed21}

zero_below : 0 < 32
zero_below = lit< tt

-- the instructions of the short forms
addi_encodable : (o : Operands) → HasRegisters o → IsSigned 12 o.imm → IsEncodable (instr_from Addi o)
addi_encodable o r h = record { registers = record { rd = r.rd; rs1 = r.rs1; rs2 = zero_below }; immediate = h }

jalr_encodable : (o : Operands) → HasRegisters o → IsSigned 12 o.imm → IsEncodable (instr_from Jalr o)
jalr_encodable o r h = record { registers = record { rd = r.rd; rs1 = r.rs1; rs2 = zero_below }; immediate = h }

jal_encodable : (o : Operands) → HasRegisters o → IsSigned 21 o.imm × (o.imm % 2 ≡ 0) → IsEncodable (instr_from Jal o)
jal_encodable o r h = record { registers = record { rd = r.rd; rs1 = zero_below; rs2 = zero_below }; immediate = h }

lui_encodable : (o : Operands) → HasRegisters o → (o.imm < 2 ^ 32) × (o.imm % 2 ^ 12 ≡ 0) → IsEncodable (instr_from Lui o)
lui_encodable o r h = record { registers = record { rd = r.rd; rs1 = zero_below; rs2 = zero_below }; immediate = h }

zero_signed : (n : ℕ) → n ≡ 0 → IsSigned 12 n
zero_signed n e = inl (omega arith)

-- the parts of a number
lower_signed : (n : ℕ) → IsSigned 12 (lower_part n)
lower_signed n = go (nat_lt (field n 0 12) (2 ^ (12 - 1))) refl where
  go : (b : Bool) → nat_lt (field n 0 12) (2 ^ (12 - 1)) ≡ b → IsSigned 12 (if b then field n 0 12 else field n 0 12 + (2 ^ 32 - 2 ^ 12))
  go true is = inl (grind (arith, nat_tests))
  go false is = inr (grind (arith, nat_tests), grind (arith, nat_tests))

upper_holds : (n : ℕ) → n < 2 ^ 32 → (upper_part n < 2 ^ 32) × (upper_part n % 2 ^ 12 ≡ 0)
upper_holds n small = go (nat_lt (field n 0 12) (2 ^ (12 - 1))) refl where
  go : (b : Bool) → nat_lt (field n 0 12) (2 ^ (12 - 1)) ≡ b → (minus n (if b then field n 0 12 else field n 0 12 + (2 ^ 32 - 2 ^ 12)) < 2 ^ 32) × (minus n (if b then field n 0 12 else field n 0 12 + (2 ^ 32 - 2 ^ 12)) % 2 ^ 12 ≡ 0)
  go true is = (grind (arith, nat_tests), grind (arith, nat_tests))
  go false is = (grind (arith, nat_tests), grind (arith, nat_tests))

word_small : (low n : ℕ) → IsWithin low 4294967295 n → n < 2 ^ 32
word_small low n (inl le) = omega arith
word_small low n (inr h) = h.1

name_small : (name : Name) → AreSmall (slots_of name)
name_small (Instruction m) = row_small m
name_small (Short Nop) = tt
name_small (Short Mv) = (tt, (tt, tt))
name_small (Short J) = (lit≤ tt, tt)
name_small (Short Ret) = tt
name_small (Short Li) = (tt, (lit≤ tt, tt))
name_small (Short Word) = (lit≤ tt, tt)

given_registers : (name : Name) → HasRegisters (given name)
given_registers (Instruction m) = record { rd = zero_below; rs1 = zero_below; rs2 = zero_below }
given_registers (Short Nop) = record { rd = zero_below; rs1 = zero_below; rs2 = zero_below }
given_registers (Short Mv) = record { rd = zero_below; rs1 = zero_below; rs2 = zero_below }
given_registers (Short J) = record { rd = zero_below; rs1 = zero_below; rs2 = zero_below }
given_registers (Short Ret) = record { rd = zero_below; rs1 = lit< tt; rs2 = zero_below }
given_registers (Short Li) = record { rd = zero_below; rs1 = zero_below; rs2 = zero_below }
given_registers (Short Word) = record { rd = zero_below; rs1 = zero_below; rs2 = zero_below }

module _ (again : (i : Instr) → IsEncodable i → instr_of (word_of i) ≡ Some i) where
  named_read : (name : Name) (o : Operands) → FitAll (slots_of name) (given name) o → AreRead (items_of name o)
  named_read (Instruction m) o f = (again (instr_from m o) (encodable m o f.registers 0 f.immediate), tt)
  named_read (Short Nop) o f = (again (instr_from Addi o) (addi_encodable o f.registers (zero_signed o.imm f.immediate)), tt)
  named_read (Short Mv) o f = (again (instr_from Addi o) (addi_encodable o f.registers (zero_signed o.imm (f.immediate.2 ∙ f.immediate.1))), tt)
  named_read (Short J) o f = (again (instr_from Jal o) (jal_encodable o f.registers (signed21 o.imm f.immediate.0, f.immediate.1)), tt)
  named_read (Short Ret) o f = (again (instr_from Jalr o) (jalr_encodable o f.registers (zero_signed o.imm f.immediate)), tt)
  named_read (Short Li) o f =
      let n = o.imm in
      let r = f.registers in
      let upper : Operands = record o { imm = upper_part n } in
      let lower : Operands = record o { rs1 = o.rd; imm = lower_part n } in (
        again (instr_from Lui upper) (lui_encodable upper (record { rd = r.rd; rs1 = r.rs1; rs2 = r.rs2 }) (upper_holds n (word_small 2147483648 n f.immediate.2))),
        (again (instr_from Addi lower) (addi_encodable lower (record { rd = r.rd; rs1 = r.rd; rs2 = r.rs2 }) (lower_signed n)), tt),
      )
  named_read (Short Word) o f = (word_small 0 o.imm f.immediate, tt)

  operands_read : (name : Name) (labels : Labels) (place : ℕ) (pieces : List Piece) (items : List Item) → length pieces ≡ length (slots_of name) → items_or_fault name (with_operands labels place (slots_of name) pieces (given name)) ≡ Ok items → AreRead items
  operands_read name labels place pieces items len e = go (with_operands labels place (slots_of name) pieces (given name)) refl e where
    go : (r : Result Operands FaultyOperand) → with_operands labels place (slots_of name) pieces (given name) ≡ r → items_or_fault name r ≡ Ok items → AreRead items
    go (Err faulty) is f = cc
    go (Ok o) is f =
        let same : items_of name o ≡ items = cc in
        let P : List Item → Type 0 = λ xs. AreRead xs in
        subst P same (named_read name o (all_fit labels place (slots_of name) pieces (given name) o (name_small name) len (given_registers name) is))

  statement_read : (labels : Labels) (place : ℕ) (w : Written) (name : Option Name) (items : List Item) → statement labels place w name ≡ Ok items → AreRead items
  statement_read labels place w None items e = cc
  statement_read labels place w (Some name) items e = go (nat_eq (length w.operands) (length (slots_of name))) refl e where
    go : (b : Bool) → nat_eq (length w.operands) (length (slots_of name)) ≡ b → (if b then items_or_fault name (with_operands labels place (slots_of name) w.operands (given name)) else Err (BadOperand w.name.span)) ≡ Ok items → AreRead items
    go true is f = operands_read name labels place w.operands items (grind (arith, nat_tests)) f
    go false is f = cc

  written_read : (labels : Labels) (place : ℕ) (w : Option Written) (items : List Item) → statement_of labels place w ≡ Ok items → AreRead items
  written_read labels place None items e = let same : [] ≡ items = cc in let P : List Item → Type 0 = λ xs. AreRead xs in subst P same tt
  written_read labels place (Some w) items e = statement_read labels place w (name_of w.name.text) items e

  line_read : (labels : Labels) (place : ℕ) (row : Row) (items : List Item) → line_items labels place row ≡ Ok items → AreRead items
  line_read labels place row items e = go (labelled row).label e where
    go : (label : Option Piece) → after_label labels row.number label (statement_of labels place (written (labelled row).rest)) ≡ Ok items → AreRead items
    go None f = written_read labels place (written (labelled row).rest) items f
    go (Some piece) f = inner (is_earlier row.number (labels piece.text)) f where
      inner : (b : Bool) → (if b then Err (TwiceLabel (record { start = piece.span.start; end = piece.span.end + 1 })) else statement_of labels place (written (labelled row).rest)) ≡ Ok items → AreRead items
      inner true g = cc
      inner false g = written_read labels place (written (labelled row).rest) items g

  append_read : (xs ys : List Item) → AreRead xs → AreRead ys → AreRead (xs ++ ys)
  append_read [] ys a b = b
  append_read (x ∷ xs) ys a b = (a.0, append_read xs ys a.1 b)

  rows_read : (labels : Labels) (place : ℕ) (rows : List Row) (items : List Item) → items_from labels place rows ≡ Ok items → AreRead items
  rows_read labels place [] items e = let same : [] ≡ items = cc in let P : List Item → Type 0 = λ xs. AreRead xs in subst P same tt
  rows_read labels place (row ∷ rows) items e = go (line_items labels place row) refl e (λ front more f. rows_read labels (place + length front) rows more f) where
    joined : (front : List Item) (r : Result (List Item) AsmFault) → AreRead front → ((more : List Item) → r ≡ Ok more → AreRead more) → in_front front r ≡ Ok items → AreRead items
    joined front (Err fault) a b f = cc
    joined front (Ok more) a b f = let same : front ++ more ≡ items = cc in let P : List Item → Type 0 = λ xs. AreRead xs in subst P same (append_read front more a (b more refl))

    go : (r : Result (List Item) AsmFault) → line_items labels place row ≡ r → before_rest r (λ front. items_from labels (place + length front) rows) ≡ Ok items → ((front more : List Item) → items_from labels (place + length front) rows ≡ Ok more → AreRead more) → AreRead items
    go (Err fault) is f rest = cc
    go (Ok front) is f rest = joined front (items_from labels (place + length front) rows) (line_read labels place row front is) (λ more. rest front more) f

  pub program_read : (text : List ℕ) (items : List Item) → program text ≡ Ok items → AreRead items
  unfolding program
  program_read text items e = rows_read (labels_of text) 0 (lines text) items e
