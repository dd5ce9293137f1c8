-- What is printed is assembled to the instruction's word.
use Rattle.std.proofs.Common.{◌≡◌, ℕ, ◌+◌, true, List, [], ◌∷◌, ◌++◌, length, map, Some, Ok, refl, ap, sym, ◌∙◌, arith}
use Rattle.std.specs.Prelude.{nat_eq}
use Rattle.std.proofs.lemmas.List.{length-map}
use Rattle.std.proofs.lemmas.Bool.Decides.{nat_tests}
use Rattle.rv_model.specs.Codes.{word_of}
use Rattle.rv_model.specs.Table.{row_of, instr_from, mnemonic_of, operands_of}
use Rattle.rv_model.specs.declared.instr.Instr.{Instr}
use Rattle.rv_model.specs.declared.instr.Instr.TheVariants as instr
use Rattle.rv_model.specs.declared.instr.Operands.{Operands}
use Rattle.rv_core.specs.Encodable.{IsEncodable}
use Rattle.rv_core.specs.Rows.{HasRegisters}
use Rattle.nova_text.specs.Line.{Row, lines}
use Rattle.rv_asm.specs.Syntax.{Written, written}
use Rattle.rv_asm.specs.Name.{Item, Does, row_slots, no_operands}
use Rattle.rv_asm.specs.Operand.{Labels}
use Rattle.rv_asm.specs.Printed.{operand_text, printed}
use Rattle.rv_asm.specs.Program.{items_or_fault, statement, statement_of, after_label, line_items, before_rest, items_from, labels_of, program, words_of, assembled}
use Rattle.rv_asm.specs.declared.name.Name.TheVariants.{Instruction}
use Rattle.rv_asm.specs.declared.slot.Slot.{Slot}
use Rattle.rv_asm.proofs.OperandsBack.{HoldAll, holds_in, operand_plain, put_all, operands_back}
use Rattle.rv_asm.proofs.PrintedBack.{ArePlain, IsWord, name_word, name_back, whole, is_line, all_rest, named, is_written, operand_texts}

-- the operands' texts
texts_plain : (o : Operands) (slots : List Slot) → HasRegisters o → HoldAll o slots → ArePlain (map (operand_text o) slots)
texts_plain o [] r h = tt
texts_plain o (slot ∷ slots) r h = (operand_plain o slot r h.0, texts_plain o slots r h.1)

-- the operands that a name has are all that the instruction needs
instr_again : (i : Instr) → instr_from (mnemonic_of i) (put_all (operands_of i) (row_slots (row_of (mnemonic_of i))) no_operands) ≡ i
instr_again (instr.Lui rd imm) = refl
instr_again _ = refl

module _ (i : Instr) (fits : IsEncodable i) where
  abbrev slots : List Slot
  slots = row_slots (row_of (mnemonic_of i))

  abbrev name : List ℕ
  name = (row_of (mnemonic_of i)).name

  holds : HoldAll (operands_of i) slots
  holds = holds_in (row_of (mnemonic_of i)).format (row_of (mnemonic_of i)).opcode (operands_of i) fits.immediate

  abbrev texts : List (List ℕ)
  texts = map (operand_text (operands_of i)) slots

  plain : ArePlain texts
  plain = texts_plain (operands_of i) slots fits.registers holds

  word : IsWord name
  word = name_word (mnemonic_of i)

  -- the statement
  as_written : (labels : Labels) (w : Written) → map (λ piece. piece.text) w.operands ≡ map (operand_text (operands_of i)) slots → statement labels 0 w (Some (Instruction (mnemonic_of i))) ≡ Ok (Does i ∷ [])
  as_written labels w e =
      let len : length w.operands ≡ length slots =
      sym (length-map w.operands (λ piece. piece.text)) ∙ ap length e ∙ length-map slots (operand_text (operands_of i)) in
      let same : nat_eq (length w.operands) (length slots) ≡ true = grind (arith, nat_tests) in
      rw same
      (ap (items_or_fault (Instruction (mnemonic_of i))) (operands_back labels 0 (operands_of i) no_operands slots w.operands fits.registers holds e)
      ∙ ap (λ found. Ok (Does found ∷ [])) (instr_again i))

  line_back : (labels : Labels) → line_items labels 0 (whole name word texts plain) ≡ Ok (Does i ∷ [])
  line_back labels =
      ap (λ parts. after_label labels 1 parts.label (statement_of labels 0 (written parts.rest))) (all_rest name word texts plain)
      ∙ ap (statement_of labels 0) (is_written name word texts plain)
      ∙ ap (statement labels 0 (named name word texts plain)) (name_back (mnemonic_of i))
      ∙ as_written labels (named name word texts plain) (operand_texts name word texts plain)

-- the words of a program that is one line
module _ (text : List ℕ) (row : Row) (items : List Item) (is_line : lines text ≡ row ∷ []) (means : line_items (labels_of text) 0 row ≡ Ok items) where
  pub one_line_program : program text ≡ Ok (items ++ [])
  unfolding program
  one_line_program =
      ap (items_from (labels_of text) 0) is_line
      ∙ ap (λ found. before_rest found (λ more. items_from (labels_of text) (0 + length more) [])) means

pub reassembled : (i : Instr) → IsEncodable i → assembled (printed i) ≡ Ok (word_of i ∷ [])
unfolding assembled printed
reassembled i fits =
    let text = printed i in
    let name = (row_of (mnemonic_of i)).name in
    let texts = map (operand_text (operands_of i)) (row_slots (row_of (mnemonic_of i))) in
    ap words_of (one_line_program text (whole name (name_word (mnemonic_of i)) texts (plain i fits)) (Does i ∷ []) (is_line name (name_word (mnemonic_of i)) texts (plain i fits)) (line_back i fits (labels_of text)))
