-- The word of an instruction that was decoded is the word that it was decoded from, or the instruction is fence.
use Rattle.std.proofs.Common.{◌≡◌, ◌<◌, ◌⊎◌, inl, inr, ℕ, ◌^◌, true, [], Option, Some, None, refl, ap, ◌∙◌, arith}
use Rattle.std.proofs.lemmas.Bool.Decides.{nat_tests}
use Rattle.rv_model.specs.Table.{row, row_of, instr_from, mnemonic_of, operands_of}
use Rattle.rv_model.specs.Codes.{code, has_row, operands_in, packed, word_by, instr_of, word_of}
use Rattle.rv_model.specs.declared.instr.Instr.{Instr}
use Rattle.rv_model.specs.declared.instr.Instr.TheVariants as instr
use Rattle.rv_model.specs.declared.instr.Operands.{Operands}
use Rattle.rv_model.specs.declared.mnemonic.Format.{Format}
use Rattle.rv_model.specs.declared.mnemonic.Format.TheVariants as format
use Rattle.rv_model.specs.declared.mnemonic.Mnemonic.{Mnemonic}
use Rattle.rv_model.specs.declared.mnemonic.Mnemonic.TheVariants.{Lui}
use Rattle.rv_core.proofs.Fields.{Takes, takes_codes}
use Rattle.rv_core.proofs.Found.{ReadBy, read}

-- a word is put together again from its operands, format by format
packed_again : (f : Format) (opcode : ℕ) (funct3 funct7 : Option ℕ) (w : ℕ) → w < 2 ^ 32 → Takes f funct3 funct7 → has_row w (row [] f opcode funct3 funct7) ≡ true →
    (f ≡ format.Fence) ⊎ (packed f opcode (code funct3) (code funct7) (operands_in f w) ≡ w)
packed_again format.Register opcode (Some funct3) (Some funct7) w h t is = inr (grind (arith, nat_tests))
packed_again format.Immediate opcode (Some funct3) None w h t is = inr (grind (arith, nat_tests))
packed_again format.Shift opcode (Some funct3) (Some funct7) w h t is = inr (grind (arith, nat_tests))
packed_again format.Store opcode (Some funct3) None w h t is = inr (grind (arith, nat_tests))
packed_again format.Branch opcode (Some funct3) None w h t is = inr (grind (arith, nat_tests))
packed_again format.Upper opcode None None w h t is = inr (grind (arith, nat_tests))
packed_again format.Jump opcode None None w h t is = inr (grind (arith, nat_tests))
packed_again format.Fence opcode funct3 funct7 w h t is = inl refl
packed_again (format.Alone v) opcode funct3 funct7 w h t is = inr (grind (arith, nat_tests))
packed_again f opcode funct3 funct7 w h t is = absurd t

-- the word of what a row made
same_word : (m : Mnemonic) (o : Operands) → let i = instr_from m o in word_by (row_of (mnemonic_of i)) (operands_of i) ≡ word_by (row_of m) o
same_word Lui o = refl
same_word _ o = refl

-- no other instruction has the format of fence
only_fence : (m : Mnemonic) (o : Operands) → (row_of m).format ≡ format.Fence → instr_from m o ≡ instr.Fence
only_fence Lui o e = cc
only_fence _ o e = cc

by_row : (m : Mnemonic) (w : ℕ) (i : Instr) → w < 2 ^ 32 → ReadBy w i m → (i ≡ instr.Fence) ⊎ (word_of i ≡ w)
unfolding word_of
by_row m w i h by =
    let row = row_of m in
    let o = operands_in row.format w in
    elim (packed_again row.format row.opcode row.funct3 row.funct7 w h (takes_codes m) by.0) [
      | inl fence ↦ inl (by.1 ∙ only_fence m o fence)
      | inr same ↦ inr (ap (λ i. word_by (row_of (mnemonic_of i)) (operands_of i)) by.1 ∙ same_word m o ∙ same)
    ]

pub word_again : (w : ℕ) (i : Instr) → w < 2 ^ 32 → instr_of w ≡ Some i → (i ≡ instr.Fence) ⊎ (word_of i ≡ w)
word_again w i h e = let found = read w i e in by_row found.0 w i h found.1
