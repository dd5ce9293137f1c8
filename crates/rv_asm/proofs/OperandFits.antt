-- The operands of a line fit the instruction that they are written for.
use Rattle.std.proofs.Common.{◌≡◌, inl, inr, ℕ, ◌-◌, ◌%◌, ◌^◌, ◌==◌, ◌<◌, ◌≤◌, lit<, lit≤, Bool, true, false, List, [], ◌∷◌, length, take, drop, Option, Some, None, Result, Ok, Err, refl, sym, ◌∙◌, subst, arith}
use Rattle.std.specs.Prelude.{cond, nat_eq, nat_lt, codes, if◌then◌else◌}
use Rattle.std.proofs.lemmas.Bool.Decides.{nat_tests}
use Rattle.std.specs.List.{starts_with, position_or_len}
use Rattle.std.specs.Str.{bytes_eq}
use Rattle.rv_model.specs.Table.{row_of, instr_from, mnemonic_of, operands_of, immediate_code}
use Rattle.rv_model.specs.declared.instr.Operands.{Operands}
use Rattle.rv_model.specs.declared.mnemonic.Mnemonic.{Mnemonic}
use Rattle.rv_model.specs.declared.mnemonic.Format.{Format}
use Rattle.rv_model.specs.declared.mnemonic.Format.TheVariants as format
use Rattle.rv_model.specs.declared.mnemonic.Mnemonic.TheVariants.{Lui}
use Rattle.rv_core.specs.Rows.{HasRegisters}
use Rattle.rv_core.specs.Encodable.{IsSigned, HoldsImmediate, IsEncodable}
use Rattle.nova_text.specs.Piece.{Piece}
use Rattle.rv_asm.specs.Register.{names, is_of, number_in_table, number_named}
use Rattle.rv_asm.specs.Operand.{number_in, shifted, with_rd, with_rs1, with_rs2, with_imm, with_base, base_in, address_at, is_opening, is_closing, target_in, with_operand, with_operands, Labels}
use Rattle.rv_asm.specs.Name.{slots_in, row_slots}
use Rattle.rv_asm.specs.declared.fault.OperandFault.{OperandFault}
use Rattle.rv_asm.specs.declared.fault.OperandFault.TheVariants.{Bad}
use Rattle.rv_asm.specs.declared.slot.Slot.{Slot}
use Rattle.rv_asm.specs.declared.slot.Slot.TheVariants.{Rd, Rs1, Rs2, Number, Upper, Address, Target}
use Rattle.rv_asm.proofs.Gravest.{and_rest, one_step}
use Rattle.rv_asm.proofs.Ranges.{IsWithin, number_ok, shifted_ok, target_ok}

-- the ranges of the slots that the table and the short forms have
abbrev pub IsSmall : Slot → Type 0
IsSmall Rd = Unit {0}
IsSmall Rs1 = Unit {0}
IsSmall Rs2 = Unit {0}
IsSmall (Number low high) = low ≤ 2 ^ 31
IsSmall Upper = Unit {0}
IsSmall Address = Unit {0}
IsSmall (Target low high) = low ≤ 2 ^ 31

abbrev pub AreSmall : List Slot → Type 0
AreSmall [] = Unit {0}
AreSmall (slot ∷ slots) = IsSmall slot × AreSmall slots

-- what a slot makes of the immediate that was there before: another, or it stays
abbrev pub Leaves : Slot → ℕ → ℕ → Type 0
Leaves Rd before n = n ≡ before
Leaves Rs1 before n = n ≡ before
Leaves Rs2 before n = n ≡ before
Leaves (Number low high) before n = IsWithin low high n
Leaves Upper before n = (n < 2 ^ 32) × (n % 2 ^ 12 ≡ 0)
Leaves Address before n = IsWithin 2048 2047 n
Leaves (Target low high) before n = IsWithin low high n × (n % 2 ≡ 0)

-- the same of slots, of which the last alone may have an immediate
abbrev pub LeaveAll : List Slot → ℕ → ℕ → Type 0
LeaveAll [] before n = n ≡ before
LeaveAll (slot ∷ []) before n = Leaves slot before n
LeaveAll (slot ∷ next ∷ slots) before n = (middle : ℕ) × Leaves slot before middle × LeaveAll (next ∷ slots) middle n

pub record OperandFits (slot : Slot) (o more : Operands) : Type 0 where
  pub registers : HasRegisters more
  pub immediate : Leaves slot o.imm more.imm

place_below : (p k n : ℕ) → cond (nat_lt p k) (Some p) None ≡ Some n → n < k
place_below p k n e = go (nat_lt p k) refl e where
  go : (b : Bool) → nat_lt p k ≡ b → cond b (Some p) None ≡ Some n → n < k
  go true is e = let less : p < k = grind (arith, nat_tests) in let same : p ≡ n = cc in omega arith
  go false is e = cc

register_fits : (text : List ℕ) (n : ℕ) → number_named text ≡ Some n → n < 32
register_fits text n e = go (bytes_eq text (codes "fp")) e where
  go : (b : Bool) → (if b then Some 8 else number_in_table text) ≡ Some n → n < 32
  go true e = let same : 8 ≡ n = cc in omega arith
  go false e = place_below (position_or_len (is_of text) names) 32 n e

module _ (o more : Operands) (h : HasRegisters o) where
  rd_fits : (r : Option ℕ) → ((n : ℕ) → r ≡ Some n → n < 32) → with_rd o r ≡ Ok more → OperandFits Rd o more
  rd_fits None below e = cc
  rd_fits (Some n) below e =
      let same : record o { rd = n } ≡ more = cc in
      let P : Operands → Type 0 = λ x. OperandFits Rd o x in
      subst P same (record { registers = record { rd = below n refl; rs1 = h.rs1; rs2 = h.rs2 }; immediate = refl })

  rs1_fits : (r : Option ℕ) → ((n : ℕ) → r ≡ Some n → n < 32) → with_rs1 o r ≡ Ok more → OperandFits Rs1 o more
  rs1_fits None below e = cc
  rs1_fits (Some n) below e =
      let same : record o { rs1 = n } ≡ more = cc in
      let P : Operands → Type 0 = λ x. OperandFits Rs1 o x in
      subst P same (record { registers = record { rd = h.rd; rs1 = below n refl; rs2 = h.rs2 }; immediate = refl })

  rs2_fits : (r : Option ℕ) → ((n : ℕ) → r ≡ Some n → n < 32) → with_rs2 o r ≡ Ok more → OperandFits Rs2 o more
  rs2_fits None below e = cc
  rs2_fits (Some n) below e =
      let same : record o { rs2 = n } ≡ more = cc in
      let P : Operands → Type 0 = λ x. OperandFits Rs2 o x in
      subst P same (record { registers = record { rd = h.rd; rs1 = h.rs1; rs2 = below n refl }; immediate = refl })

  imm_fits : (slot : Slot) (r : Result ℕ OperandFault) → ((n : ℕ) → r ≡ Ok n → Leaves slot o.imm n) → with_imm o r ≡ Ok more → OperandFits slot o more
  imm_fits slot (Err why) within e = cc
  imm_fits slot (Ok n) within e =
      let same : record o { imm = n } ≡ more = cc in
      let P : Operands → Type 0 = λ x. OperandFits slot o x in
      subst P same (record { registers = record { rd = h.rd; rs1 = h.rs1; rs2 = h.rs2 }; immediate = within n refl })

  base_fits : (r : Option ℕ) (imm : Result ℕ OperandFault) → ((n : ℕ) → r ≡ Some n → n < 32) → ((n : ℕ) → imm ≡ Ok n → IsWithin 2048 2047 n) → with_base o r imm ≡ Ok more → OperandFits Address o more
  base_fits None imm below within e = cc
  base_fits (Some n) (Err why) below within e = cc
  base_fits (Some n) (Ok k) below within e =
      let same : record o { rs1 = n; imm = k } ≡ more = cc in
      let P : Operands → Type 0 = λ x. OperandFits Address o x in
      subst P same (record { registers = record { rd = h.rd; rs1 = below n refl; rs2 = h.rs2 }; immediate = within k refl })

  inner_fits : (imm : Result ℕ OperandFault) → ((n : ℕ) → imm ≡ Ok n → IsWithin 2048 2047 n) → (inner : List ℕ) (n : ℕ) → base_in o imm inner n ≡ Ok more → OperandFits Address o more
  inner_fits imm within inner n e = go (bytes_eq (drop n inner) (codes ")")) e where
    go : (b : Bool) → (if b then with_base o (number_named (take n inner)) imm else Err Bad) ≡ Ok more → OperandFits Address o more
    go true f = base_fits (number_named (take n inner)) imm (register_fits (take n inner)) within f
    go false f = cc

  address_fits : (text : List ℕ) (n : ℕ) → address_at o text n ≡ Ok more → OperandFits Address o more
  address_fits text n e = go (starts_with nat_eq (drop n text) (codes "(")) e where
    go : (b : Bool) → (if b then base_in o (number_in 2048 2047 (take n text)) (drop 1 (drop n text)) (position_or_len is_closing (drop 1 (drop n text))) else Err Bad) ≡ Ok more → OperandFits Address o more
    go true f = inner_fits (number_in 2048 2047 (take n text)) (λ k. number_ok 2048 2047 (take n text) k (lit≤ tt)) (drop 1 (drop n text)) (position_or_len is_closing (drop 1 (drop n text))) f
    go false f = cc

  operand_fits : (labels : Labels) (from : ℕ) (slot : Slot) (text : List ℕ) → IsSmall slot → with_operand labels from slot text o ≡ Ok more → OperandFits slot o more
  operand_fits labels from Rd text small e = rd_fits (number_named text) (register_fits text) e
  operand_fits labels from Rs1 text small e = rs1_fits (number_named text) (register_fits text) e
  operand_fits labels from Rs2 text small e = rs2_fits (number_named text) (register_fits text) e
  operand_fits labels from (Number low high) text small e = imm_fits (Number low high) (number_in low high text) (λ n. number_ok low high text n small) e
  operand_fits labels from Upper text small e = imm_fits Upper (shifted (number_in 0 1048575 text)) (λ n. shifted_ok (number_in 0 1048575 text) n (λ k. number_ok 0 1048575 text k (lit≤ tt))) e
  operand_fits labels from Address text small e = address_fits text (position_or_len is_opening text) e
  operand_fits labels from (Target low high) text small e = imm_fits (Target low high) (target_in low high labels from text) (λ n. target_ok low high labels from text n small) e

-- all operands of a line
pub record FitAll (slots : List Slot) (o more : Operands) : Type 0 where
  pub registers : HasRegisters more
  pub immediate : LeaveAll slots o.imm more.imm

one_more : (slot : Slot) (slots : List Slot) (o middle more : Operands) → OperandFits slot o middle → FitAll slots middle more → FitAll (slot ∷ slots) o more
one_more slot [] o middle more one rest =
    record { registers = rest.registers; immediate = subst (λ (n : ℕ). Leaves slot o.imm n) (sym rest.immediate) one.immediate }
one_more slot (next ∷ slots) o middle more one rest =
    record { registers = rest.registers; immediate = (middle.imm, one.immediate, rest.immediate) }

pub all_fit : (labels : Labels) (from : ℕ) (slots : List Slot) (pieces : List Piece) (o more : Operands) → AreSmall slots → length pieces ≡ length slots → HasRegisters o → with_operands labels from slots pieces o ≡ Ok more → FitAll slots o more
all_fit labels from [] pieces o more small len h e =
    let same : o ≡ more = cc in
    let P : Operands → Type 0 = λ x. FitAll [] o x in
    subst P same (record { registers = h; immediate = refl })
all_fit labels from (slot ∷ slots) [] o more small len h e = absurd (omega arith)
all_fit labels from (slot ∷ slots) (piece ∷ pieces) o more small len h e =
    go (with_operand labels from slot piece.text o) refl (sym (one_step labels from slot slots piece pieces o) ∙ e) (λ middle f r. all_fit labels from slots pieces middle more small.1 (omega arith) r f)
  where
    go : (r : Result Operands OperandFault) → with_operand labels from slot piece.text o ≡ r → and_rest o piece.span r (λ x. with_operands labels from slots pieces x) ≡ Ok more → ((middle : Operands) → with_operands labels from slots pieces middle ≡ Ok more → HasRegisters middle → FitAll slots middle more) → FitAll (slot ∷ slots) o more
    go (Err why) is f rest = cc
    go (Ok middle) is f rest =
        let one = operand_fits o middle h labels from slot piece.text small.0 is in
        one_more slot slots o middle more one (rest middle f one.registers)

-- the immediates of the formats
within_signed : (low high bits n : ℕ) → low ≤ 2 ^ (bits - 1) → high < 2 ^ (bits - 1) → IsWithin low high n → IsSigned bits n
within_signed low high bits n below above (inl le) = inl (omega arith)
within_signed low high bits n below above (inr h) = inr (let a = h.0 in omega arith, h.1)

pub signed12 : (n : ℕ) → IsWithin 2048 2047 n → IsSigned 12 n
signed12 n h = within_signed 2048 2047 12 n (lit≤ tt) (lit< tt) h

pub signed13 : (n : ℕ) → IsWithin 4096 4094 n → IsSigned 13 n
signed13 n h = within_signed 4096 4094 13 n (lit≤ tt) (lit< tt) h

pub signed21 : (n : ℕ) → IsWithin 1048576 1048574 n → IsSigned 21 n
signed21 n h = within_signed 1048576 1048574 21 n (lit≤ tt) (lit< tt) h

amount : (n : ℕ) → IsWithin 0 31 n → n < 32
amount n (inl le) = omega arith
amount n (inr h) = absurd (let a = h.0 in let b = h.1 in omega arith)

pub slots_small : (f : Format) (opcode : ℕ) → AreSmall (slots_in f opcode)
slots_small format.Register opcode = (tt, (tt, (tt, tt)))
slots_small format.Immediate opcode = go (opcode == immediate_code) where
  go : (b : Bool) → AreSmall (if b then Rd ∷ Rs1 ∷ Number 2048 2047 ∷ [] else Rd ∷ Address ∷ [])
  go true = (tt, (tt, (lit≤ tt, tt)))
  go false = (tt, (tt, tt))
slots_small format.Shift opcode = (tt, (tt, (lit≤ tt, tt)))
slots_small format.Store opcode = (tt, (tt, tt))
slots_small format.Branch opcode = (tt, (tt, (lit≤ tt, tt)))
slots_small format.Upper opcode = (tt, (tt, tt))
slots_small format.Jump opcode = (tt, (lit≤ tt, tt))
slots_small format.Fence opcode = tt
slots_small (format.Alone word) opcode = tt

pub row_small : (m : Mnemonic) → AreSmall (row_slots (row_of m))
row_small m = slots_small (row_of m).format (row_of m).opcode

-- what the slots of a format leave is an immediate that it holds
held : (f : Format) (opcode before n : ℕ) → LeaveAll (slots_in f opcode) before n → HoldsImmediate f n
held format.Register opcode before n h = tt
held format.Immediate opcode before n h = go (opcode == immediate_code) h where
  go : (b : Bool) → LeaveAll (if b then Rd ∷ Rs1 ∷ Number 2048 2047 ∷ [] else Rd ∷ Address ∷ []) before n → IsSigned 12 n
  go true leave = signed12 n leave.2.2
  go false leave = signed12 n leave.2
held format.Shift opcode before n h = amount n h.2.2
held format.Store opcode before n h = signed12 n h.2
held format.Branch opcode before n h = (signed13 n h.2.2.0, h.2.2.1)
held format.Upper opcode before n h = h.2
held format.Jump opcode before n h = (signed21 n h.2.0, h.2.1)
held format.Fence opcode before n h = tt
held (format.Alone word) opcode before n h = tt

-- the instruction has these operands where its format has places for them
registers_again : (m : Mnemonic) (o : Operands) → HasRegisters o → HasRegisters (operands_of (instr_from m o))
registers_again Lui o r = record { rd = let d = r.rd in omega arith; rs1 = let s = r.rs1 in omega arith; rs2 = let t = r.rs2 in omega arith }
registers_again _ o r = record { rd = let d = r.rd in omega arith; rs1 = let s = r.rs1 in omega arith; rs2 = let t = r.rs2 in omega arith }

immediate_again : (m : Mnemonic) (o : Operands) → HoldsImmediate (row_of m).format o.imm → HoldsImmediate (row_of (mnemonic_of (instr_from m o))).format (operands_of (instr_from m o)).imm
immediate_again Lui o h = h
immediate_again _ o h = h

-- an instruction with operands that fit its name
pub encodable : (m : Mnemonic) (o : Operands) → HasRegisters o → (before : ℕ) → LeaveAll (row_slots (row_of m)) before o.imm → IsEncodable (instr_from m o)
encodable m o r before h =
    record {
      registers = registers_again m o r;
      immediate = immediate_again m o (held (row_of m).format (row_of m).opcode before o.imm h);
    }
