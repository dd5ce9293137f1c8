-- The texts that operands are printed as are read as these operands.
use Rattle.std.proofs.Common.{◌≡◌, inl, inr, ℕ, ◌+◌, ◌-◌, ◌/◌, ◌%◌, ◌^◌, ◌==◌, ◌<◌, ◌≤◌, lit<, lit≤, Bool, true, false, not, ◌&&◌, List, [], ◌∷◌, ◌++◌, length, map, Some, Result, Ok, refl, ap, ◌∙◌, arith}
use Rattle.std.specs.Prelude.{nat_lt, codes, if◌then◌else◌}
use Rattle.std.specs.Char.{digit_value}
use Rattle.std.specs.Fmt.{decimal, digits}
use Rattle.std.specs.List.{position_or_len}
use Rattle.std.specs.Str.Parse.{AllDigits}
use Rattle.std.proofs.Math.Seq.{take-append_seam, drop-append_seam}
use Rattle.std.proofs.lemmas.Fmt.{decimal_is_IsNumeral, digits_is_IsNumeral}
use Rattle.rv_model.specs.declared.instr.Operands.{Operands}
use Rattle.rv_model.specs.declared.mnemonic.Format.{Format}
use Rattle.rv_model.specs.declared.mnemonic.Format.TheVariants as format
use Rattle.rv_model.specs.Table.{immediate_code}
use Rattle.rv_core.specs.Rows.{HasRegisters}
use Rattle.rv_core.specs.Encodable.{IsSigned, HoldsImmediate}
use Rattle.nova_text.specs.Piece.{Piece}
use Rattle.rv_asm.specs.Register.{number_named}
use Rattle.rv_asm.specs.Name.{slots_in}
use Rattle.rv_asm.specs.Operand.{number_in, is_opening, is_closing, with_base, base_in, address_in, with_imm, with_rd, with_rs1, with_rs2, with_operand, with_operands, Labels}
use Rattle.rv_asm.specs.Printed.{register_text, signed_text, upper_text, operand_text}
use Rattle.rv_asm.specs.declared.fault.FaultyOperand.{FaultyOperand}
use Rattle.rv_asm.specs.declared.fault.OperandFault.{OperandFault}
use Rattle.rv_asm.specs.declared.slot.Slot.{Slot}
use Rattle.rv_asm.specs.declared.slot.Slot.TheVariants.{Rd, Rs1, Rs2, Number, Upper, Address, Target}
use Rattle.rv_asm.proofs.Gravest.{and_rest, one_step}
use Rattle.rv_asm.proofs.Ranges.{IsWithin}
use Rattle.rv_asm.proofs.Parts.{Each, each-append, each-without, len_past}
use Rattle.rv_asm.proofs.NumbersBack.{register_back, number_back, target_back, upper_back}

-- an instruction's operands hold what its slots write
abbrev pub Holds : Operands → Slot → Type 0
Holds o Rd = Unit {0}
Holds o Rs1 = Unit {0}
Holds o Rs2 = Unit {0}
Holds o (Number low high) = (low ≤ 2 ^ 31) × (high < 2 ^ 31) × IsWithin low high o.imm
Holds o Upper = (o.imm < 2 ^ 32) × (o.imm % 2 ^ 12 ≡ 0)
Holds o Address = IsWithin 2048 2047 o.imm
Holds o (Target low high) = (low ≤ 2 ^ 31) × (high < 2 ^ 31) × IsWithin low high o.imm × (o.imm % 2 ≡ 0)

abbrev pub HoldAll : Operands → List Slot → Type 0
HoldAll o [] = Unit {0}
HoldAll o (slot ∷ slots) = Holds o slot × HoldAll o slots

-- as the formats do
signed_within : (bits low high n : ℕ) → 2 ^ (bits - 1) ≤ low → 2 ^ (bits - 1) ≤ high + 1 → IsSigned bits n → IsWithin low high n
signed_within bits low high n below above (inl less) = inl (omega arith)
signed_within bits low high n below above (inr h) = inr (let a = h.0 in omega arith, h.1)

even_within : (bits low high n : ℕ) → 2 ^ (bits - 1) ≤ low → 2 ^ (bits - 1) ≤ high + 2 → 2 ^ (bits - 1) % 2 ≡ 0 → IsSigned bits n → n % 2 ≡ 0 → IsWithin low high n
even_within bits low high n below above whole (inl less) even = inl (let odd : (n + 1 ≡ 2 ^ (bits - 1)) → ⊥ = λ e. absurd (grind arith) in omega arith)
even_within bits low high n below above whole (inr h) even = inr (let a = h.0 in omega arith, h.1)

pub holds_in : (f : Format) (opcode : ℕ) (o : Operands) → HoldsImmediate f o.imm → HoldAll o (slots_in f opcode)
holds_in format.Register opcode o h = (tt, (tt, (tt, tt)))
holds_in format.Immediate opcode o h = go (opcode == immediate_code) where
  within : IsWithin 2048 2047 o.imm
  within = signed_within 12 2048 2047 o.imm (lit≤ tt) (lit≤ tt) h

  go : (b : Bool) → HoldAll o (if b then Rd ∷ Rs1 ∷ Number 2048 2047 ∷ [] else Rd ∷ Address ∷ [])
  go true = (tt, (tt, ((lit≤ tt, lit< tt, within), tt)))
  go false = (tt, (within, tt))
holds_in format.Shift opcode o h = (tt, (tt, ((lit≤ tt, lit< tt, inl (omega arith)), tt)))
holds_in format.Store opcode o h = (tt, (signed_within 12 2048 2047 o.imm (lit≤ tt) (lit≤ tt) h, tt))
holds_in format.Branch opcode o h = (tt, (tt, ((lit≤ tt, lit< tt, even_within 13 4096 4094 o.imm (lit≤ tt) (lit≤ tt) refl h.0 h.1, h.1), tt)))
holds_in format.Upper opcode o h = (tt, (h, tt))
holds_in format.Jump opcode o h = (tt, ((lit≤ tt, lit< tt, even_within 21 1048576 1048574 o.imm (lit≤ tt) (lit≤ tt) refl h.0 h.1, h.1), tt))
holds_in format.Fence opcode o h = tt
holds_in (format.Alone word) opcode o h = tt

-- the bytes that stand in names and operands; separators, commas, comments and line feeds are others
abbrev pub is_plain : ℕ → Bool
is_plain b = nat_lt 39 b && not (b == 44)

pub record IsPlain (text : List ℕ) : Type 0 where
  pub some : 0 < length text
  pub plain : Each is_plain text

digit_plain : (base b : ℕ) → base ≤ 16 → digit_value b < base → is_plain b ≡ true
digit_plain base b small digit = grind arith

digits_plain : (base : ℕ) (ds : List ℕ) → base ≤ 16 → AllDigits base ds → Each is_plain ds
digits_plain base [] small all = tt
digits_plain base (d ∷ ds) small all = (digit_plain base d small all.0, digits_plain base ds small all.1)

decimal_plain : (n : ℕ) → n < 2 ^ 64 → Each is_plain (decimal n)
decimal_plain n fits = digits_plain 10 (decimal n) (lit≤ tt) (decimal_is_IsNumeral n fits).0.1

register_plain : (r : ℕ) → r < 32 → Each is_plain (register_text r)
register_plain r less = (refl, decimal_plain r (omega arith))

signed_plain : (n : ℕ) → n < 2 ^ 32 → Each is_plain (signed_text n)
signed_plain n less = go (nat_lt n (2 ^ 31)) where
  go : (b : Bool) → Each is_plain (if b then decimal n else codes "-" ++ decimal (2 ^ 32 - n))
  go true = decimal_plain n (omega arith)
  go false = (refl, decimal_plain (2 ^ 32 - n) (omega arith))

signed_some : (n : ℕ) → n < 2 ^ 32 → 0 < length (signed_text n)
signed_some n less = go (nat_lt n (2 ^ 31)) where
  go : (b : Bool) → 0 < length (if b then decimal n else codes "-" ++ decimal (2 ^ 32 - n))
  go true = (decimal_is_IsNumeral n (omega arith)).0.0
  go false = omega arith

upper_plain : (n : ℕ) → n < 2 ^ 32 → Each is_plain (upper_text n)
upper_plain n less =
    let is = digits_is_IsNumeral 16 false (lit≤ tt) (lit≤ tt) (n / 2 ^ 12) (let wide : 2 ^ 32 < 16 ^ 64 = lit< tt in omega arith) in
    (refl, (refl, digits_plain 16 (digits 16 false (n / 2 ^ 12)) (lit≤ tt) is.0.1))

within_word : (low high n : ℕ) → high < 2 ^ 31 → IsWithin low high n → n < 2 ^ 32
within_word low high n small (inl le) = omega arith
within_word low high n small (inr h) = h.1

pub some-append : (text rest : List ℕ) → 0 < length text → 0 < length (text ++ rest)
some-append [] rest some = absurd (omega arith)
some-append (b ∷ bs) rest some = omega arith

pub operand_plain : (o : Operands) (slot : Slot) → HasRegisters o → Holds o slot → IsPlain (operand_text o slot)
operand_plain o Rd r h = record { some = omega arith; plain = register_plain o.rd r.rd }
operand_plain o Rs1 r h = record { some = omega arith; plain = register_plain o.rs1 r.rs1 }
operand_plain o Rs2 r h = record { some = omega arith; plain = register_plain o.rs2 r.rs2 }
operand_plain o (Number low high) r h =
    let word = within_word low high o.imm h.1 h.2 in record { some = signed_some o.imm word; plain = signed_plain o.imm word }
operand_plain o Upper r h = record { some = omega arith; plain = upper_plain o.imm h.0 }
operand_plain o Address r h =
    let word = within_word 2048 2047 o.imm (lit< tt) h in
    record {
      some = some-append (signed_text o.imm) (codes "(" ++ (register_text o.rs1 ++ codes ")")) (signed_some o.imm word);
      plain =
          each-append is_plain (signed_text o.imm) (codes "(" ++ (register_text o.rs1 ++ codes ")")) (signed_plain o.imm word)
          (refl, each-append is_plain (register_text o.rs1) (codes ")") (register_plain o.rs1 r.rs1) (refl, tt));
    }
operand_plain o (Target low high) r h =
    let word = within_word low high o.imm h.1 h.2 in record { some = signed_some o.imm word; plain = signed_plain o.imm word }

-- brackets stand in no number and no register
abbrev is_within_brackets : ℕ → Bool
is_within_brackets b = nat_lt 41 b

digits_within : (base : ℕ) (ds : List ℕ) → AllDigits base ds → base ≤ 16 → Each is_within_brackets ds
digits_within base [] all small = tt
digits_within base (d ∷ ds) all small = (grind arith, digits_within base ds all.1 small)

no_opening : (b : ℕ) → is_within_brackets b ≡ true → is_opening b ≡ false
no_opening b is = grind arith

no_closing : (b : ℕ) → is_within_brackets b ≡ true → is_closing b ≡ false
no_closing b is = grind arith

decimal_within : (n : ℕ) → n < 2 ^ 64 → Each is_within_brackets (decimal n)
decimal_within n fits = digits_within 10 (decimal n) (decimal_is_IsNumeral n fits).0.1 (lit≤ tt)

signed_within_brackets : (n : ℕ) → n < 2 ^ 32 → Each is_within_brackets (signed_text n)
signed_within_brackets n less = go (nat_lt n (2 ^ 31)) where
  go : (b : Bool) → Each is_within_brackets (if b then decimal n else codes "-" ++ decimal (2 ^ 32 - n))
  go true = decimal_within n (omega arith)
  go false = (refl, decimal_within (2 ^ 32 - n) (omega arith))

-- an address
module _ (o : Operands) (imm : Result ℕ OperandFault) (register : List ℕ) (r : ℕ) (is_r : number_named register ≡ Some r) (inside : Each is_within_brackets register) where
  base_back : base_in o imm (register ++ codes ")") (position_or_len is_closing (register ++ codes ")")) ≡ with_base o (Some r) imm
  base_back =
      let len : position_or_len is_closing (register ++ codes ")") ≡ length register =
      len_past is_closing register (codes ")") (each-without is_closing is_within_brackets no_closing register inside) refl in
      rw (len, take-append_seam register (codes ")"), drop-append_seam register (codes ")")) (ap (λ found. with_base o found imm) is_r)

module _ (o : Operands) (number register : List ℕ) (n r : ℕ) (is_n : number_in 2048 2047 number ≡ Ok n) (is_r : number_named register ≡ Some r) (outside : Each is_within_brackets number) (inside : Each is_within_brackets register) where
  pub address_back : address_in o (number ++ (codes "(" ++ (register ++ codes ")"))) ≡ Ok (record o { rs1 = r; imm = n })
  address_back =
      let rest = codes "(" ++ (register ++ codes ")") in
      let len : position_or_len is_opening (number ++ rest) ≡ length number =
      len_past is_opening number rest (each-without is_opening is_within_brackets no_opening number outside) refl in
      rw (len, take-append_seam number rest, drop-append_seam number rest)
      (base_back o (number_in 2048 2047 number) register r is_r inside ∙ ap (with_base o (Some r)) is_n)

-- an operand into another record, where a slot has it
abbrev pub put : Operands → Slot → Operands → Operands
put o Rd x = record x { rd = o.rd }
put o Rs1 x = record x { rs1 = o.rs1 }
put o Rs2 x = record x { rs2 = o.rs2 }
put o (Number low high) x = record x { imm = o.imm }
put o Upper x = record x { imm = o.imm }
put o Address x = record x { rs1 = o.rs1; imm = o.imm }
put o (Target low high) x = record x { imm = o.imm }

abbrev pub put_all : Operands → List Slot → Operands → Operands
put_all o [] x = x
put_all o (slot ∷ slots) x = put_all o slots (put o slot x)

operand_back : (labels : Labels) (from : ℕ) (o x : Operands) (slot : Slot) → HasRegisters o → Holds o slot → with_operand labels from slot (operand_text o slot) x ≡ Ok (put o slot x)
operand_back labels from o x Rd r h = ap (with_rd x) (register_back o.rd r.rd)
operand_back labels from o x Rs1 r h = ap (with_rs1 x) (register_back o.rs1 r.rs1)
operand_back labels from o x Rs2 r h = ap (with_rs2 x) (register_back o.rs2 r.rs2)
operand_back labels from o x (Number low high) r h = ap (with_imm x) (number_back low high o.imm h.0 h.1 h.2)
operand_back labels from o x Upper r h = ap (with_imm x) (upper_back o.imm h.0 h.1)
operand_back labels from o x Address r h =
    address_back x (signed_text o.imm) (register_text o.rs1) o.imm o.rs1 (number_back 2048 2047 o.imm (lit≤ tt) (lit< tt) h) (register_back o.rs1 r.rs1)
    (signed_within_brackets o.imm (within_word 2048 2047 o.imm (lit< tt) h)) (refl, decimal_within o.rs1 (let small = r.rs1 in omega arith))
operand_back labels from o x (Target low high) r h = ap (with_imm x) (target_back low high labels from o.imm h.0 h.1 h.2 h.3)

-- all operands of an instruction
pub operands_back : (labels : Labels) (from : ℕ) (o x : Operands) (slots : List Slot) (pieces : List Piece) → HasRegisters o → HoldAll o slots → map (λ piece. piece.text) pieces ≡ map (operand_text o) slots → with_operands labels from slots pieces x ≡ Ok (put_all o slots x)
operands_back labels from o x [] pieces r h e = refl
operands_back labels from o x (slot ∷ slots) [] r h e = cc
operands_back labels from o x (slot ∷ slots) (piece ∷ pieces) r h e =
    let text : piece.text ≡ operand_text o slot = cc in
    let texts : map (λ piece. piece.text) pieces ≡ map (operand_text o) slots = cc in
    let rest : Operands → Result Operands FaultyOperand = λ more. with_operands labels from slots pieces more in
    one_step labels from slot slots piece pieces x
    ∙ ap (λ t. and_rest x piece.span (with_operand labels from slot t x) rest) text
    ∙ ap (λ read. and_rest x piece.span read rest) (operand_back labels from o x slot r h.0)
    ∙ operands_back labels from o (put o slot x) slots pieces r h.1 texts
