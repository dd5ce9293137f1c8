-- An instruction keeps the number of registers, and its store lies within a page.
use Rattle.std.proofs.Common.{◌≡◌, ℕ, ◌+◌, ◌*◌, ◌/◌, ◌%◌, ◌≤◌, length, ◌∙◌, subst, refl, inl, inr, arith}
use Rattle.std.specs.Prelude.{Bool, true, false, not, ◌==◌, nat_lt, nat_le, bit_and, slice_set, Option, Some, None, if◌then◌else◌}
use Rattle.std.specs.Int.RustNames.{bit_or, bit_xor}
use Rattle.std.proofs.lemmas.List.{length-set}
use Rattle.nova_guest.specs.Conditions.{IsStore, IsWidth}
use Rattle.rv_model.specs.Words.{plus, minus, extended}
use Rattle.rv_model.specs.Registers.{Registers, reg, with_reg}
use Rattle.rv_model.specs.Codes.{instr_of}
use Rattle.rv_model.specs.Step.{Space, Store, Once, Raised, Went, one, executed, decoded, fetched, sets, loads, loaded, stores, stored, goes, jumps, branches, misaligned, bit_of, is_less_signed, shift_left, shift_right, shift_right_signed}
use Rattle.rv_model.specs.declared.instr.Instr.{Instr}
use Rattle.rv_model.specs.declared.instr.Instr.TheVariants.{Lui, Auipc, Jal, Jalr, Beq, Bne, Blt, Bge, Bltu, Bgeu, Lb, Lh, Lw, Lbu, Lhu, Sb, Sh, Sw, Addi, Slti, Sltiu, Xori, Ori, Andi, Slli, Srli, Srai, Add, Sub, Sll, Slt, Sltu, Xor, Srl, Sra, Or, And, Fence, Ecall, Ebreak}

abbrev pub IsInPage : Option Store → Type 0
IsInPage None = Unit {0}
IsInPage (Some s) = IsStore (s.address % 4096) s.width × (s.address % 4096 + s.width ≤ 4096)

abbrev pub IsGood : ℕ → Once → Type 0
IsGood n (Raised reason q0 q1) = Unit {0}
IsGood n (Went r store) = (length r.x ≡ n) × IsInPage store

within : (address width : ℕ) → IsWidth width → address % width ≡ 0 → address % 4096 + width ≤ 4096
within address width (inl h) e = rw h (omega arith)
within address width (inr (inl h)) e = let f : address % 2 ≡ 0 = subst (λ (w : ℕ). address % w ≡ 0) h e in rw h (omega arith)
within address width (inr (inr h)) e = let f : address % 4 ≡ 0 = subst (λ (w : ℕ). address % w ≡ 0) h e in rw h (omega arith)

stays_aligned : (address width : ℕ) → IsWidth width → address % width ≡ 0 → address % 4096 % width ≡ 0
stays_aligned address width (inl h) e = rw h (omega arith)
stays_aligned address width (inr (inl h)) e = let f : address % 2 ≡ 0 = subst (λ (w : ℕ). address % w ≡ 0) h e in rw h (omega arith)
stays_aligned address width (inr (inr h)) e = let f : address % 4 ≡ 0 = subst (λ (w : ℕ). address % w ≡ 0) h e in rw h (omega arith)

in_page : (address width : ℕ) → IsWidth width → address % width ≡ 0 → IsStore (address % 4096) width × (address % 4096 + width ≤ 4096)
in_page address width is e = (
  record { size = is; within = omega arith; aligned = stays_aligned address width is e },
  within address width is e,
)

pub length_reg : (r : Registers) (i value : ℕ) → length (with_reg r i value).x ≡ length r.x
length_reg r i value = by_test (i == 0)
  where
    by_test : (t : Bool) → length (if t then r else record r { x = slice_set r.x i value }).x ≡ length r.x
    by_test true = refl
    by_test false = length-set r.x i value

sets_good : (n : ℕ) (r : Registers) (rd value : ℕ) → length r.x ≡ n → IsGood n (sets r rd value)
sets_good n r rd value h = (length_reg r rd value ∙ h, tt)

goes_good : (n : ℕ) (r : Registers) (target : ℕ) → length r.x ≡ n → IsGood n (goes r target)
goes_good n r target h = by_test (target % 4 == 0)
  where
    by_test : (t : Bool) → IsGood n (if t then Went (record r { pc = target }) None else Raised misaligned target 0)
    by_test true = (h, tt)
    by_test false = tt

jumps_good : (n : ℕ) (r : Registers) (rd target : ℕ) → length r.x ≡ n → IsGood n (jumps r rd target)
jumps_good n r rd target h = by_test (target % 4 == 0)
  where
    by_test : (t : Bool) → IsGood n (if t then Went (record (with_reg r rd (plus r.pc 4)) { pc = target }) None else Raised misaligned target 0)
    by_test true = (length_reg r rd (plus r.pc 4) ∙ h, tt)
    by_test false = tt

branches_good : (n : ℕ) (r : Registers) (test : Bool) (offset : ℕ) → length r.x ≡ n → IsGood n (branches r test offset)
branches_good n r true offset h = goes_good n r (plus r.pc offset) h
branches_good n r false offset h = (h, tt)

loaded_good : (n : ℕ) (r : Registers) (rd : ℕ) (extend : ℕ → ℕ) (address width : ℕ) (o : Option ℕ) → length r.x ≡ n → IsGood n (loaded r rd extend address width o)
loaded_good n r rd extend address width None h = tt
loaded_good n r rd extend address width (Some v) h = sets_good n r rd (extend v) h

loads_good : (n : ℕ) (r : Registers) (a : Space) (rd : ℕ) (extend : ℕ → ℕ) (width address : ℕ) → length r.x ≡ n → IsGood n (loads r a rd extend width address)
loads_good n r a rd extend width address h = by_test (address % width == 0)
  where
    by_test : (t : Bool) → IsGood n (if t then loaded r rd extend address width (a.load address width) else Raised misaligned address 1)
    by_test true = loaded_good n r rd extend address width (a.load address width) h
    by_test false = tt

stored_good : (n : ℕ) (r : Registers) (t : Bool) (width address value : ℕ) → IsStore (address % 4096) width × (address % 4096 + width ≤ 4096) → length r.x ≡ n → IsGood n (stored r t width address value)
stored_good n r true width address value fits h = (h, fits)
stored_good n r false width address value fits h = tt

stores_good : (n : ℕ) (r : Registers) (a : Space) (width address value : ℕ) → IsWidth width → length r.x ≡ n → IsGood n (stores r a width address value)
stores_good n r a width address value is h = by_test (address % width == 0) refl
  where
    by_test : (t : Bool) → address % width == 0 ≡ t → IsGood n (if t then stored r (a.takes address width) width address value else Raised misaligned address 2)
    by_test true e = stored_good n r (a.takes address width) width address value (in_page address width is (grind arith)) h
    by_test false e = tt

executed_good : (n : ℕ) (r : Registers) (a : Space) (i : Instr) → length r.x ≡ n → IsGood n (executed r a i)
executed_good n r a (Lui rd imm) h = sets_good n r rd (imm) h
executed_good n r a (Auipc rd imm) h = sets_good n r rd (plus r.pc imm) h
executed_good n r a (Jal rd imm) h = jumps_good n r rd ((plus r.pc imm)) h
executed_good n r a (Jalr rd rs1 imm) h = jumps_good n r rd ((plus (reg r rs1) imm / 2 * 2)) h
executed_good n r a (Beq rs1 rs2 imm) h = branches_good n r (reg r rs1 == reg r rs2) imm h
executed_good n r a (Bne rs1 rs2 imm) h = branches_good n r (not (reg r rs1 == reg r rs2)) imm h
executed_good n r a (Blt rs1 rs2 imm) h = branches_good n r (is_less_signed (reg r rs1) (reg r rs2)) imm h
executed_good n r a (Bge rs1 rs2 imm) h = branches_good n r (not (is_less_signed (reg r rs1) (reg r rs2))) imm h
executed_good n r a (Bltu rs1 rs2 imm) h = branches_good n r (nat_lt (reg r rs1) (reg r rs2)) imm h
executed_good n r a (Bgeu rs1 rs2 imm) h = branches_good n r (nat_le (reg r rs2) (reg r rs1)) imm h
executed_good n r a (Lb rd rs1 imm) h = loads_good n r a rd (extended 8) 1 (plus (reg r rs1) imm) h
executed_good n r a (Lh rd rs1 imm) h = loads_good n r a rd (extended 16) 2 (plus (reg r rs1) imm) h
executed_good n r a (Lw rd rs1 imm) h = loads_good n r a rd (λ n. n) 4 (plus (reg r rs1) imm) h
executed_good n r a (Lbu rd rs1 imm) h = loads_good n r a rd (λ n. n) 1 (plus (reg r rs1) imm) h
executed_good n r a (Lhu rd rs1 imm) h = loads_good n r a rd (λ n. n) 2 (plus (reg r rs1) imm) h
executed_good n r a (Sb rs1 rs2 imm) h = stores_good n r a 1 (plus (reg r rs1) imm) (reg r rs2) (inl refl) h
executed_good n r a (Sh rs1 rs2 imm) h = stores_good n r a 2 (plus (reg r rs1) imm) (reg r rs2) (inr (inl refl)) h
executed_good n r a (Sw rs1 rs2 imm) h = stores_good n r a 4 (plus (reg r rs1) imm) (reg r rs2) (inr (inr refl)) h
executed_good n r a (Addi rd rs1 imm) h = sets_good n r rd (plus (reg r rs1) imm) h
executed_good n r a (Slti rd rs1 imm) h = sets_good n r rd (bit_of (is_less_signed (reg r rs1) imm)) h
executed_good n r a (Sltiu rd rs1 imm) h = sets_good n r rd (bit_of (nat_lt (reg r rs1) imm)) h
executed_good n r a (Xori rd rs1 imm) h = sets_good n r rd (bit_xor (reg r rs1) imm) h
executed_good n r a (Ori rd rs1 imm) h = sets_good n r rd (bit_or (reg r rs1) imm) h
executed_good n r a (Andi rd rs1 imm) h = sets_good n r rd (bit_and (reg r rs1) imm) h
executed_good n r a (Slli rd rs1 imm) h = sets_good n r rd (shift_left (reg r rs1) imm) h
executed_good n r a (Srli rd rs1 imm) h = sets_good n r rd (shift_right (reg r rs1) imm) h
executed_good n r a (Srai rd rs1 imm) h = sets_good n r rd (shift_right_signed (reg r rs1) imm) h
executed_good n r a (Add rd rs1 rs2) h = sets_good n r rd (plus (reg r rs1) (reg r rs2)) h
executed_good n r a (Sub rd rs1 rs2) h = sets_good n r rd (minus (reg r rs1) (reg r rs2)) h
executed_good n r a (Sll rd rs1 rs2) h = sets_good n r rd (shift_left (reg r rs1) (reg r rs2)) h
executed_good n r a (Slt rd rs1 rs2) h = sets_good n r rd (bit_of (is_less_signed (reg r rs1) (reg r rs2))) h
executed_good n r a (Sltu rd rs1 rs2) h = sets_good n r rd (bit_of (nat_lt (reg r rs1) (reg r rs2))) h
executed_good n r a (Xor rd rs1 rs2) h = sets_good n r rd (bit_xor (reg r rs1) (reg r rs2)) h
executed_good n r a (Srl rd rs1 rs2) h = sets_good n r rd (shift_right (reg r rs1) (reg r rs2)) h
executed_good n r a (Sra rd rs1 rs2) h = sets_good n r rd (shift_right_signed (reg r rs1) (reg r rs2)) h
executed_good n r a (Or rd rs1 rs2) h = sets_good n r rd (bit_or (reg r rs1) (reg r rs2)) h
executed_good n r a (And rd rs1 rs2) h = sets_good n r rd (bit_and (reg r rs1) (reg r rs2)) h
executed_good n r a Fence h = (h, tt)
executed_good n r a Ecall h = tt
executed_good n r a Ebreak h = tt

decoded_good : (n : ℕ) (r : Registers) (a : Space) (word : ℕ) (i : Option Instr) → length r.x ≡ n → IsGood n (decoded r a word i)
decoded_good n r a word (Some i) h = executed_good n r a i h
decoded_good n r a word None h = tt

fetched_good : (n : ℕ) (r : Registers) (a : Space) (w : Option ℕ) → length r.x ≡ n → IsGood n (fetched r a w)
fetched_good n r a (Some w) h = decoded_good n r a w (instr_of w) h
fetched_good n r a None h = tt

pub one_good : (n : ℕ) (r : Registers) (a : Space) → length r.x ≡ n → IsGood n (one r a)
unfolding one
one_good n r a h = by_test (r.pc % 4 == 0)
  where
    by_test : (t : Bool) → IsGood n (if t then fetched r a (a.fetch r.pc) else Raised misaligned r.pc 0)
    by_test true = fetched_good n r a (a.fetch r.pc) h
    by_test false = tt
