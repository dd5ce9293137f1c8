-- A store of an instruction that goes on was taken by the address space.
use Rattle.std.proofs.Common.{◌≡◌, ℕ, ◌*◌, ◌/◌, ◌%◌, refl}
use Rattle.std.specs.Prelude.{Bool, true, false, not, ◌==◌, nat_lt, nat_le, Option, Some, None, if◌then◌else◌}
use Rattle.rv_model.specs.Words.{plus, extended}
use Rattle.rv_model.specs.Registers.{Registers, reg, with_reg}
use Rattle.rv_model.specs.Codes.{instr_of}
use Rattle.rv_model.specs.Step.{Space, Once, Raised, Went, one, executed, decoded, fetched, loaded, loads, stores, stored, goes, jumps, branches, misaligned, is_less_signed}
use Rattle.rv_model.specs.declared.instr.Instr.{Instr}
use Rattle.rv_model.specs.declared.instr.Instr.TheVariants.{Lui, Auipc, Jal, Jalr, Beq, Bne, Blt, Bge, Bltu, Bgeu, Lb, Lh, Lw, Lbu, Lhu, Sb, Sh, Sw, Addi, Slti, Sltiu, Xori, Ori, Andi, Slli, Srli, Srai, Add, Sub, Sll, Slt, Sltu, Xor, Srl, Sra, Or, And, Fence, Ecall, Ebreak}

abbrev pub IsTaken : Space → Once → Type 0
IsTaken a (Went r (Some s)) = a.takes s.address s.width ≡ true
IsTaken a other = Unit {0}

goes_taken : (a : Space) (r : Registers) (target : ℕ) → IsTaken a (goes r target)
goes_taken a r target = by_test (target % 4 == 0)
  where
    by_test : (t : Bool) → IsTaken a (if t then Went (record r { pc = target }) None else Raised misaligned target 0)
    by_test true = tt
    by_test false = tt

jumps_taken : (a : Space) (r : Registers) (rd target : ℕ) → IsTaken a (jumps r rd target)
jumps_taken a r rd target = by_test (target % 4 == 0)
  where
    by_test : (t : Bool) → IsTaken a (if t then Went (record (with_reg r rd (plus r.pc 4)) { pc = target }) None else Raised misaligned target 0)
    by_test true = tt
    by_test false = tt

branches_taken : (a : Space) (r : Registers) (test : Bool) (offset : ℕ) → IsTaken a (branches r test offset)
branches_taken a r true offset = goes_taken a r (plus r.pc offset)
branches_taken a r false offset = tt

loaded_taken : (a : Space) (r : Registers) (rd : ℕ) (extend : ℕ → ℕ) (address width : ℕ) (o : Option ℕ) → IsTaken a (loaded r rd extend address width o)
loaded_taken a r rd extend address width None = tt
loaded_taken a r rd extend address width (Some v) = tt

loads_taken : (a : Space) (r : Registers) (rd : ℕ) (extend : ℕ → ℕ) (width address : ℕ) → IsTaken a (loads r a rd extend width address)
loads_taken a r rd extend width address = by_test (address % width == 0)
  where
    by_test : (t : Bool) → IsTaken a (if t then loaded r rd extend address width (a.load address width) else Raised misaligned address 1)
    by_test true = loaded_taken a r rd extend address width (a.load address width)
    by_test false = tt

stored_taken : (a : Space) (r : Registers) (width address value : ℕ) (t : Bool) → a.takes address width ≡ t → IsTaken a (stored r t width address value)
stored_taken a r width address value true is = is
stored_taken a r width address value false is = tt

stores_taken : (a : Space) (r : Registers) (width address value : ℕ) → IsTaken a (stores r a width address value)
stores_taken a r width address value = by_test (address % width == 0)
  where
    by_test : (t : Bool) → IsTaken a (if t then stored r (a.takes address width) width address value else Raised misaligned address 2)
    by_test true = stored_taken a r width address value (a.takes address width) refl
    by_test false = tt

executed_taken : (a : Space) (r : Registers) (i : Instr) → IsTaken a (executed r a i)
executed_taken a r (Lui rd imm) = tt
executed_taken a r (Auipc rd imm) = tt
executed_taken a r (Jal rd imm) = jumps_taken a r rd ((plus r.pc imm))
executed_taken a r (Jalr rd rs1 imm) = jumps_taken a r rd ((plus (reg r rs1) imm / 2 * 2))
executed_taken a r (Beq rs1 rs2 imm) = branches_taken a r (reg r rs1 == reg r rs2) imm
executed_taken a r (Bne rs1 rs2 imm) = branches_taken a r (not (reg r rs1 == reg r rs2)) imm
executed_taken a r (Blt rs1 rs2 imm) = branches_taken a r (is_less_signed (reg r rs1) (reg r rs2)) imm
executed_taken a r (Bge rs1 rs2 imm) = branches_taken a r (not (is_less_signed (reg r rs1) (reg r rs2))) imm
executed_taken a r (Bltu rs1 rs2 imm) = branches_taken a r (nat_lt (reg r rs1) (reg r rs2)) imm
executed_taken a r (Bgeu rs1 rs2 imm) = branches_taken a r (nat_le (reg r rs2) (reg r rs1)) imm
executed_taken a r (Lb rd rs1 imm) = loads_taken a r rd (extended 8) 1 (plus (reg r rs1) imm)
executed_taken a r (Lh rd rs1 imm) = loads_taken a r rd (extended 16) 2 (plus (reg r rs1) imm)
executed_taken a r (Lw rd rs1 imm) = loads_taken a r rd (λ n. n) 4 (plus (reg r rs1) imm)
executed_taken a r (Lbu rd rs1 imm) = loads_taken a r rd (λ n. n) 1 (plus (reg r rs1) imm)
executed_taken a r (Lhu rd rs1 imm) = loads_taken a r rd (λ n. n) 2 (plus (reg r rs1) imm)
executed_taken a r (Sb rs1 rs2 imm) = stores_taken a r 1 (plus (reg r rs1) imm) (reg r rs2)
executed_taken a r (Sh rs1 rs2 imm) = stores_taken a r 2 (plus (reg r rs1) imm) (reg r rs2)
executed_taken a r (Sw rs1 rs2 imm) = stores_taken a r 4 (plus (reg r rs1) imm) (reg r rs2)
executed_taken a r (Addi rd rs1 imm) = tt
executed_taken a r (Slti rd rs1 imm) = tt
executed_taken a r (Sltiu rd rs1 imm) = tt
executed_taken a r (Xori rd rs1 imm) = tt
executed_taken a r (Ori rd rs1 imm) = tt
executed_taken a r (Andi rd rs1 imm) = tt
executed_taken a r (Slli rd rs1 imm) = tt
executed_taken a r (Srli rd rs1 imm) = tt
executed_taken a r (Srai rd rs1 imm) = tt
executed_taken a r (Add rd rs1 rs2) = tt
executed_taken a r (Sub rd rs1 rs2) = tt
executed_taken a r (Sll rd rs1 rs2) = tt
executed_taken a r (Slt rd rs1 rs2) = tt
executed_taken a r (Sltu rd rs1 rs2) = tt
executed_taken a r (Xor rd rs1 rs2) = tt
executed_taken a r (Srl rd rs1 rs2) = tt
executed_taken a r (Sra rd rs1 rs2) = tt
executed_taken a r (Or rd rs1 rs2) = tt
executed_taken a r (And rd rs1 rs2) = tt
executed_taken a r Fence = tt
executed_taken a r Ecall = tt
executed_taken a r Ebreak = tt

decoded_taken : (a : Space) (r : Registers) (word : ℕ) (i : Option Instr) → IsTaken a (decoded r a word i)
decoded_taken a r word (Some i) = executed_taken a r i
decoded_taken a r word None = tt

fetched_taken : (a : Space) (r : Registers) (w : Option ℕ) → IsTaken a (fetched r a w)
fetched_taken a r (Some w) = decoded_taken a r w (instr_of w)
fetched_taken a r None = tt

pub one_taken : (a : Space) (r : Registers) → IsTaken a (one r a)
unfolding one
one_taken a r = by_test (r.pc % 4 == 0)
  where
    by_test : (t : Bool) → IsTaken a (if t then fetched r a (a.fetch r.pc) else Raised misaligned r.pc 0)
    by_test true = fetched_taken a r (a.fetch r.pc)
    by_test false = tt
