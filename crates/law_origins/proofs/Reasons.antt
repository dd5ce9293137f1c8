-- No instruction raises an exit of a reason above 8.
use Rattle.std.proofs.Common.{ℕ, ◌≤◌, ◌/◌, ◌*◌, ◌%◌, arith}
use Rattle.std.specs.Prelude.{Bool, true, false, not, ◌==◌, nat_lt, nat_le, Option, Some, None, if◌then◌else◌}
use Rattle.rv_model.specs.Codes.{instr_of}
use Rattle.rv_model.specs.Registers.{Registers, reg, with_reg}
use Rattle.rv_model.specs.Step.{Space, Once, Raised, Went, one, executed, decoded, fetched, loads, loaded, stores, stored, goes, jumps, branches, misaligned, is_less_signed}
use Rattle.rv_model.specs.Words.{extended, plus}
use Rattle.rv_model.specs.declared.instr.Instr.{Instr}
use Rattle.rv_model.specs.declared.instr.Instr.TheVariants.{Jal, Jalr, Beq, Bne, Blt, Bge, Bltu, Bgeu, Lb, Lh, Lw, Lbu, Lhu, Sb, Sh, Sw, Ecall, Ebreak}

abbrev pub IsReason : Once → Type 0
IsReason (Raised reason q0 q1) = reason ≤ 8
IsReason (Went regs store) = Unit {0}

goes_reason : (r : Registers) (target : ℕ) → IsReason (goes r target)
goes_reason r target = by_test (target % 4 == 0)
  where
    by_test : (t : Bool) → IsReason (if t then Went (record r { pc = target }) None else Raised misaligned target 0)
    by_test true = tt
    by_test false = omega arith

jumps_reason : (r : Registers) (rd target : ℕ) → IsReason (jumps r rd target)
jumps_reason r rd target = by_test (target % 4 == 0)
  where
    by_test : (t : Bool) → IsReason (if t then Went (record (with_reg r rd (plus r.pc 4)) { pc = target }) None else Raised misaligned target 0)
    by_test true = tt
    by_test false = omega arith

branches_reason : (r : Registers) (test : Bool) (offset : ℕ) → IsReason (branches r test offset)
branches_reason r true offset = goes_reason r (plus r.pc offset)
branches_reason r false offset = tt

loaded_reason : (r : Registers) (rd : ℕ) (extend : ℕ → ℕ) (address width : ℕ) (o : Option ℕ) → IsReason (loaded r rd extend address width o)
loaded_reason r rd extend address width None = omega arith
loaded_reason r rd extend address width (Some v) = tt

loads_reason : (r : Registers) (a : Space) (rd : ℕ) (extend : ℕ → ℕ) (width address : ℕ) → IsReason (loads r a rd extend width address)
loads_reason r a rd extend width address = by_test (address % width == 0)
  where
    by_test : (t : Bool) → IsReason (if t then loaded r rd extend address width (a.load address width) else Raised misaligned address 1)
    by_test true = loaded_reason r rd extend address width (a.load address width)
    by_test false = omega arith

stored_reason : (r : Registers) (t : Bool) (width address value : ℕ) → IsReason (stored r t width address value)
stored_reason r true width address value = tt
stored_reason r false width address value = omega arith

stores_reason : (r : Registers) (a : Space) (width address value : ℕ) → IsReason (stores r a width address value)
stores_reason r a width address value = by_test (address % width == 0)
  where
    by_test : (t : Bool) → IsReason (if t then stored r (a.takes address width) width address value else Raised misaligned address 2)
    by_test true = stored_reason r (a.takes address width) width address value
    by_test false = omega arith

executed_reason : (r : Registers) (a : Space) (i : Instr) → IsReason (executed r a i)
executed_reason r a (Jal rd imm) = jumps_reason r rd (plus r.pc imm)
executed_reason r a (Jalr rd rs1 imm) = jumps_reason r rd (plus (reg r rs1) imm / 2 * 2)
executed_reason r a (Beq rs1 rs2 imm) = branches_reason r (reg r rs1 == reg r rs2) imm
executed_reason r a (Bne rs1 rs2 imm) = branches_reason r (not (reg r rs1 == reg r rs2)) imm
executed_reason r a (Blt rs1 rs2 imm) = branches_reason r (is_less_signed (reg r rs1) (reg r rs2)) imm
executed_reason r a (Bge rs1 rs2 imm) = branches_reason r (not (is_less_signed (reg r rs1) (reg r rs2))) imm
executed_reason r a (Bltu rs1 rs2 imm) = branches_reason r (nat_lt (reg r rs1) (reg r rs2)) imm
executed_reason r a (Bgeu rs1 rs2 imm) = branches_reason r (nat_le (reg r rs2) (reg r rs1)) imm
executed_reason r a (Lb rd rs1 imm) = loads_reason r a rd (extended 8) 1 (plus (reg r rs1) imm)
executed_reason r a (Lh rd rs1 imm) = loads_reason r a rd (extended 16) 2 (plus (reg r rs1) imm)
executed_reason r a (Lw rd rs1 imm) = loads_reason r a rd (λ n. n) 4 (plus (reg r rs1) imm)
executed_reason r a (Lbu rd rs1 imm) = loads_reason r a rd (λ n. n) 1 (plus (reg r rs1) imm)
executed_reason r a (Lhu rd rs1 imm) = loads_reason r a rd (λ n. n) 2 (plus (reg r rs1) imm)
executed_reason r a (Sb rs1 rs2 imm) = stores_reason r a 1 (plus (reg r rs1) imm) (reg r rs2)
executed_reason r a (Sh rs1 rs2 imm) = stores_reason r a 2 (plus (reg r rs1) imm) (reg r rs2)
executed_reason r a (Sw rs1 rs2 imm) = stores_reason r a 4 (plus (reg r rs1) imm) (reg r rs2)
executed_reason r a Ecall = omega arith
executed_reason r a Ebreak = omega arith
executed_reason r a other = tt

decoded_reason : (r : Registers) (a : Space) (word : ℕ) (i : Option Instr) → IsReason (decoded r a word i)
decoded_reason r a word (Some i) = executed_reason r a i
decoded_reason r a word None = omega arith

fetched_reason : (r : Registers) (a : Space) (w : Option ℕ) → IsReason (fetched r a w)
fetched_reason r a (Some w) = decoded_reason r a w (instr_of w)
fetched_reason r a None = omega arith

pub one_reason : (r : Registers) (a : Space) → IsReason (one r a)
unfolding one
one_reason r a = by_test (r.pc % 4 == 0)
  where
    by_test : (t : Bool) → IsReason (if t then fetched r a (a.fetch r.pc) else Raised misaligned r.pc 0)
    by_test true = fetched_reason r a (a.fetch r.pc)
    by_test false = omega arith
