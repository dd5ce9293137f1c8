-- The registers of a hart. (RV32I, "Programmers' Model for Base Integer ISA".)
use Rattle.std.specs.Prelude.{ℕ, ◌==◌, List, if◌then◌else◌, slice_index, slice_set}

-- pc, and the values of x0 to x31
pub record Registers : Type 0 where
  pub pc : ℕ
  pub x : List ℕ

-- the value of a register; that of x0 is 0
abbrev pub reg : Registers → ℕ → ℕ
reg r i = if i == 0 then 0 else slice_index r.x i

-- the registers with a value put into one; a write to x0 is lost
abbrev pub with_reg : Registers → ℕ → ℕ → Registers
with_reg r i value = if i == 0 then r else record r { x = slice_set r.x i value }
