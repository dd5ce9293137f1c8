-- What holds of the registers that messages have.
use Rattle.std.specs.Prelude.{◌≡◌, ◌<◌, ℕ, ◌^◌, length, slice_index}
use Rattle.rv_model.specs.Registers.{Registers, reg}
use Rattle.nova_range.specs.declared.mtd.Mtd.{Mtd}

-- 32 registers, of which x0 is 0
pub record IsFile (r : Registers) : Type 0 where
  pub size : length r.x ≡ 32
  pub zero : slice_index r.x 0 ≡ 0

-- what an exit's message is made of are words
pub record FitsExit (mtd : Mtd) (q0 q1 : ℕ) (r : Registers) : Type 0 where
  pub descriptor : mtd.0 < 2 ^ 32
  pub first : q0 < 2 ^ 32
  pub second : q1 < 2 ^ 32
  pub counter : r.pc < 2 ^ 32
  pub registers : (i : ℕ) → reg r i < 2 ^ 32
