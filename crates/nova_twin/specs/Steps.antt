-- What one pass over two sides works on.
use Rattle.std.specs.Prelude.{◌≡◌, ℕ, List, Option, Some, None, length, slice_index}
use Rattle.std.specs.List.{All}
use Rattle.rv_model.specs.Registers.{Registers}
use Rattle.nova_guest.specs.Conditions.{IsGuest, IsInput}
use Rattle.law_renaming.specs.Verdicts.{Verdict, Equal, Differ}
use Rattle.nova_twin.specs.declared.side.Side.{Side}

-- the registers of a hart: x0 to x31, of which x0 is 0
pub record AreRegisters (r : Registers) : Type 0 where
  pub count : length r.x ≡ 32
  pub first : slice_index r.x 0 ≡ 0

-- the guest and its inputs are such as the guest alone takes, and its registers are those of a hart
pub record IsAdmitted (side : Side) : Type 0 where
  pub guest : IsGuest side.start
  pub inputs : All IsInput side.inputs.items
  pub registers : AreRegisters side.start.regs

-- the verdict where they differ after that many inputs, or don't
abbrev pub ended : Option ℕ → ℕ → List (ℕ × ℕ) → Verdict
ended (Some inputs) count met = Differ inputs
ended None count met = Equal count met
