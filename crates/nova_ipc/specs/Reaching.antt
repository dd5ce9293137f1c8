-- Exits and the replies to them in words: what changes. Where each answer comes is in `nova_ec/specs/Handlers.antt`.
use Rattle.std.specs.Prelude.{ℕ, ◌≡◌, ◌≤◌, ◌+◌, false, List, if◌then◌else◌}
use Rattle.rv_model.specs.Registers.{Registers, reg}
use Rattle.nova_range.specs.declared.mtd.TheConstants.Mtd.{PC, LOW, HIGH}
use Rattle.nova_utcb.specs.Files.{IsFile}
use Rattle.nova_utcb.specs.Messages.{groups_in, word}
use Rattle.nova_range.specs.Mtds.{names}
use Rattle.nova_model.specs.declared.context.EcState.{EcState}
use Rattle.nova_model.specs.declared.context.Mark.TheVariants.{Exit}
use Rattle.nova_model.specs.declared.context.State.TheVariants.{Ready}
use Rattle.nova_ec.specs.Handlers.{IsSame, Begins}

-- a handler that begins an exit
abbrev pub ServesExit : EcState → EcState → ℕ → ℕ → ℕ → Type 0
ServesExit x y caller ip identifier = Begins x y caller Exit ip identifier false

-- registers after a reply with this message: those of the groups that it names have their words, all others stay, and x0 is 0
pub record AreBack (r s : Registers) (m : List ℕ) : Type 0 where
  pub pc : s.pc ≡ (if names (groups_in m) PC then word m 7 else r.pc)
  pub low : (i : ℕ) → 1 ≤ i → i ≤ 15 → reg s i ≡ (if names (groups_in m) LOW then word m (8 + i) else reg r i)
  pub high : (i : ℕ) → 16 ≤ i → i ≤ 31 → reg s i ≡ (if names (groups_in m) HIGH then word m (8 + i) else reg r i)
  pub file : IsFile s

-- a context whose exit was answered with the message `m`
pub record GoesOn (x y : EcState) (m : List ℕ) : Type 0 where
  pub same : IsSame x y
  pub caller : y.caller ≡ x.caller
  pub state : y.state ≡ Ready
  pub registers : AreBack x.regs y.regs m
