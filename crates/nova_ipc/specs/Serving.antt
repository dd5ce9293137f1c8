-- Calls and replies in words: what changes. Where each answer comes is in `nova_ec/specs/Handlers.antt`.
use Rattle.std.specs.Prelude.{ℕ, ◌≡◌, ◌≢◌, ◌%◌, ◌+◌, ◌^◌, Bool}
use Rattle.rv_model.specs.Registers.{reg}
use Rattle.nova_model.specs.declared.context.EcState.{EcState}
use Rattle.nova_model.specs.declared.context.Mark.TheVariants.{Call}
use Rattle.nova_model.specs.declared.context.State.TheVariants.{Ready}
use Rattle.nova_ec.specs.Handlers.{IsSame, Begins}

-- a handler that begins a call
abbrev pub Serves : EcState → EcState → ℕ → ℕ → ℕ → Bool → Type 0
Serves x y caller ip identifier items = Begins x y caller Call ip identifier items

-- a context whose call ended with the status of number `code`
pub record Returns (x y : EcState) (code : ℕ) : Type 0 where
  pub same : IsSame x y
  pub caller : y.caller ≡ x.caller
  pub state : y.state ≡ Ready
  pub pc : y.regs.pc ≡ (x.regs.pc + 4) % 2 ^ 32
  pub status : reg y.regs 10 ≡ code
  pub registers : (i : ℕ) → i ≢ 10 → reg y.regs i ≡ reg x.regs i
