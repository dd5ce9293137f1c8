-- Registers that lie beside the table of execution contexts while instructions run on them.
use Rattle.std.specs.Prelude.{◌≡◌, ℕ}
use Rattle.rv_model.specs.Registers.{Registers}
use Rattle.nova_model.specs.State.{KernelState, context, is_thread, pd_of, with_ec}
use Rattle.nova_turn.specs.Parts.{state_of}
use Rattle.nova_turn.specs.declared.parts.Parts.{Parts}

-- the state in which an execution context has these registers
abbrev pub with_regs : KernelState → ℕ → Registers → KernelState
with_regs k ec regs = record k { contexts = with_ec k.contexts ec (record (context k ec) { regs = regs }) }

-- instructions reach the address space of `ec`
pub record IsEntered (p : Parts) (ec : ℕ) : Type 0 where
  pub number : p.reach.ec ≡ ec
  pub pd : p.reach.pd ≡ pd_of (state_of p) ec
  pub is_thread : p.reach.is_thread ≡ is_thread (state_of p) ec
