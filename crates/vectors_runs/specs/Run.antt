-- A run: instructions one after another, up to the first that raises.
use Rattle.std.specs.Prelude.{ℕ, zero, suc, List, Option, Some, None}
use Rattle.rv_model.specs.Registers.{Registers}
use Rattle.rv_model.specs.Step.{Store, Once, Raised, Went, one}
use Rattle.rv_core.specs.declared.outcome.Outcome.{Outcome}
use Rattle.rv_core.specs.declared.outcome.Outcome.TheVariants.{Next, Raise}
use Rattle.vectors_runs.specs.Memory.{space, stored}

-- what the last instruction came to, the registers and the bytes of memory
pub record End : Type 0 where
  pub outcome : Outcome
  pub registers : Registers
  pub bytes : List ℕ

abbrev pub after_store : Option Store → List ℕ → List ℕ
after_store None bytes = bytes
after_store (Some store) bytes = stored store bytes

-- a raise is the end, and else the run goes on from the next registers and memory
abbrev pub ended : Once → Registers → List ℕ → (Registers → List ℕ → End) → End
ended (Raised reason q0 q1) r bytes rest = record { outcome = Raise reason q0 q1; registers = r; bytes = bytes }
ended (Went next store) r bytes rest = rest next (after_store store bytes)

-- the end of a run of at most as many instructions as the number says
unfoldable pub run : ℕ → Registers → List ℕ → End
run zero r bytes = record { outcome = Next; registers = r; bytes = bytes }
run (suc steps) r bytes = ended (one r (space bytes)) r bytes (run steps)
