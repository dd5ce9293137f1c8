-- What a turn makes of the bytes that consoles got: its store enters one at most.
use Rattle.std.proofs.Common.{◌≡◌, ◌⊎◌, inl, inr, ℕ, ◌%◌, ◌-◌, ◌==◌, Bool, true, false, List, [], ◌∷◌, ◌++◌, length, slice_get, if◌then◌else◌, Option, Some, None, refl, ap, sym, ◌∙◌, subst, append_assoc, append-nil}
use mathlib.Core.List.{IsPrefix}
use Rattle.rv_model.specs.Step.{Store}
use Rattle.nova_range.specs.Rights.{write_right}
use Rattle.nova_model.specs.AddressSpaces.{AddressSpace, frame_for, stored_at}
use Rattle.nova_model.specs.Memory.{Memory, written_in}
use Rattle.nova_model.specs.Runs.{after, run}
use Rattle.nova_model.specs.State.{KernelState}
use Rattle.nova_model.specs.declared.log.LogByte.{LogByte}
use Rattle.law_forest.specs.Effects.{memory_with}
use Rattle.law_forest.specs.Turns.{Idles, Takes}
use Rattle.law_forest.proofs.Turning.{comes}

-- the log stays, or has one byte more
abbrev Gains : List LogByte → List LogByte → Type 0
Gains log now = (now ≡ log) ⊎ ((b : LogByte) × (now ≡ log ++ b ∷ []))

written_gains : (m : Memory) (o : Option (List ℕ)) (frame offset width value : ℕ) → Gains m.log (written_in m o frame offset width value).log
written_gains m (Some bytes) frame offset width value = inl refl
written_gains m None frame offset width value = by_first (offset == 0)
  where
    by_first : (first : Bool) → Gains m.log (m.log ++ (if first then record { console = frame - length m.ram; value = value % 256 } ∷ [] else []))
    by_first true = inr (record { console = frame - length m.ram; value = value % 256 }, refl)
    by_first false = inl (append-nil m.log)

stored_gains : (m : Memory) (s : Store) (o : Option ℕ) → Gains m.log (stored_at m s o).log
stored_gains m s None = inl refl
stored_gains m s (Some frame) = written_gains m (slice_get m.ram frame) frame (s.address % 4096) s.width s.value

effect_gains : (m : Memory) (o : Option (AddressSpace × Store)) → Gains m.log (memory_with m o).log
effect_gains m None = inl refl
effect_gains m (Some (a, s)) = stored_gains m s (frame_for a write_right s.address)

pub turn_gains : (k : KernelState) (cpu : ℕ) → Gains k.memory.log (after k cpu).memory.log
turn_gains k cpu = elim (comes k cpu) [
  | Idles is moment same answer ↦ inl (ap (λ (s : KernelState). s.memory.log) same)
  | Takes t e is state answer ↦ subst (λ (s : KernelState). Gains k.memory.log s.memory.log) (sym state) (effect_gains k.memory t.effect.store)
]

begins : (log now later : List LogByte) → Gains log now → IsPrefix now later → IsPrefix log later
begins log now later (inl same) p = subst (λ (l : List LogByte). IsPrefix l later) same p
begins log now later (inr (b, is)) p = (b ∷ p.0, sym (append_assoc log (b ∷ []) p.0) ∙ (ap (λ (l : List LogByte). l ++ p.0) (sym is) ∙ p.1))

pub run_gains : (k : KernelState) (turns : List ℕ) → IsPrefix k.memory.log (run k turns).memory.log
run_gains k [] = ([], append-nil k.memory.log)
run_gains k (cpu ∷ turns) = begins k.memory.log (after k cpu).memory.log _ (turn_gains k cpu) (run_gains (after k cpu) turns)
