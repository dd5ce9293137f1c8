-- What an instruction that is only looked at comes to, and the frame of the store that it would make.
use Rattle.std.proofs.Common.{◌≡◌, ℕ, refl, ap, ap₂, ◌∙◌}
use Rattle.std.specs.Prelude.{false, Option, Some, None}
use Rattle.rv_model.specs.Registers.{Registers}
use Rattle.rv_model.specs.Step.{Once, Raised, Went, one}
use Rattle.nova_range.specs.Rights.{execute_right}
use Rattle.nova_model.specs.AddressSpaces.{AddressSpace, frame_for, space, without_loads}
use Rattle.nova_model.specs.Deeds.{address_space, instruction}
use Rattle.nova_model.specs.State.{KernelState, context}
use Rattle.rv_core.specs.Steps.{Follows}
use Rattle.rv_core.specs.declared.outcome.Outcome.{Outcome}
use Rattle.nova_deeds.specs.Acts.{outcome_of}
use Rattle.law_swaps.specs.Touches.{frame_missed}
use Rattle.nova_touching.specs.Looking.{IsSight, LookState, begun, found, goes_on, is_next, noted, seen, stored_by}
use Rattle.nova_touching.specs.declared.looking.Sight.{Sight}

-- with nothing stored, a state is itself
unstored : (s : LookState) → s.stored ≡ None → s ≡ record s { stored = None }
unstored s none = ap (λ (o : Option ℕ). record s { stored = o }) none

pub ahead : (once : Once) (r r' : Registers) (s s' : LookState) (o : Outcome) → s.stored ≡ None → Follows noted once r s o r' s' →
    (o ≡ outcome_of once) × (s' ≡ record s { stored = stored_by (seen s) once })
ahead (Raised reason q0 q1) r r' s s' o none h = (h.0, h.2 ∙ unstored s none)
ahead (Went regs None) r r' s s' o none h = (h.0, h.2 ∙ unstored s none)
ahead (Went regs (Some store)) r r' s s' o none h = (h.0, h.2)

-- WHAT IS SEEN

goes_on_by : (once : Once) → is_next (outcome_of once) ≡ goes_on once
goes_on_by (Raised reason q0 q1) = refl
goes_on_by (Went regs store) = refl

-- a look at the context's instruction, and one without loads
pub record AreLooks (k : KernelState) (ec : ℕ) (regs : Registers) (first second : LookState) (o : Outcome) : Type 0 where
  pub regs_are : regs ≡ (context k ec).regs
  pub kernel : first.kernel ≡ k
  pub ec_is : first.ec ≡ ec
  pub outcome : o ≡ outcome_of (one regs (found (begun first false)))
  pub next : second ≡ record (begun first false) { stored = stored_by (seen first) (one regs (found (begun first false))) }

pub sight_is : (k : KernelState) (ec : ℕ) (regs : Registers) (first second : LookState) (o : Outcome) (s : Sight) → AreLooks k ec regs first second o → s.goes_on ≡ is_next o →
    s.fetched ≡ frame_for (seen first) execute_right regs.pc → s.loaded ≡ frame_missed (seen second) (one regs (without_loads (space (seen second)))) → s.stored ≡ second.stored → IsSight k ec s
sight_is k ec regs first second o s looks on fetched loaded stored = record {
  goes_on = on ∙ ap is_next (looks.outcome ∙ ap outcome_of once) ∙ goes_on_by (instruction k ec);
  fetched = fetched ∙ ap₂ (λ (a : AddressSpace) (r : Registers). frame_for a execute_right r.pc) here looks.regs_are;
  loaded = loaded ∙ ap₂ (λ (a : AddressSpace) (r : Registers). frame_missed a (one r (without_loads (space a)))) there looks.regs_are;
  stored = stored ∙ ap (λ (l : LookState). l.stored) looks.next ∙ ap₂ stored_by here once;
}
  where
    here : seen first ≡ address_space k ec
    here = ap₂ address_space looks.kernel looks.ec_is

    there : seen second ≡ address_space k ec
    there = ap seen looks.next ∙ here

    once : one regs (found (begun first false)) ≡ instruction k ec
    once = ap₂ (λ (r : Registers) (a : AddressSpace). one r (space a)) looks.regs_are here
