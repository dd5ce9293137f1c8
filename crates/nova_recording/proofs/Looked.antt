-- What an instruction that is only looked at comes to, and the store that it would make.
use Rattle.std.proofs.Common.{◌≡◌, ℕ, refl, ap, ◌∙◌}
use Rattle.std.specs.Prelude.{Option, Some, None}
use Rattle.rv_model.specs.Registers.{Registers}
use Rattle.rv_model.specs.Step.{Once, Raised, Went, one}
use Rattle.rv_core.specs.Steps.{Follows}
use Rattle.rv_core.specs.declared.outcome.Outcome.{Outcome}
use Rattle.rv_core.specs.declared.outcome.Outcome.TheVariants.{Next, Raise}
use Rattle.nova_model.specs.AddressSpaces.{AddressSpace, space, without_loads}
use Rattle.nova_model.specs.Deeds.{address_space, instruction}
use Rattle.nova_model.specs.State.{KernelState, context_at, context_in}
use Rattle.nova_model.specs.declared.context.EcState.{EcState}
use Rattle.nova_recording.specs.Accesses.{PreviewState, access_by, access_in, accessed, load_missed, noted, outcome_of, seen, stored_by, unloaded}
use Rattle.nova_recording.specs.declared.preview.Access.{Access}

-- with nothing stored, a state is itself
unstored : (s : PreviewState) → s.stored ≡ None → s ≡ record s { stored = None }
unstored s none = ap (λ (o : Option Access). record s { stored = o }) none

pub ahead : (once : Once) (r r' : Registers) (s s' : PreviewState) (o : Outcome) → s.stored ≡ None → Follows noted once r s o r' s' →
    (o ≡ outcome_of once) × (s' ≡ record s { stored = stored_by (seen s) once })
ahead (Raised reason q0 q1) r r' s s' o none h = (h.0, h.2 ∙ unstored s none)
ahead (Went regs None) r r' s s' o none h = (h.0, h.2 ∙ unstored s none)
ahead (Went regs (Some store)) r r' s s' o none h = (h.0, h.2)

-- an instruction that raises accesses nothing; an instruction that goes on its store, or else the load that is missed
pub raises : (a : AddressSpace) (once unloaded : Once) (reason q0 q1 : ℕ) → Raise reason q0 q1 ≡ outcome_of once → None ≡ access_by a once unloaded
raises a (Raised reason' q0' q1') unloaded reason q0 q1 is = refl
raises a (Went regs store) unloaded reason q0 q1 is = absurd cc

pub stores : (a : AddressSpace) (once unloaded : Once) (store : Access) → Some store ≡ stored_by a once → Some store ≡ access_by a once unloaded
stores a (Raised reason q0 q1) unloaded store is = absurd cc
stores a (Went regs None) unloaded store is = absurd cc
stores a (Went regs (Some s)) unloaded store is = is

pub loads : (a : AddressSpace) (once unloaded : Once) → Next ≡ outcome_of once → None ≡ stored_by a once → load_missed a unloaded ≡ access_by a once unloaded
loads a (Raised reason q0 q1) unloaded next none = absurd cc
loads a (Went regs None) unloaded next none = refl
loads a (Went regs (Some s)) unloaded next none = absurd cc

-- with its registers, what the next instruction of an execution context accesses that is there
pub there : (k : KernelState) (ec : ℕ) (x : EcState) → Some x ≡ context_at k ec →
    access_by (address_space k ec) (one x.regs (space (address_space k ec))) (one x.regs (without_loads (space (address_space k ec)))) ≡ accessed k ec
there k ec x is =
    ap (λ (y : EcState). access_by (address_space k ec) (one y.regs (space (address_space k ec))) (one y.regs (without_loads (space (address_space k ec))))) (ap context_in is)
    ∙ by_context (context_at k ec) is
  where
    by_context : (o : Option EcState) → Some x ≡ o → access_by (address_space k ec) (instruction k ec) (unloaded k ec) ≡ access_in k ec o
    by_context (Some y) is = refl
    by_context None is = absurd cc
