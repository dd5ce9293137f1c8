-- One instruction on registers that lie beside the table of execution contexts.
use Rattle.std.proofs.Common.{◌≡◌, ℕ, refl, ap, ap₂, sym, ◌∙◌, subst}
use Rattle.std.specs.Prelude.{◌==◌, Bool, false, Option, Some, None, IsSome, option_and_then, if◌then◌else◌}
use mathlib.Core.Path.{fun_ext}
use Rattle.std.proofs.lemmas.List.{set-set}
use Rattle.rv_model.specs.Registers.{Registers}
use Rattle.rv_model.specs.Step.{Once, Raised, Went, one}
use Rattle.rv_core.specs.Steps.{Follows, space_of}
use Rattle.rv_core.specs.declared.outcome.Outcome.{Outcome}
use Rattle.rv_core.specs.declared.outcome.Outcome.TheVariants.{Raise}
use Rattle.nova_model.specs.AddressSpaces.{AddressSpace, frame_for, space}
use Rattle.nova_range.specs.Rights.{write_right}
use Rattle.nova_model.specs.Deeds.{address_space, done, instruction, stepped}
use Rattle.nova_model.specs.Inputs.{store_of, stirred}
use Rattle.nova_model.specs.State.{Contexts, KernelState, context, context_at, context_in, pd_of, with_ec}
use Rattle.nova_model.specs.declared.context.EcState.{EcState}
use Rattle.nova_model.specs.declared.deed.Deed.TheVariants.{Steps}
use Rattle.law_turns.proofs.Setting.{entry_itself}
use Rattle.nova_deeds.specs.Acts.{outcome_of}
use Rattle.nova_deeds.specs.Stirs.{frame_at, is_seen, is_stirring, risen_in, written_frame}
use Rattle.nova_deeds.proofs.Stirred.{risen_stirred}
use Rattle.nova_memory.specs.Reach.{ReachState, fetched, loaded, stored, takes}
use Rattle.nova_turn.specs.Beside.{with_regs}
use Rattle.nova_turn.proofs.Reached.{IsReached, reaching, reaching-contexts, reaching-stored, space-reached}

beside_context : (k : KernelState) (ec : ℕ) (r : Registers) → IsSome (context_at k ec) → context (with_regs k ec r) ec ≡ record (context k ec) { regs = r }
beside_context k ec r there = ap context_in (entry_itself k.contexts ec (record (context k ec) { regs = r }) there)

-- of registers that are put in twice the second stay
beside_again : (k : KernelState) (ec : ℕ) (r next : Registers) → IsSome (context_at k ec) →
    with_ec k.contexts ec (record (context k ec) { regs = next }) ≡ with_ec (with_regs k ec r).contexts ec (record (context (with_regs k ec r) ec) { regs = next })
beside_again k ec r next there =
    sym (ap (λ (x : EcState). with_ec (with_regs k ec r).contexts ec (record x { regs = next })) (beside_context k ec r there)
    ∙ set-set k.contexts ec (Some (record (context k ec) { regs = r })) (Some (record (context k ec) { regs = next })))

beside-steps : (k : KernelState) (ec : ℕ) (reach reach' : ReachState) (r r' : Registers) (outcome : Outcome) (o : Once) → IsSome (context_at k ec) → IsReached k ec reach →
    Follows stored o r reach outcome r' reach' → (outcome ≡ outcome_of o) × (with_regs (reaching k reach' k.contexts) ec r' ≡ stepped (with_regs k ec r) ec o)
beside-steps k ec reach reach' r r' outcome (Raised reason q0 q1) there is h =
    let cs : Contexts = with_ec k.contexts ec (record (context k ec) { regs = r }) in
    (h.0, ap₂ (λ (s : ReachState) (q : Registers). with_regs (reaching k s k.contexts) ec q) h.2 h.1 ∙ reaching-contexts k ec reach cs cs is refl)
beside-steps k ec reach reach' r r' outcome (Went regs None) there is h = (
  h.0,
  ap₂ (λ (s : ReachState) (q : Registers). with_regs (reaching k s k.contexts) ec q) h.2 h.1 ∙ reaching-contexts k ec reach _ _ is (beside_again k ec r regs there),
)
beside-steps k ec reach reach' r r' outcome (Went regs (Some store)) there is h = (
  h.0,
  ap₂ (λ (s : ReachState) (q : Registers). with_regs (reaching k s k.contexts) ec q) h.2 h.1 ∙ reaching-stored k ec reach store _ _ is (beside_again k ec r regs there),
)

-- one instruction over what the execution context reaches is one of the kernel's, where the registers beside are put in
pub beside-there : (k : KernelState) (ec : ℕ) (reach reach' : ReachState) (r r' : Registers) (outcome : Outcome) → IsSome (context_at k ec) → IsReached k ec reach →
    Follows stored (one r (space_of fetched loaded takes reach)) r reach outcome r' reach' →
    (outcome ≡ outcome_of (instruction (with_regs k ec r) ec)) × (with_regs (reaching k reach' k.contexts) ec r' ≡ done (with_regs k ec r) ec Steps)
beside-there k ec reach reach' r r' outcome there is h =
    beside-steps k ec reach reach' r r' outcome (instruction (with_regs k ec r) ec) there is (subst (λ (o : Once). Follows stored o r reach outcome r' reach') same h)
  where
    same : one r (space_of fetched loaded takes reach) ≡ instruction (with_regs k ec r) ec
    same = ap (λ (a : AddressSpace). one r (space a)) (space-reached k ec reach is) ∙ ap (λ (x : EcState). one x.regs (space (address_space k ec))) (sym (beside_context k ec r there))

-- the context that acts stays
pub still-entered : (reach reach' : ReachState) (r r' : Registers) (outcome : Outcome) (o : Once) → Follows stored o r reach outcome r' reach' →
    (reach'.ec ≡ reach.ec) × (reach'.pd ≡ reach.pd) × (reach'.is_thread ≡ reach.is_thread)
still-entered reach reach' r r' outcome (Raised reason q0 q1) h = (ap (λ (s : ReachState). s.ec) h.2, ap (λ (s : ReachState). s.pd) h.2, ap (λ (s : ReachState). s.is_thread) h.2)
still-entered reach reach' r r' outcome (Went regs None) h = (ap (λ (s : ReachState). s.ec) h.2, ap (λ (s : ReachState). s.pd) h.2, ap (λ (s : ReachState). s.is_thread) h.2)
still-entered reach reach' r r' outcome (Went regs (Some store)) h = (ap (λ (s : ReachState). s.ec) h.2, ap (λ (s : ReachState). s.pd) h.2, ap (λ (s : ReachState). s.is_thread) h.2)

-- a raise leaves the room
pub raised-room : (reach reach' : ReachState) (r r' : Registers) (outcome : Outcome) (o : Once) → Follows stored o r reach outcome r' reach' → (reason q0 q1 : ℕ) → outcome ≡ Raise reason q0 q1 →
    reach'.room ≡ reach.room
raised-room reach reach' r r' outcome (Raised why a b) h reason q0 q1 is = ap (λ (s : ReachState). s.room) h.2
raised-room reach reach' r r' outcome (Went regs None) h reason q0 q1 is = ap (λ (s : ReachState). s.room) h.2
raised-room reach reach' r r' outcome (Went regs (Some store)) h reason q0 q1 is = let next = h.0 in absurd (cc)

-- the frame that was stored to, where none was before
beside-wrote : (k : KernelState) (ec : ℕ) (reach reach' : ReachState) (r r' : Registers) (outcome : Outcome) (o : Once) → IsReached k ec reach → reach.written ≡ None →
    Follows stored o r reach outcome r' reach' → reach'.written ≡ option_and_then (frame_at k ec) (store_of o)
beside-wrote k ec reach reach' r r' outcome (Raised reason q0 q1) is none h = ap (λ (s : ReachState). s.written) h.2 ∙ none
beside-wrote k ec reach reach' r r' outcome (Went regs None) is none h = ap (λ (s : ReachState). s.written) h.2 ∙ none
beside-wrote k ec reach reach' r r' outcome (Went regs (Some store)) is none h =
    ap (λ (s : ReachState). s.written) h.2 ∙ ap (λ (a : AddressSpace). frame_for a write_right store.address) (space-reached k ec reach is)

pub beside-written : (k : KernelState) (ec : ℕ) (reach reach' : ReachState) (r r' : Registers) (outcome : Outcome) → IsSome (context_at k ec) → IsReached k ec reach → reach.written ≡ None →
    Follows stored (one r (space_of fetched loaded takes reach)) r reach outcome r' reach' → reach'.written ≡ written_frame (with_regs k ec r) ec
beside-written k ec reach reach' r r' outcome there is none h =
    beside-wrote k ec reach reach' r r' outcome (instruction (with_regs k ec r) ec) is none (subst (λ (o : Once). Follows stored o r reach outcome r' reach') same h)
  where
    same : one r (space_of fetched loaded takes reach) ≡ instruction (with_regs k ec r) ec
    same = ap (λ (a : AddressSpace). one r (space a)) (space-reached k ec reach is) ∙ ap (λ (x : EcState). one x.regs (space (address_space k ec))) (sym (beside_context k ec r there))

-- A STORE, AS OTHERS SEE IT

-- which domains see it doesn't depend on registers
seen_beside : (k : KernelState) (ec : ℕ) (r : Registers) (pd : ℕ) (w : Option ℕ) → is_seen k pd w ≡ is_seen (with_regs k ec r) pd w
seen_beside k ec r pd None = refl
seen_beside k ec r pd (Some frame) = refl

stirring_beside : (k : KernelState) (ec : ℕ) (r : Registers) (w : Option ℕ) (g : ℕ) → is_stirring k w ec Steps g ≡ is_stirring (with_regs k ec r) w ec Steps g
stirring_beside k ec r w g = ap (λ (b : Bool). if ec == g then false else b) (seen_beside k ec r (pd_of k g) w)

pub beside-stirred : (k mid after new : KernelState) (ec : ℕ) (r : Registers) (w : Option ℕ) → with_regs mid ec r ≡ done k ec Steps → w ≡ written_frame k ec →
    after ≡ risen_in mid (is_stirring mid w ec Steps) → new ≡ after → with_regs new ec r ≡ stirred k ec Steps (done k ec Steps)
beside-stirred k mid after new ec r w does wrote shown same =
    ap (λ (s : KernelState). with_regs s ec r) (same ∙ shown)
    ∙ (ap (λ (f : ℕ → Bool). risen_in (with_regs mid ec r) f) (fun_ext (stirring_beside mid ec r w))
    ∙ (ap (λ (s : KernelState). risen_in s (is_stirring s w ec Steps)) does ∙ risen_stirred k ec Steps w (λ _. wrote)))
