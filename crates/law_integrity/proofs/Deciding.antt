-- Each deed is rightful, as it is decided.
use Rattle.std.proofs.Common.{◌≡◌, ℕ, refl, sym, ap, ap₂, ◌∙◌, subst}
use Rattle.std.specs.Prelude.{Bool, true, false, ◌==◌, ◌&&◌}
use Rattle.std.proofs.lemmas.Bool.{and_parts, eq-eqb, eqb-true}
use Rattle.rv_model.specs.Step.{Once, Raised, Went, environment_call}
use Rattle.nova_model.specs.Deeds.{deed, deed_in, instruction, ready, signalled, stepping}
use Rattle.nova_model.specs.Edges.{is_giving}
use Rattle.nova_model.specs.Exits.{raised_exit}
use Rattle.nova_model.specs.Forest.{IsForest}
use Rattle.nova_model.specs.State.{KernelState, context, is_thread}
use Rattle.nova_model.specs.declared.context.State.{State}
use Rattle.nova_model.specs.declared.context.State.TheVariants.{Fresh, Ready, Parked, Calling, Helping, Exiting, Sending, Granting, Replying, Revoking, Blocked, Dead}
use Rattle.law_origins.specs.Events.{AreSelectors}
use Rattle.law_integrity.specs.Rights.{Again, AtCall}
use Rattle.law_integrity.specs.Rightful.{AtStartup, OfInstruction, OfRecall}
use Rattle.law_integrity.proofs.Findings.{Found}
use Rattle.law_integrity.proofs.Rows.{call_found}
use Rattle.law_integrity.proofs.Exits.{exits_found}
use Rattle.law_integrity.proofs.Parts.{giving_found, removes_found}

ready_found : (k : KernelState) (ec : ℕ) → (context k ec).state ≡ Ready → (t : Bool) → (context k ec).recall ≡ t → Found k ec (ready k ec t)
ready_found k ec state true recall = OfRecall state recall refl refl refl
ready_found k ec state false recall = by_once (instruction k ec) refl
  where
    no_call : (reason : ℕ) → ((reason == environment_call) && is_thread k ec) ≡ false → reason ≡ environment_call → is_thread k ec ≡ true → ⊥
    no_call reason none call thread = let own : (reason == environment_call) ≡ true = eq-eqb reason environment_call call in absurd (let both : (true && true) ≡ false = ap₂ (λ (a b : Bool). a && b) (sym own) (sym thread) ∙ none in cc)

    by_signal : (reason q0 q1 : ℕ) → instruction k ec ≡ Raised reason q0 q1 → (t : Bool) → ((reason == environment_call) && is_thread k ec) ≡ t → Found k ec (signalled k ec reason q0 q1 t)
    by_signal reason q0 q1 came true is =
        let parts = and_parts (reason == environment_call) (is_thread k ec) is in
        call_found k ec
        (AtCall (record { state = state; recall = recall; thread = parts.1; q0 = q0; q1 = q1; raises = came ∙ ap (λ (r : ℕ). Raised r q0 q1) (eqb-true reason environment_call parts.0) }))
    by_signal reason q0 q1 came false is = OfInstruction state recall came (no_call reason is)

    by_once : (o : Once) → instruction k ec ≡ o → Found k ec (stepping k ec o)
    by_once (Raised reason q0 q1) came = by_signal reason q0 q1 came _ refl
    by_once (Went regs store) came = record { state = state; recall = recall; regs = regs; store = store; goes_on = came }

pub deed_found : (k : KernelState) (ec : ℕ) → IsForest k.delegations → AreSelectors k → Found k ec (deed k ec)
unfolding deed
deed_found k ec forest selectors = by_state (context k ec).state refl
  where
    by_state : (s : State) → (context k ec).state ≡ s → Found k ec (deed_in k ec s)
    by_state Fresh is = AtStartup is refl refl refl
    by_state Ready is = ready_found k ec is (context k ec).recall refl
    by_state (Exiting reason q0 q1) is = exits_found k ec reason q0 q1 forest selectors (ap raised_exit is)
    by_state Parked is = tt
    by_state Dead is = tt
    by_state (Blocked sm) is = tt
    by_state (Granting new) is = subst (λ (s : State). Found k ec (deed_in k ec s)) is (giving_found k ec (ap is_giving is))
    by_state Replying is = subst (λ (s : State). Found k ec (deed_in k ec s)) is (giving_found k ec (ap is_giving is))
    by_state (Calling handler) is = is
    by_state (Helping handler) is = call_found k ec (Again handler is)
    by_state (Revoking range own) is = removes_found k ec range own forest is _ refl
    by_state (Sending reason q0 q1 handler) is = exits_found k ec reason q0 q1 forest selectors (ap raised_exit is)
