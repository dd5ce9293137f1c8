-- Only a context that is ready, with no recall to come, does an instruction that goes on.
use Rattle.std.proofs.Common.{◌≡◌, ℕ, refl, sym, ap, ◌∙◌, subst}
use Rattle.std.specs.Prelude.{Bool, true, false, Option, Some, None, Result, Ok, Err}
use Rattle.nova_range.specs.declared.status.Status.{Status}
use Rattle.nova_model.specs.Calls.{exit_admitted}
use Rattle.nova_model.specs.Deeds.{deed, deed_in, ready, removes}
use Rattle.nova_model.specs.Deliveries.{delivers, delivery}
use Rattle.nova_model.specs.Exits.{exit_at, exit_portal, exit_to}
use Rattle.nova_model.specs.Portals.{handler_of}
use Rattle.nova_model.specs.Revokes.{next_leaf}
use Rattle.nova_model.specs.State.{KernelState, context, pd_of, transfer}
use Rattle.nova_model.specs.declared.admit.ExitAdmit.{ExitAdmit}
use Rattle.nova_model.specs.declared.admit.ExitAdmit.TheVariants as exit
use Rattle.nova_model.specs.declared.context.State.{State}
use Rattle.nova_model.specs.declared.context.State.TheVariants.{Blocked, Calling, Dead, Exiting, Fresh, Granting, Helping, Parked, Ready, Replying, Revoking, Sending}
use Rattle.nova_model.specs.declared.deed.Deed.{Deed}
use Rattle.nova_model.specs.declared.deed.Deed.TheVariants.{Steps}
use Rattle.nova_model.specs.declared.delegation.Derivation.{Derivation}
use Rattle.law_forest.proofs.Walk.{delivers_holds}
use Rattle.law_integrity.proofs.Findings.{Found}
use Rattle.law_integrity.proofs.Rows.{call_found}
use Rattle.law_integrity.specs.Rightful.{IsStep}
use Rattle.law_integrity.specs.Rights.{Again}
use Rattle.law_swaps.specs.Touches.{Executes}

abbrev IsNone : Deed → Type 0
IsNone d = d ≡ Steps → ⊥

no_exit : (k : KernelState) (ec reason q0 q1 : ℕ) (o : Result ℕ Status) → IsNone (exit_at k ec reason q0 q1 o)
no_exit k ec reason q0 q1 (Err status) = λ h. absurd (cc)
no_exit k ec reason q0 q1 (Ok pt) = by_admit (exit_admitted k.contexts ec (handler_of k pt))
  where
    by_admit : (a : ExitAdmit) → IsNone (exit_to k pt reason q0 q1 a)
    by_admit exit.Dies = λ h. absurd (cc)
    by_admit exit.Waits = λ h. absurd (cc)
    by_admit exit.Sends = λ h. absurd (cc)

no_leaf : (o : Option Derivation) → IsNone (removes o)
no_leaf None = λ h. absurd (cc)
no_leaf (Some leaf) = λ h. absurd (cc)

no_item : (k : KernelState) (ec : ℕ) (s : State) → (context k ec).state ≡ s → IsNone (delivers k (transfer k ec) (delivery k ec s))
no_item k ec s is =
    delivers_holds IsNone k ec (delivery k ec s) (ap (delivery k ec) is) (λ h. absurd (cc))
    (record { gives = λ d x g h. absurd (cc); skips = λ d reason place g h. absurd (cc); finishes = λ v end answer present ends h. absurd (cc) })

pub steps_ready : (k : KernelState) (ec : ℕ) → deed k ec ≡ Steps → Executes (context k ec)
unfolding deed
steps_ready k ec does = by_state (context k ec).state refl does
  where
    by_recall : (context k ec).state ≡ Ready → (t : Bool) → (context k ec).recall ≡ t → ready k ec t ≡ Steps → Executes (context k ec)
    by_recall is true recall h = absurd (cc)
    by_recall is false recall h = record { state = is; recall = recall }

    by_state : (s : State) → (context k ec).state ≡ s → deed_in k ec s ≡ Steps → Executes (context k ec)
    by_state Fresh is h = absurd (cc)
    by_state Ready is h = by_recall is (context k ec).recall refl h
    by_state (Exiting reason q0 q1) is h = absurd (no_exit k ec reason q0 q1 (exit_portal k ec reason) h)
    by_state Parked is h = absurd (cc)
    by_state Dead is h = absurd (cc)
    by_state (Blocked sm) is h = absurd (cc)
    by_state (Granting new) is h = absurd (no_item k ec (Granting new) is h)
    by_state Replying is h = absurd (no_item k ec Replying is h)
    by_state (Calling handler) is h = absurd (cc)
    by_state (Helping handler) is h =
        let step : IsStep k ec = subst (Found k ec) h (call_found k ec (Again handler is)) in
        absurd (let both : Helping handler ≡ Ready = sym is ∙ step.state in cc)
    by_state (Revoking range own) is h = absurd (no_leaf (next_leaf (record { pd = pd_of k ec; range = range; own = own }) k.delegations) h)
    by_state (Sending reason q0 q1 handler) is h = absurd (no_exit k ec reason q0 q1 (exit_portal k ec reason) h)
