-- What only a hypercall does is done by a context that asks for it.
use Rattle.std.proofs.Common.{◌≡◌, ℕ, ap, ◌∙◌, refl}
use Rattle.std.specs.Prelude.{◌==◌, ◌&&◌, Bool, true, false, Option, Some, None, Result, Ok, Err}
use Rattle.std.proofs.lemmas.Bool.{and_parts, eqb-true}
use Rattle.rv_model.specs.Step.{Once, Raised, Went, environment_call}
use Rattle.nova_range.specs.declared.status.Status.{Status}
use Rattle.nova_model.specs.Calls.{exit_admitted}
use Rattle.nova_model.specs.Deeds.{deed, deed_in, instruction, ready, removes, signalled, stepping}
use Rattle.nova_model.specs.Deliveries.{delivers, delivery}
use Rattle.nova_model.specs.Exits.{exit_at, exit_portal, exit_to, exits}
use Rattle.nova_model.specs.Portals.{handler_of}
use Rattle.nova_model.specs.Revokes.{next_leaf}
use Rattle.nova_model.specs.State.{KernelState, context, is_thread, pd_of, transfer}
use Rattle.nova_model.specs.declared.admit.ExitAdmit.{ExitAdmit}
use Rattle.nova_model.specs.declared.admit.ExitAdmit.TheVariants as exit
use Rattle.nova_model.specs.declared.context.State.{State}
use Rattle.nova_model.specs.declared.context.State.TheVariants.{Fresh, Ready, Parked, Calling, Helping, Exiting, Sending, Granting, Replying, Revoking, Blocked, Dead}
use Rattle.nova_model.specs.declared.delegation.Derivation.{Derivation}
use Rattle.nova_model.specs.declared.transfer.Delivery.{Delivery}
use Rattle.law_forest.proofs.Walk.{delivers_holds}
use Rattle.law_integrity.specs.Rights.{Again, AtCall, IsAsking}
use Rattle.law_integrity.specs.Rightful.{IsOfCall}

ready_asks : (k : KernelState) (ec : ℕ) → (context k ec).state ≡ Ready → (t : Bool) → (context k ec).recall ≡ t → IsOfCall (ready k ec t) → IsAsking k ec
ready_asks k ec state true recall of = absurd of
ready_asks k ec state false recall of = by_once (instruction k ec) refl of
  where
    by_signal : (reason q0 q1 : ℕ) → instruction k ec ≡ Raised reason q0 q1 → (t : Bool) → ((reason == environment_call) && is_thread k ec) ≡ t → IsOfCall (signalled k ec reason q0 q1 t) → IsAsking k ec
    by_signal reason q0 q1 came true is of =
        let parts = and_parts (reason == environment_call) (is_thread k ec) is in
        AtCall (record { state = state; recall = recall; thread = parts.1; q0 = q0; q1 = q1; raises = came ∙ ap (λ (r : ℕ). Raised r q0 q1) (eqb-true reason environment_call parts.0) })
    by_signal reason q0 q1 came false is of = absurd of

    by_once : (o : Once) → instruction k ec ≡ o → IsOfCall (stepping k ec o) → IsAsking k ec
    by_once (Raised reason q0 q1) came of = by_signal reason q0 q1 came _ refl of
    by_once (Went regs store) came of = absurd of

-- an exit, an item and a revoke are none
exits_none : (k : KernelState) (ec reason q0 q1 : ℕ) → IsOfCall (exits k ec reason q0 q1) → ⊥
exits_none k ec reason q0 q1 = by_portal (exit_portal k ec reason)
  where
    by_admit : (pt : ℕ) (a : ExitAdmit) → IsOfCall (exit_to k pt reason q0 q1 a) → ⊥
    by_admit pt exit.Dies of = of
    by_admit pt exit.Waits of = of
    by_admit pt exit.Sends of = of

    by_portal : (o : Result ℕ Status) → IsOfCall (exit_at k ec reason q0 q1 o) → ⊥
    by_portal (Err status) of = of
    by_portal (Ok pt) of = by_admit pt (exit_admitted k.contexts ec (handler_of k pt)) of

items_none : (k : KernelState) (ec : ℕ) (o : Option Delivery) → delivery k ec (context k ec).state ≡ o → IsOfCall (delivers k (transfer k ec) o) → ⊥
items_none k ec o present =
    delivers_holds (λ d. IsOfCall d → ⊥) k ec o present (λ of. of)
    (record { gives = λ d x g of. of; skips = λ d reason place is of. of; finishes = λ v end answer is ends of. of })

removes_none : (o : Option Derivation) → IsOfCall (removes o) → ⊥
removes_none None of = of
removes_none (Some leaf) of = of

pub deed_asks_for : (k : KernelState) (ec : ℕ) → IsOfCall (deed k ec) → IsAsking k ec
unfolding deed
deed_asks_for k ec = by_state (context k ec).state refl
  where
    by_state : (s : State) → (context k ec).state ≡ s → IsOfCall (deed_in k ec s) → IsAsking k ec
    by_state Ready is of = ready_asks k ec is (context k ec).recall refl of
    by_state (Helping handler) is of = Again handler is
    by_state (Exiting reason q0 q1) is of = absurd (exits_none k ec reason q0 q1 of)
    by_state (Sending reason q0 q1 handler) is of = absurd (exits_none k ec reason q0 q1 of)
    by_state (Granting new) is of = absurd (items_none k ec (delivery k ec (Granting new)) (ap (delivery k ec) is) of)
    by_state Replying is of = absurd (items_none k ec (delivery k ec Replying) (ap (delivery k ec) is) of)
    by_state (Revoking range own) is of = absurd (removes_none (next_leaf (record { pd = pd_of k ec; range = range; own = own }) k.delegations) of)
    by_state Fresh is of = absurd of
    by_state Parked is of = absurd of
    by_state Dead is of = absurd of
    by_state (Blocked sm) is of = absurd of
    by_state (Calling handler) is of = absurd of
