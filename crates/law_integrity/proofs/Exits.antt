-- An exit that is raised: what it finds, and what becomes of it.
use Rattle.std.proofs.Common.{◌≡◌, ◌<◌, ℕ, ◌^◌, ◌+◌, refl, sym, ap, ◌∙◌, subst, arith}
use Rattle.std.specs.Prelude.{slice_get, Some, Result, Ok, Err}
use Rattle.std.proofs.lemmas.Option.{same_Some}
use Rattle.rv_model.specs.Words.{plus}
use Rattle.nova_objects.specs.declared.object.Object.TheVariants.{Pt}
use Rattle.nova_range.specs.declared.status.Status.{Status}
use Rattle.nova_model.specs.Calls.{exit_admitted}
use Rattle.nova_model.specs.Capabilities.{event_right, is_pt}
use Rattle.nova_model.specs.Deeds.{deed, deed_in}
use Rattle.nova_model.specs.Exits.{exit_at, exit_portal, exit_to, exits, raised_exit}
use Rattle.nova_model.specs.Forest.{IsForest}
use Rattle.nova_model.specs.Portals.{handler_in, handler_of, identifier, ip_of, mtd_in}
use Rattle.nova_model.specs.State.{KernelState, context, event_base, pd_of}
use Rattle.nova_model.specs.declared.admit.ExitAdmit.{ExitAdmit}
use Rattle.nova_model.specs.declared.admit.ExitAdmit.TheVariants as exit
use Rattle.nova_model.specs.declared.context.State.{State}
use Rattle.nova_model.specs.declared.context.State.TheVariants.{Exiting, Sending}
use Rattle.law_turns.specs.Asked.{HoldsAt}
use Rattle.law_turns.proofs.Holding.{named_is}
use Rattle.law_origins.specs.Events.{AreSelectors}
use Rattle.law_turns.proofs.Referring.{portal_at}
use Rattle.law_integrity.specs.Rightful.{IsExitAt, IsOfExit}
use Rattle.law_integrity.proofs.Selected.{named_by}
use Rattle.law_integrity.proofs.Findings.{Found}

same_ok : (a b : ℕ) (o : Result ℕ Status) → o ≡ Ok a → o ≡ Ok b → a ≡ b
same_ok a b o is also = cc

pub exits_found : (k : KernelState) (ec reason q0 q1 : ℕ) → IsForest k.delegations → AreSelectors k → raised_exit (context k ec).state ≡ Some (reason, q0, q1) →
    Found k ec (exits k ec reason q0 q1)
exits_found k ec reason q0 q1 forest selectors raised = by_portal (exit_portal k ec reason) refl
  where
    below : event_base k ec + reason < 2 ^ 20
    below = selectors ec reason q0 q1 raised

    same : plus (event_base k ec) reason ≡ event_base k ec + reason
    same = omega (arith, below)

    -- what such a portal is named
    its_name : (portal handler mtd ip : ℕ) → HoldsAt k (pd_of k ec) (event_base k ec + reason) event_right portal → slice_get k.objects portal ≡ Some (Pt handler mtd ip) →
        exit_portal k ec reason ≡ Ok portal
    its_name portal handler mtd ip held object =
        named_is k (pd_of k ec) is_pt event_right (plus (event_base k ec) reason) portal (Pt handler mtd ip) forest
        (subst (λ (s : ℕ). HoldsAt k (pd_of k ec) s event_right portal) (sym same) held) object refl

    at : (pt : ℕ) → exit_portal k ec reason ≡ Ok pt → (a : ExitAdmit) → exit_admitted k.contexts ec (handler_of k pt) ≡ a →
        IsExitAt k ec (handler_of k pt) (ip_of k pt) (identifier k pt) (mtd_in (slice_get k.objects pt)) reason q0 q1 a
    at pt is a admits =
        let its = named_by k (pd_of k ec) is_pt event_right (plus (event_base k ec) reason) pt is in record {
          raised = raised;
          portal = pt;
          held = subst (λ (s : ℕ). HoldsAt k (pd_of k ec) s event_right pt) same (its.holds (subst (λ (s : ℕ). s < 2 ^ 20) (sym same) below));
          object = portal_at (slice_get k.objects pt) its.object;
          number_is = refl;
          admits = admits;
        }

    by_admit : (pt : ℕ) → exit_portal k ec reason ≡ Ok pt → (a : ExitAdmit) → exit_admitted k.contexts ec (handler_of k pt) ≡ a → Found k ec (exit_to k pt reason q0 q1 a)
    by_admit pt is exit.Dies admits = record {
      q1 = q1;
      raised = raised;
      nobody = λ portal handler mtd ip held object.
          let one : pt ≡ portal = same_ok pt portal (exit_portal k ec reason) is (its_name portal handler mtd ip held object) in
          ap (λ (h : ℕ). exit_admitted k.contexts ec h) (sym (ap (handler_of k) one ∙ ap handler_in object)) ∙ admits;
    }
    by_admit pt is exit.Waits admits = (ip_of k pt, identifier k pt, mtd_in (slice_get k.objects pt), at pt is exit.Waits admits)
    by_admit pt is exit.Sends admits = at pt is exit.Sends admits

    by_portal : (o : Result ℕ Status) → exit_portal k ec reason ≡ o → Found k ec (exit_at k ec reason q0 q1 o)
    by_portal (Err status) is = record {
      q1 = q1;
      raised = raised;
      nobody = λ portal handler mtd ip held object. absurd (let both : Err status ≡ Ok portal = sym is ∙ its_name portal handler mtd ip held object in cc);
    }
    by_portal (Ok pt) is = by_admit pt is (exit_admitted k.contexts ec (handler_of k pt)) refl

-- WHAT BECOMES OF AN EXIT

exits_come : (k : KernelState) (ec reason q0 q1 : ℕ) → IsOfExit reason q0 q1 (exits k ec reason q0 q1)
exits_come k ec reason q0 q1 = by_portal (exit_portal k ec reason)
  where
    by_admit : (pt : ℕ) (a : ExitAdmit) → IsOfExit reason q0 q1 (exit_to k pt reason q0 q1 a)
    by_admit pt exit.Dies = (refl, refl)
    by_admit pt exit.Waits = (refl, refl, refl)
    by_admit pt exit.Sends = (refl, refl, refl)

    by_portal : (o : Result ℕ Status) → IsOfExit reason q0 q1 (exit_at k ec reason q0 q1 o)
    by_portal (Err status) = (refl, refl)
    by_portal (Ok pt) = by_admit pt (exit_admitted k.contexts ec (handler_of k pt))

pub exit_becomes : (k : KernelState) (ec reason q0 q1 : ℕ) → raised_exit (context k ec).state ≡ Some (reason, q0, q1) → IsOfExit reason q0 q1 (deed k ec)
unfolding deed
exit_becomes k ec reason q0 q1 raised = by_state (context k ec).state raised
  where
    by_state : (s : State) → raised_exit s ≡ Some (reason, q0, q1) → IsOfExit reason q0 q1 (deed_in k ec s)
    by_state (Exiting r a b) is = subst (λ (p : ℕ × ℕ × ℕ). IsOfExit p.0 p.1 p.2 (exits k ec r a b)) (same_Some (r, a, b) (reason, q0, q1) is) (exits_come k ec r a b)
    by_state (Sending r a b handler) is = subst (λ (p : ℕ × ℕ × ℕ). IsOfExit p.0 p.1 p.2 (exits k ec r a b)) (same_Some (r, a, b) (reason, q0, q1) is) (exits_come k ec r a b)
    by_state other is = absurd (cc)
