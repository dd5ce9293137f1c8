-- What waits for good is stuck: beside sets of domains of which none may raise its semaphore.
use Rattle.std.proofs.Common.{◌≡◌, ℕ, List, [], refl, sym, ap, ◌∙◌, subst, arith}
use Rattle.std.specs.Prelude.{◌==◌, ◌&&◌, ◌-◌, Bool, true, false, map, not, Contains, slice_get, Option, Some, None, option_map}
use Rattle.std.proofs.lemmas.Bool.{and_parts, eq-eqb}
use Rattle.std.proofs.lemmas.Option.{same_Some, slice_get-map}
use Rattle.nova_range.specs.Rights.{allows}
use Rattle.nova_model.specs.Capabilities.{up_right}
use Rattle.nova_model.specs.Delegations.{is_memory}
use Rattle.nova_model.specs.State.{KernelState, context_at, context_in, deadline_of}
use Rattle.nova_model.specs.Times.{Entry, clock, entries, next_entry, until_due}
use Rattle.nova_model.specs.declared.context.EcState.{EcState}
use Rattle.nova_model.specs.declared.context.State.{State}
use Rattle.nova_model.specs.declared.context.State.TheVariants.{Blocked, Dead, Parked}
use Rattle.nova_model.specs.declared.delegation.Derivation.{Derivation}
use Rattle.nova_model.specs.declared.times.Alarm.{Alarm}
use Rattle.nova_model.specs.declared.times.AlarmState.{AlarmState}
use Rattle.nova_model.specs.declared.times.Deadline.{Deadline}
use Rattle.nova_model.specs.declared.times.Due.TheVariants as due
use Rattle.law_turns.proofs.Moments.{has_entries, no_entry}
use Rattle.law_turns.proofs.TablesFit.{TablesFit}
use Rattle.law_integrity.specs.Confined.{Holds, IsClosed, IsIdle, IsStuck}
use Rattle.law_integrity.proofs.Labels.{blocked_object}
use Rattle.law_sides.proofs.Roles.{obj_not}
use Rattle.law_sides.specs.Resting.{is_nothing, is_resting, is_resting_in, is_unraised, is_unrung, raises, waits_for_good}
use Rattle.law_sides.proofs.Lists.{at_of_all, of_one}

not_both : (b : Bool) → b ≡ true → not b ≡ true → ⊥
not_both true is none = absurd (cc)
not_both false is none = absurd (cc)

both_true : (a b : Bool) → a ≡ true → b ≡ true → (a && b) ≡ true
both_true a b is also = rw (is, also) refl

-- of all that a set may hold to raise a semaphore, it is in the hands of a context that acts
abbrev pub RaisesByActing : KernelState → (ℕ → Bool) → (ℕ → Type 0) → Type 0
RaisesByActing k acting S = (sm : ℕ) (h : Holds k S up_right sm) → acting h.capability.pd ≡ true

-- no domain, and that is closed
abbrev pub Nowhere : ℕ → Type 0
Nowhere n = ⊥

pub nowhere_closed : (k : KernelState) → IsClosed k Nowhere
nowhere_closed k = record {
  there = λ n none. absurd none;
  capabilities = λ d has none kind. absurd none;
  edges = λ waiter handler is m. absurd m.of;
  firsts = λ ec new is m. m.of;
}

nothing_next : (k : KernelState) (cpu : ℕ) → is_nothing (until_due k.times cpu) ≡ true → next_entry k.times cpu ≡ None
nothing_next k cpu h = by_next (next_entry k.times cpu) refl h
  where
    by_next : (o : Option Entry) → next_entry k.times cpu ≡ o → is_nothing (option_map (λ (moment : ℕ). moment - clock k.times cpu) (option_map (λ (e : Entry). e.moment) o)) ≡ true → next_entry k.times cpu ≡ None
    by_next None is none = is
    by_next (Some e) is none = absurd (cc)

none_there : (e : Entry) (es : List Entry) → es ≡ [] → Contains es e → ⊥
none_there e es none has = let there : Contains [] e = subst (λ (l : List Entry). Contains l e) none has in omega (arith, there.1)

module _ (k : KernelState) (acting : ℕ → Bool) (fits : TablesFit k) (n : ℕ) (x : EcState) (at : context_at k n ≡ Some x) where
  module _ (sm : ℕ) (is : x.state ≡ Blocked sm) (good : waits_for_good k acting x.cpu sm ≡ true) where
    parts : (is_unraised acting k.delegations.list sm ≡ true) × ((is_unrung k.times sm && is_nothing (until_due k.times x.cpu)) ≡ true)
    parts = and_parts (is_unraised acting k.delegations.list sm) (is_unrung k.times sm && is_nothing (until_due k.times x.cpu)) good

    later : (is_unrung k.times sm ≡ true) × (is_nothing (until_due k.times x.cpu) ≡ true)
    later = and_parts (is_unrung k.times sm) (is_nothing (until_due k.times x.cpu)) parts.1

    unraised : (S : ℕ → Type 0) → RaisesByActing k acting S → Holds k S up_right sm → ⊥
    unraised S acts_ h =
        let d = h.capability in
        not_both (raises sm d && acting d.pd)
        (both_true (raises sm d) (acting d.pd)
        (both_true (not (is_memory d.kind)) ((d.target == sm) && allows d.rights up_right) (obj_not d.kind h.kind)
        (both_true (d.target == sm) (allows d.rights up_right) (eq-eqb d.target sm h.leads) h.allowed)) (acts_ sm h))
        (of_one (λ (e : Derivation). not (raises sm e && acting e.pd)) k.delegations.list d parts.0 h.there)

    unrung : (alarm : ℕ) (a : AlarmState) → slice_get k.times.alarms alarm ≡ Some a → a.alarm.sm ≡ sm → ⊥
    unrung alarm a there rings =
        not_both (a.alarm.sm == sm) (eq-eqb a.alarm.sm sm rings)
        (at_of_all (λ (b : Alarm). not (b.sm == sm)) (map (λ (b : AlarmState). b.alarm) k.times.alarms) later.0 alarm a.alarm
        (slice_get-map (λ (b : AlarmState). b.alarm) k.times.alarms alarm ∙ ap (option_map (λ (b : AlarmState). b.alarm)) there))

    endless : (o : Option Deadline) → deadline_of k.times n ≡ o → o ≡ None
    endless None has = refl
    endless (Some d) has =
        let its = fits.late n d has in
        let here : Some x.cpu ≡ Some d.cpu = sym (ap (option_map (λ (y : EcState). y.cpu)) at) ∙ its.processor in
        let cpu : d.cpu ≡ x.cpu = same_Some d.cpu x.cpu (sym here) in
        absurd (none_there (record { moment = d.at; what = due.Deadline n }) (entries k.times x.cpu) ((no_entry k.times x.cpu).0 (nothing_next k x.cpu later.1))
        ((has_entries k.times x.cpu).deadlines n d has cpu))

    stuck : (S T : ℕ → Type 0) → RaisesByActing k acting S → RaisesByActing k acting T → IsStuck k S T n sm
    stuck S T first second = record {
      there = blocked_object k n sm fits (ap (λ (o : Option EcState). (context_in o).state) at ∙ is);
      first = unraised S first;
      second = unraised T second;
      alarms = unrung;
      deadline = endless (deadline_of k.times n) refl;
    }

  pub idle_from : (S T : ℕ → Type 0) → RaisesByActing k acting S → RaisesByActing k acting T → is_resting k acting x ≡ true → IsIdle k S T n x.state
  idle_from S T first second rests = by_state x.state refl rests
    where
      by_state : (s : State) → x.state ≡ s → is_resting_in k acting x.cpu s ≡ true → IsIdle k S T n s
      by_state Parked is h = tt
      by_state Dead is h = tt
      by_state (Blocked sm) is h = stuck sm is h S T first second
      by_state other is h = absurd (cc)
