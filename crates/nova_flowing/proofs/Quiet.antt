-- Who is quiet is idle, but for a deadline; and who is idle is quiet.
use Rattle.std.proofs.Common.{◌≡◌, ℕ, List, [], ◌∷◌, suc, refl, ◌∙◌, inl, inr}
use Rattle.std.specs.Prelude.{◌==◌, ◌&&◌, Bool, true, false, not, map, slice_get, Some, None}
use Rattle.std.specs.List.{list_all}
use Rattle.std.proofs.lemmas.Bool.{and_from, and_parts, eq-eqb, eqb-true, false_from_ne_true, not_from_false, not-true, or_cases, or_left, or_right}
use Rattle.nova_range.specs.Rights.{allows}
use Rattle.nova_model.specs.Capabilities.{up_right}
use Rattle.nova_model.specs.Delegations.{is_memory}
use Rattle.nova_model.specs.State.{KernelState, context_at, deadline_of}
use Rattle.nova_model.specs.Times.{until_due}
use Rattle.nova_model.specs.declared.context.EcState.{EcState}
use Rattle.nova_model.specs.declared.context.State.{State}
use Rattle.nova_model.specs.declared.context.State.TheVariants.{Blocked, Dead, Parked}
use Rattle.nova_model.specs.declared.delegation.Derivation.{Derivation}
use Rattle.nova_model.specs.declared.times.Alarm.{Alarm}
use Rattle.nova_model.specs.declared.times.AlarmState.{AlarmState}
use Rattle.law_forest.proofs.Members.{IsIn, contains_from_in}
use Rattle.law_turns.proofs.TablesFit.{TablesFit}
use Rattle.law_isolation.specs.Sound.{IsSound}
use Rattle.law_integrity.specs.Confined.{Holds, IsIdle, Of}
use Rattle.law_integrity.proofs.Labels.{blocked_object}
use Rattle.law_sides.specs.Resting.{is_nothing, is_resting_in, is_unraised, is_unrung, raises}
use Rattle.law_sides.proofs.Lists.{at_of_all, of_one}
use Rattle.law_sides.proofs.Stuck.{idle_from}
use Rattle.law_sides.proofs.Roles.{obj_not}
use Rattle.nova_flowing.specs.Premises.{is_blocked}
use Rattle.nova_flowing.specs.Tests.{blocked_at, is_either, is_quiet}
use Rattle.nova_flowing.proofs.Finding.{mapped_at}
use Rattle.nova_flowing.proofs.Reflecting.{here_context, not_both, obj_is, off_if, second_is}

all_pass : {X : Type 0} (p : X → Bool) (xs : List X) → ((x : X) → IsIn xs x → p x ≡ true) → list_all p xs ≡ true
all_pass p [] h = refl
all_pass p (x ∷ xs) h = and_from (p x) (list_all p xs) (h x (inl refl)) (all_pass p xs (λ y i. h y (inr i)))

-- no alarm rings there
unrung_from : (sm : ℕ) (alarms : List AlarmState) → ((i : ℕ) (a : AlarmState) → slice_get alarms i ≡ Some a → a.alarm.sm ≡ sm → ⊥) →
    list_all (λ (a : Alarm). not (a.sm == sm)) (map (λ (a : AlarmState). a.alarm) alarms) ≡ true
unrung_from sm [] h = refl
unrung_from sm (a ∷ alarms) h =
    and_from (not (a.alarm.sm == sm)) (list_all (λ (b : Alarm). not (b.sm == sm)) (map (λ (b : AlarmState). b.alarm) alarms))
    (not_from_false (a.alarm.sm == sm) (false_from_ne_true (a.alarm.sm == sm) (λ is. h 0 a refl (eqb-true a.alarm.sm sm is)))) (unrung_from sm alarms (λ i b at. h (suc i) b at))

-- the state of what is quiet, on a processor where nothing is to come, is at rest
resting_from : (k : KernelState) (S T : ℕ → Bool) (cpu : ℕ) (s : State) → is_quiet k S T s ≡ true → (is_blocked (blocked_at s) && not (is_nothing (until_due k.times cpu))) ≡ false →
    is_resting_in k (is_either S T) cpu s ≡ true
resting_from k S T cpu Parked quiet free = refl
resting_from k S T cpu Dead quiet free = refl
resting_from k S T cpu (Blocked sm) quiet free =
    let parts = and_parts (is_unraised (is_either S T) k.delegations.list sm) (is_unrung k.times sm) quiet in
    and_from (is_unraised (is_either S T) k.delegations.list sm) (is_unrung k.times sm && is_nothing (until_due k.times cpu)) parts.0
    (and_from (is_unrung k.times sm) (is_nothing (until_due k.times cpu)) parts.1 (second_is true (is_nothing (until_due k.times cpu)) free refl))
resting_from k S T cpu other quiet free = absurd (cc)

module _ (k : KernelState) (S T : ℕ → Bool) (sound : IsSound k) where
  fits : TablesFit k
  fits = record {
    tables = sound.kept.tables;
    served = sound.kept.served;
    blocked = sound.kept.blocked;
    guests = sound.kept.guests;
    late = sound.kept.deadlines;
  }

  -- where nothing is to come
  pub idle_early : (n : ℕ) (x : EcState) → context_at k n ≡ Some x → is_quiet k S T x.state ≡ true → (is_blocked (blocked_at x.state) && not (is_nothing (until_due k.times x.cpu))) ≡ false →
      IsIdle k (Of S) (Of T) n x.state
  idle_early n x at quiet free =
      idle_from k (is_either S T) fits n x at (Of S) (Of T) (λ sm h. or_left (S h.capability.pd) (T h.capability.pd) h.of) (λ sm h. or_right (S h.capability.pd) (T h.capability.pd) h.of)
      (resting_from k S T x.cpu x.state quiet free)

  -- without a deadline
  pub idle_endless : (n : ℕ) (x : EcState) → context_at k n ≡ Some x → is_quiet k S T x.state ≡ true → deadline_of k.times n ≡ None → IsIdle k (Of S) (Of T) n x.state
  idle_endless n x at quiet endless = by_state x.state refl quiet
    where
      unraised : (U : ℕ → Bool) (sm : ℕ) → ((m : ℕ) → U m ≡ true → is_either S T m ≡ true) → is_unraised (is_either S T) k.delegations.list sm ≡ true → Holds k (Of U) up_right sm → ⊥
      unraised U sm acts_ none h =
          let d = h.capability in
          not_both (raises sm d && is_either S T d.pd)
          (and_from (raises sm d) (is_either S T d.pd)
          (and_from (not (is_memory d.kind)) ((d.target == sm) && allows d.rights up_right) (obj_not d.kind h.kind)
          (and_from (d.target == sm) (allows d.rights up_right) (eq-eqb d.target sm h.leads) h.allowed)) (acts_ d.pd h.of))
          (not-true (raises sm d && is_either S T d.pd) (of_one (λ (e : Derivation). not (raises sm e && is_either S T e.pd)) k.delegations.list d none h.there))

      unrung : (sm : ℕ) → is_unrung k.times sm ≡ true → (i : ℕ) (a : AlarmState) → slice_get k.times.alarms i ≡ Some a → a.alarm.sm ≡ sm → ⊥
      unrung sm none i a there rings =
          not_both (a.alarm.sm == sm) (eq-eqb a.alarm.sm sm rings)
          (not-true (a.alarm.sm == sm) (at_of_all (λ (b : Alarm). not (b.sm == sm)) (map (λ (b : AlarmState). b.alarm) k.times.alarms) none i a.alarm
          (mapped_at (λ (b : AlarmState). b.alarm) k.times.alarms i a there)))

      by_state : (s : State) → x.state ≡ s → is_quiet k S T s ≡ true → IsIdle k (Of S) (Of T) n s
      by_state Parked is h = tt
      by_state Dead is h = tt
      by_state (Blocked sm) is h =
          let parts = and_parts (is_unraised (is_either S T) k.delegations.list sm) (is_unrung k.times sm) h in
          record {
            there = blocked_object k n sm fits (here_context k n x at ∙ is);
            first = unraised S sm (λ m s. or_left (S m) (T m) s) parts.0;
            second = unraised T sm (λ m t. or_right (S m) (T m) t) parts.0;
            alarms = unrung sm parts.1;
            deadline = endless;
          }
      by_state other is h = absurd (cc)

-- who is idle is quiet
pub quiet_from : (k : KernelState) (S T : ℕ → Bool) (n : ℕ) (s : State) → IsIdle k (Of S) (Of T) n s → is_quiet k S T s ≡ true
quiet_from k S T n Parked idle = refl
quiet_from k S T n Dead idle = refl
quiet_from k S T n (Blocked sm) idle =
    and_from (is_unraised (is_either S T) k.delegations.list sm) (is_unrung k.times sm)
    (all_pass (λ (d : Derivation). not (raises sm d && is_either S T d.pd)) k.delegations.list (λ d i.
    not_from_false (raises sm d && is_either S T d.pd) (off_if (raises sm d) (is_either S T d.pd) (never d i))))
    (unrung_from sm k.times.alarms idle.alarms)
  where
    never : (d : Derivation) → IsIn k.delegations.list d → raises sm d ≡ true → is_either S T d.pd ≡ true → ⊥
    never d i up either =
        let parts = and_parts (not (is_memory d.kind)) ((d.target == sm) && allows d.rights up_right) up in
        let rest = and_parts (d.target == sm) (allows d.rights up_right) parts.1 in
        elim (or_cases (S d.pd) (T d.pd) either) [
          | inl s ↦ idle.first (record { capability = d; there = contains_from_in k.delegations.list d i; of = s; kind = obj_is d.kind parts.0; leads = eqb-true d.target sm rest.0; allowed = rest.1 })
          | inr t ↦ idle.second (record { capability = d; there = contains_from_in k.delegations.list d i; of = t; kind = obj_is d.kind parts.0; leads = eqb-true d.target sm rest.0; allowed = rest.1 })
        ]
quiet_from k S T n other idle = absurd idle
