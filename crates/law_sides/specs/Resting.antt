-- Where all that is trusted is at rest: then the sides are apart for good, whatever turns follow.
use Rattle.std.specs.Prelude.{◌≡◌, ◌≢◌, ◌==◌, ◌&&◌, ℕ, List, [], ◌∷◌, Contains, Bool, true, false, map, not, slice_get, Option, Some, None}
use Rattle.std.specs.List.{list_all}
use Rattle.nova_objects.specs.declared.object.Object.{Object}
use Rattle.nova_objects.specs.declared.object.Object.TheVariants.{Pd, Ec}
use Rattle.nova_range.specs.Rights.{allows}
use Rattle.nova_range.specs.declared.range.Kind.TheVariants.{Obj}
use Rattle.nova_model.specs.Capabilities.{up_right}
use Rattle.nova_model.specs.Delegations.{is_memory}
use Rattle.nova_model.specs.State.{KernelState, context_at, pd_of}
use Rattle.nova_model.specs.declared.context.EcState.{EcState}
use Rattle.nova_model.specs.declared.context.State.{State}
use Rattle.nova_model.specs.declared.context.State.TheVariants.{Blocked, Dead, Parked}
use Rattle.nova_model.specs.declared.delegation.Derivation.{Derivation}
use Rattle.nova_model.specs.declared.times.Alarm.{Alarm}
use Rattle.nova_model.specs.declared.times.AlarmState.{AlarmState}
use Rattle.nova_model.specs.Runs.{after}
use Rattle.nova_model.specs.Times.{Times, until_due}
use Rattle.law_integrity.specs.Confined.{IsOwned}
use Rattle.law_integrity.specs.Trusted.{labels_after}
use Rattle.nova_ties.specs.declared.tie.Tie.{Tie}
use Rattle.law_sides.specs.Isolated.{AreIsolated}
use Rattle.law_sides.specs.Tied.{lead_of}

-- the domains that are of a side, and as a test
abbrev pub Sided : (ℕ → ℕ) → ℕ → Type 0
Sided label n = label n ≢ 0

abbrev pub is_sided : (ℕ → ℕ) → ℕ → Bool
is_sided label n = not (label n == 0)

-- WAITING FOR GOOD

-- a capability may raise the semaphore
abbrev pub raises : ℕ → Derivation → Bool
raises sm d = not (is_memory d.kind) && ((d.target == sm) && allows d.rights up_right)

-- none of these domains may, and it is no alarm's
abbrev pub is_unraised : (ℕ → Bool) → List Derivation → ℕ → Bool
is_unraised acting list sm = list_all (λ (d : Derivation). not (raises sm d && acting d.pd)) list

abbrev pub is_unrung : Times → ℕ → Bool
is_unrung t sm = list_all (λ (a : Alarm). not (a.sm == sm)) (map (λ (a : AlarmState). a.alarm) t.alarms)

-- nothing is to come: no deadline and no alarm
abbrev pub is_nothing : Option ℕ → Bool
is_nothing None = true
is_nothing (Some left) = false

-- What waits at the semaphore on the processor waits for good, where of all others these domains alone act: none of them may raise it, no alarm does, and nothing is to come on the processor, so that no deadline ends the wait.
abbrev pub waits_for_good : KernelState → (ℕ → Bool) → ℕ → ℕ → Bool
waits_for_good k acting cpu sm = is_unraised acting k.delegations.list sm && (is_unrung k.times sm && is_nothing (until_due k.times cpu))

-- it does nothing, and nothing but a call or an exit has it do something: it is parked or dead, or waits for good
abbrev pub is_resting_in : KernelState → (ℕ → Bool) → ℕ → State → Bool
is_resting_in k acting cpu Parked = true
is_resting_in k acting cpu Dead = true
is_resting_in k acting cpu (Blocked sm) = waits_for_good k acting cpu sm
is_resting_in k acting cpu other = false

abbrev pub is_resting : KernelState → (ℕ → Bool) → EcState → Bool
is_resting k acting x = is_resting_in k acting x.cpu x.state

-- AT REST

-- What has a side is a domain. No capability of a side leads to a domain, an execution context, a scheduling context or a portal of what is trusted. And each execution context of what is trusted is parked or dead,
-- or waits for good at a semaphore that no side may raise.
pub record IsAtRest (k : KernelState) (label : ℕ → ℕ) : Type 0 where
  pub domains : (n : ℕ) → label n ≢ 0 → slice_get k.objects n ≡ Some Pd
  pub capabilities : (d : Derivation) → Contains k.delegations.list d → d.kind ≡ Obj → label d.pd ≢ 0 → IsOwned k (Sided label) d.target (slice_get k.objects d.target)
  pub rest : (ec : ℕ) (x : EcState) → context_at k ec ≡ Some x → label (pd_of k ec) ≡ 0 → is_resting k (is_sided label) x ≡ true

-- AS TESTS

abbrev pub is_astray_at : ℕ → Option Object → Bool
is_astray_at label (Some Pd) = false
is_astray_at label other = not (label == 0)

abbrev pub is_astray : KernelState → ℕ × ℕ → Bool
is_astray k (n, label) = is_astray_at label (slice_get k.objects n)

abbrev pub is_leading_by : (ℕ → ℕ) → Option Tie → Bool
is_leading_by label (Some t) = not (label t.from == 0) && (label t.to == 0)
is_leading_by label None = false

abbrev pub is_leading : KernelState → (ℕ → ℕ) → Derivation → Bool
is_leading k label d = not (is_memory d.kind) && is_leading_by label (lead_of k d (slice_get k.objects d.target))

abbrev pub is_stirring_at : KernelState → (ℕ → ℕ) → ℕ → Option EcState → Bool
is_stirring_at k label pd (Some x) = (label pd == 0) && not (is_resting k (is_sided label) x)
is_stirring_at k label pd None = false

abbrev pub is_stirring : KernelState → (ℕ → ℕ) → ℕ × Object → Bool
is_stirring k label (n, Ec pd cpu kind event) = is_stirring_at k label pd (context_at k n)
is_stirring k label (n, other) = false

-- ALONG TURNS

-- after each of these turns the sides are isolated, with the labels that domains have then
abbrev pub StayIsolated : (ℕ → Bool) → (ℕ → ℕ → Bool) → KernelState → (ℕ → ℕ) → List ℕ → Type 0
StayIsolated shared flows k label [] = Unit {0}
StayIsolated shared flows k label (cpu ∷ turns) = AreIsolated shared flows (after k cpu) (labels_after k label cpu) × StayIsolated shared flows (after k cpu) (labels_after k label cpu) turns
