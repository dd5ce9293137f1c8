-- A scheduling context that is asked for, in words of capabilities.
use Rattle.std.specs.Prelude.{◌≡◌, ◌≢◌, ◌<◌, ◌≤◌, ◌+◌, ◌*◌, ◌^◌, ℕ, false, true, slice_get, Some}
use Rattle.std.specs.List.{Contains}
use Rattle.rv_model.specs.Registers.{Registers, reg}
use Rattle.rv_model.specs.Step.{Raised, environment_call}
use Rattle.nova_calls.specs.declared.numbers.TheConstants.{CREATE_SC}
use Rattle.nova_objects.specs.declared.object.EcKind.{EcKind}
use Rattle.nova_objects.specs.declared.object.EcKind.TheVariants.{Local}
use Rattle.nova_objects.specs.declared.object.Object.TheVariants.{Pd, Ec, Sc}
use Rattle.nova_range.specs.Ranges.{HasPlace}
use Rattle.nova_range.specs.declared.range.Kind.TheVariants.{Obj}
use Rattle.nova_model.specs.Capabilities.{bind_scheduling_right, create_right}
use Rattle.nova_model.specs.Delegations.{range_of}
use Rattle.nova_range.specs.Rights.{allows}
use Rattle.nova_model.specs.Deeds.{instruction}
use Rattle.nova_model.specs.Revokes.{Revocation}
use Rattle.nova_model.specs.Running.{revoke_of}
use Rattle.nova_model.specs.State.{KernelState, context, is_thread}
use Rattle.nova_model.specs.declared.context.State.TheVariants.{Ready}
use Rattle.nova_model.specs.declared.delegation.Derivation.{Derivation}

-- a capability that is there, of this protection domain, with the selector among its places
pub record IsHeldAt (k : KernelState) (domain selector : ℕ) (d : Derivation) : Type 0 where
  pub there : Contains k.delegations.list d
  pub holder : d.pd ≡ domain
  pub kind : d.kind ≡ Obj
  pub place : HasPlace (range_of d) selector

-- at this selector, one below 2^20, the domain holds a capability to the object of this number, with this right
pub record HoldsAt (k : KernelState) (domain selector right number : ℕ) : Type 0 where
  pub below : selector < 2 ^ 20
  pub capability : Derivation
  pub held : IsHeldAt k domain selector capability
  pub leads : capability.target ≡ number
  pub allowed : allows capability.rights right ≡ true

-- a revoke that an execution context of this protection domain runs, of an object range with the selector among its places
pub record IsRevokedAt (k : KernelState) (domain selector : ℕ) (r : Revocation) : Type 0 where
  pub ec : ℕ
  pub runs : revoke_of k ec ≡ Some r
  pub revoker : r.pd ≡ domain
  pub kind : r.range.kind ≡ Obj
  pub place : HasPlace r.range selector

-- registers of a caller of this domain that ask for a scheduling context at selector `target`, and may: x17 is the number of create_sc; x10 is the
-- target, which is free, and no execution context of the domain revokes an object range with it; at x11 the domain holds a protection domain with
-- the right to create; at x12 it holds the execution context, which is of the processor, no local thread and without a scheduling context, with
-- the right to bind one; and x13 has the quantum, at least 1, in bits 8 to 31 and the priority in bits 0 to 7
pub record AsksSchedule (k : KernelState) (domain : ℕ) (r : Registers) (target ec cpu priority quantum : ℕ) : Type 0 where
  pub call : reg r 17 ≡ CREATE_SC
  pub place : reg r 10 ≡ target
  pub below : target < 2 ^ 20
  pub free : (d : Derivation) → IsHeldAt k domain target d → ⊥
  pub idle : (revoke : Revocation) → IsRevokedAt k domain target revoke → ⊥
  pub owner : ℕ
  pub creator : HoldsAt k domain (reg r 11) create_right owner
  pub opened : slice_get k.objects owner ≡ Some Pd
  pub binder : HoldsAt k domain (reg r 12) bind_scheduling_right ec
  pub pd : ℕ
  pub kind : EcKind
  pub event : ℕ
  pub object : slice_get k.objects ec ≡ Some (Ec pd cpu kind event)
  pub schedulable : kind ≢ Local
  pub alone : (n its_cpu its_priority its_quantum : ℕ) → slice_get k.objects n ≢ Some (Sc ec its_cpu its_priority its_quantum)
  pub word : reg r 13 ≡ quantum * 2 ^ 8 + priority
  pub level : priority < 2 ^ 8
  pub turns : 1 ≤ quantum

-- a thread whose next instruction is a hypercall, and no recall comes before it
pub record IsCalling (k : KernelState) (caller : ℕ) : Type 0 where
  pub state : (context k caller).state ≡ Ready
  pub recall : (context k caller).recall ≡ false
  pub thread : is_thread k caller ≡ true
  pub q0 : ℕ
  pub q1 : ℕ
  pub raises : instruction k caller ≡ Raised environment_call q0 q1
