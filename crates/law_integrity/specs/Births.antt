-- Objects that are made: what a caller's registers ask for, and what the object is at birth.
use Rattle.std.specs.Prelude.{◌≡◌, ◌<◌, ◌≤◌, ℕ, ◌-◌, ◌/◌, ◌%◌, ◌^◌, [], Some, None, Ok, slice_get}
use Rattle.rv_model.specs.Registers.{Registers, reg}
use Rattle.nova_calls.specs.Hypercalls.{kind_of}
use Rattle.nova_calls.specs.declared.numbers.TheConstants.{CREATE_EC, CREATE_PD, CREATE_PT, CREATE_SC, CREATE_SM}
use Rattle.nova_objects.specs.declared.object.EcKind.{EcKind}
use Rattle.nova_objects.specs.declared.object.EcKind.TheVariants.{Local}
use Rattle.nova_objects.specs.declared.object.Object.TheVariants as object
use Rattle.nova_range.specs.RangeWords.{meaning_of}
use Rattle.nova_range.specs.declared.range.Range.{Range}
use Rattle.nova_range.specs.declared.rights.Rights.{Rights}
use Rattle.nova_model.specs.Capabilities.{bind_portal_right, create_right, is_local}
use Rattle.nova_model.specs.Revokes.{Revocation}
use Rattle.nova_model.specs.Semaphores.{semaphore_at}
use Rattle.nova_model.specs.State.{KernelState, context_at, entry}
use Rattle.nova_model.specs.declared.context.EcState.{EcState}
use Rattle.nova_model.specs.declared.context.State.TheVariants.{Fresh, Parked}
use Rattle.nova_model.specs.declared.delegation.Derivation.{Derivation}
use Rattle.nova_model.specs.declared.new_object.NewObject.{NewObject}
use Rattle.nova_model.specs.declared.new_object.NewObject.TheVariants as new
use Rattle.law_turns.specs.Asked.{AsksSchedule, HoldsAt, IsHeldAt, IsRevokedAt}
use Rattle.law_turns.specs.Tables.{IsOf}
use Rattle.law_integrity.specs.Integrity.{IsBorn}

-- registers of a caller of this domain name in x10 a selector that is free, and in no range that the domain revokes, and in x11 a protection domain, with the right to create
pub record MayMakeAt (k : KernelState) (domain : ℕ) (r : Registers) (target owner : ℕ) : Type 0 where
  pub place : target ≡ reg r 10
  pub below : target < 2 ^ 20
  pub free : (d : Derivation) → IsHeldAt k domain target d → ⊥
  pub idle : (revoke : Revocation) → IsRevokedAt k domain target revoke → ⊥
  pub creator : HoldsAt k domain (reg r 11) create_right owner
  pub opened : slice_get k.objects owner ≡ Some object.Pd

-- they ask for an execution context in that domain: x12 has its processor, which is there, in bits 0 to 7 and its kind in bits 8 to 31, x13 its x2,
-- and x14 its event base
pub record AsksContext (k : KernelState) (r : Registers) (owner pd cpu : ℕ) (kind : EcKind) (sp event : ℕ) : Type 0 where
  pub call : reg r 17 ≡ CREATE_EC
  pub domain : pd ≡ owner
  pub processor : cpu ≡ reg r 12 % 2 ^ 8
  pub there : cpu < k.cpus
  pub kind_is : kind_of (reg r 12 / 2 ^ 8) ≡ Some kind
  pub stack : sp ≡ reg r 13
  pub base : event ≡ reg r 14
  pub most : event ≤ 2 ^ 20 - 9

-- for a portal: at x12 the domain holds its handler, a local thread, with the right to bind portals; x13 is its descriptor, and x14 where its handler begins
pub record AsksPortal (k : KernelState) (domain : ℕ) (r : Registers) (ec mtd ip : ℕ) : Type 0 where
  pub call : reg r 17 ≡ CREATE_PT
  pub binder : HoldsAt k domain (reg r 12) bind_portal_right ec
  pub handler : IsOf k.objects is_local ec
  pub descriptor : mtd ≡ reg r 13
  pub groups : mtd ≤ 15
  pub begins : ip ≡ reg r 14
  pub aligned : ip % 4 ≡ 0

abbrev pub AsksFor : KernelState → ℕ → Registers → ℕ → ℕ → NewObject → Type 0
AsksFor k domain r target owner new.Pd = (reg r 17 ≡ CREATE_PD) × (meaning_of (reg r 12) ≡ Ok None)
AsksFor k domain r target owner (new.Ec pd cpu kind sp event) = AsksContext k r owner pd cpu kind sp event
AsksFor k domain r target owner (new.Sc ec cpu priority quantum) = AsksSchedule k domain r target ec cpu priority quantum
AsksFor k domain r target owner (new.Pt ec mtd ip) = AsksPortal k domain r ec mtd ip
AsksFor k domain r target owner (new.Sm count) = (reg r 17 ≡ CREATE_SM) × (count ≡ reg r 12)

-- the number of the call that makes such an object
abbrev pub call_for : NewObject → ℕ
call_for new.Pd = CREATE_PD
call_for (new.Ec pd cpu kind sp event) = CREATE_EC
call_for (new.Sc ec cpu priority quantum) = CREATE_SC
call_for (new.Pt ec mtd ip) = CREATE_PT
call_for (new.Sm count) = CREATE_SM

-- they ask for the object, and may have it made
abbrev pub Asks : KernelState → ℕ → Registers → ℕ → NewObject → Type 0
Asks k domain r target made = (owner : ℕ) × MayMakeAt k domain r target owner × AsksFor k domain r target owner made

-- they ask for a protection domain with a first range, and may have it made
abbrev pub AsksOpening : KernelState → ℕ → Registers → ℕ → Type 0
AsksOpening k domain r target =
    (owner : ℕ) × MayMakeAt k domain r target owner × (reg r 17 ≡ CREATE_PD) × ((first : Range × Rights) × (meaning_of (reg r 12) ≡ Ok (Some first)))

-- an execution context at birth, as it was asked for
pub record IsContextAs (s : KernelState) (n pd cpu : ℕ) (kind : EcKind) (sp event : ℕ) : Type 0 where
  pub object : slice_get s.objects n ≡ Some (object.Ec pd cpu kind event)
  pub state : EcState
  pub there : context_at s n ≡ Some state
  pub born : IsBorn n state
  pub processor : state.cpu ≡ cpu
  pub stack : reg state.regs 2 ≡ sp
  pub parked : kind ≡ Local → state.state ≡ Parked
  pub fresh : (kind ≡ Local → ⊥) → state.state ≡ Fresh

-- after the turn that made it the object of this number is what was asked for
abbrev pub IsAs : KernelState → ℕ → NewObject → Type 0
IsAs s n new.Pd = slice_get s.objects n ≡ Some object.Pd
IsAs s n (new.Ec pd cpu kind sp event) = IsContextAs s n pd cpu kind sp event
IsAs s n (new.Sc ec cpu priority quantum) = slice_get s.objects n ≡ Some (object.Sc ec cpu priority quantum)
IsAs s n (new.Pt ec mtd ip) = (slice_get s.objects n ≡ Some (object.Pt ec mtd ip)) × (entry (slice_get s.identifiers n) ≡ Some 0)
IsAs s n (new.Sm count) = (slice_get s.objects n ≡ Some object.Sm) × (semaphore_at s.semaphores n ≡ Some (record { count = count; waiting = [] }))
