-- What of an item is left to be given, and why a part of it is skipped, in places and rights.
use Rattle.std.specs.Prelude.{◌≡◌, ◌≤◌, ℕ, true, List, Contains, Some, Ok}
use Rattle.nova_range.specs.Ranges.{SharesPlace}
use Rattle.nova_model.specs.Delegations.{range_of}
use Rattle.nova_model.specs.Deliveries.{delivery}
use Rattle.nova_model.specs.Revokes.{Revocation, busy}
use Rattle.nova_model.specs.Running.{revoke_of}
use Rattle.nova_model.specs.State.{KernelState, context, transfer}
use Rattle.nova_model.specs.Transfers.{child_of, job_of, source_of}
use Rattle.nova_model.specs.declared.delegation.Derivation.{Derivation}
use Rattle.nova_model.specs.declared.transfer.Delivery.{Delivery}
use Rattle.nova_model.specs.declared.transfer.Job.{Job}
use Rattle.nova_model.specs.declared.transfer.Reason.{Reason}
use Rattle.nova_model.specs.declared.transfer.Reason.TheVariants as reason

-- the derivation is left to be given: it is the giver's, of the item's kind, begins at the cursor or after it, and has a place of what is given
pub record IsLeft (j : Job) (d : Derivation) : Type 0 where
  pub giver : d.pd ≡ j.giver
  pub kind : d.kind ≡ j.kind
  pub ahead : j.cursor ≤ d.base
  pub shares : SharesPlace (range_of d) (source_of j)

abbrev pub NothingIsLeft : List Derivation → Job → Type 0
NothingIsLeft list j = (d : Derivation) → Contains list d → IsLeft j d → ⊥

-- of those that are left, that of least base
pub record IsFirstLeft (list : List Derivation) (j : Job) (d : Derivation) : Type 0 where
  pub there : Contains list d
  pub left : IsLeft j d
  pub least : (other : Derivation) → Contains list other → IsLeft j other → d.base ≤ other.base

-- its present item, which reads as a delegation, from where it is with it on
pub record IsWith (k : KernelState) (ec : ℕ) (j : Job) : Type 0 where
  pub item : Delivery
  pub present : delivery k ec (context k ec).state ≡ Some item
  pub job : Job
  pub reads : job_of item.range_word item.second_word item.delegations item.giver item.receiver ≡ Ok job
  pub on : j ≡ record job { cursor = (transfer k ec).cursor }

-- nothing is left of its present item
pub record HasGivenAll (k : KernelState) (ec : ℕ) : Type 0 where
  pub job : Job
  pub is_with : IsWith k ec job
  pub nothing : NothingIsLeft k.delegations.list job

-- a child that is given is of the derivation that is the first left
pub record IsGivenOf (k : KernelState) (ec : ℕ) (child : Derivation) : Type 0 where
  pub job : Job
  pub is_with : IsWith k ec job
  pub source : Derivation
  pub first : IsFirstLeft k.delegations.list job source
  pub parent : child.parent ≡ Some source.id

-- why a child isn't made: it would have no right, or the receiver holds one of its places, or it is busy for a revoke that runs
abbrev pub HasReason : KernelState → Derivation → Reason → Type 0
HasReason k x reason.Rights = x.rights.0 ≡ 0
HasReason k x reason.Taken = (d : Derivation) × Contains k.delegations.list d × (d.pd ≡ x.pd) × (d.kind ≡ x.kind) × SharesPlace (range_of d) (range_of x)
HasReason k x reason.Busy = (runner : ℕ) × (r : Revocation) × (revoke_of k runner ≡ Some r) × (busy r k.delegations.list x ≡ true)

-- a part that is skipped is that of the derivation that is the first left, whose child isn't made for this reason
pub record IsSkippedFor (k : KernelState) (ec : ℕ) (why : Reason) : Type 0 where
  pub job : Job
  pub is_with : IsWith k ec job
  pub source : Derivation
  pub first : IsFirstLeft k.delegations.list job source
  pub because : HasReason k (child_of job k.delegations.next source) why
