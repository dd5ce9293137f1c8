-- What would grow a revoke that runs, and how it is refused.
use Rattle.std.specs.Prelude.{◌≡◌, ◌<◌, ℕ, ◌==◌, true, false, Option, Some, None, Ok, IsOk}
use Rattle.rv_model.specs.Registers.{reg}
use Rattle.nova_calls.specs.Hypercalls.{call_of}
use Rattle.nova_calls.specs.declared.call.Call.{Call}
use Rattle.nova_calls.specs.declared.call.Call.TheVariants.{CreatePd, CreateEc, CreateSc, CreatePt, CreateSm}
use Rattle.nova_range.specs.Statuses.{status_code}
use Rattle.nova_range.specs.declared.range.Kind.TheVariants.{Obj}
use Rattle.nova_range.specs.declared.status.Status.TheVariants.{Busy}
use Rattle.nova_model.specs.Capabilities.{bind_portal_right, bind_scheduling_right, is_local, is_schedulable, named}
use Rattle.nova_model.specs.Deeds.{reason_number}
use Rattle.nova_model.specs.Delegations.{has_place, is_held_in, range_of}
use Rattle.nova_model.specs.Deliveries.{delivery, flag}
use Rattle.nova_model.specs.Hypercalls.{is_scheduled, maker}
use Rattle.nova_model.specs.Revokes.{Revocation}
use Rattle.nova_model.specs.Runs.{after}
use Rattle.nova_model.specs.State.{KernelState, context, pd_of}
use Rattle.nova_model.specs.Transfers.{child_of, job_of, next_source, overlap_base}
use Rattle.nova_model.specs.declared.delegation.Derivation.{Derivation}
use Rattle.nova_model.specs.declared.event.EventKind.TheVariants.{Answer, Skip}
use Rattle.nova_model.specs.declared.transfer.Delivery.{Delivery}
use Rattle.nova_model.specs.declared.transfer.Job.{Job}
use Rattle.nova_model.specs.declared.transfer.Reason.TheVariants as reason
use Rattle.law_turns.specs.Asked.{IsCalling}
pub use Rattle.law_forest.specs.Items.{job_at_cursor as from_cursor}
use Rattle.law_revocation.specs.Along.{HasEvent}

-- PARTS

-- the next part of its present item, which is a delegation, would make this child: that has a right, and its receiver holds none of its places
pub record WouldGive (k : KernelState) (ec : ℕ) (x : Derivation) : Type 0 where
  pub item : Delivery
  pub present : delivery k ec (context k ec).state ≡ Some item
  pub delegates : (flag item == 1) ≡ true
  pub job : Job
  pub reads : job_of item.range_word item.second_word item.delegations item.giver item.receiver ≡ Ok job
  pub source : Derivation
  pub next : next_source k.delegations.list (from_cursor k ec job) ≡ Some source
  pub child : x ≡ child_of (from_cursor k ec job) k.delegations.next source
  pub right : (x.rights.0 == 0) ≡ false
  pub free : is_held_in k.delegations.list x.pd (range_of x) ≡ false

-- the part is skipped, for the reason Busy, and nothing is made
pub record IsSkipped (k : KernelState) (cpu ec : ℕ) (x : Derivation) (part : WouldGive k ec x) : Type 0 where
  pub event : HasEvent k cpu ec Skip (reason_number reason.Busy) (overlap_base (from_cursor k ec part.job) part.source)
  pub delegations : (after k cpu).delegations ≡ k.delegations

-- CREATING CALLS

-- the selector at which a creating call makes its object
abbrev pub target_of : Call → Option ℕ
target_of (CreatePd target pd first) = Some target
target_of (CreateEc target pd cpu kind sp event) = Some target
target_of (CreateSc target pd whose quantum priority) = Some target
target_of (CreatePt target pd handler mtd ip) = Some target
target_of (CreateSm target pd count) = Some target
target_of other = None

-- its other rules hold, for a caller of this protection domain
abbrev pub ObeysRules : KernelState → ℕ → Call → Type 0
ObeysRules k domain (CreatePd target pd first) = IsOk (maker k domain target pd)
ObeysRules k domain (CreateEc target pd cpu kind sp event) = IsOk (maker k domain target pd) × (cpu < k.cpus)
ObeysRules k domain (CreateSc target pd whose quantum priority) =
    IsOk (maker k domain target pd) × ((ec : ℕ) × (named k domain is_schedulable bind_scheduling_right whose ≡ Ok ec) × (is_scheduled k ec ≡ false))
ObeysRules k domain (CreatePt target pd handler mtd ip) = IsOk (maker k domain target pd) × IsOk (named k domain is_local bind_portal_right handler)
ObeysRules k domain (CreateSm target pd count) = IsOk (maker k domain target pd)
ObeysRules k domain other = Unit {0}

-- an execution context is about to make such a call, at this selector, by its other rules
pub record WouldMake (k : KernelState) (ec target : ℕ) : Type 0 where
  pub calling : IsCalling k ec
  pub call : Call
  pub asks : call_of (context k ec).regs ≡ Ok call
  pub selector : target_of call ≡ Some target
  pub obeys : ObeysRules k (pd_of k ec) call

-- the revoke is of that domain, of an object range with the selector
pub record IsInTheWay (k : KernelState) (ec target : ℕ) (r : Revocation) : Type 0 where
  pub domain : r.pd ≡ pd_of k ec
  pub kind : r.range.kind ≡ Obj
  pub place : has_place r.range target ≡ true

-- the call, whose number is in x17, is answered BUSY, and no object and no derivation is made
pub record IsBusy (k : KernelState) (cpu ec : ℕ) : Type 0 where
  pub event : HasEvent k cpu ec Answer (reg (context k ec).regs 17) (status_code Busy)
  pub objects : (after k cpu).objects ≡ k.objects
  pub delegations : (after k cpu).delegations ≡ k.delegations
