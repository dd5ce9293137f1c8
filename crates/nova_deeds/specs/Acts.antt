-- What the parts of a turn answer and leave.
use Rattle.std.specs.Prelude.{ℕ, ◌≡◌, ◌<◌, ◌≤◌, ◌+◌, ◌^◌, ◌&&◌, Bool, true, false, not, length, Option, Some, None, Ok, IsSome, IfSome}
use Rattle.rv_core.specs.declared.outcome.Outcome.{Outcome}
use Rattle.rv_core.specs.declared.outcome.Outcome.TheVariants.{Next, Raise}
use Rattle.rv_model.specs.Step.{Once, Raised, Went}
use Rattle.nova_utcb.specs.Messages.{has_counts, has_items}
use Rattle.nova_model.specs.Calls.{admitted, exit_admitted}
use Rattle.nova_model.specs.Exits.{raised_exit}
use Rattle.nova_model.specs.Semaphores.{answer_of, semaphore, woken}
use Rattle.nova_model.specs.Edges.{caller_in}
use Rattle.nova_model.specs.State.{KernelState, context, context_at, message}
use Rattle.nova_model.specs.declared.admit.Admit.TheVariants.{Send, Help}
use Rattle.nova_model.specs.declared.context.EcState.{EcState}
use Rattle.nova_model.specs.declared.admit.ExitAdmit.TheVariants as exit
use Rattle.nova_model.specs.declared.semaphore.Down.TheVariants.{Done, Blocked}
use Rattle.nova_model.specs.declared.transfer.Delivery.{Delivery}
use Rattle.nova_model.specs.declared.transfer.ItemWords.{ItemWords}
use Rattle.nova_model.specs.declared.transfer.Sequel.{Sequel}
use Rattle.nova_model.specs.declared.transfer.Sequel.TheVariants.{Item, Replied}
use Rattle.nova_model.specs.Forest.{IsChildless}
use Rattle.nova_delegate.specs.Parts.{IsReady}
use Rattle.nova_range.specs.Ranges.{IsRange}
pub use Rattle.law_forest.specs.Made.{TakesFree}
use Rattle.nova_choice.specs.Schedules.{IsPlacedIn, is_ready}
use Rattle.nova_model.specs.declared.deed.Deed.{Deed}
use Rattle.nova_model.specs.declared.deed.Deed.TheVariants.{Steps, Waits, Sends, Makes, Recalls, Names, Opens, Gives, Finishes, Calls, Helps, Replies, Aborts, Revokes, Removes, Ups, Downs, Blocks}

-- the outcome of an instruction
abbrev pub outcome_of : Once → Outcome
outcome_of (Raised reason q0 q1) = Raise reason q0 q1
outcome_of (Went regs store) = Next

-- an instruction is next of a ready context, unless a recall is asked for
abbrev pub is_executing : EcState → Bool
is_executing x = is_ready x.state && not x.recall

-- the words of an item that ended are written to a context that is there
abbrev pub IsToldThere : KernelState → Option ItemWords → Type 0
IsToldThere k None = Unit {0}
IsToldThere k (Some w) = IsSome (context_at k w.ec)

-- a further item is such as a message may have; a reply completes to the caller that is kept
abbrev pub IsSequel : KernelState → ℕ → ℕ → Sequel → Type 0
IsSequel k ec item Item = item + 1 < 62
IsSequel k ec item (Replied caller mark) = caller_in k.contexts ec ≡ Some (caller, mark)
IsSequel k ec item other = Unit {0}

-- what an execution context gives, of which this item is present: at most 62 items, to a context that is there
pub record IsGivenBy (k : KernelState) (ec item : ℕ) (v : Delivery) : Type 0 where
  pub items : v.items ≤ 62
  pub told : IfSome v.told (λ to. IsSome (context_at k to))
  pub last : IsSequel k ec item v.last

-- what a deed names is there, a selector is one, and what it makes is of a processor that is there; a call is sent or helps as it is admitted, and
-- with a message that has its counts; a reply goes to the caller that is kept; an exit that is raised is sent or waits as it is admitted; an up and a down
-- come to what the semaphore says; what is revoked is a range; a child can be added, and a leaf has none
abbrev pub DeedFits : KernelState → ℕ → Deed → Type 0
DeedFits k ec (Makes call target new) = (target < 2 ^ 20) × IsPlacedIn k new
DeedFits k ec (Opens target domain) = (target < 2 ^ 20) × (domain ≡ length k.objects)
DeedFits k ec (Recalls whose) = whose < length k.objects
DeedFits k ec (Names pt identifier) = pt < length k.objects
DeedFits k ec (Calls handler ip identifier items) =
    (admitted k.contexts ec handler false ≡ Send) × ((has_counts (message k ec) ≡ true) × (items ≡ has_items (message k ec)))
DeedFits k ec (Helps handler) = admitted k.contexts ec handler false ≡ Help
DeedFits k ec (Replies caller mark items) = (caller_in k.contexts ec ≡ Some (caller, mark)) × (has_counts (message k ec) ≡ true)
DeedFits k ec (Waits handler reason q0 q1) = exit_admitted k.contexts ec handler ≡ exit.Waits
DeedFits k ec (Sends handler ip identifier mtd reason q0 q1) =
    (exit_admitted k.contexts ec handler ≡ exit.Sends) × (raised_exit (context k ec).state ≡ Some (reason, q0, q1))
DeedFits k ec (Revokes range own) = IsRange range
DeedFits k ec (Gives child cursor) = IsReady k.delegations child
DeedFits k ec (Removes leaf) = IsChildless k.delegations.list leaf.id
DeedFits k ec (Ups sm whom) = woken (semaphore k.semaphores sm) ≡ Ok whom
DeedFits k ec (Downs sm) = answer_of (semaphore k.semaphores sm) ≡ Done
DeedFits k ec (Blocks sm until) = answer_of (semaphore k.semaphores sm) ≡ Blocked
DeedFits k ec (Finishes item end words after) = (item < 62) × (IsToldThere k words × IsSequel k ec item after)
DeedFits k ec other = Unit {0}

-- an instruction went on
abbrev pub is_step : Deed → Bool
is_step Steps = true
is_step other = false

-- what a deed makes of its execution context is all that it does to contexts, message words and semaphores, but for a recall
abbrev pub changes_actor_only : Deed → Bool
changes_actor_only (Calls handler ip identifier items) = false
changes_actor_only (Helps handler) = false
changes_actor_only (Waits handler reason q0 q1) = false
changes_actor_only (Sends handler ip identifier mtd reason q0 q1) = false
changes_actor_only (Replies caller mark items) = false
changes_actor_only (Aborts handler mark) = false
changes_actor_only (Ups sm whom) = false
changes_actor_only (Downs sm) = false
changes_actor_only (Blocks sm until) = false
changes_actor_only (Finishes item end words after) = false
changes_actor_only other = true

-- a deed fits, and is to be done: it is no instruction that went on
abbrev pub IsToBeDone : KernelState → ℕ → Deed → Type 0
IsToBeDone k ec d = DeedFits k ec d × (is_step d ≡ false)
