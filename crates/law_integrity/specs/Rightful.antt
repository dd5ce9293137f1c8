-- What a context that acts is about to do is rightful: what the deed names of others is what its domain holds, or the caller that it serves.
use Rattle.std.specs.Prelude.{◌≡◌, ◌≢◌, ◌<◌, ◌==◌, ℕ, ◌+◌, ◌%◌, ◌^◌, Bool, true, false, Contains, IfSome, Option, Some, None, Ok, Err, slice_get}
use Rattle.rv_model.specs.Registers.{Registers, reg}
use Rattle.rv_model.specs.Step.{Raised, Store, Went, environment_call}
use Rattle.nova_model.specs.Deeds.{instruction}
use Rattle.nova_calls.specs.declared.numbers.TheConstants.{EC_CTRL, LOOKUP, PT_CTRL, REPLY, REVOKE, SC_CTRL}
use Rattle.nova_objects.specs.declared.object.Object.TheVariants.{Pt}
use Rattle.nova_range.specs.declared.status.Status.{Status}
use Rattle.nova_range.specs.declared.status.Status.TheVariants.{Success}
use Rattle.nova_utcb.specs.Messages.{has_counts, has_items}
use Rattle.nova_model.specs.Calls.{admitted, exit_admitted}
use Rattle.nova_model.specs.Capabilities.{control_right, event_right, is_ec, is_pt, is_sc, is_sm}
use Rattle.nova_range.specs.RangeWords.{meaning_of, word_of}
use Rattle.nova_range.specs.Ranges.{HasPlace}
use Rattle.nova_range.specs.declared.range.Range.{Range}
use Rattle.nova_range.specs.declared.rights.Rights.{Rights}
use Rattle.nova_model.specs.Delegations.{range_of}
use Rattle.nova_model.specs.Deliveries.{delivery}
use Rattle.nova_model.specs.Exits.{raised_exit}
use Rattle.nova_model.specs.Hypercalls.{ticks_in}
use Rattle.nova_model.specs.Portals.{identifier}
use Rattle.nova_model.specs.Semaphores.{semaphore, woken}
use Rattle.nova_model.specs.State.{KernelState, budget_at, context, event_base, is_local_thread, is_thread, message, pd_of, processor_of, transfer}
use Rattle.nova_model.specs.Times.{clock}
use Rattle.nova_model.specs.Transfers.{job_of}
use Rattle.nova_model.specs.Translations.{translated}
use Rattle.nova_model.specs.declared.admit.Admit.TheVariants.{Help, Send}
use Rattle.nova_model.specs.declared.admit.ExitAdmit.{ExitAdmit}
use Rattle.nova_model.specs.declared.admit.ExitAdmit.TheVariants as exit
use Rattle.nova_model.specs.declared.context.Mark.{Mark}
use Rattle.nova_model.specs.declared.context.State.TheVariants.{Calling, Fresh, Ready}
use Rattle.nova_model.specs.declared.deed.Deed.{Deed}
use Rattle.nova_model.specs.declared.deed.Deed.TheVariants as deed
use Rattle.nova_model.specs.declared.delegation.Derivation.{Derivation}
use Rattle.nova_model.specs.declared.times.Deadline.{Deadline}
use Rattle.nova_model.specs.declared.transfer.Delivery.{Delivery}
use Rattle.nova_model.specs.declared.transfer.ItemEnd.{ItemEnd}
use Rattle.nova_model.specs.declared.transfer.Job.{Job}
use Rattle.nova_model.specs.declared.transfer.ItemEnd.TheVariants.{Given, Skipped, Translated}
use Rattle.law_forest.specs.Made.{IsGivenChild, MayCreate}
use Rattle.law_turns.specs.Asked.{HoldsAt}
use Rattle.law_turns.specs.Left.{HasGivenAll, IsFirstLeft, IsGivenOf, IsSkippedFor, IsWith}
use Rattle.law_turns.specs.Revoking.{AsksRevoke, HasRevoked}
use Rattle.law_turns.specs.Tables.{IsOf}
use Rattle.law_turns.specs.Windows.{EndsItem, TellsOfItem}
use Rattle.law_integrity.specs.Rights.{AsksDown, AsksUp, CallsAt, GivesTo, ServesCaller, MayTake, Names}

-- a call that is sent: its handler is parked, begins where the portal says, with the portal's identifier, and takes items exactly where the message counts some, which counts no more words than it has
pub record IsCall (k : KernelState) (ec handler ip number : ℕ) (items : Bool) : Type 0 where
  pub at : CallsAt k ec handler
  pub begins : ip ≡ at.ip
  pub number_is : number ≡ identifier k at.portal
  pub items_are : items ≡ has_items (message k ec)
  pub counts : has_counts (message k ec) ≡ true
  pub admits : admitted k.contexts ec handler (reg (context k ec).regs 11 == 1) ≡ Send

-- a call that helps the handler of its portal, which is busy, as its x11 asks for: 0 waits
pub record IsHelp (k : KernelState) (ec handler : ℕ) : Type 0 where
  pub at : CallsAt k ec handler
  pub counts : has_counts (message k ec) ≡ true
  pub waits : reg (context k ec).regs 11 ≡ 0
  pub admits : admitted k.contexts ec handler false ≡ Help

-- a reply of a local thread to the caller that it serves, with items exactly where its message counts some, which counts no more words than it has
pub record IsReply (k : KernelState) (ec caller : ℕ) (mark : Mark) (items : Bool) : Type 0 where
  pub serves : ServesCaller k ec caller mark
  pub local : is_local_thread k ec ≡ true
  pub number : reg (context k ec).regs 17 ≡ REPLY
  pub items_are : items ≡ has_items (message k ec)
  pub counts : has_counts (message k ec) ≡ true

-- an exit that was raised with this reason and these qualifications, at the portal that its domain holds at event base + reason with the right to send exits, whose handler, ip
-- and descriptor these are; and what comes of it there
pub record IsExitAt (k : KernelState) (ec handler ip number mtd reason q0 q1 : ℕ) (comes : ExitAdmit) : Type 0 where
  pub raised : raised_exit (context k ec).state ≡ Some (reason, q0, q1)
  pub portal : ℕ
  pub held : HoldsAt k (pd_of k ec) (event_base k ec + reason) event_right portal
  pub object : slice_get k.objects portal ≡ Some (Pt handler mtd ip)
  pub number_is : number ≡ identifier k portal
  pub admits : exit_admitted k.contexts ec handler ≡ comes

-- a context that dies of an exit: it was raised, and the handler of whatever portal its domain holds there with that right doesn't take it
pub record IsExitLost (k : KernelState) (ec reason q0 : ℕ) : Type 0 where
  pub q1 : ℕ
  pub raised : raised_exit (context k ec).state ≡ Some (reason, q0, q1)
  pub nobody : (portal handler mtd ip : ℕ) → HoldsAt k (pd_of k ec) (event_base k ec + reason) event_right portal → slice_get k.objects portal ≡ Some (Pt handler mtd ip) →
      exit_admitted k.contexts ec handler ≡ exit.Dies

-- an instruction that goes on, where no recall comes before it
pub record IsStep (k : KernelState) (ec : ℕ) : Type 0 where
  pub state : (context k ec).state ≡ Ready
  pub recall : (context k ec).recall ≡ false
  pub regs : Registers
  pub store : Option Store
  pub goes_on : instruction k ec ≡ Went regs store

-- an exit that is raised: the first of all, before any instruction; that of a recall, which comes before the next one; or that of the instruction, unless it is a thread's hypercall
pub data RaisesExit (k : KernelState) (ec reason q0 q1 : ℕ) : Type 0 where
  AtStartup : (context k ec).state ≡ Fresh → reason ≡ 0 → q0 ≡ 0 → q1 ≡ 0 → RaisesExit k ec reason q0 q1
  OfRecall : (context k ec).state ≡ Ready → (context k ec).recall ≡ true → reason ≡ 8 → q0 ≡ 0 → q1 ≡ 0 → RaisesExit k ec reason q0 q1
  OfInstruction : (context k ec).state ≡ Ready → (context k ec).recall ≡ false → instruction k ec ≡ Raised reason q0 q1 →
      (reason ≡ environment_call → is_thread k ec ≡ true → ⊥) → RaisesExit k ec reason q0 q1

-- it looks this range up, which its x10 reads as
pub record LooksUp (k : KernelState) (ec : ℕ) (range : Range) : Type 0 where
  pub number : reg (context k ec).regs 17 ≡ LOOKUP
  pub rights : Rights
  pub reads : meaning_of (reg (context k ec).regs 10) ≡ Ok (Some (range, rights))

-- a derivation of its own domain, of the kind of the range, has the first place of the range
pub record HasFirstPlace (k : KernelState) (ec : ℕ) (range : Range) (d : Derivation) : Type 0 where
  pub there : Contains k.delegations.list d
  pub holder : d.pd ≡ pd_of k ec
  pub kind : d.kind ≡ range.kind
  pub place : HasPlace (range_of d) range.base

-- a number that a call of this number is told: by a lookup 0, where no derivation of its own domain has the first place of the range, or the word of
-- that which has it; or the ticks of a scheduling context, which it controls
pub data IsToldValue (k : KernelState) (ec call value : ℕ) : Type 0 where
  OfNothing : call ≡ LOOKUP → (range : Range) → LooksUp k ec range → ((d : Derivation) → HasFirstPlace k ec range d → ⊥) → value ≡ 0 → IsToldValue k ec call value
  OfRange : call ≡ LOOKUP → (range : Range) → LooksUp k ec range → (d : Derivation) → HasFirstPlace k ec range d → value ≡ word_of (Some (range_of d, d.rights)) → IsToldValue k ec call value
  OfTicks : call ≡ SC_CTRL → (sc : ℕ) → Names k ec SC_CTRL control_right sc → IsOf k.objects is_sc sc → value ≡ ticks_in (budget_at k sc) → IsToldValue k ec call value

-- a hypercall that is refused: it is the call whose number is in x17, and isn't told that it is done
pub record IsRefusedCall (k : KernelState) (ec call : ℕ) (status : Status) : Type 0 where
  pub number : call ≡ reg (context k ec).regs 17
  pub undone : status ≢ Success

-- what becomes of an exit that is raised and not sent, and of no other: it ends the context that raised it, waits for its handler or is sent
abbrev pub IsOfExit : ℕ → ℕ → ℕ → Deed → Type 0
IsOfExit reason q0 q1 (deed.Dies its a) = (its ≡ reason) × (a ≡ q0)
IsOfExit reason q0 q1 (deed.Waits handler its a b) = (its ≡ reason) × (a ≡ q0) × (b ≡ q1)
IsOfExit reason q0 q1 (deed.Sends handler ip number mtd its a b) = (its ≡ reason) × (a ≡ q0) × (b ≡ q1)
IsOfExit reason q0 q1 other = ⊥

-- the deadline of a down that has one, which x11 asks for: at the semaphore, on the processor of the context that waits, and as many ticks after this
-- turn as its x12 says, which are not 0
pub record IsOwnDeadline (k : KernelState) (ec sm : ℕ) (d : Deadline) : Type 0 where
  pub asks : reg (context k ec).regs 11 ≡ 2
  pub semaphore : d.sm ≡ sm
  pub processor : d.cpu ≡ processor_of k ec
  pub at : d.at ≡ clock k.times (processor_of k ec) + 1 + reg (context k ec).regs 12
  pub some : 0 < reg (context k ec).regs 12

-- a down that x11 asks for waits without end, or to such a deadline
abbrev pub IsWaitLimit : KernelState → ℕ → ℕ → Option Deadline → Type 0
IsWaitLimit k ec sm None = reg (context k ec).regs 11 ≡ 1
IsWaitLimit k ec sm (Some d) = IsOwnDeadline k ec sm d

-- how the present item ends: a delegation, of which nothing is left, with the children that it made; a delegation that is skipped as a whole, for what its words read as; or a translation, with this word
abbrev pub IsEnd : KernelState → ℕ → ItemEnd → Type 0
IsEnd k ec (Given children) = (all : HasGivenAll k ec) × (children ≡ (transfer k ec).children) × (all.is_with.item.second_word % 2 ≡ 1)
IsEnd k ec (Skipped skip) =
    (item : Delivery) × (delivery k ec (context k ec).state ≡ Some item) × (job_of item.range_word item.second_word item.delegations item.giver item.receiver ≡ Err skip) × (item.second_word % 2 ≡ 1)
IsEnd k ec (Translated word) =
    (item : Delivery) × (delivery k ec (context k ec).state ≡ Some item) × (word ≡ translated k.delegations.list item.range_word item.translations item.giver item.receiver)
    × (item.second_word % 2 ≡ 0)

-- the cursor of its present item comes behind the derivation that is the first left: none that is left before it is passed over, and of what lies before the cursor nothing is given again
pub record MovesPast (k : KernelState) (ec cursor : ℕ) : Type 0 where
  pub job : Job
  pub is_with : IsWith k ec job
  pub source : Derivation
  pub first : IsFirstLeft k.delegations.list job source
  pub behind : cursor ≡ source.base + 2 ^ source.order

-- an up has no overflow; a down that is done finds the counter above 0, and a down that waits finds it 0; of a context that waits for a reply, the
-- handler keeps it as its caller, by the mark with which it came; a part of an item that is given or skipped is of the derivation that is the first
-- left, behind which the cursor comes, and a part that is skipped is so for a reason that holds; an item ends as it is, and words tell of it to the
-- context that it is for; a revoke is that which the registers ask for, and returns where nothing is left of its scope
abbrev pub IsRightful : KernelState → ℕ → Deed → Type 0
IsRightful k ec deed.Steps = IsStep k ec
IsRightful k ec (deed.Raises reason q0 q1) = RaisesExit k ec reason q0 q1
IsRightful k ec (deed.Calls handler ip number items) = IsCall k ec handler ip number items
IsRightful k ec (deed.Helps handler) = IsHelp k ec handler
IsRightful k ec (deed.Replies caller mark items) = IsReply k ec caller mark items
IsRightful k ec (deed.Sends handler ip number mtd reason q0 q1) = IsExitAt k ec handler ip number mtd.0 reason q0 q1 exit.Sends
IsRightful k ec (deed.Waits handler reason q0 q1) = (ip : ℕ) × (number : ℕ) × (mtd : ℕ) × IsExitAt k ec handler ip number mtd reason q0 q1 exit.Waits
IsRightful k ec (deed.Dies reason q0) = IsExitLost k ec reason q0
IsRightful k ec (deed.Aborts handler mark) = ((context k ec).state ≡ Calling handler) × ServesCaller k handler ec mark
IsRightful k ec (deed.Refuses call status) = IsRefusedCall k ec call status
IsRightful k ec (deed.Recalls whose) = Names k ec EC_CTRL control_right whose × IsOf k.objects is_ec whose
IsRightful k ec (deed.Names pt number) = Names k ec PT_CTRL control_right pt × IsOf k.objects is_pt pt × (number ≡ reg (context k ec).regs 11)
IsRightful k ec (deed.Tells call value) = (call ≡ reg (context k ec).regs 17) × IsToldValue k ec call value
IsRightful k ec (deed.Ups sm whom) = AsksUp k ec sm × IsOf k.objects is_sm sm × (woken (semaphore k.semaphores sm) ≡ Ok whom)
IsRightful k ec (deed.Downs sm) = AsksDown k ec sm × IsOf k.objects is_sm sm × (0 < (semaphore k.semaphores sm).count)
IsRightful k ec (deed.Blocks sm until) = AsksDown k ec sm × IsOf k.objects is_sm sm × IsWaitLimit k ec sm until × ((semaphore k.semaphores sm).count ≡ 0)
IsRightful k ec (deed.Makes call target made) = MayCreate k (pd_of k ec)
IsRightful k ec (deed.Opens target domain) = MayCreate k (pd_of k ec)
IsRightful k ec (deed.Gives child cursor) = (g : IsGivenChild k ec child) × GivesTo k ec g.source.pd child.pd × IsGivenOf k ec child × MovesPast k ec cursor
IsRightful k ec (deed.Skips reason place cursor) = IsSkippedFor k ec reason × MovesPast k ec cursor
IsRightful k ec (deed.Finishes item end words follows) = EndsItem k ec item words follows × IfSome words (TellsOfItem k ec item end) × IsEnd k ec end
IsRightful k ec (deed.Revokes range own) = (reg (context k ec).regs 17 ≡ REVOKE) × AsksRevoke k ec range own
IsRightful k ec (deed.Removes leaf) = MayTake k ec leaf
IsRightful k ec deed.Returns = HasRevoked k ec
IsRightful k ec other = Unit {0}

-- WHAT IS ASKED FOR

-- a deed that only a hypercall does
abbrev pub IsOfCall : Deed → Type 0
IsOfCall (deed.Refuses call status) = Unit {0}
IsOfCall (deed.Makes call target made) = Unit {0}
IsOfCall (deed.Recalls whose) = Unit {0}
IsOfCall (deed.Tells call value) = Unit {0}
IsOfCall (deed.Names pt number) = Unit {0}
IsOfCall (deed.Opens target domain) = Unit {0}
IsOfCall (deed.Calls handler ip number items) = Unit {0}
IsOfCall (deed.Helps handler) = Unit {0}
IsOfCall (deed.Replies caller mark items) = Unit {0}
IsOfCall (deed.Revokes range own) = Unit {0}
IsOfCall (deed.Ups sm woken) = Unit {0}
IsOfCall (deed.Downs sm) = Unit {0}
IsOfCall (deed.Blocks sm until) = Unit {0}
IsOfCall other = ⊥
