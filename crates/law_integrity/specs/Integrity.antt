-- Integrity: whatever a turn changes, the context whose turn it is had the authority for it, by what was held in the state before the turn. Read
-- `IsAuthorised`, `IsByRight` and `IsByTime` at the end first: the state after a turn is that of a deed, which is rightful, or of what comes by
-- itself; and of each part of the state it either stays, or changes in a way that names the right.
use Rattle.std.specs.Prelude.{◌≡◌, ◌≢◌, ◌⊎◌, ℕ, ◌+◌, ◌-◌, ◌%◌, List, [], ◌∷◌, ◌++◌, Bool, Contains, IfSome, IsSome, true, false, Option, Some, None, length, slice_get, slice_index, slice_set, option_map}
use Rattle.byteorder.specs.Endian.{little_bytes}
use Rattle.rv_model.specs.Registers.{Registers, reg}
use Rattle.rv_model.specs.Step.{Store, Went}
use Rattle.nova_guest.specs.Frames.{replaced}
use Rattle.nova_guest.specs.declared.input.Input.{Input}
use Rattle.nova_guest.specs.declared.input.Input.TheVariants.{Own}
use Rattle.nova_objects.specs.declared.object.Object.{Object}
use Rattle.nova_objects.specs.declared.object.Object.TheVariants.{Sc}
use Rattle.nova_range.specs.declared.status.Status.{Status}
use Rattle.nova_range.specs.declared.status.Status.TheVariants.{Success, Timeout}
use Rattle.nova_utcb.specs.Messages.{copied, exited, has_items, stored, with_item}
use Rattle.nova_calls.specs.declared.numbers.TheConstants.{EC_CTRL, PT_CTRL}
use Rattle.nova_model.specs.Capabilities.{control_right}
use Rattle.nova_model.specs.Choice.{choose}
use Rattle.nova_model.specs.Deeds.{answered, answered_registers, deed, done, gave, instruction, recall, resumed, serving, skipped, transfer_after}
use Rattle.nova_model.specs.Delegations.{added, without}
use Rattle.nova_model.specs.Edges.{is_dead, state_in}
use Rattle.nova_model.specs.Forest.{IsWithin}
use Rattle.nova_model.specs.Guests.{input}
use Rattle.nova_model.specs.Inputs.{stirred}
use Rattle.nova_model.specs.Portals.{identifier}
use Rattle.nova_model.specs.Semaphores.{lowered, raised, semaphore, semaphore_at, without_one, woken}
use Rattle.nova_model.specs.State.{KernelState, Semaphore, budget_at, context, context_at, deadline_of, entry, message, no_transfer, no_words, pd_of, transfer, transfer_at}
use Rattle.nova_model.specs.Times.{due_on, next_moment, rung_once, ticked}
use Rattle.nova_model.specs.Turn.{Step, charged, counted, event_without, number_in, status_of, turn, what_is_due}
use Rattle.nova_model.specs.declared.context.EcState.{EcState}
use Rattle.nova_model.specs.declared.context.Mark.{Mark}
use Rattle.nova_model.specs.declared.context.Mark.TheVariants.{Call, Exit}
use Rattle.nova_model.specs.declared.context.State.{State}
use Rattle.nova_model.specs.declared.context.State.TheVariants.{Blocked, Calling, Dead, Exiting, Fresh, Granting, Helping, Parked, Replying, Revoking, Sending}
use Rattle.nova_model.specs.declared.deed.Deed.TheVariants.{Steps}
use Rattle.nova_model.specs.declared.deed.Deed.TheVariants as deeds
use Rattle.nova_model.specs.declared.event.EventKind.TheVariants.{Irq}
use Rattle.nova_model.specs.declared.delegation.Derivation.{Derivation}
use Rattle.nova_model.specs.declared.log.LogByte.{LogByte}
use Rattle.nova_model.specs.declared.times.AlarmState.{AlarmState}
use Rattle.nova_model.specs.declared.times.Deadline.{Deadline}
use Rattle.nova_model.specs.declared.times.Due.{Due}
use Rattle.nova_model.specs.declared.times.Due.TheVariants as due
use Rattle.nova_model.specs.declared.transfer.ItemEnd.{ItemEnd}
use Rattle.nova_model.specs.declared.transfer.ItemWords.{ItemWords}
use Rattle.nova_model.specs.declared.transfer.Reason.{Reason}
use Rattle.nova_model.specs.declared.transfer.Sequel.{Sequel}
use Rattle.nova_model.specs.declared.transfer.Transfer.{Transfer}
use Rattle.law_forest.specs.Made.{IsFirstCapability, MayCreate}
use Rattle.law_turns.specs.Giving.{IsShared}
use Rattle.law_turns.specs.Left.{IsGivenOf}
use Rattle.law_turns.specs.Moments.{IsDueOn}
use Rattle.law_turns.specs.Revoking.{AsksRevoke}
use Rattle.law_turns.specs.Scheduling.{IsPaidBy, IsUnpaid}
use Rattle.law_turns.specs.Stirs.{stirs_of}
use Rattle.law_turns.specs.Windows.{TellsOfItem}
use Rattle.law_turns.specs.Words.{IsAmongWords, words_at}
use Rattle.law_integrity.specs.Rightful.{IsExitLost, IsOfCall, IsOwnDeadline, RaisesExit, IsRightful, IsToldValue}
use Rattle.law_integrity.specs.Rights.{AsksDown, AsksUp, CallsAt, ExitsAt, GivesTo, HasTurn, IsAsking, IsNew, ServesCaller, MayTake, Names, HasStore, StoresTo}

-- MEMORY

-- the bytes of a frame: a store of the context that acts, whose domain reaches the frame with the right to write
pub record FrameBy (k : KernelState) (ec frame : ℕ) (old new : Option (List ℕ)) : Type 0 where
  pub store : Store
  pub bytes : List ℕ
  pub reaches : StoresTo k ec frame store
  pub before : old ≡ Some bytes
  pub after : new ≡ Some (replaced bytes (store.address % 4096) (little_bytes store.width store.value))

-- the log: such a store to the first byte of a frame that is no RAM adds a byte of that console
pub record LogBy (k : KernelState) (ec : ℕ) (old new : List LogByte) : Type 0 where
  pub store : Store
  pub frame : ℕ
  pub reaches : StoresTo k ec frame store
  pub console : slice_get k.memory.ram frame ≡ None
  pub first : store.address % 4096 ≡ 0
  pub after : new ≡ old ++ record { console = frame - length k.memory.ram; value = store.value % 256 } ∷ []

-- MESSAGE WORDS

-- of the context that acts by its own store; of the handler that it calls, or to which its exit goes, which is parked; of its caller, to which it
-- replies and which waits for that; of itself or its caller, which is told by two words what came of the present item; or of a new thread
pub data MessageBy (k : KernelState) (ec n : ℕ) (new : Option (List ℕ)) : Type 0 where
  StoresOwn : n ≡ ec → (s : Store) → HasStore k ec s → IsAmongWords k ec s → new ≡ Some (stored (message k n) (s.address % 4096) s.width s.value) → MessageBy k ec n new
  CopiesCall : CallsAt k ec n → (context k n).state ≡ Parked → new ≡ Some (copied (message k ec) (message k n)) → MessageBy k ec n new
  CopiesExit : (e : ExitsAt k ec n) → (context k n).state ≡ Parked → new ≡ Some (exited (record { 0 = e.mtd }) e.q0 e.q1 (context k ec).regs (message k n)) → MessageBy k ec n new
  CopiesReply : ServesCaller k ec n Call → (context k n).state ≡ Calling ec → new ≡ Some (copied (message k ec) (message k n)) → MessageBy k ec n new
  TellsItem : ((n ≡ ec) ⊎ ServesCaller k ec n Call) → (item : ℕ) (end : ItemEnd) (words : ItemWords) → TellsOfItem k ec item end words → words.ec ≡ n →
      new ≡ Some (with_item (message k n) item words.first words.second) → MessageBy k ec n new
  NewWords : IsNew k ec n → IfSome new (λ m. m ≡ no_words) → MessageBy k ec n new

-- EXECUTION CONTEXTS

-- a context at birth: its number, pc 0 and all registers 0 but for x2; the handler of none, and no recall; a local thread is parked, any other raises
-- its startup exit first
pub record IsBorn (n : ℕ) (x : EcState) : Type 0 where
  pub number : x.id ≡ n
  pub pc : x.regs.pc ≡ 0
  pub zero : (r : ℕ) → r ≢ 2 → reg x.regs r ≡ 0
  pub caller : x.caller ≡ None
  pub recall : x.recall ≡ false
  pub state : (x.state ≡ Parked) ⊎ (x.state ≡ Fresh)

-- a context that acts ends: no handler takes its exit, or the handler for whose reply it waits has ended
pub data EndsBy (k : KernelState) (ec : ℕ) : Type 0 where
  Lost : (reason q0 : ℕ) → IsExitLost k ec reason q0 → EndsBy k ec
  Left : (handler : ℕ) → (context k ec).state ≡ Calling handler → is_dead (state_in k.contexts handler) ≡ true → EndsBy k ec

-- a state to which a context that acts may come by itself: to wait for a handler, by a portal that it may call or to which its exit goes; to wait at
-- a semaphore by a down, to which it has the right; to give a first range to a domain that it makes; to reply to the caller that it serves, and to be
-- parked then; to an exit that it raises; to a revoke that its registers ask for; or to its end
abbrev pub MayComeTo : KernelState → ℕ → State → Type 0
MayComeTo k ec (Calling handler) = CallsAt k ec handler ⊎ ExitsAt k ec handler
MayComeTo k ec (Helping handler) = CallsAt k ec handler
MayComeTo k ec (Sending reason q0 q1 handler) = ExitsAt k ec handler
MayComeTo k ec (Blocked sm) = AsksDown k ec sm
MayComeTo k ec (Granting new) = (new ≡ Some (length k.objects)) × MayCreate k (pd_of k ec)
MayComeTo k ec Replying = (caller : ℕ) × (mark : Mark) × ServesCaller k ec caller mark
MayComeTo k ec Parked = (caller : ℕ) × (mark : Mark) × ServesCaller k ec caller mark
MayComeTo k ec (Exiting reason q0 q1) = RaisesExit k ec reason q0 q1
MayComeTo k ec Fresh = ⊥
MayComeTo k ec (Revoking range own) = AsksRevoke k ec range own
MayComeTo k ec Dead = EndsBy k ec
MayComeTo k ec other = Unit {0}

-- its registers stay; or are those that its instruction makes of them; or a call is answered: the status in x10, what it is told in x11, and pc after the call
pub data RegistersBy (k : KernelState) (ec : ℕ) (old new : Registers) : Type 0 where
  Kept : new ≡ old → RegistersBy k ec old new
  Stepped : deed k ec ≡ Steps → (store : Option Store) → instruction k ec ≡ Went new store → RegistersBy k ec old new
  Answered : (status : Status) (value : Option ℕ) → IfSome value (λ v. IsToldValue k ec (reg (context k ec).regs 17) v) → new ≡ answered_registers old status value → RegistersBy k ec old new

-- its recall stays; its own exit clears it, that of the recall; or it asks for its own, with control of itself
pub data RecallBy (k : KernelState) (ec : ℕ) (old new : Bool) (state : State) : Type 0 where
  Unasked : new ≡ old → RecallBy k ec old new state
  ByExit : new ≡ false → (q0 q1 : ℕ) → state ≡ Exiting recall q0 q1 → RecallBy k ec old new state
  AsksItself : new ≡ true → Names k ec EC_CTRL control_right ec → RecallBy k ec old new state

-- the context that acts, before and after its turn: its number and processor stay, and its caller, but where it is parked
pub record IsItself (k : KernelState) (ec : ℕ) (old new : EcState) : Type 0 where
  pub number : new.id ≡ old.id
  pub processor : new.cpu ≡ old.cpu
  pub state : (new.state ≡ old.state) ⊎ MayComeTo k ec new.state
  pub regs : RegistersBy k ec old.regs new.regs
  pub caller : (new.caller ≡ old.caller) ⊎ ((new.caller ≡ None) × (new.state ≡ Parked))
  pub recall : RecallBy k ec old.recall new.recall new.state

-- the context that acts; the handler that it calls, or to which its exit goes, which is parked and begins where its portal says; its caller, which
-- waits for its reply and goes on; a context whose recall it asks for, which it controls; the first that waits at a semaphore that it raises; or a
-- new context. `words` are the message words of the context that acts, after the turn.
pub data ContextBy (k : KernelState) (ec n : ℕ) (words : List ℕ) (old new : Option EcState) : Type 0 where
  Itself : n ≡ ec → (x y : EcState) → old ≡ Some x → new ≡ Some y → IsItself k ec x y → ContextBy k ec n words old new
  Called : (c : CallsAt k ec n) (x : EcState) → old ≡ Some x → x.state ≡ Parked →
      new ≡ Some (serving x ec Call c.ip (identifier k c.portal) (has_items (message k ec))) → ContextBy k ec n words old new
  ExitSent : (e : ExitsAt k ec n) (x : EcState) → old ≡ Some x → x.state ≡ Parked →
      new ≡ Some (serving x ec Exit e.ip (identifier k e.portal) false) → ContextBy k ec n words old new
  Resumed : (mark : Mark) → ServesCaller k ec n mark → (x : EcState) → old ≡ Some x → x.state ≡ Calling ec → new ≡ Some (resumed x mark words) → ContextBy k ec n words old new
  Recalled : Names k ec EC_CTRL control_right n → (x : EcState) → old ≡ Some x → new ≡ Some (record x { recall = true }) → ContextBy k ec n words old new
  Woken : (sm : ℕ) → AsksUp k ec sm → (rest : List ℕ) → (semaphore k.semaphores sm).waiting ≡ n ∷ rest → (x : EcState) → old ≡ Some x → x.state ≡ Blocked sm →
      new ≡ Some (answered x Success None) → ContextBy k ec n words old new
  NewContext : IsNew k ec n → IfSome new (IsBorn n) → ContextBy k ec n words old new

-- how far it is with its items: of the context that acts, which gives a part and counts it, skips one, or ends its item; or of a new context
pub data TransferBy (k : KernelState) (ec n : ℕ) (new : Option Transfer) : Type 0 where
  GivesPart : n ≡ ec → (child : Derivation) (cursor : ℕ) → deed k ec ≡ deeds.Gives child cursor → new ≡ Some (gave (transfer k ec) cursor) → TransferBy k ec n new
  SkipsPart : n ≡ ec → (reason : Reason) (place cursor : ℕ) → deed k ec ≡ deeds.Skips reason place cursor → new ≡ Some (skipped (transfer k ec) cursor) → TransferBy k ec n new
  FinishesItem : n ≡ ec → (item : ℕ) (end : ItemEnd) (words : Option ItemWords) (follows : Sequel) → deed k ec ≡ deeds.Finishes item end words follows →
      new ≡ Some (transfer_after item follows) → TransferBy k ec n new
  NewItems : IsNew k ec n → IfSome new (λ t. t ≡ no_transfer) → TransferBy k ec n new

-- OBJECTS AND DELEGATIONS

-- they stay; a new object comes, with the first capability to it, which is its maker's; a child of what the giver holds and is the first left of the
-- present item, with no target and no right more, within the item's window, to a context that takes it or waits for it; or a leaf of a revoke's scope
-- goes
pub data GrowsByRight (k new : KernelState) (ec : ℕ) : Type 0 where
  Keeps : new.objects ≡ k.objects → new.delegations ≡ k.delegations → GrowsByRight k new ec
  Creates : (object : Object) (capability : Derivation) → IsFirstCapability k ec object capability → new.objects ≡ k.objects ++ object ∷ [] →
      new.delegations ≡ added k.delegations capability → GrowsByRight k new ec
  Gives : (child source : Derivation) → Contains k.delegations.list source → child.parent ≡ Some source.id → IsWithin child source → IsShared k ec child → IsGivenOf k ec child →
      GivesTo k ec source.pd child.pd → new.objects ≡ k.objects → new.delegations ≡ added k.delegations child → GrowsByRight k new ec
  Takes : (leaf : Derivation) → MayTake k ec leaf → new.objects ≡ k.objects → new.delegations ≡ without k.delegations leaf.id → GrowsByRight k new ec

-- a portal's identifier: of a context that controls the portal, with the number in x11; or of a new portal
pub data IdentifierBy (k : KernelState) (ec n : ℕ) (new : Option ℕ) : Type 0 where
  Controls : Names k ec PT_CTRL control_right n → new ≡ Some (reg (context k ec).regs 11) → IdentifierBy k ec n new
  NewPortal : IsNew k ec n → IfSome new (λ i. i ≡ 0) → IdentifierBy k ec n new

-- a semaphore's counter and queue: of a context that has the right to an up, or to a down; or of a new semaphore
pub data SemaphoreBy (k : KernelState) (ec n : ℕ) (old new : Option Semaphore) : Type 0 where
  Ups : AsksUp k ec n → (s : Semaphore) → old ≡ Some s → new ≡ Some (raised s) → SemaphoreBy k ec n old new
  Downs : AsksDown k ec n → (s : Semaphore) → old ≡ Some s → new ≡ Some (lowered ec s) → SemaphoreBy k ec n old new
  NewSemaphore : IsNew k ec n → IfSome new (λ s. s.waiting ≡ []) → SemaphoreBy k ec n old new

-- Where a semaphore is raised: the first that waits there was blocked there, and goes on with success and without a deadline; or none waits.
pub record IsAwake (k new : KernelState) (sm n : ℕ) : Type 0 where
  pub context : EcState
  pub there : context_at k n ≡ Some context
  pub blocked : context.state ≡ Blocked sm
  pub goes_on : context_at new n ≡ Some (answered context Success None)
  pub cleared : deadline_of new.times n ≡ None

abbrev pub IsFirstAwake : KernelState → KernelState → ℕ → List ℕ → Option ℕ → Type 0
IsFirstAwake k new sm [] whom = whom ≡ None
IsFirstAwake k new sm (first ∷ rest) whom = (whom ≡ Some first) × IsAwake k new sm first

-- the semaphore is raised, and the first of its queue, if any, goes on
pub record IsRaised (k new : KernelState) (sm : ℕ) (whom : Option ℕ) : Type 0 where
  pub raises : IfSome (semaphore_at k.semaphores sm) (λ s. semaphore_at new.semaphores sm ≡ Some (raised s))
  pub first : IsFirstAwake k new sm (semaphore k.semaphores sm).waiting whom

-- a deadline: of a context that blocks itself at a semaphore to which it has the right to a down, on its processor and at the moment that its
-- registers ask for; or the first that waits at a semaphore that is raised has none any more
pub data DeadlineBy (k : KernelState) (ec n : ℕ) (new : Option Deadline) : Type 0 where
  Sets : n ≡ ec → (d : Deadline) → AsksDown k ec d.sm → IsOwnDeadline k ec d.sm d → new ≡ Some d → DeadlineBy k ec n new
  Clears : (sm : ℕ) → AsksUp k ec sm → (rest : List ℕ) → (semaphore k.semaphores sm).waiting ≡ n ∷ rest → new ≡ None → DeadlineBy k ec n new

-- the stir count of a virtual CPU: it rises where the turn is an input of it, other than its own step, and stays where it is none; or that of a new one; or there is no such virtual CPU
pub data CountBy (k : KernelState) (cpu ec n : ℕ) (old new : Option ℕ) : Type 0 where
  Stirs : (i : Input) → input k cpu n ≡ Some i → i ≢ Own → (count : ℕ) → old ≡ Some count → new ≡ Some (count + 1) → CountBy k cpu ec n old new
  Unstirred : ((i : Input) → input k cpu n ≡ Some i → i ≡ Own) → (count : ℕ) → old ≡ Some count → new ≡ Some count → CountBy k cpu ec n old new
  NewCount : IsNew k ec n → old ≡ None → IfSome new (λ c. c ≡ 0) → CountBy k cpu ec n old new
  NoCount : old ≡ None → new ≡ None → CountBy k cpu ec n old new

-- a budget that joins is that of a new scheduling context: its quantum is left, with the stamp that was next, and it has no ticks
pub record IsNewBudget (k new : KernelState) (ec n : ℕ) : Type 0 where
  pub next : IsNew k ec n
  pub donor : ℕ
  pub processor : ℕ
  pub priority : ℕ
  pub quantum : ℕ
  pub object : slice_get new.objects n ≡ Some (Sc donor processor priority quantum)
  pub budget : budget_at new n ≡ Some (record { left = quantum; stamp = k.next_stamp; ticks = 0 })

-- A TURN

-- the state after is what comes of a deed of `ec`, of the stir counts that it raises, and of the charge of `sc` with a turn of the processor. The
-- deed is that which `ec` is about to do, which is rightful and isn't to rest, and which it asks for where only a hypercall does it.
pub record IsAfterDeed (k new : KernelState) (cpu ec sc : ℕ) : Type 0 where
  pub after : new ≡ charged (stirred k ec (deed k ec) (done k ec (deed k ec))) cpu sc
  pub rightful : IsRightful k ec (deed k ec)
  pub something : deed k ec ≢ deeds.Rests
  pub asks : IsOfCall (deed k ec) → IsAsking k ec

-- the turn of a processor in which `ec` acts and `sc` pays: it does the deed of `ec`; and so each part of the state stays, or changes by right
pub record IsByRight (k new : KernelState) (cpu ec sc : ℕ) : Type 0 where
  pub does : IsAfterDeed k new cpu ec sc
  -- the caller that it serves waits for its reply
  pub serves : (caller : ℕ) (mark : Mark) → ServesCaller k ec caller mark → (context k caller).state ≡ Calling ec
  pub frames : (frame : ℕ) → (slice_get new.memory.ram frame ≡ slice_get k.memory.ram frame) ⊎ FrameBy k ec frame (slice_get k.memory.ram frame) (slice_get new.memory.ram frame)
  pub log : (new.memory.log ≡ k.memory.log) ⊎ LogBy k ec k.memory.log new.memory.log
  pub messages : (n : ℕ) → (words_at new n ≡ words_at k n) ⊎ MessageBy k ec n (words_at new n)
  pub contexts : (n : ℕ) → (context_at new n ≡ context_at k n) ⊎ ContextBy k ec n (message new ec) (context_at k n) (context_at new n)
  pub transfers : (n : ℕ) → (transfer_at new n ≡ transfer_at k n) ⊎ TransferBy k ec n (transfer_at new n)
  pub grows : GrowsByRight k new ec
  pub identifiers : (n : ℕ) → (entry (slice_get new.identifiers n) ≡ entry (slice_get k.identifiers n)) ⊎ IdentifierBy k ec n (entry (slice_get new.identifiers n))
  pub semaphores : (n : ℕ) → (semaphore_at new.semaphores n ≡ semaphore_at k.semaphores n)
      ⊎ SemaphoreBy k ec n (semaphore_at k.semaphores n) (semaphore_at new.semaphores n)
  pub raises : (sm : ℕ) (whom : Option ℕ) → deed k ec ≡ deeds.Ups sm whom → IsRaised k new sm whom
  pub deadlines : (n : ℕ) → (deadline_of new.times n ≡ deadline_of k.times n) ⊎ DeadlineBy k ec n (deadline_of new.times n)
  pub alarms : new.times.alarms ≡ k.times.alarms
  pub clocks : new.times.clocks ≡ (ticked k.times cpu).clocks
  -- budgets, ticks and stamps
  pub budgets : IsPaidBy k new cpu sc
  pub new_budgets : (n : ℕ) → budget_at k n ≡ None → (budget_at new n ≡ None) ⊎ IsNewBudget k new ec n
  pub counts : (n : ℕ) → CountBy k cpu ec n (stirs_of k n) (stirs_of new n)
  pub turns : new.turns ≡ k.turns + 1
  pub processors : new.stirs.processors ≡ slice_set k.stirs.processors cpu (slice_index k.stirs.processors cpu + 1)
  pub cpus : new.cpus ≡ k.cpus
  pub consoles : new.consoles ≡ k.consoles

-- WHAT COMES BY ITSELF

-- `what` is due, if anything. A blocked context is answered: the first that waits at the semaphore of an alarm that rings, with success; or the
-- context whose deadline it is, which set it when it came to wait at that semaphore, with a timeout.
pub data ContextByTime (k : KernelState) (what : Option Due) (n : ℕ) (old new : Option EcState) : Type 0 where
  RungAwake : (alarm : ℕ) (a : AlarmState) → what ≡ Some (due.Alarm alarm) → slice_get k.times.alarms alarm ≡ Some a → (rest : List ℕ) →
      (semaphore k.semaphores a.alarm.sm).waiting ≡ n ∷ rest → (x : EcState) → old ≡ Some x → x.state ≡ Blocked a.alarm.sm →
      new ≡ Some (answered x Success None) → ContextByTime k what n old new
  TimedOut : (d : Deadline) → what ≡ Some (due.Deadline n) → deadline_of k.times n ≡ Some d → (x : EcState) → old ≡ Some x → x.state ≡ Blocked d.sm →
      new ≡ Some (answered x Timeout None) → ContextByTime k what n old new

-- the alarm's semaphore is raised; the context that timed out leaves the queue of the deadline's
pub data SemaphoreByTime (k : KernelState) (what : Option Due) (n : ℕ) (old new : Option Semaphore) : Type 0 where
  Rung : (alarm : ℕ) (a : AlarmState) → what ≡ Some (due.Alarm alarm) → slice_get k.times.alarms alarm ≡ Some a → n ≡ a.alarm.sm → (s : Semaphore) → old ≡ Some s →
      new ≡ Some (raised s) → SemaphoreByTime k what n old new
  LeftByLate : (ec : ℕ) (d : Deadline) → what ≡ Some (due.Deadline ec) → deadline_of k.times ec ≡ Some d → n ≡ d.sm → (s : Semaphore) → old ≡ Some s →
      new ≡ Some (without_one ec s) → SemaphoreByTime k what n old new

-- the context that is answered has no deadline any more
pub data DeadlineByTime (k : KernelState) (what : Option Due) (n : ℕ) (new : Option Deadline) : Type 0 where
  ClearedAwake : (alarm : ℕ) (a : AlarmState) → what ≡ Some (due.Alarm alarm) → slice_get k.times.alarms alarm ≡ Some a → (rest : List ℕ) →
      (semaphore k.semaphores a.alarm.sm).waiting ≡ n ∷ rest → new ≡ None → DeadlineByTime k what n new
  ClearedLate : what ≡ Some (due.Deadline n) → new ≡ None → DeadlineByTime k what n new

-- the alarm that rings comes to its next moment
pub data AlarmByTime (what : Option Due) (n : ℕ) (old new : Option AlarmState) : Type 0 where
  Rings : what ≡ Some (due.Alarm n) → (a : AlarmState) → old ≡ Some a → new ≡ Some (rung_once a) → AlarmByTime what n old new

-- what is due is done: the alarm comes to its next moment and its semaphore is raised, where the event `irq` of the turn names the execution context
-- that goes on, or 0, with the status of that up; or the context that has the deadline leaves the queue and goes on without it
pub record IsRung (k new : KernelState) (cpu n : ℕ) : Type 0 where
  pub alarm : AlarmState
  pub there : slice_get k.times.alarms n ≡ Some alarm
  pub rises : slice_get new.times.alarms n ≡ Some (rung_once alarm)
  pub whom : Option ℕ
  pub raises : IsRaised k new alarm.alarm.sm whom
  pub named : option_map (λ (s : Step). s.event) (turn k cpu) ≡ Some (event_without cpu (number_in whom) Irq n (status_of (woken (semaphore k.semaphores alarm.alarm.sm))))

pub record IsLate (k new : KernelState) (ec : ℕ) : Type 0 where
  pub deadline : Deadline
  pub set : deadline_of k.times ec ≡ Some deadline
  pub context : EcState
  pub there : context_at k ec ≡ Some context
  pub blocked : context.state ≡ Blocked deadline.sm
  pub goes_on : context_at new ec ≡ Some (answered context Timeout None)
  pub leaves : IfSome (semaphore_at k.semaphores deadline.sm) (λ s. semaphore_at new.semaphores deadline.sm ≡ Some (without_one ec s))
  pub cleared : deadline_of new.times ec ≡ None

abbrev pub IsDone : KernelState → KernelState → ℕ → Option Due → Type 0
IsDone k new cpu (Some (due.Alarm n)) = IsRung k new cpu n
IsDone k new cpu (Some (due.Deadline ec)) = IsLate k new ec
IsDone k new cpu None = Unit {0}

-- the state after what is due, or after a tick
abbrev pub passed_by : KernelState → ℕ → Option Due → KernelState
passed_by k cpu (Some what) = (what_is_due k cpu what).kernel
passed_by k cpu None = counted k cpu

-- the turn of a processor in which no context acts and none pays: the state after is that of what is due; this is done, and but for the contexts that
-- wait, semaphores, times and the counts of turns all stays
pub record IsByTime (k new : KernelState) (cpu : ℕ) (what : Option Due) : Type 0 where
  pub after : new ≡ passed_by k cpu what
  pub done : IsDone k new cpu what
  pub memory : new.memory ≡ k.memory
  pub messages : new.messages ≡ k.messages
  pub contexts : (n : ℕ) → (context_at new n ≡ context_at k n) ⊎ ContextByTime k what n (context_at k n) (context_at new n)
  pub transfers : new.transfers ≡ k.transfers
  pub objects : new.objects ≡ k.objects
  pub delegations : new.delegations ≡ k.delegations
  pub identifiers : new.identifiers ≡ k.identifiers
  pub semaphores : (n : ℕ) → (semaphore_at new.semaphores n ≡ semaphore_at k.semaphores n)
      ⊎ SemaphoreByTime k what n (semaphore_at k.semaphores n) (semaphore_at new.semaphores n)
  pub deadlines : (n : ℕ) → (deadline_of new.times n ≡ deadline_of k.times n) ⊎ DeadlineByTime k what n (deadline_of new.times n)
  pub alarms : (n : ℕ) → (slice_get new.times.alarms n ≡ slice_get k.times.alarms n) ⊎ AlarmByTime what n (slice_get k.times.alarms n) (slice_get new.times.alarms n)
  pub clocks : new.times.clocks ≡ (ticked k.times cpu).clocks
  pub budgets : IsUnpaid k new
  pub counts : new.stirs.guests ≡ k.stirs.guests
  pub turns : new.turns ≡ k.turns + 1
  pub processors : new.stirs.processors ≡ slice_set k.stirs.processors cpu (slice_index k.stirs.processors cpu + 1)
  pub cpus : new.cpus ≡ k.cpus
  pub consoles : new.consoles ≡ k.consoles

-- why such a turn comes: this is due on the processor, where the alarm is one of the processor that goes on, or the deadline of one of its contexts,
-- and its moment has come; or nothing is due there and none is chosen, but something is to come
abbrev pub IsComing : KernelState → ℕ → Option Due → Type 0
IsComing k cpu (Some what) = IsDueOn k.times cpu what
IsComing k cpu None = (due_on k.times cpu ≡ None) × (choose k cpu ≡ None) × IsSome (next_moment k.times cpu)

-- What a processor's turn comes to: nothing, where nothing is due, none is chosen and nothing is to come; the rightful deed of a context that acts in
-- it; or what comes by itself, where none acts: an alarm rings, a deadline ends a wait, or the clock alone goes on.
pub data IsAuthorised (k new : KernelState) (cpu : ℕ) : Type 0 where
  Idles : choose k cpu ≡ None → next_moment k.times cpu ≡ None → new ≡ k → IsAuthorised k new cpu
  ByActor : (ec sc : ℕ) → HasTurn k cpu ec sc → IsByRight k new cpu ec sc → IsAuthorised k new cpu
  Passes : (what : Option Due) → IsComing k cpu what → IsByTime k new cpu what → IsAuthorised k new cpu
