-- A turn first chooses a deed without changing anything, then performs it.
use Rattle.std.specs.Prelude.{ℕ, ◌+◌, ◌==◌, ◌&&◌, Bool, true, false, not, if◌then◌else◌, List, slice_set, Option, Some, None}
use Rattle.nova_model.specs.Numbers.{PdId, EcId}
use Rattle.rv_model.specs.Registers.{Registers, with_reg}
use Rattle.rv_model.specs.Step.{Once, Raised, Went, Store, one, next, environment_call}
use Rattle.nova_calls.specs.declared.numbers.TheConstants.{CALL, REPLY, CREATE_PD, REVOKE, EC_CTRL, PT_CTRL, SM_CTRL}
use Rattle.nova_utcb.specs.Messages.{copied, exited, with_item, written_back}
use Rattle.nova_range.specs.declared.mtd.Mtd.{Mtd}
use Rattle.nova_range.specs.Statuses.{status_code}
use Rattle.nova_range.specs.declared.status.Status.{Status}
use Rattle.nova_range.specs.declared.status.Status.TheVariants.{Success, Aborted}
use Rattle.nova_model.specs.AddressSpaces.{AddressSpace, space, space_through, after_store, words_after_store}
use Rattle.nova_model.specs.Memory.{Memory}
use Rattle.nova_model.specs.Creation.{with_object}
use Rattle.nova_model.specs.Hypercalls.{hypercall}
use Rattle.nova_model.specs.Delegations.{added, without}
use Rattle.nova_model.specs.Deliveries.{delivery, delivers}
use Rattle.nova_model.specs.Exits.{exits}
use Rattle.nova_model.specs.Revokes.{next_leaf}
use Rattle.nova_model.specs.Semaphores.{upped, downed}
use Rattle.nova_model.specs.State.{KernelState, with_ec, context_at, context, message, with_message, own_words, pd_of, is_thread, no_transfer, transfer}
use Rattle.nova_model.specs.Times.{awaited, with_deadline}
use Rattle.nova_model.specs.declared.context.EcState.{EcState}
use Rattle.nova_model.specs.declared.context.Mark.{Mark}
use Rattle.nova_model.specs.declared.context.Mark.TheVariants as mark
use Rattle.nova_model.specs.declared.context.State.{State}
use Rattle.nova_model.specs.declared.context.State.TheVariants.{Fresh, Ready, Parked, Calling, Helping, Exiting, Sending, Granting, Replying, Revoking, Blocked, Dead}
use Rattle.nova_model.specs.declared.deed.Deed.{Deed}
use Rattle.nova_model.specs.declared.delegation.Derivation.{Derivation}
use Rattle.nova_model.specs.declared.deed.Deed.TheVariants.{Rests, Steps, Raises, Dies, Waits, Sends, Refuses, Makes, Recalls, Tells, Names, Opens, Gives, Skips, Finishes, Calls, Helps, Replies, Aborts, Revokes, Removes, Returns, Ups, Downs, Blocks}
use Rattle.nova_model.specs.declared.event.EventKind.{EventKind}
use Rattle.nova_model.specs.declared.event.EventKind.TheVariants as event
use Rattle.nova_model.specs.declared.new_object.NewObject.TheVariants as new
use Rattle.nova_model.specs.declared.transfer.ItemEnd.{ItemEnd}
use Rattle.nova_model.specs.declared.transfer.ItemEnd.TheVariants.{Given, Skipped, Translated}
use Rattle.nova_model.specs.declared.transfer.ItemWords.{ItemWords}
use Rattle.nova_model.specs.declared.transfer.Reason.{Reason}
use Rattle.nova_model.specs.declared.transfer.Reason.TheVariants as reason
use Rattle.nova_model.specs.declared.transfer.Sequel.{Sequel}
use Rattle.nova_model.specs.declared.transfer.Sequel.TheVariants as sequel
use Rattle.nova_model.specs.declared.transfer.Skip.{Skip}
use Rattle.nova_model.specs.declared.transfer.Skip.TheVariants as skip
use Rattle.nova_model.specs.declared.transfer.Transfer.{Transfer}

-- reasons of an exit that no instruction raises
abbrev pub startup : ℕ
startup = 0

abbrev pub recall : ℕ
recall = 8

-- what the addresses of an execution context lead to
abbrev pub address_space : KernelState → EcId → AddressSpace
address_space k ec = space_through k.delegations.list k.memory (pd_of k ec) (own_words k ec)

-- what its next instruction comes to
abbrev pub instruction : KernelState → EcId → Once
instruction k ec = one (context k ec).regs (space (address_space k ec))

-- DECIDING

-- ECALL of a thread is a hypercall, any other raise is an exit
abbrev pub signalled : KernelState → EcId → ℕ → ℕ → ℕ → Bool → Deed
signalled k ec reason q0 q1 true = hypercall k ec (pd_of k ec) (context k ec).regs
signalled k ec reason q0 q1 false = Raises reason q0 q1

abbrev pub stepping : KernelState → EcId → Once → Deed
stepping k ec (Raised reason q0 q1) = signalled k ec reason q0 q1 ((reason == environment_call) && is_thread k ec)
stepping k ec (Went regs store) = Steps

-- a recall comes before the next instruction
abbrev pub ready : KernelState → EcId → Bool → Deed
ready k ec true = Raises recall 0 0
ready k ec false = stepping k ec (instruction k ec)

-- the mark with which a handler keeps its caller; one without a caller has none, and reads as that of a call
abbrev pub mark_in : Option (EcId × Mark) → Mark
mark_in (Some (caller, mark)) = mark
mark_in None = mark.Call

-- a context that revokes takes the next leaf away, and returns where there is none
abbrev pub removes : Option Derivation → Deed
removes None = Returns
removes (Some leaf) = Removes leaf

-- the deed of an execution context that acts in its state. A helper makes its call again from its registers, and an exit that waits is looked up
-- again. A caller that waits for a reply acts where its handler is dead and keeps it as its caller.
abbrev pub deed_in : KernelState → EcId → State → Deed
deed_in k ec Fresh = Raises startup 0 0
deed_in k ec Ready = ready k ec (context k ec).recall
deed_in k ec (Exiting reason q0 q1) = exits k ec reason q0 q1
deed_in k ec Parked = Rests
deed_in k ec Dead = Rests
deed_in k ec (Blocked sm) = Rests
deed_in k ec (Granting new) = delivers k (transfer k ec) (delivery k ec (Granting new))
deed_in k ec Replying = delivers k (transfer k ec) (delivery k ec Replying)
deed_in k ec (Revoking range own) = removes (next_leaf (record { pd = pd_of k ec; range = range; own = own }) k.delegations)
deed_in k ec (Calling handler) = Aborts handler (mark_in (context k handler).caller)
deed_in k ec (Helping handler) = hypercall k ec (pd_of k ec) (context k ec).regs
deed_in k ec (Sending reason q0 q1 handler) = exits k ec reason q0 q1

unfoldable pub deed : KernelState → EcId → Deed
deed k ec = deed_in k ec (context k ec).state

-- DOING

-- the registers after a call: the status in x10, a value in x11, and pc after the instruction
abbrev pub with_value : Registers → Option ℕ → Registers
with_value r None = r
with_value r (Some value) = with_reg r 11 value

abbrev pub answered_registers : Registers → Status → Option ℕ → Registers
answered_registers r status value = next (with_value (with_reg r 10 (status_code status)) value)

abbrev pub answered : EcState → Status → Option ℕ → EcState
answered x status value = record x { regs = answered_registers x.regs status value; state = Ready }

-- a handler without a caller
abbrev pub parked : EcState → EcState
parked x = record x { state = Parked; caller = None }

-- what the end of an item makes of the context that gives it
abbrev pub after_item : EcState → Sequel → EcState
after_item x sequel.Item = x
after_item x sequel.Opened = answered x Success None
after_item x sequel.Taken = record x { state = Ready }
after_item x (sequel.Replied caller mark) = parked x

-- a context whose handler is dead: a call ends with ABORTED, and an exit ends the context that raised it
abbrev pub aborted : EcState → Mark → EcState
aborted x mark.Call = answered x Aborted None
aborted x mark.Exit = record x { state = Dead }

-- what a deed other than an instruction makes of the execution context itself. An exit leaves the registers, and a recall is answered by
-- its exit.
abbrev pub actor_after : EcState → Deed → EcState
actor_after x Rests = x
actor_after x Steps = x
actor_after x (Raises reason q0 q1) = record x { state = Exiting reason q0 q1; recall = x.recall && not (reason == recall) }
actor_after x (Dies reason q0) = record x { state = Dead }
actor_after x (Waits handler reason q0 q1) = record x { state = Sending reason q0 q1 handler }
actor_after x (Sends handler ip identifier mtd reason q0 q1) = record x { state = Calling handler }
actor_after x (Refuses call status) = answered x status None
actor_after x (Makes call target new) = answered x Success None
actor_after x (Recalls ec) = answered x Success None
actor_after x (Tells call value) = answered x Success (Some value)
actor_after x (Names pt identifier) = answered x Success None
actor_after x (Opens target domain) = record x { state = Granting (Some domain) }
actor_after x (Gives child cursor) = x
actor_after x (Skips reason place cursor) = x
actor_after x (Finishes item end words after) = after_item x after
actor_after x (Calls handler ip identifier items) = record x { state = Calling handler }
actor_after x (Helps handler) = record x { state = Helping handler }
actor_after x (Replies caller mark true) = record x { state = Replying }
actor_after x (Replies caller mark false) = parked x
actor_after x (Aborts handler mark) = aborted x mark
actor_after x (Revokes range own) = record x { state = Revoking range own }
actor_after x (Removes leaf) = x
actor_after x Returns = answered x Success None
actor_after x (Ups sm woken) = answered x Success None
actor_after x (Downs sm) = answered x Success None
actor_after x (Blocks sm until) = record x { state = Blocked sm }

abbrev pub with_context : KernelState → EcId → EcState → KernelState
with_context k ec x = record k { contexts = with_ec k.contexts ec x }

abbrev pub recalled : KernelState → EcId → Option EcState → KernelState
recalled k ec None = k
recalled k ec (Some x) = with_context k ec (record x { recall = true })

-- a message is copied from one execution context to another
abbrev pub passed : KernelState → EcId → EcId → KernelState
passed k from to = with_message k to (copied (message k from) (message k to))

-- a handler at the beginning of a call or an exit: where its portal says, with the portal's identifier in x10; it takes items first, where there are any
abbrev pub entered : Registers → ℕ → ℕ → Registers
entered r ip identifier = record (with_reg r 10 identifier) { pc = ip }

abbrev pub serving : EcState → EcId → Mark → ℕ → ℕ → Bool → EcState
serving x caller mark ip identifier items =
    record x { state = if items then Granting None else Ready; regs = entered x.regs ip identifier; caller = Some (caller, mark) }

abbrev pub sent : KernelState → EcId → EcId → ℕ → ℕ → Bool → KernelState
sent k caller handler ip identifier items =
    with_context (passed k caller handler) handler (serving (context k handler) caller mark.Call ip identifier items)

-- an exit is sent: its handler finds the message of the groups that the portal's descriptor names
abbrev pub exit_sent : KernelState → EcId → EcId → ℕ → ℕ → Mtd → ℕ → ℕ → KernelState
exit_sent k ec handler ip identifier mtd q0 q1 =
    with_context (with_message k handler (exited mtd q0 q1 (context k ec).regs (message k handler))) handler
    (serving (context k handler) ec mark.Exit ip identifier false)

-- what a reply with this message makes of the caller: a call ends with success; after an exit the groups that the message names are written back
abbrev pub resumed : EcState → Mark → List ℕ → EcState
resumed x mark.Call m = answered x Success None
resumed x mark.Exit m = record x { regs = written_back m x.regs; state = Ready }

-- a reply of one execution context to another completes
abbrev pub completed : KernelState → EcId → EcId → Mark → KernelState
completed k ec caller mark = with_context k caller (resumed (context k caller) mark (message k ec))

-- a reply to a call brings the caller its message, and one to an exit doesn't; without items it completes at once
abbrev pub brought : KernelState → EcId → EcId → Mark → KernelState
brought k ec caller mark.Call = passed k ec caller
brought k ec caller mark.Exit = k

abbrev pub replied_to : KernelState → EcId → EcId → Mark → Bool → KernelState
replied_to k ec caller mark true = brought k ec caller mark
replied_to k ec caller mark false = completed (brought k ec caller mark) ec caller mark

-- the words of an item that ended are written, and a reply whose last it was completes
abbrev pub told : KernelState → ℕ → Option ItemWords → KernelState
told k item None = k
told k item (Some w) = with_message k w.ec (with_item (message k w.ec) item w.first w.second)

abbrev pub followed : KernelState → EcId → Sequel → KernelState
followed k ec (sequel.Replied caller mark) = completed k ec caller mark
followed k ec other = k

-- the context that waited at a semaphore has done its call, with `status`, and has no deadline
abbrev pub ended_wait : KernelState → EcId → Status → KernelState
ended_wait k ec status = record (with_context k ec (answered (context k ec) status None)) { times = with_deadline k.times ec None }

-- a context that is woken at a semaphore has done its call with success
abbrev pub woken_in : KernelState → Option EcId → KernelState
woken_in k None = k
woken_in k (Some ec) = ended_wait k ec Success

-- what it does to the rest, where the execution context is of protection domain `domain`
abbrev pub effect_on_others : KernelState → EcId → PdId → Deed → KernelState
effect_on_others k ec domain (Makes call target new) = with_object k domain target new
effect_on_others k ec domain (Recalls whose) = recalled k whose (context_at k whose)
effect_on_others k ec domain (Names pt identifier) = record k { identifiers = slice_set k.identifiers pt (Some identifier) }
effect_on_others k ec domain (Opens target number) = with_object k domain target new.Pd
effect_on_others k ec domain (Calls handler ip identifier items) = sent k ec handler ip identifier items
effect_on_others k ec domain (Replies caller mark items) = replied_to k ec caller mark items
effect_on_others k ec domain (Sends handler ip identifier mtd reason q0 q1) = exit_sent k ec handler ip identifier mtd q0 q1
effect_on_others k ec domain (Ups sm woken) = woken_in (record k { semaphores = upped k.semaphores sm }) woken
effect_on_others k ec domain (Downs sm) = record k { semaphores = downed k.semaphores sm ec }
effect_on_others k ec domain (Blocks sm until) = record k { semaphores = downed k.semaphores sm ec; times = awaited k.times ec until }
effect_on_others k ec domain (Finishes item end words after) = followed (told k item words) ec after
effect_on_others k ec domain other = k

-- an instruction that goes on: the next registers, and at most one store
abbrev pub memory_after : AddressSpace → Option Store → Memory → Memory
memory_after a None m = m
memory_after a (Some s) m = after_store a s m

abbrev pub messages_after : AddressSpace → EcId → Option Store → List (Option (List ℕ)) → List (Option (List ℕ))
messages_after a ec None messages = messages
messages_after a ec (Some s) messages = words_after_store a ec s messages

abbrev pub stepped : KernelState → EcId → Once → KernelState
stepped k ec (Raised reason q0 q1) = k
stepped k ec (Went regs store) =
    with_context (record k {
      memory = memory_after (address_space k ec) store k.memory;
      messages = messages_after (address_space k ec) ec store k.messages;
    }) ec (record (context k ec) { regs = regs })

abbrev pub performed : KernelState → EcId → Deed → KernelState
performed k ec d = effect_on_others (with_context k ec (actor_after (context k ec) d)) ec (pd_of k ec) d

-- how far it is with its items
abbrev pub with_transfer : KernelState → EcId → Transfer → KernelState
with_transfer k ec t = record k { transfers = slice_set k.transfers ec (Some t) }

abbrev pub gave : Transfer → ℕ → Transfer
gave t cursor = record t { cursor = cursor; children = t.children + 1 }

abbrev pub skipped : Transfer → ℕ → Transfer
skipped t cursor = record t { cursor = cursor }

abbrev pub transfer_after : ℕ → Sequel → Transfer
transfer_after item sequel.Item = record no_transfer { item = item + 1 }
transfer_after item other = no_transfer

-- the state after a deed
abbrev pub done : KernelState → EcId → Deed → KernelState
done k ec Rests = k
done k ec Steps = stepped k ec (instruction k ec)
done k ec (Gives child cursor) = with_transfer (record k { delegations = added k.delegations child }) ec (gave (transfer k ec) cursor)
done k ec (Skips reason place cursor) = with_transfer k ec (skipped (transfer k ec) cursor)
done k ec (Removes leaf) = record k { delegations = without k.delegations leaf.id }
done k ec (Finishes item end words after) = with_transfer (performed k ec (Finishes item end words after)) ec (transfer_after item after)
done k ec other = performed k ec other

-- TELLING

-- why a part is skipped, or an item as a whole, and the parent of a child, as numbers
abbrev pub reason_number : Reason → ℕ
reason_number reason.Rights = 3
reason_number reason.Taken = 4
reason_number reason.Busy = 5

abbrev pub skip_number : Skip → ℕ
skip_number skip.Empty = 1
skip_number skip.Window = 2

abbrev pub parent_id : Option ℕ → ℕ
parent_id None = 0
parent_id (Some id) = id

-- a call is 0, and an exit 1
abbrev pub mark_number : Mark → ℕ
mark_number mark.Call = 0
mark_number mark.Exit = 1

-- the event of an item that ended
abbrev pub item_sign : ℕ → ItemEnd → EventKind × ℕ × ℕ
item_sign item (Given children) = (event.Ended, item, children)
item_sign item (Skipped skip) = (event.Skip, skip_number skip, item)
item_sign item (Translated word) = (event.Xlat, word, item)

-- what a deed comes to in an event: the kind, and two numbers
abbrev pub sign_of : Deed → EventKind × ℕ × ℕ
sign_of Rests = (event.Step, 0, 0)
sign_of Steps = (event.Step, 0, 0)
sign_of (Raises reason q0 q1) = (event.Raise, reason, q0)
sign_of (Dies reason q0) = (event.Died, reason, q0)
sign_of (Waits handler reason q0 q1) = (event.Help, handler, mark_number mark.Exit)
sign_of (Sends handler ip identifier mtd reason q0 q1) = (event.Sent, reason, handler)
sign_of (Refuses call status) = (event.Answer, call, status_code status)
sign_of (Makes call target new) = (event.Answer, call, status_code Success)
sign_of (Recalls ec) = (event.Answer, EC_CTRL, status_code Success)
sign_of (Tells call value) = (event.Answer, call, status_code Success)
sign_of (Names pt identifier) = (event.Answer, PT_CTRL, status_code Success)
sign_of (Opens target domain) = (event.Begin, CREATE_PD, domain)
sign_of (Gives child cursor) = (event.Made, child.id, parent_id child.parent)
sign_of (Skips reason place cursor) = (event.Skip, reason_number reason, place)
sign_of (Finishes item end words after) = item_sign item end
sign_of (Calls handler ip identifier items) = (event.Begin, CALL, handler)
sign_of (Helps handler) = (event.Help, handler, mark_number mark.Call)
sign_of (Replies caller mark true) = (event.Begin, REPLY, caller)
sign_of (Replies caller mark false) = (event.Answer, REPLY, status_code Success)
sign_of (Aborts handler mark) = (event.Abort, handler, mark_number mark)
sign_of (Revokes range own) = (event.Begin, REVOKE, range.base)
sign_of (Removes leaf) = (event.Gone, leaf.id, leaf.pd)
sign_of Returns = (event.Answer, REVOKE, status_code Success)
sign_of (Ups sm woken) = (event.Answer, SM_CTRL, status_code Success)
sign_of (Downs sm) = (event.Answer, SM_CTRL, status_code Success)
sign_of (Blocks sm until) = (event.Begin, SM_CTRL, sm)

-- memory may be wanted where an object or a derivation is made
abbrev pub is_making : Deed → Bool
is_making (Makes call target new) = true
is_making (Opens target domain) = true
is_making (Gives child cursor) = true
is_making other = false
