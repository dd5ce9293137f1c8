-- What a deed does, as one value: the object that it makes, what becomes of delegations, edits of execution contexts one after another, the message words, the
-- place in items, the identifier and the semaphore that it sets, and its store. And the state after it, field by field.
use Rattle.std.specs.Prelude.{ℕ, ◌%◌, ◌==◌, ◌&&◌, Bool, true, false, not, List, [], ◌∷◌, ◌++◌, length, slice_get, slice_set, Option, Some, None, option_map, Result}
use Rattle.rv_model.specs.Registers.{Registers}
use Rattle.rv_model.specs.Step.{Once, Raised, Went, Store}
use Rattle.nova_range.specs.declared.status.Status.{Status}
use Rattle.nova_range.specs.declared.status.Status.TheVariants.{Success, Aborted, Timeout}
use Rattle.nova_utcb.specs.Messages.{copied, exited, stored, with_item}
use Rattle.nova_model.specs.AddressSpaces.{AddressSpace, after_store, words_at}
use Rattle.nova_model.specs.Creation.{budget_of, context_of, count_of, identifier_of, idle_semaphore, object_of, root_capability, stamp_past, stir_count_of, transfer_of, words_of}
use Rattle.nova_model.specs.Deeds.{address_space, answered, gave, instruction, parked, recall, resumed, serving, skipped, transfer_after}
use Rattle.nova_model.specs.Delegations.{Delegations, added, without}
use Rattle.nova_model.specs.Inputs.{store_of}
use Rattle.nova_model.specs.Memory.{Memory}
use Rattle.nova_model.specs.Semaphores.{Semaphores, changed, lowered, raised, semaphore, without_one, woken}
use Rattle.nova_model.specs.State.{Contexts, KernelState, Semaphore, context, deadline_of, ec_in, ec_of, entry, message, message_in, pd_of, transfer, with_ec}
use Rattle.nova_model.specs.Times.{alarm_sm, deadline_sm, rung_in}
use Rattle.nova_model.specs.Turn.{whom_of}
use Rattle.nova_model.specs.declared.semaphore.Overflow as o
use Rattle.nova_model.specs.declared.times.AlarmState.{AlarmState}
use Rattle.nova_model.specs.declared.times.Deadline.{Deadline}
use Rattle.nova_model.specs.declared.times.Due.{Due}
use Rattle.nova_model.specs.declared.times.Due.TheVariants as due
use Rattle.nova_model.specs.declared.context.EcState.{EcState}
use Rattle.nova_model.specs.declared.context.Mark.{Mark}
use Rattle.nova_model.specs.declared.context.Mark.TheVariants as mark
use Rattle.nova_model.specs.declared.context.State.{State}
use Rattle.nova_model.specs.declared.context.State.TheVariants.{Ready, Calling, Helping, Exiting, Sending, Granting, Replying, Revoking, Blocked, Dead}
use Rattle.nova_model.specs.declared.deed.Deed.{Deed}
use Rattle.nova_model.specs.declared.deed.Deed.TheVariants as deed
use Rattle.nova_model.specs.declared.delegation.Derivation.{Derivation}
use Rattle.nova_model.specs.declared.new_object.NewObject.{NewObject}
use Rattle.nova_model.specs.declared.new_object.NewObject.TheVariants as new
use Rattle.nova_model.specs.declared.transfer.ItemWords.{ItemWords}
use Rattle.nova_model.specs.declared.transfer.Sequel.{Sequel}
use Rattle.nova_model.specs.declared.transfer.Sequel.TheVariants as sequel
use Rattle.nova_model.specs.declared.transfer.Transfer.{Transfer}

-- EDITS OF EXECUTION CONTEXTS

-- it stays; it comes to a state; it raises an exit, which answers a recall; it is answered; it begins to serve; it parks; it goes on after a reply; its recall is
-- asked for; it does an instruction
pub data Edit : Type 0 where
  Stays : Edit
  Becomes : State → Edit
  Raises : ℕ → ℕ → ℕ → Edit
  Answers : Status → Option ℕ → Edit
  Serves : ℕ → Mark → ℕ → ℕ → Bool → Edit
  Parks : Edit
  Resumes : Mark → List ℕ → Edit
  Recalled : Edit
  Moves : Registers → Edit

abbrev pub edited : EcState → Edit → EcState
edited x Stays = x
edited x (Becomes s) = record x { state = s }
edited x (Raises reason q0 q1) = record x { state = Exiting reason q0 q1; recall = x.recall && not (reason == recall) }
edited x (Answers status value) = answered x status value
edited x (Serves caller mark ip identifier items) = serving x caller mark ip identifier items
edited x Parks = parked x
edited x (Resumes mark m) = resumed x mark m
edited x Recalled = record x { recall = true }
edited x (Moves regs) = record x { regs = regs }

-- one after another, each by what is there then
abbrev pub Edits : Type 0
Edits = List (ℕ × Edit)

abbrev pub edit_at : Contexts → ℕ → Edit → Contexts
edit_at cs n e = with_ec cs n (edited (ec_of cs n) e)

abbrev pub all_edited : Contexts → Edits → Contexts
all_edited cs [] = cs
all_edited cs ((n, e) ∷ es) = all_edited (edit_at cs n e) es

-- EFFECTS

-- a derivation joins, or that of an id goes
pub data Branch : Type 0 where
  Joins : Derivation → Branch
  Goes : ℕ → Branch

pub record Effect : Type 0 where
  pub made : Option NewObject
  pub branch : Option Branch
  pub edits : Edits
  pub words : Option (ℕ × List ℕ)
  pub transfer : Option (ℕ × Transfer)
  pub identifier : Option (ℕ × ℕ)
  pub semaphore : Option (ℕ × (Semaphore → Semaphore))
  pub store : Option (AddressSpace × Store)
  pub deadline : Option (ℕ × Option Deadline)
  pub rings : Option ℕ

-- a table with one entry set, and with one more
abbrev pub put : {T : Type 0} → List (Option T) → Option (ℕ × T) → List (Option T)
put xs None = xs
put xs (Some (n, v)) = slice_set xs n (Some v)

abbrev pub joined : {T : Type 0} → List T → Option T → List T
joined xs None = xs
joined xs (Some x) = xs ++ x ∷ []

abbrev pub branched : Delegations → Option Branch → Delegations
branched f None = f
branched f (Some (Joins d)) = added f d
branched f (Some (Goes id)) = without f id

abbrev pub stamp_with : ℕ → Option NewObject → ℕ
stamp_with stamp None = stamp
stamp_with stamp (Some made) = stamp_past stamp made

abbrev pub semaphores_with : Semaphores → Option (ℕ × (Semaphore → Semaphore)) → Semaphores
semaphores_with all None = all
semaphores_with all (Some (sm, change)) = changed change all sm

abbrev pub memory_with : Memory → Option (AddressSpace × Store) → Memory
memory_with m None = m
memory_with m (Some (a, s)) = after_store a s m

abbrev pub deadlines_with : List (Option Deadline) → Option (ℕ × Option Deadline) → List (Option Deadline)
deadlines_with ds None = ds
deadlines_with ds (Some (ec, d)) = slice_set ds ec d

abbrev pub alarms_with : List AlarmState → Option ℕ → List AlarmState
alarms_with alarms None = alarms
alarms_with alarms (Some n) = rung_in alarms n (slice_get alarms n)

-- an object that is made has no deadline
abbrev pub no_deadline : NewObject → Option Deadline
no_deadline made = None

-- the state after an effect
abbrev pub applied : KernelState → Effect → KernelState
applied k e = record {
  delegations = branched k.delegations e.branch;
  objects = joined k.objects (option_map object_of e.made);
  contexts = joined (all_edited k.contexts e.edits) (option_map (context_of (length k.objects)) e.made);
  messages = joined (put k.messages e.words) (option_map (λ m. words_of (object_of m)) e.made);
  transfers = joined (put k.transfers e.transfer) (option_map (λ m. transfer_of (object_of m)) e.made);
  budgets = joined k.budgets (option_map (budget_of k.next_stamp) e.made);
  identifiers = joined (put k.identifiers e.identifier) (option_map identifier_of e.made);
  semaphores = joined (semaphores_with k.semaphores e.semaphore) (option_map (λ m. option_map idle_semaphore (count_of m)) e.made);
  memory = memory_with k.memory e.store;
  next_stamp = stamp_with k.next_stamp e.made;
  turns = k.turns;
  cpus = k.cpus;
  consoles = k.consoles;
  stirs = record k.stirs { guests = joined k.stirs.guests (option_map (λ m. stir_count_of (object_of m)) e.made) };
  times = record {
    clocks = k.times.clocks;
    deadlines = joined (deadlines_with k.times.deadlines e.deadline) (option_map no_deadline e.made);
    alarms = alarms_with k.times.alarms e.rings;
  };
}

-- OF A DEED, PART BY PART

abbrev pub made_by : Deed → Option NewObject
made_by (deed.Makes call target made) = Some made
made_by (deed.Opens target number) = Some new.Pd
made_by other = None

abbrev pub branch_by : KernelState → ℕ → Deed → Option Branch
branch_by k ec (deed.Makes call target made) = Some (Joins (root_capability k (pd_of k ec) target (object_of made)))
branch_by k ec (deed.Opens target number) = Some (Joins (root_capability k (pd_of k ec) target (object_of new.Pd)))
branch_by k ec (deed.Gives child cursor) = Some (Joins child)
branch_by k ec (deed.Removes leaf) = Some (Goes leaf.id)
branch_by k ec other = None

-- the words of an item that ended, and those that an instruction's store reaches
abbrev pub item_words : KernelState → ℕ → Option ItemWords → Option (ℕ × List ℕ)
item_words k item None = None
item_words k item (Some w) = Some (w.ec, with_item (message k w.ec) item w.first w.second)

abbrev pub words_stored : ℕ → Store → Option (List ℕ) → Option (ℕ × List ℕ)
words_stored ec s None = None
words_stored ec s (Some m) = Some (ec, stored m (s.address % 4096) s.width s.value)

abbrev pub store_words : AddressSpace → ℕ → Option Store → Option (ℕ × List ℕ)
store_words a ec None = None
store_words a ec (Some s) = words_stored ec s (words_at a s.address)

abbrev pub words_by : KernelState → ℕ → Deed → Option (ℕ × List ℕ)
words_by k ec deed.Steps = store_words (address_space k ec) ec (store_of (instruction k ec))
words_by k ec (deed.Calls handler ip identifier items) = Some (handler, copied (message k ec) (message k handler))
words_by k ec (deed.Sends handler ip identifier mtd reason q0 q1) = Some (handler, exited mtd q0 q1 (context k ec).regs (message k handler))
words_by k ec (deed.Replies caller mark.Call items) = Some (caller, copied (message k ec) (message k caller))
words_by k ec (deed.Finishes item end words after) = item_words k item words
words_by k ec other = None

abbrev pub steps_by : ℕ → Once → Edits
steps_by ec (Raised reason q0 q1) = []
steps_by ec (Went regs store) = (ec, Moves regs) ∷ []

abbrev pub recalls_by : ℕ → Option EcState → Edits
recalls_by whose None = []
recalls_by whose (Some x) = (whose, Recalled) ∷ []

abbrev pub wakes_by : Option ℕ → Edits
wakes_by None = []
wakes_by (Some w) = (w, Answers Success None) ∷ []

-- with the message words of the context that replies, after the words of an item
abbrev pub follows_by : ℕ → List ℕ → Sequel → Edits
follows_by ec m sequel.Item = (ec, Stays) ∷ []
follows_by ec m sequel.Opened = (ec, Answers Success None) ∷ []
follows_by ec m sequel.Taken = (ec, Becomes Ready) ∷ []
follows_by ec m (sequel.Replied caller came) = (ec, Parks) ∷ (caller, Resumes came m) ∷ []

abbrev pub aborts_by : Mark → Edit
aborts_by mark.Call = Answers Aborted None
aborts_by mark.Exit = Becomes Dead

abbrev pub edits_by : KernelState → ℕ → Deed → Edits
edits_by k ec deed.Steps = steps_by ec (instruction k ec)
edits_by k ec (deed.Raises reason q0 q1) = (ec, Raises reason q0 q1) ∷ []
edits_by k ec (deed.Dies reason q0) = (ec, Becomes Dead) ∷ []
edits_by k ec (deed.Waits handler reason q0 q1) = (ec, Becomes (Sending reason q0 q1 handler)) ∷ []
edits_by k ec (deed.Sends handler ip identifier mtd reason q0 q1) = (ec, Becomes (Calling handler)) ∷ (handler, Serves ec mark.Exit ip identifier false) ∷ []
edits_by k ec (deed.Refuses call status) = (ec, Answers status None) ∷ []
edits_by k ec (deed.Makes call target made) = (ec, Answers Success None) ∷ []
edits_by k ec (deed.Recalls whose) = (ec, Answers Success None) ∷ recalls_by whose (ec_in (edit_at k.contexts ec (Answers Success None)) whose)
edits_by k ec (deed.Tells call value) = (ec, Answers Success (Some value)) ∷ []
edits_by k ec (deed.Names pt identifier) = (ec, Answers Success None) ∷ []
edits_by k ec (deed.Opens target domain) = (ec, Becomes (Granting (Some domain))) ∷ []
edits_by k ec (deed.Finishes item end words after) = follows_by ec (message_in (entry (slice_get (put k.messages (item_words k item words)) ec))) after
edits_by k ec (deed.Calls handler ip identifier items) = (ec, Becomes (Calling handler)) ∷ (handler, Serves ec mark.Call ip identifier items) ∷ []
edits_by k ec (deed.Helps handler) = (ec, Becomes (Helping handler)) ∷ []
edits_by k ec (deed.Replies caller came true) = (ec, Becomes Replying) ∷ []
edits_by k ec (deed.Replies caller came false) = (ec, Parks) ∷ (caller, Resumes came (message k ec)) ∷ []
edits_by k ec (deed.Aborts handler came) = (ec, aborts_by came) ∷ []
edits_by k ec (deed.Revokes range own) = (ec, Becomes (Revoking range own)) ∷ []
edits_by k ec deed.Returns = (ec, Answers Success None) ∷ []
edits_by k ec (deed.Ups sm woken) = (ec, Answers Success None) ∷ wakes_by woken
edits_by k ec (deed.Downs sm) = (ec, Answers Success None) ∷ []
edits_by k ec (deed.Blocks sm until) = (ec, Becomes (Blocked sm)) ∷ []
edits_by k ec other = []

abbrev pub transfer_by : KernelState → ℕ → Deed → Option (ℕ × Transfer)
transfer_by k ec (deed.Gives child cursor) = Some (ec, gave (transfer k ec) cursor)
transfer_by k ec (deed.Skips reason place cursor) = Some (ec, skipped (transfer k ec) cursor)
transfer_by k ec (deed.Finishes item end words after) = Some (ec, transfer_after item after)
transfer_by k ec other = None

abbrev pub identifier_by : Deed → Option (ℕ × ℕ)
identifier_by (deed.Names pt identifier) = Some (pt, identifier)
identifier_by other = None

abbrev pub semaphore_by : ℕ → Deed → Option (ℕ × (Semaphore → Semaphore))
semaphore_by ec (deed.Ups sm woken) = Some (sm, raised)
semaphore_by ec (deed.Downs sm) = Some (sm, lowered ec)
semaphore_by ec (deed.Blocks sm until) = Some (sm, lowered ec)
semaphore_by ec other = None

abbrev pub store_by : KernelState → ℕ → Deed → Option (AddressSpace × Store)
store_by k ec deed.Steps = option_map (λ s. (address_space k ec, s)) (store_of (instruction k ec))
store_by k ec other = None

-- a woken context has no deadline any more, and a context that waits to a deadline has it
abbrev pub cleared_by : Option ℕ → Option (ℕ × Option Deadline)
cleared_by None = None
cleared_by (Some w) = Some (w, None)

abbrev pub awaits_by : ℕ → Option Deadline → Option (ℕ × Option Deadline)
awaits_by ec None = None
awaits_by ec (Some d) = Some (ec, Some d)

abbrev pub deadline_by : ℕ → Deed → Option (ℕ × Option Deadline)
deadline_by ec (deed.Ups sm woken) = cleared_by woken
deadline_by ec (deed.Blocks sm until) = awaits_by ec until
deadline_by ec other = None

abbrev pub effect : KernelState → ℕ → Deed → Effect
effect k ec d = record {
  made = made_by d;
  branch = branch_by k ec d;
  edits = edits_by k ec d;
  words = words_by k ec d;
  transfer = transfer_by k ec d;
  identifier = identifier_by d;
  semaphore = semaphore_by ec d;
  store = store_by k ec d;
  deadline = deadline_by ec d;
  rings = None;
}

-- WITHOUT AN ACTOR

-- what comes of a processor by itself: something that is due, or a tick
pub data Passing : Type 0 where
  Falls : Due → Passing
  Ticks : Passing

-- what comes of a semaphore that an alarm ups, and of the context that then goes on, with its status
abbrev pub alarm_up : KernelState → ℕ → Result (Option ℕ) o.Overflow
alarm_up k alarm = woken (semaphore k.semaphores (alarm_sm (slice_get k.times.alarms alarm)))

abbrev pub with_status : Status → Option ℕ → Option (ℕ × Status)
with_status status None = None
with_status status (Some w) = Some (w, status)

abbrev pub passing_ends : KernelState → Passing → Option (ℕ × Status)
passing_ends k (Falls (due.Alarm alarm)) = with_status Success (whom_of (alarm_up k alarm))
passing_ends k (Falls (due.Deadline ec)) = Some (ec, Timeout)
passing_ends k Ticks = None

abbrev pub ends_by : Option (ℕ × Status) → Edits
ends_by None = []
ends_by (Some (w, status)) = (w, Answers status None) ∷ []

abbrev pub clears_by : Option (ℕ × Status) → Option (ℕ × Option Deadline)
clears_by None = None
clears_by (Some (w, status)) = Some (w, None)

abbrev pub passing_semaphore : KernelState → Passing → Option (ℕ × (Semaphore → Semaphore))
passing_semaphore k (Falls (due.Alarm alarm)) = Some (alarm_sm (slice_get k.times.alarms alarm), raised)
passing_semaphore k (Falls (due.Deadline ec)) = Some (deadline_sm (deadline_of k.times ec), without_one ec)
passing_semaphore k Ticks = None

abbrev pub passing_rings : Passing → Option ℕ
passing_rings (Falls (due.Alarm alarm)) = Some alarm
passing_rings other = None

abbrev pub passing_effect : KernelState → Passing → Effect
passing_effect k p = record {
  made = None;
  branch = None;
  edits = ends_by (passing_ends k p);
  words = None;
  transfer = None;
  identifier = None;
  semaphore = passing_semaphore k p;
  store = None;
  deadline = clears_by (passing_ends k p);
  rings = passing_rings p;
}
