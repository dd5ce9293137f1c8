-- The state of the kernel: one record, with a part for each thing that a kernel keeps.
use Rattle.std.specs.Prelude.{ℕ, Bool, true, false, if◌then◌else◌, List, [], replicate, Option, Some, None, slice_get, slice_set}
use Rattle.nova_model.specs.Numbers.{PdId, EcId, ScId, CpuId, Selector}
use Rattle.nova_model.specs.Memory.{Memory}
use Rattle.nova_model.specs.Times.{Times}
use Rattle.nova_model.specs.Delegations.{Delegations}
use Rattle.nova_objects.specs.declared.object.Object.{Object}
use Rattle.nova_objects.specs.declared.object.Object.TheVariants.{Ec}
use Rattle.nova_objects.specs.declared.object.EcKind.{EcKind}
use Rattle.nova_objects.specs.declared.object.EcKind.TheVariants.{Local, Global, Vcpu}
use Rattle.nova_model.specs.declared.context.EcState.{EcState}
use Rattle.nova_model.specs.declared.context.State.TheVariants.{Dead}
use Rattle.nova_model.specs.declared.budget.Budget.{Budget}
use Rattle.nova_model.specs.declared.times.Deadline.{Deadline}
use Rattle.nova_model.specs.declared.transfer.Transfer.{Transfer}

-- of a semaphore: its counter, and the execution contexts that wait at it
pub record Semaphore : Type 0 where
  pub count : ℕ
  pub waiting : List EcId

-- Stir counts: how often something came between, so that what was planned from a state seen before no longer holds. Of each virtual CPU
-- the inputs other than its own steps, and of each processor its turns.
pub record Stirs : Type 0 where
  pub guests : List (Option ℕ)
  pub processors : List ℕ

-- the entry of a table, or nothing
abbrev pub entry : {T : Type 0} → Option (Option T) → Option T
entry (Some x) = x
entry None = None

-- until when an execution context waits, where it waits to a deadline
abbrev pub deadline_of : Times → EcId → Option Deadline
deadline_of t ec = entry (slice_get t.deadlines ec)

-- execution contexts by number
abbrev pub Contexts : Type 0
Contexts = List (Option EcState)

abbrev pub ec_in : Contexts → EcId → Option EcState
ec_in cs e = entry (slice_get cs e)

-- the execution context of a number; a number that names none reads as a dead context
abbrev pub nobody : EcState
nobody = record { id = 0; cpu = 0; state = Dead; regs = record { pc = 0; x = [] }; caller = None; recall = false }

abbrev pub context_in : Option EcState → EcState
context_in (Some x) = x
context_in None = nobody

abbrev pub ec_of : Contexts → EcId → EcState
ec_of cs e = context_in (ec_in cs e)

-- the table with an execution context at its number
abbrev pub with_ec : Contexts → EcId → EcState → Contexts
with_ec cs e x = slice_set cs e (Some x)

-- Tables are by the number of the object: an entry is there where the object is of that kind.
pub record KernelState : Type 0 where
  pub delegations : Delegations
  pub objects : List Object
  pub contexts : Contexts
  pub messages : List (Option (List ℕ))
  pub transfers : List (Option Transfer)
  pub budgets : List (Option Budget)
  pub identifiers : List (Option ℕ)
  pub semaphores : List (Option Semaphore)
  pub memory : Memory
  pub next_stamp : ℕ
  pub turns : ℕ
  pub cpus : ℕ
  pub consoles : ℕ
  pub stirs : Stirs
  pub times : Times

abbrev pub context_at : KernelState → EcId → Option EcState
context_at k ec = ec_in k.contexts ec

abbrev pub context : KernelState → EcId → EcState
context k ec = ec_of k.contexts ec

-- how far an execution context is with the items that it gives
abbrev pub no_transfer : Transfer
no_transfer = record { item = 0; cursor = 0; children = 0 }

abbrev pub transfer_in : Option Transfer → Transfer
transfer_in (Some t) = t
transfer_in None = no_transfer

abbrev pub transfer_at : KernelState → EcId → Option Transfer
transfer_at k ec = entry (slice_get k.transfers ec)

abbrev pub transfer : KernelState → EcId → Transfer
transfer k ec = transfer_in (transfer_at k ec)

-- the message words of a thread; they are all 0 at birth
abbrev pub no_words : List ℕ
no_words = replicate 128 0

abbrev pub message_in : Option (List ℕ) → List ℕ
message_in (Some m) = m
message_in None = no_words

abbrev pub message : KernelState → EcId → List ℕ
message k ec = message_in (entry (slice_get k.messages ec))

abbrev pub with_message : KernelState → EcId → List ℕ → KernelState
with_message k ec m = record k { messages = slice_set k.messages ec (Some m) }

abbrev pub budget_at : KernelState → ScId → Option Budget
budget_at k sc = entry (slice_get k.budgets sc)

-- the protection domain of an execution context, its processor, its event base, and whether it is a thread;
-- what is none has a domain that there never is
abbrev pub pd_in : Option Object → PdId
pd_in (Some (Ec pd cpu kind event)) = pd
pd_in other = 4294967295

abbrev pub processor_in : Option Object → CpuId
processor_in (Some (Ec pd cpu kind event)) = cpu
processor_in other = 0

abbrev pub event_base_in : Option Object → Selector
event_base_in (Some (Ec pd cpu kind event)) = event
event_base_in other = 0

abbrev pub is_thread_kind : EcKind → Bool
is_thread_kind Local = true
is_thread_kind Global = true
is_thread_kind Vcpu = false

abbrev pub is_thread_in : Option Object → Bool
is_thread_in (Some (Ec pd cpu kind event)) = is_thread_kind kind
is_thread_in other = false

abbrev pub pd_of : KernelState → EcId → PdId
pd_of k ec = pd_in (slice_get k.objects ec)

abbrev pub processor_of : KernelState → EcId → CpuId
processor_of k ec = processor_in (slice_get k.objects ec)

-- the selector of the portal for its exits of reason 0; those of the other reasons follow
abbrev pub event_base : KernelState → EcId → Selector
event_base k ec = event_base_in (slice_get k.objects ec)

abbrev pub is_thread : KernelState → EcId → Bool
is_thread k ec = is_thread_in (slice_get k.objects ec)

-- the message words that a thread finds on its own page; any other execution context has none
abbrev pub own_words : KernelState → EcId → Option (List ℕ)
own_words k ec = if is_thread k ec then Some (message k ec) else None

abbrev pub is_local_in : Option Object → Bool
is_local_in (Some (Ec pd cpu Local event)) = true
is_local_in other = false

abbrev pub is_local_thread : KernelState → EcId → Bool
is_local_thread k ec = is_local_in (slice_get k.objects ec)
