-- The states of a bench, by what changes along it.
use Rattle.std.proofs.Common.{◌≡◌, ℕ, List, [], ◌∷◌, ◌++◌, refl}
use Rattle.std.specs.Prelude.{Option, Some, None}
use Rattle.std.specs.List.{AllByRecursion}
use Rattle.law_forest.proofs.Members.{all_more}
use Rattle.nova_model.specs.Memory.{Memory}
use Rattle.nova_model.specs.State.{KernelState, Semaphore}
use Rattle.nova_model.specs.declared.budget.Budget.{Budget}
use Rattle.nova_model.specs.declared.context.EcState.{EcState}
use Rattle.nova_model.specs.declared.delegation.Derivation.{Derivation}
use Rattle.nova_model.specs.declared.times.Deadline.{Deadline}
use Rattle.nova_model.specs.declared.transfer.Transfer.{Transfer}
use Rattle.nova_objects.specs.declared.object.Object.{Object}
use Rattle.nova_objects.specs.declared.object.Object.TheVariants.{Pd, Ec, Sc}
use Rattle.nova_objects.specs.declared.object.EcKind.TheVariants.{Global}
use Rattle.nova_range.specs.declared.range.Kind.TheVariants.{Mem, Obj}
use Rattle.nova_range.specs.declared.rights.Rights.{Rights}

-- what each turn counts
pub record Accounts : Type 0 where
  pub budget : Budget
  pub stamp : ℕ
  pub turns : ℕ
  pub stirs : ℕ
  pub clock : ℕ

-- behind the root's three objects, the tables of those that were made
pub record Tables : Type 0 where
  pub objects : List Object
  pub contexts : List (Option EcState)
  pub messages : List (Option (List ℕ))
  pub transfers : List (Option Transfer)
  pub budgets : List (Option Budget)
  pub identifiers : List (Option ℕ)
  pub semaphores : List (Option Semaphore)
  pub guests : List (Option ℕ)
  pub deadlines : List (Option Deadline)

-- all that was made are protection domains
abbrev pub IsDomain : Object → Type 0
IsDomain o = o ≡ Pd

abbrev pub IsNone : {T : Type 0} → Option T → Type 0
IsNone o = o ≡ None

pub record AreDomains (t : Tables) : Type 0 where
  pub objects : AllByRecursion IsDomain t.objects
  pub contexts : AllByRecursion IsNone t.contexts
  pub guests : AllByRecursion IsNone t.guests
  pub deadlines : AllByRecursion IsNone t.deadlines

-- with one domain more
abbrev pub with_domain : Tables → Tables
with_domain t = record {
  objects = t.objects ++ Pd ∷ [];
  contexts = t.contexts ++ None ∷ [];
  messages = t.messages ++ None ∷ [];
  transfers = t.transfers ++ None ∷ [];
  budgets = t.budgets ++ None ∷ [];
  identifiers = t.identifiers ++ None ∷ [];
  semaphores = t.semaphores ++ None ∷ [];
  guests = t.guests ++ None ∷ [];
  deadlines = t.deadlines ++ None ∷ [];
}

pub domains_more : (t : Tables) → AreDomains t → AreDomains (with_domain t)
domains_more t are = record {
  objects = all_more IsDomain t.objects Pd are.objects refl;
  contexts = all_more IsNone t.contexts None are.contexts refl;
  guests = all_more IsNone t.guests None are.guests refl;
  deadlines = all_more IsNone t.deadlines None are.deadlines refl;
}

-- the derivation of RAM, and the root's three capabilities
abbrev pub ram_pages : Derivation
ram_pages = record { id = 0; pd = 0; kind = Mem; base = 0; order = 1; rights = record { 0 = 7 }; target = 0; parent = None }

abbrev pub held : ℕ → ℕ → ℕ → ℕ → Rights → Derivation
held id selector order target rights =
    record { id = id; pd = 0; kind = Obj; base = selector; order = order; rights = rights; target = target; parent = None }

abbrev pub own_capabilities : List Derivation
own_capabilities = held 1 0 0 0 (record { 0 = 1 }) ∷ held 2 1 0 1 (record { 0 = 7 }) ∷ held 3 2 0 2 (record { 0 = 1 }) ∷ []

-- the root, its thread and its scheduling context, and behind them what was made
abbrev pub kernel : Accounts → EcState → List ℕ → Transfer → Tables → List Derivation → ℕ → Memory → KernelState
kernel a x words transfer t list next m = record {
  delegations = record { list = list; next = next };
  objects = Pd ∷ Ec 0 0 Global 16 ∷ Sc 1 0 1 10 ∷ t.objects;
  contexts = None ∷ Some x ∷ None ∷ t.contexts;
  messages = None ∷ Some words ∷ None ∷ t.messages;
  transfers = None ∷ Some transfer ∷ None ∷ t.transfers;
  budgets = None ∷ None ∷ Some a.budget ∷ t.budgets;
  identifiers = None ∷ None ∷ None ∷ t.identifiers;
  semaphores = None ∷ None ∷ None ∷ t.semaphores;
  memory = m;
  next_stamp = a.stamp;
  turns = a.turns;
  cpus = 1;
  consoles = 0;
  stirs = record { guests = None ∷ None ∷ None ∷ t.guests; processors = a.stirs ∷ [] };
  times = record { clocks = a.clock ∷ []; deadlines = None ∷ None ∷ None ∷ t.deadlines; alarms = [] };
}
