-- What the charge of a turn leaves, and what the end of an item leaves.
use Rattle.std.proofs.Common.{◌≡◌, ℕ, ◌+◌, refl}
use Rattle.std.specs.Prelude.{◌≢◌, slice_get, Option, Some, None}
use Rattle.nova_model.specs.State.{KernelState, budget_at}
use Rattle.nova_model.specs.Turn.{budget_after, charged, counted, is_spent, paid_by, quantum_in}
use Rattle.nova_model.specs.declared.budget.Budget.{Budget}
use Rattle.law_turns.proofs.Setting.{entry_other, get_other}

pub record IsCharged (old new : KernelState) (cpu sc : ℕ) : Type 0 where
  pub delegations : new.delegations ≡ old.delegations
  pub objects : new.objects ≡ old.objects
  pub contexts : new.contexts ≡ old.contexts
  pub messages : new.messages ≡ old.messages
  pub transfers : new.transfers ≡ old.transfers
  pub budgets : (other : ℕ) → other ≢ sc → budget_at new other ≡ budget_at old other
  pub identifiers : new.identifiers ≡ old.identifiers
  pub semaphores : new.semaphores ≡ old.semaphores
  pub memory : new.memory ≡ old.memory
  pub turns : new.turns ≡ old.turns + 1
  pub cpus : new.cpus ≡ old.cpus
  pub consoles : new.consoles ≡ old.consoles
  pub guests : new.stirs.guests ≡ old.stirs.guests
  pub processors : (other : ℕ) → other ≢ cpu → slice_get new.stirs.processors other ≡ slice_get old.stirs.processors other
  pub deadlines : new.times.deadlines ≡ old.times.deadlines
  pub alarms : new.times.alarms ≡ old.times.alarms
  pub clocks : (other : ℕ) → other ≢ cpu → slice_get new.times.clocks other ≡ slice_get old.times.clocks other

paid_leaves : (k : KernelState) (cpu sc quantum : ℕ) (o : Option Budget) → IsCharged k (counted (paid_by k sc quantum o) cpu) cpu sc
paid_leaves k cpu sc quantum None = record {
  delegations = refl;
  objects = refl;
  contexts = refl;
  messages = refl;
  transfers = refl;
  budgets = λ other differs. refl;
  identifiers = refl;
  semaphores = refl;
  memory = refl;
  turns = refl;
  cpus = refl;
  consoles = refl;
  guests = refl;
  processors = λ other differs. get_other k.stirs.processors cpu other _ differs;
  deadlines = refl;
  alarms = refl;
  clocks = λ other differs. get_other k.times.clocks cpu other _ differs;
}
paid_leaves k cpu sc quantum (Some b) = record {
  delegations = refl;
  objects = refl;
  contexts = refl;
  messages = refl;
  transfers = refl;
  budgets = λ other differs. entry_other k.budgets sc other (budget_after (is_spent b) quantum k.next_stamp b) differs;
  identifiers = refl;
  semaphores = refl;
  memory = refl;
  turns = refl;
  cpus = refl;
  consoles = refl;
  guests = refl;
  processors = λ other differs. get_other k.stirs.processors cpu other _ differs;
  deadlines = refl;
  alarms = refl;
  clocks = λ other differs. get_other k.times.clocks cpu other _ differs;
}

pub charge_leaves : (k : KernelState) (cpu sc : ℕ) → IsCharged k (charged k cpu sc) cpu sc
unfolding charged
charge_leaves k cpu sc = paid_leaves k cpu sc (quantum_in (slice_get k.objects sc)) (budget_at k sc)
