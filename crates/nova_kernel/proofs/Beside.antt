-- Registers that lie beside the table of execution contexts while turns are charged.
use Rattle.std.proofs.Common.{◌≡◌, ◌-◌, ℕ, zero, suc, ap, sym, ◌∙◌, refl, List}
use Rattle.std.specs.Prelude.{Option, Some, None, IsSome, slice_get}
use Rattle.std.proofs.lemmas.List.{set-set}
use Rattle.rv_model.specs.Registers.{Registers}
use Rattle.nova_model.specs.Choice.{choice}
use Rattle.nova_model.specs.Edges.{AreEdges}
use Rattle.nova_model.specs.State.{Contexts, KernelState, budget_at, context, context_at, context_in, with_ec}
use Rattle.nova_model.specs.Turn.{charged, counted, paid_by, quantum_in}
use Rattle.nova_model.specs.declared.budget.Budget.{Budget}
use Rattle.nova_model.specs.declared.context.EcState.{EcState}
use Rattle.law_turns.proofs.Setting.{entry_itself}
use Rattle.law_leases.specs.Paging.{charged_times}
use Rattle.law_leases.proofs.Advanced.{set_there}
use Rattle.law_leases.proofs.Choosing.{choice_same, turns_go_on}
use Rattle.law_leases.proofs.Riding.{IsRidden, still_there}
use Rattle.nova_choice.specs.Schedules.{AreQueued}
use Rattle.nova_choice.specs.declared.choice.Chosen.{Chosen}
use Rattle.nova_choice.proofs.Waits.{there_at}
use Rattle.nova_sched.specs.Queues.{Schedule}
use Rattle.nova_turn.specs.Beside.{with_regs}
use Rattle.nova_turn.specs.Known.{AreKnown}
use Rattle.nova_kernel.proofs.Known.{known_along, known_on}
use Rattle.nova_kernel.proofs.Rides.{ridden_on, ridden_queued}

-- REGISTERS THAT LIE BESIDE

beside_ridden : (k : KernelState) (ec : ℕ) (regs : Registers) → IsRidden k (with_regs k ec regs) ec
beside_ridden k ec regs = record { regs = regs; contexts = refl; rest = refl }

pub beside_there : (k : KernelState) (ec : ℕ) (regs : Registers) → IsSome (context_at k ec) → IsSome (context_at (with_regs k ec regs) ec)
beside_there k ec regs there = still_there k (with_regs k ec regs) ec there (beside_ridden k ec regs)

pub beside_context : (k : KernelState) (ec : ℕ) (regs : Registers) → IsSome (context_at k ec) → context (with_regs k ec regs) ec ≡ record (context k ec) { regs = regs }
beside_context k ec regs there = ap context_in (entry_itself k.contexts ec (record (context k ec) { regs = regs }) there)

-- those of the table put in again
back_again : (k : KernelState) (ec : ℕ) (regs : Registers) → IsSome (context_at k ec) → with_regs (with_regs k ec regs) ec (context k ec).regs ≡ k
back_again k ec regs there =
    ap (λ (cs : Contexts). record k { contexts = cs })
    (ap (λ (x : EcState). with_ec (with_ec k.contexts ec (record (context k ec) { regs = regs })) ec (record x { regs = (context k ec).regs })) (beside_context k ec regs there)
    ∙ (set-set k.contexts ec (Some (record (context k ec) { regs = regs })) (Some (context k ec))
    ∙ set_there k.contexts ec (context k ec) (there_at k.contexts ec there)))

pub queued_beside : (k : KernelState) (ec : ℕ) (regs : Registers) (q : Schedule) → IsSome (context_at k ec) → AreQueued k q → AreQueued (with_regs k ec regs) q
queued_beside k ec regs q there = ridden_queued k (with_regs k ec regs) ec q there (beside_ridden k ec regs)

pub known_beside : (k : KernelState) (ec : ℕ) (regs : Registers) (known : List (Option Chosen)) → IsSome (context_at k ec) → AreKnown k known → AreKnown (with_regs k ec regs) known
known_beside k ec regs known there = known_along k (with_regs k ec regs) (known_on k (with_regs k ec regs) (ridden_on k (with_regs k ec regs) ec there (beside_ridden k ec regs))) known

choice_beside : (k : KernelState) (cpu ec : ℕ) (regs : Registers) → AreEdges k.contexts → IsSome (context_at k ec) → choice (with_regs k ec regs) cpu ≡ choice k cpu
choice_beside k cpu ec regs edges there = choice_same k (with_regs k ec regs) cpu (record {
  objects = refl;
  turns = λ e. turns_go_on k.contexts ec (context k ec) (record (context k ec) { regs = regs }) edges (there_at k.contexts ec there) refl e;
  stamps = λ sc. refl;
})

pub choice_back : (k : KernelState) (cpu ec : ℕ) (regs : Registers) → AreEdges (with_regs k ec regs).contexts → IsSome (context_at k ec) → choice k cpu ≡ choice (with_regs k ec regs) cpu
choice_back k cpu ec regs edges there =
    ap (λ (s : KernelState). choice s cpu) (sym (back_again k ec regs there))
    ∙ choice_beside (with_regs k ec regs) cpu ec (context k ec).regs edges (beside_there k ec regs there)

-- A CHARGE CHANGES NO REGISTERS

one_beside : (k : KernelState) (cpu sc ec : ℕ) (regs : Registers) → with_regs (charged k cpu sc) ec regs ≡ charged (with_regs k ec regs) cpu sc
unfolding charged
one_beside k cpu sc ec regs = by_budget (budget_at k sc)
  where
    by_budget : (o : Option Budget) → with_regs (counted (paid_by k sc (quantum_in (slice_get k.objects sc)) o) cpu) ec regs ≡ counted (paid_by (with_regs k ec regs) sc (quantum_in (slice_get k.objects sc)) o) cpu
    by_budget None = refl
    by_budget (Some b) = refl

pub times_beside : (n : ℕ) (k : KernelState) (cpu sc ec : ℕ) (regs : Registers) → with_regs (charged_times n k cpu sc) ec regs ≡ charged_times n (with_regs k ec regs) cpu sc
times_beside zero k cpu sc ec regs = refl
times_beside (suc n) k cpu sc ec regs = one_beside (charged_times n k cpu sc) cpu sc ec regs ∙ ap (λ (s : KernelState). charged s cpu sc) (times_beside n k cpu sc ec regs)

pub record KeepsTables (k new : KernelState) : Type 0 where
  pub contexts : new.contexts ≡ k.contexts
  pub objects : new.objects ≡ k.objects
  pub guests : new.stirs.guests ≡ k.stirs.guests

one_keeps : (k s : KernelState) (cpu sc : ℕ) → KeepsTables k s → KeepsTables k (charged s cpu sc)
unfolding charged
one_keeps k s cpu sc keeps = by_budget (budget_at s sc)
  where
    by_budget : (o : Option Budget) → KeepsTables k (counted (paid_by s sc (quantum_in (slice_get s.objects sc)) o) cpu)
    by_budget None = record { contexts = keeps.contexts; objects = keeps.objects; guests = keeps.guests }
    by_budget (Some b) = record { contexts = keeps.contexts; objects = keeps.objects; guests = keeps.guests }

pub times_keep : (n : ℕ) (k : KernelState) (cpu sc : ℕ) → KeepsTables k (charged_times n k cpu sc)
times_keep zero k cpu sc = record { contexts = refl; objects = refl; guests = refl }
times_keep (suc n) k cpu sc = one_keeps k (charged_times n k cpu sc) cpu sc (times_keep n k cpu sc)
