-- Turns charged one after another.
use Rattle.std.proofs.Common.{◌≡◌, ◌<◌, ℕ, ◌+◌, ◌^◌, refl, arith}
use Rattle.std.specs.Prelude.{slice_get, Option, Some, None, IsSome}
use Rattle.law_turns.proofs.Setting.{entry_itself}
use Rattle.nova_model.specs.State.{KernelState, budget_at, entry}
use Rattle.nova_model.specs.Turn.{charged, counted, paid_by, quantum_in}
use Rattle.nova_model.specs.declared.budget.Budget.{Budget}
use Rattle.nova_deeds.specs.Counted.{IsCharged, IsToBeCharged}
use Rattle.nova_deeds.specs.Stirs.{IsStirredWithin}
use Rattle.nova_deeds.proofs.Counts.{IsCharged-paid}

pub one_later : (turns : ℕ) (o : Option ℕ) → IsStirredWithin turns o → IsStirredWithin (turns + 1) o
one_later turns (Some n) h = omega arith
one_later turns None h = omega arith

pub to_be_charged : (k : KernelState) → IsCharged k → IsToBeCharged k
to_be_charged k h = record {
  turns = h.turns;
  processors = h.processors;
  stamps = let s = h.stamps in omega arith;
  ticks = h.ticks;
  stirs = h.stirs;
  guests = λ g. one_later k.turns (entry (slice_get k.stirs.guests g)) (h.guests g);
}

pub still_charged : (k : KernelState) (cpu sc : ℕ) → k.turns < 2 ^ 31 → IsToBeCharged k → IsToBeCharged (charged k cpu sc)
unfolding charged
still_charged k cpu sc few h =
    to_be_charged (counted (paid_by k sc (quantum_in (slice_get k.objects sc)) (budget_at k sc)) cpu)
    (IsCharged-paid k cpu sc (quantum_in (slice_get k.objects sc)) (budget_at k sc) refl few h)

pub still_there : (k : KernelState) (cpu sc : ℕ) → IsSome (budget_at k sc) → IsSome (budget_at (charged k cpu sc) sc)
unfolding charged
still_there k cpu sc there = by_budget (budget_at k sc) refl there
  where
    some : (o : Option Budget) (b : Budget) → o ≡ Some b → IsSome o
    some o b is = rw is refl

    by_budget : (o : Option Budget) → budget_at k sc ≡ o → IsSome o → IsSome (budget_at (counted (paid_by k sc (quantum_in (slice_get k.objects sc)) o) cpu) sc)
    by_budget None at h = absurd cc
    by_budget (Some b) at h = some _ _ (entry_itself k.budgets sc _ (rw at refl))
