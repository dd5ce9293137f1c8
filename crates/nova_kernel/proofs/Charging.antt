-- The last of the turns that are charged at once may begin a quantum anew, with the next stamp.
use Rattle.std.proofs.Common.{◌≡◌, ◌-◌, ◌^◌, ◌<◌, ◌≤◌, ℕ, List, ap, ◌∙◌, subst, arith}
use Rattle.std.specs.Prelude.{Option, Some, None, IfSome, option_map, slice_get}
use Rattle.nova_model.specs.State.{KernelState, entry}
use Rattle.nova_model.specs.declared.budget.Budget.{Budget}
use Rattle.nova_choice.specs.Schedules.{budgets_of}
use Rattle.nova_choice.proofs.Budgets.{budget_queued}
use Rattle.nova_sched.specs.Queues.{Schedule, queued_at}
use Rattle.nova_sched.specs.declared.queued.Queued.{Queued}
use Rattle.nova_turn.specs.Counted.{IsPaidWithin, IsToBeCharged}

-- what it has paid is below the turns that were taken
few_by : (turns : ℕ) (o : Option Queued) → turns ≤ 2 ^ 31 → IsPaidWithin turns (option_map (λ (e : Queued). e.budget) o) → IfSome o (λ (e : Queued). e.budget.ticks < 2 ^ 64 - 1)
few_by turns None few paid = tt
few_by turns (Some e) few paid = omega (arith, few, paid)

pub few_ticks : (k : KernelState) (s : Schedule) (sc count : ℕ) → k.budgets ≡ budgets_of s count → IsToBeCharged k → IfSome (queued_at s sc) (λ (e : Queued). e.budget.ticks < 2 ^ 64 - 1)
few_ticks k s sc count budgets h =
    few_by k.turns (queued_at s sc) h.turns
    (subst (IsPaidWithin k.turns) (ap (λ (bs : List (Option Budget)). entry (slice_get bs sc)) budgets ∙ budget_queued s count sc) (h.ticks sc))

pub few_stamps : (k : KernelState) (s : Schedule) → k.next_stamp ≡ s.next_stamp → IsToBeCharged k → s.next_stamp < 2 ^ 64 - 1
few_stamps k s same h =
    let turns = h.turns in
    let stamps = h.stamps in
    omega (arith, same, turns, stamps)
