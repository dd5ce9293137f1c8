-- Many turns charged at once, as the queues and counts show them.
use Rattle.std.proofs.Common.{◌≡◌, ◌<◌, ◌≤◌, ℕ, zero, suc, ◌+◌, ◌^◌, List, length, ap, sym, ◌∙◌, refl, arith, subst, [], ◌∷◌, slice_index_or}
use Rattle.std.specs.Prelude.{slice_get, slice_set, slice_index, Option, Some, None, IsSome, IfSome, option_map}
use Rattle.std.proofs.lemmas.List.{set-get_or, set-set, get_or-set_same}
use Rattle.nova_model.specs.State.{KernelState, budget_at, entry}
use Rattle.nova_model.specs.declared.budget.Budget.{Budget}
use Rattle.nova_model.specs.Turn.{charged, counted, paid_by, quantum_in}
use Rattle.law_leases.specs.Paging.{charged_times}
use Rattle.nova_choice.specs.Schedules.{AreQueued, budgets_of}
use Rattle.nova_sched.specs.Queues.{Schedule, charged_by, charged_schedule, charged_schedules, queued_at}
use Rattle.nova_sched.specs.declared.queued.Queued.{Queued}
use Rattle.nova_sched.proofs.Stamps.{set_same}
use Rattle.nova_choice.proofs.Budgets.{budget_queued}
use Rattle.nova_turn.specs.Counted.{IsToBeCharged}
use Rattle.nova_turn.proofs.Bursts.{still_charged}
use Rattle.nova_kernel.specs.Rides.{without_counts}
use Rattle.nova_turn.proofs.Charges.{charged_there, paid_shown}

pay_some : (s : Schedule) (sc : ℕ) (o : Option Queued) → queued_at s sc ≡ o → IsSome o → IsSome (queued_at (charged_by s sc o) sc)
pay_some s sc None is there = absurd cc
pay_some s sc (Some e) is there = rw (set_same s.entries sc e _ is) refl

-- the state with the budgets of queues, and `n` turns more
abbrev pub shown_with : KernelState → ℕ → Schedule → ℕ → KernelState
shown_with k cpu s n = record k {
  budgets = budgets_of s (length k.objects);
  next_stamp = s.next_stamp;
  turns = k.turns + n;
  stirs = record k.stirs { processors = slice_set k.stirs.processors cpu (slice_index k.stirs.processors cpu + n) };
  times = record k.times { clocks = slice_set k.times.clocks cpu (slice_index k.times.clocks cpu + n) };
}

pub record IsSpent (k : KernelState) (s : Schedule) (cpu sc n : ℕ) : Type 0 where
  pub queued : AreQueued (charged_times n k cpu sc) (charged_schedules n s sc)
  pub there : IsSome (queued_at (charged_schedules n s sc) sc)
  pub shown : charged_times n k cpu sc ≡ shown_with k cpu (charged_schedules n s sc) n

none_more : (xs : List ℕ) (cpu : ℕ) → slice_set xs cpu (slice_index xs cpu + 0) ≡ xs
none_more xs cpu = let e : slice_index xs cpu + 0 ≡ slice_index xs cpu = omega arith in ap (slice_set xs cpu) e ∙ set-get_or xs cpu 0

none_shown : (k : KernelState) (s : Schedule) (cpu : ℕ) → k.budgets ≡ budgets_of s (length k.objects) → k.next_stamp ≡ s.next_stamp → k ≡ shown_with k cpu s 0
none_shown k s cpu budgets stamp = λ i. record k {
  budgets = budgets i;
  next_stamp = stamp i;
  turns = turns i;
  stirs = record k.stirs { processors = sym (none_more k.stirs.processors cpu) i };
  times = record k.times { clocks = sym (none_more k.times.clocks cpu) i };
}
  where
    turns : k.turns ≡ k.turns + 0
    turns = omega arith

-- one more where `n` were added to a number
one_more : (xs : List ℕ) (cpu n : ℕ) → cpu < length xs →
    slice_set (slice_set xs cpu (slice_index xs cpu + n)) cpu (slice_index (slice_set xs cpu (slice_index xs cpu + n)) cpu + 1) ≡ slice_set xs cpu (slice_index xs cpu + suc n)
one_more xs cpu n within =
    set-set xs cpu (slice_index xs cpu + n) (slice_index (slice_set xs cpu (slice_index xs cpu + n)) cpu + 1)
    ∙ ap (slice_set xs cpu) (let e : slice_index (slice_set xs cpu (slice_index xs cpu + n)) cpu ≡ slice_index xs cpu + n = get_or-set_same xs cpu (slice_index xs cpu + n) 0 within in omega (arith, e))

one_shown : (k : KernelState) (t : Schedule) (cpu n : ℕ) → cpu < length k.stirs.processors → cpu < length k.times.clocks →
    counted (record (shown_with k cpu t n) { budgets = budgets_of t (length k.objects); next_stamp = t.next_stamp }) cpu ≡ shown_with k cpu t (suc n)
one_shown k t cpu n within clocked = λ i. record k {
  budgets = budgets_of t (length k.objects);
  next_stamp = t.next_stamp;
  turns = turns i;
  stirs = record k.stirs { processors = one_more k.stirs.processors cpu n within i };
  times = record k.times { clocks = one_more k.times.clocks cpu n clocked i };
}
  where
    turns : k.turns + n + 1 ≡ k.turns + suc n
    turns = omega arith

charged_from : (m : KernelState) (t : Schedule) (cpu sc count : ℕ) → AreQueued m t → m.budgets ≡ budgets_of t count → IsSome (queued_at t sc) →
    charged m cpu sc ≡ counted (record m { budgets = budgets_of (charged_schedule t sc) count; next_stamp = (charged_schedule t sc).next_stamp }) cpu
unfolding charged
charged_from m t cpu sc count queued budgets there = ap (λ (x : KernelState). counted x cpu) (sym (paid_shown m t (charged_schedule t sc) count sc queued budgets there refl))

module _ (k : KernelState) (s : Schedule) (cpu sc : ℕ) (queued : AreQueued k s) (budgets : k.budgets ≡ budgets_of s (length k.objects)) (stamp : k.next_stamp ≡ s.next_stamp)
    (there : IsSome (queued_at s sc)) (within : cpu < length k.stirs.processors) (clocked : cpu < length k.times.clocks) where
  pub spent : (n : ℕ) → IsSpent k s cpu sc n
  spent zero = record { queued = queued; there = there; shown = none_shown k s cpu budgets stamp }
  spent (suc n) =
      let m : KernelState = charged_times n k cpu sc in
      let t : Schedule = charged_schedules n s sc in
      let before = spent n in record {
        queued = charged_there m t (charged_schedule t sc) cpu sc before.queued before.there refl;
        there = pay_some t sc (queued_at t sc) refl before.there;
        shown = charged_from m t cpu sc (length k.objects) before.queued (ap (λ (x : KernelState). x.budgets) before.shown) before.there
            ∙ ap (λ (x : KernelState). counted (record x { budgets = budgets_of (charged_schedule t sc) (length k.objects); next_stamp = (charged_schedule t sc).next_stamp }) cpu) before.shown
            ∙ one_shown k (charged_schedule t sc) cpu n within clocked;
      }

-- WHAT STAYS WITHIN ITS BOUNDS

turns_paid : (k : KernelState) (sc quantum : ℕ) (o : Option Budget) → (paid_by k sc quantum o).turns ≡ k.turns
turns_paid k sc quantum None = refl
turns_paid k sc quantum (Some b) = refl

one_turn : (k : KernelState) (cpu sc : ℕ) → (charged k cpu sc).turns ≡ k.turns + 1
unfolding charged
one_turn k cpu sc = ap (λ (n : ℕ). n + 1) (turns_paid k sc (quantum_in (slice_get k.objects sc)) (budget_at k sc))

turns_times : (n : ℕ) (k : KernelState) (cpu sc : ℕ) → (charged_times n k cpu sc).turns ≡ k.turns + n
turns_times zero k cpu sc = omega arith
turns_times (suc n) k cpu sc = let one = one_turn (charged_times n k cpu sc) cpu sc in let all = turns_times n k cpu sc in omega (arith, one, all)

pub to_be_charged_still : (n : ℕ) (k : KernelState) (cpu sc : ℕ) → k.turns + n ≤ 2 ^ 31 → IsToBeCharged k → IsToBeCharged (charged_times n k cpu sc)
to_be_charged_still zero k cpu sc few h = h
to_be_charged_still (suc n) k cpu sc few h =
    still_charged (charged_times n k cpu sc) cpu sc (let all = turns_times n k cpu sc in omega (arith, all, few)) (to_be_charged_still n k cpu sc (omega (arith, few)) h)

-- a charge asks for no counts of virtual CPUs
one_without : (k : KernelState) (cpu sc : ℕ) → charged (without_counts k) cpu sc ≡ without_counts (charged k cpu sc)
unfolding charged
one_without k cpu sc = by_budget (budget_at k sc)
  where
    by_budget : (o : Option Budget) → counted (paid_by (without_counts k) sc (quantum_in (slice_get k.objects sc)) o) cpu ≡ without_counts (counted (paid_by k sc (quantum_in (slice_get k.objects sc)) o) cpu)
    by_budget None = refl
    by_budget (Some b) = refl

pub times_without : (n : ℕ) (k : KernelState) (cpu sc : ℕ) → charged_times n (without_counts k) cpu sc ≡ without_counts (charged_times n k cpu sc)
times_without zero k cpu sc = refl
times_without (suc n) k cpu sc = ap (λ (s : KernelState). charged s cpu sc) (times_without n k cpu sc) ∙ one_without (charged_times n k cpu sc) cpu sc

-- what is left of a quantum, as the queues have it
left_by : (o : Option Queued) (b : Budget) (n : ℕ) → option_map (λ (e : Queued). e.budget) o ≡ Some b → n ≤ b.left → IfSome o (λ (e : Queued). n ≤ e.budget.left)
left_by None b n is most = tt
left_by (Some e) b n is most = let same : e.budget ≡ b = cc in subst (λ (d : Budget). n ≤ d.left) (sym same) most

pub left_queued : (k : KernelState) (s : Schedule) (sc n : ℕ) (b : Budget) → k.budgets ≡ budgets_of s (length k.objects) → budget_at k sc ≡ Some b → n ≤ b.left →
    IfSome (queued_at s sc) (λ (e : Queued). n ≤ e.budget.left)
left_queued k s sc n b budgets is most =
    left_by (queued_at s sc) b n (sym (budget_queued s (length k.objects) sc) ∙ ap (λ (bs : List (Option Budget)). entry (slice_get bs sc)) (sym budgets) ∙ is) most

-- a number that is there, whatever stands where none is
pub there_in : (xs : List ℕ) (i d : ℕ) → i < length xs → slice_index_or xs i d ≡ slice_index xs i
there_in [] i d less = absurd (omega (arith, less))
there_in (x ∷ xs) zero d less = refl
there_in (x ∷ xs) (suc i) d less = there_in xs i d (omega (arith, less))
