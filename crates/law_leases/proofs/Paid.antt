-- Turns charged one after another, at once.
use Rattle.std.proofs.Common.{◌≡◌, ◌<◌, ◌≤◌, ℕ, zero, suc, ◌+◌, ◌-◌, length, ap, ap₂, sym, ◌∙◌, refl, arith}
use Rattle.std.specs.Prelude.{Bool, true, false, ◌==◌, ◌&&◌, nat_lt, nat_le, slice_get, slice_set, slice_index, Option, Some, IsSome}
use Rattle.std.proofs.lemmas.List.{set-get_or, set-set, get_or-set_same}
use Rattle.nova_model.specs.State.{KernelState, budget_at}
use Rattle.nova_model.specs.Turn.{budget_after, charged, counted, is_spent, paid, paid_by, quantum_in, stamp_after}
use Rattle.nova_model.specs.declared.budget.Budget.{Budget}
use Rattle.law_turns.proofs.Setting.{entry_itself}
use Rattle.law_leases.specs.Advances.{budget_used, is_used}
use Rattle.law_leases.specs.Paging.{charged_at_once, charged_times}
use Rattle.law_leases.proofs.Advanced.{set_there}

some_budget : (o : Option Budget) (b : Budget) → o ≡ Some b → IsSome o
some_budget o b h = rw h refl

charged_is : (k : KernelState) (cpu sc : ℕ) (b : Budget) → budget_at k sc ≡ Some b → charged k cpu sc ≡ counted (paid k sc (quantum_in (slice_get k.objects sc)) b) cpu
unfolding charged
charged_is k cpu sc b is = ap (λ (o : Option Budget). counted (paid_by k sc (quantum_in (slice_get k.objects sc)) o) cpu) is

-- no turn
none_charged : (k : KernelState) (cpu sc : ℕ) (b : Budget) → budget_at k sc ≡ Some b → k ≡ charged_at_once k cpu sc b 0
none_charged k cpu sc b budget = λ i. record k {
  budgets = sym (ap (λ (d : Budget). slice_set k.budgets sc (Some d)) unpaid ∙ set_there k.budgets sc b budget) i;
  turns = turns i;
  stirs = record k.stirs { processors = sym processors i };
  times = record k.times { clocks = sym clocks i };
}
  where
    unpaid : budget_used false 0 (quantum_in (slice_get k.objects sc)) k.next_stamp b ≡ b
    unpaid = ap₂ (λ (n t : ℕ). record { left = n; stamp = b.stamp; ticks = t }) (omega arith) (omega arith)

    turns : k.turns ≡ k.turns + 0
    turns = omega arith

    processors : slice_set k.stirs.processors cpu (slice_index k.stirs.processors cpu + 0) ≡ k.stirs.processors
    processors = let e : slice_index k.stirs.processors cpu + 0 ≡ slice_index k.stirs.processors cpu = omega arith in
        ap (slice_set k.stirs.processors cpu) e ∙ set-get_or k.stirs.processors cpu 0

    clocks : slice_set k.times.clocks cpu (slice_index k.times.clocks cpu + 0) ≡ k.times.clocks
    clocks = let e : slice_index k.times.clocks cpu + 0 ≡ slice_index k.times.clocks cpu = omega arith in
        ap (slice_set k.times.clocks cpu) e ∙ set-get_or k.times.clocks cpu 0

-- one more
unused : (n left : ℕ) → n < left → (nat_lt 0 n && nat_le left n) ≡ false
unused n left more = grind arith

abbrev used : ℕ → Budget → Budget
used n b = record { left = b.left - n; stamp = b.stamp; ticks = b.ticks + n }

next_used : (n left : ℕ) → n < left → (left - n - 1 == 0) ≡ (nat_lt 0 (suc n) && nat_le left (suc n))
next_used n left more = grind arith

budget_more : (n q stamp : ℕ) (b : Budget) (t : Bool) → budget_after t q stamp (used n b) ≡ budget_used t (suc n) q stamp b
budget_more n q stamp b true = ap (λ (t : ℕ). record { left = q; stamp = stamp; ticks = t }) (omega arith)
budget_more n q stamp b false = ap₂ (λ (l t : ℕ). record { left = l; stamp = b.stamp; ticks = t }) (omega arith) (omega arith)

-- with turns left
abbrev charged_so_far : KernelState → ℕ → ℕ → Budget → ℕ → KernelState
charged_so_far k cpu sc b n = record k {
  budgets = slice_set k.budgets sc (Some (used n b));
  turns = k.turns + n;
  stirs = record k.stirs { processors = slice_set k.stirs.processors cpu (slice_index k.stirs.processors cpu + n) };
  times = record k.times { clocks = slice_set k.times.clocks cpu (slice_index k.times.clocks cpu + n) };
}

so_far : (k : KernelState) (cpu sc n : ℕ) (b : Budget) → n < b.left → charged_at_once k cpu sc b n ≡ charged_so_far k cpu sc b n
so_far k cpu sc n b more = λ i. record k {
  budgets = slice_set k.budgets sc (Some (budget_used (unused n b.left more i) n (quantum_in (slice_get k.objects sc)) k.next_stamp b));
  next_stamp = stamp_after (unused n b.left more i) k.next_stamp;
  turns = k.turns + n;
  stirs = record k.stirs { processors = slice_set k.stirs.processors cpu (slice_index k.stirs.processors cpu + n) };
  times = record k.times { clocks = slice_set k.times.clocks cpu (slice_index k.times.clocks cpu + n) };
}

one_more : (k : KernelState) (cpu sc n : ℕ) (b : Budget) → n < b.left → budget_at k sc ≡ Some b → cpu < length k.stirs.processors → cpu < length k.times.clocks →
    charged (charged_so_far k cpu sc b n) cpu sc ≡ charged_at_once k cpu sc b (suc n)
one_more k cpu sc n b more budget within clocked =
    charged_is (charged_so_far k cpu sc b n) cpu sc (used n b) (entry_itself k.budgets sc (used n b) (some_budget (budget_at k sc) b budget))
    ∙ (λ i. record k {
      budgets = budgets i;
      next_stamp = ap (λ (t : Bool). stamp_after t k.next_stamp) (next_used n b.left more) i;
      turns = turns i;
      stirs = record k.stirs { processors = processors i };
      times = record k.times { clocks = clocks i };
    })
  where
    q : ℕ
    q = quantum_in (slice_get k.objects sc)

    budgets : slice_set (slice_set k.budgets sc (Some (used n b))) sc (Some (budget_after (is_spent (used n b)) (quantum_in (slice_get k.objects sc)) k.next_stamp (used n b)))
        ≡ slice_set k.budgets sc (Some (budget_used (is_used (suc n) b) (suc n) (quantum_in (slice_get k.objects sc)) k.next_stamp b))
    budgets = set-set k.budgets sc (Some (used n b)) (Some (budget_after (is_spent (used n b)) (quantum_in (slice_get k.objects sc)) k.next_stamp (used n b)))
        ∙ ap (λ (d : Budget). slice_set k.budgets sc (Some d))
        (ap (λ (t : Bool). budget_after t (quantum_in (slice_get k.objects sc)) k.next_stamp (used n b)) (next_used n b.left more)
        ∙ budget_more n (quantum_in (slice_get k.objects sc)) k.next_stamp b (is_used (suc n) b))

    turns : k.turns + n + 1 ≡ k.turns + suc n
    turns = omega arith

    found : slice_index (slice_set k.stirs.processors cpu (slice_index k.stirs.processors cpu + n)) cpu ≡ slice_index k.stirs.processors cpu + n
    found = get_or-set_same k.stirs.processors cpu (slice_index k.stirs.processors cpu + n) 0 within

    processors : slice_set (slice_set k.stirs.processors cpu (slice_index k.stirs.processors cpu + n)) cpu
        (slice_index (slice_set k.stirs.processors cpu (slice_index k.stirs.processors cpu + n)) cpu + 1) ≡ slice_set k.stirs.processors cpu (slice_index k.stirs.processors cpu + suc n)
    processors = set-set k.stirs.processors cpu (slice_index k.stirs.processors cpu + n) (slice_index (slice_set k.stirs.processors cpu (slice_index k.stirs.processors cpu + n)) cpu + 1)
        ∙ ap (slice_set k.stirs.processors cpu) (let e = found in omega arith)

    shown : slice_index (slice_set k.times.clocks cpu (slice_index k.times.clocks cpu + n)) cpu ≡ slice_index k.times.clocks cpu + n
    shown = get_or-set_same k.times.clocks cpu (slice_index k.times.clocks cpu + n) 0 clocked

    clocks : slice_set (slice_set k.times.clocks cpu (slice_index k.times.clocks cpu + n)) cpu
        (slice_index (slice_set k.times.clocks cpu (slice_index k.times.clocks cpu + n)) cpu + 1) ≡ slice_set k.times.clocks cpu (slice_index k.times.clocks cpu + suc n)
    clocks = set-set k.times.clocks cpu (slice_index k.times.clocks cpu + n) (slice_index (slice_set k.times.clocks cpu (slice_index k.times.clocks cpu + n)) cpu + 1)
        ∙ ap (slice_set k.times.clocks cpu) (let e = shown in omega arith)

pub charged_all : (n : ℕ) (k : KernelState) (cpu sc : ℕ) (b : Budget) → n ≤ b.left → budget_at k sc ≡ Some b → cpu < length k.stirs.processors → cpu < length k.times.clocks →
    charged_times n k cpu sc ≡ charged_at_once k cpu sc b n
charged_all zero k cpu sc b left budget within clocked = none_charged k cpu sc b budget
charged_all (suc n) k cpu sc b left budget within clocked =
    ap (λ (s : KernelState). charged s cpu sc) (charged_all n k cpu sc b (omega arith) budget within clocked ∙ so_far k cpu sc n b (omega arith))
    ∙ one_more k cpu sc n b (omega arith) budget within clocked
