-- What is counted of a scheduling context after a turn, and the order of stamps.
use Rattle.std.proofs.Common.{◌≡◌, ℕ, ◌-◌, ◌<◌, ◌==◌, refl, arith}
use Rattle.std.specs.Prelude.{Bool, true, false, nat_lt, if◌then◌else◌}
use Rattle.std.proofs.lemmas.Bool.Decides.{nat_tests}
use Rattle.nova_model.specs.Turn.{budget_after, is_spent}
use Rattle.nova_model.specs.declared.budget.Budget.{Budget}
use Rattle.law_turns.specs.Budgets.{next_left}

pub left_after : (quantum next : ℕ) (b : Budget) → (budget_after (is_spent b) quantum next b).left ≡ next_left quantum b.left
left_after quantum next b = by_test (b.left - 1 == 0)
  where
    by_test : (t : Bool) → (budget_after t quantum next b).left ≡ (if t then quantum else b.left - 1)
    by_test true = refl
    by_test false = refl

pub not_less : (n : ℕ) → nat_lt n n ≡ false
not_less n = grind (arith, nat_tests)

pub less_true : (m n : ℕ) → m < n → nat_lt m n ≡ true
less_true m n h = grind (arith, nat_tests, h)

pub less_false : (m n : ℕ) → m < n → nat_lt n m ≡ false
less_false m n h = grind (arith, nat_tests, h)
