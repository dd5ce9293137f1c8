-- Over one processor there is one order that ends quiet or has all the turns that it may have.
use Rattle.std.proofs.Common.{◌≡◌, ℕ, zero, suc, ◌<◌, ◌≤◌, List, [], ◌∷◌, length, inl, inr, refl, ap₂, sym, ◌∙◌, subst, arith}
use Rattle.std.specs.Prelude.{◌⊎◌, true, ◌&&◌, Option, Some, None, IsSome, is_none}
use Rattle.std.specs.List.{AllByRecursion, list_all, range_with_len}
use Rattle.nova_model.specs.State.{KernelState}
use Rattle.nova_model.specs.Choice.{Candidate, choice, is_idle, is_quiet}
use Rattle.nova_model.specs.Times.{next_moment}
use Rattle.nova_model.specs.Turn.{turn}
use Rattle.law_forest.proofs.Turning.{none_taken}
use Rattle.nova_model.specs.Runs.{after, run, rounds}
use Rattle.law_turns.specs.Orders.{IsRunOut}
use Rattle.law_turns.proofs.Passes.{rounds_run_out}
use Rattle.law_turns.proofs.Processors.{run_cpus}

-- where the only processor has no choice, and nothing is to come there, its turn is idle
idle_by : (o : Option Candidate) (m : Option ℕ) → ((is_none o && is_none m) && true) ≡ true → (o ≡ None) × (m ≡ None)
idle_by None None h = (refl, refl)
idle_by None (Some moment) h = absurd (cc)
idle_by (Some c) m h = absurd (cc)

quiet_is_idle : (k : KernelState) → k.cpus ≡ 1 → is_quiet k ≡ true → IsSome (turn k 0) → ⊥
quiet_is_idle k one quiet some =
    let idle = idle_by (choice k 0) (next_moment k.times 0) (subst (λ (n : ℕ). list_all (is_idle k) (range_with_len 0 n) ≡ true) one quiet) in
    let none = none_taken k 0 idle.0 idle.1 in cc

zero_of : (x cpus : ℕ) → cpus ≡ 1 → x < cpus → x ≡ 0
zero_of x cpus one less = omega arith

-- the order after its first turn
later : (k : KernelState) (x m : ℕ) (xs : List ℕ) → IsRunOut k (suc m) (x ∷ xs) → IsRunOut (after k x) m xs
later k x m xs r = record {
  no_idle = r.no_idle.1;
  processors = subst (λ (n : ℕ). AllByRecursion (λ cpu. cpu < n) xs) (sym (run_cpus k (x ∷ []))) r.processors.1;
  within = fewer r.within;
  ended = by_case r.ended;
}
  where
    fewer : length (x ∷ xs) ≤ suc m → length xs ≤ m
    fewer h = omega arith

    by_case : (is_quiet (run k (x ∷ xs)) ≡ true) ⊎ (length (x ∷ xs) ≡ suc m) → (is_quiet (run (after k x) xs) ≡ true) ⊎ (length xs ≡ m)
    by_case (inl quiet) = inl quiet
    by_case (inr all) = inr (omega arith)

-- an order that is over is not begun by another
no_more : (k : KernelState) (most y : ℕ) (ys : List ℕ) → k.cpus ≡ 1 → IsRunOut k most [] → IsRunOut k most (y ∷ ys) → ⊥
no_more k most y ys one done more = by_case done.ended
  where
    by_case : (is_quiet k ≡ true) ⊎ (0 ≡ most) → ⊥
    by_case (inl quiet) = quiet_is_idle k one quiet (subst (λ (c : ℕ). IsSome (turn k c)) (zero_of y k.cpus one more.processors.0) more.no_idle.0)
    by_case (inr none) = let few : length (y ∷ ys) ≤ most = more.within in absurd (omega arith)

none_within : (x : ℕ) (xs : List ℕ) → length (x ∷ xs) ≤ 0 → ⊥
none_within x xs h = absurd (omega arith)

same : (a b : List ℕ) (k : KernelState) (most : ℕ) → k.cpus ≡ 1 → IsRunOut k most a → IsRunOut k most b → a ≡ b
same [] [] k most one r s = refl
same [] (y ∷ ys) k most one r s = absurd (no_more k most y ys one r s)
same (x ∷ xs) [] k most one r s = absurd (no_more k most x xs one s r)
same (x ∷ xs) (y ∷ ys) k zero one r s = absurd (none_within x xs r.within)
same (x ∷ xs) (y ∷ ys) k (suc m) one r s =
    let first : x ≡ y = zero_of x k.cpus one r.processors.0 ∙ sym (zero_of y k.cpus one s.processors.0) in
    let rest = later k y m ys s in
    ap₂ (λ (c : ℕ) (cs : List ℕ). c ∷ cs) first
    (same xs ys (after k x) m (run_cpus k (x ∷ []) ∙ one) (later k x m xs r) (subst (λ (c : ℕ). IsRunOut (after k c) m ys) (sym first) rest))

pub one_order : (k : KernelState) (most : ℕ) (order : List ℕ) → k.cpus ≡ 1 → IsRunOut k most order → order ≡ rounds k most
one_order k most order one r = same order (rounds k most) k most one r (rounds_run_out k most)
