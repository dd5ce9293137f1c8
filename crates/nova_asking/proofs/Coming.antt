-- What comes within some turns of a state.
use Rattle.std.proofs.Common.{◌≡◌, ◌⊎◌, ◌∙◌, ℕ, zero, suc, ◌+◌, ◌<◌, ◌≤◌, List, [], ◌∷◌, length, refl, ap, arith, inl, inr}
use Rattle.std.specs.Prelude.{Bool, true, false, ◌||◌}
use Rattle.std.specs.List.{list_any, range_with_len}
use Rattle.nova_model.specs.Runs.{after, run}
use Rattle.nova_model.specs.State.{KernelState}
use Rattle.nova_search.specs.Searches.{AreProcessors}
use Rattle.std.proofs.lemmas.Bool.{cases_eq}
use Rattle.nova_asking.specs.Hangs.{comes_within}

neither : (a b : Bool) → a ≡ false → b ≡ false → a || b ≡ false
neither a b first second = rw first second

first_not : (a b : Bool) → a || b ≡ false → a ≡ false
first_not true b is = absurd (cc)
first_not false b is = refl

second_not : (a b : Bool) → a || b ≡ false → b ≡ false
second_not true b is = absurd (cc)
second_not false b is = is

-- none of some numbers, and each of them
any_false : (p : ℕ → Bool) (from count : ℕ) → ((n : ℕ) → n < from + count → p n ≡ false) → list_any p (range_with_len from count) ≡ false
any_false p from zero none = refl
any_false p from (suc count) none =
    neither (p from) (list_any p (range_with_len (from + 1) count)) (none from (omega arith)) (any_false p (from + 1) count (λ n less. none n (omega (arith, less))))

first_or_more : (p : ℕ → Bool) (from n : ℕ) (more : Bool) → p from || more ≡ false → from ≤ n → (from + 1 ≤ n → p n ≡ false) → p n ≡ false
first_or_more p from n more none least rest = by_case (cases_eq n from)
  where
    by_case : (n ≡ from) ⊎ (n ≡ from → ⊥) → p n ≡ false
    by_case (inl same) = ap p same ∙ first_not (p from) more none
    by_case (inr other) = rest (grind (arith, least, other))

none_any : (p : ℕ → Bool) (from count n : ℕ) → list_any p (range_with_len from count) ≡ false → from ≤ n → n < from + count → p n ≡ false
none_any p from zero n none least less = absurd (omega (arith, least, less))
none_any p from (suc count) n none least less =
    first_or_more p from n (list_any p (range_with_len (from + 1) count)) none least
    (λ above. none_any p (from + 1) count n (second_not (p from) (list_any p (range_with_len (from + 1) count)) none) above (omega (arith, less)))

pub none_comes : (test : KernelState → Bool) (cpus turns : ℕ) (k : KernelState) → comes_within test cpus turns k ≡ false → (order : List ℕ) → AreProcessors cpus order →
    length order ≤ turns → test (run k order) ≡ false
none_comes test cpus zero k none [] are few = none
none_comes test cpus zero k none (cpu ∷ order) are few = absurd (omega (arith, few))
none_comes test cpus (suc turns) k none [] are few = first_not (test k) (list_any (λ (cpu : ℕ). comes_within test cpus turns (after k cpu)) (range_with_len 0 cpus)) none
none_comes test cpus (suc turns) k none (cpu ∷ order) are few =
    none_comes test cpus turns (after k cpu)
    (none_any (λ (c : ℕ). comes_within test cpus turns (after k c)) 0 cpus cpu
    (second_not (test k) (list_any (λ (c : ℕ). comes_within test cpus turns (after k c)) (range_with_len 0 cpus)) none) (omega arith) (let is = are.0 in omega (arith, is)))
    order are.1 (omega (arith, few))

pub only_none : (test : KernelState → Bool) (cpus turns : ℕ) (k : KernelState) → test k ≡ false → ((cpu : ℕ) → cpu < cpus → comes_within test cpus turns (after k cpu) ≡ false) →
    comes_within test cpus (suc turns) k ≡ false
only_none test cpus turns k isnt none =
    neither (test k) (list_any (λ (cpu : ℕ). comes_within test cpus turns (after k cpu)) (range_with_len 0 cpus)) isnt
    (any_false (λ (cpu : ℕ). comes_within test cpus turns (after k cpu)) 0 cpus (λ n less. none n (omega (arith, less))))

pub only_by_orders : (test : KernelState → Bool) (cpus turns : ℕ) (k : KernelState) → ((order : List ℕ) → AreProcessors cpus order → length order ≤ turns → test (run k order) ≡ false) →
    comes_within test cpus turns k ≡ false
only_by_orders test cpus zero k none = none [] tt (omega arith)
only_by_orders test cpus (suc turns) k none =
    only_none test cpus turns k (none [] tt (omega arith))
    (λ cpu less. only_by_orders test cpus turns (after k cpu) (λ order are few. none (cpu ∷ order) (less, are) (omega (arith, few))))
