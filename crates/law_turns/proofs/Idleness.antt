-- A test of all processors, and of each.
use Rattle.nova_model.specs.Times.{next_moment}
use Rattle.std.proofs.Common.{◌≡◌, ℕ, zero, suc, ◌+◌, ◌-◌, ◌<◌, ◌≤◌, refl, ap, ◌∙◌, arith}
use Rattle.std.specs.Prelude.{Bool, true, ◌↔◌, Option, Some, None, is_none}
use Rattle.std.specs.List.{list_all, range_with_len}
use Rattle.std.proofs.lemmas.Bool.{and_parts}
use Rattle.nova_model.specs.Choice.{choice, is_quiet, is_idle}
use Rattle.nova_model.specs.State.{KernelState}
use Rattle.nova_model.specs.Turn.{turn}
use Rattle.law_forest.proofs.Turning.{none_chosen, none_taken}

each_of : (p : ℕ → Bool) (first count n : ℕ) → list_all p (range_with_len first count) ≡ true → first ≤ n → n < first + count → p n ≡ true
each_of p first zero n all least most = absurd (omega arith)
each_of p first (suc count) n all least most =
    let parts = and_parts (p first) (list_all p (range_with_len (first + 1) count)) all in
    by_distance (n - first) refl parts.0 (λ past. each_of p (first + 1) count n parts.1 past (omega arith))
  where
    by_distance : (d : ℕ) → n - first ≡ d → p first ≡ true → (first + 1 ≤ n → p n ≡ true) → p n ≡ true
    by_distance zero is at others = let same : n ≡ first = omega arith in ap p same ∙ at
    by_distance (suc d) is at others = others (omega arith)

all_of : (p : ℕ → Bool) (first count : ℕ) → ((n : ℕ) → first ≤ n → n < first + count → p n ≡ true) → list_all p (range_with_len first count) ≡ true
all_of p first zero each = refl
all_of p first (suc count) each =
    let at = each first (omega arith) (omega arith) in
    let others = all_of p (first + 1) count (λ n least most. each n (omega arith) (omega arith)) in
    rw at others

-- a processor has no turn exactly where it is idle
nothing : {T : Type 0} (o : Option T) → is_none o ≡ true → o ≡ None
nothing None h = refl
nothing (Some c) h = absurd (cc)

idle_turn : (k : KernelState) (cpu : ℕ) → is_idle k cpu ≡ true → turn k cpu ≡ None
idle_turn k cpu idle =
    let parts = and_parts (is_none (choice k cpu)) (is_none (next_moment k.times cpu)) idle in
    none_taken k cpu (nothing (choice k cpu) parts.0) (nothing (next_moment k.times cpu) parts.1)

pub turn_idle : (k : KernelState) (cpu : ℕ) → turn k cpu ≡ None → is_idle k cpu ≡ true
turn_idle k cpu none = let both = none_chosen k cpu none in rw (both.0, both.1) refl

pub quiet_idle : (k : KernelState) → (is_quiet k ≡ true) ↔ ((cpu : ℕ) → cpu < k.cpus → turn k cpu ≡ None)
quiet_idle k = (
  λ quiet cpu there. idle_turn k cpu (each_of (is_idle k) 0 k.cpus cpu quiet (omega arith) (omega arith)),
  λ idle. all_of (is_idle k) 0 k.cpus (λ n least there. turn_idle k n (idle n (omega arith))),
)
