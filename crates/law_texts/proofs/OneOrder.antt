-- On one processor there is one order that is free of idle turns and ends quiet.
use Rattle.std.proofs.Common.{◌≡◌, ℕ, zero, suc, ◌<◌, ◌≤◌, Bool, true, false, List, [], ◌∷◌, length, replicate, Option, Some, None, refl, ap, ap₂, ◌∙◌, subst, arith}
use Rattle.std.specs.Prelude.{IsSome}
use Rattle.std.specs.List.{AllByRecursion}
use Rattle.law_turns.proofs.Idleness.{quiet_idle}
use Rattle.law_turns.proofs.Processors.{after_cpus}
use Rattle.nova_model.specs.Choice.{is_quiet}
use Rattle.nova_model.specs.Runs.{IsFreeOfIdle, after, run, trace}
use Rattle.nova_model.specs.State.{KernelState}
use Rattle.nova_model.specs.Turn.{turn}
use Rattle.nova_report.specs.Summary.{summary}
use Rattle.law_texts.specs.Benches.{EndsSo}

none_there : {A : Type 0} (o : Option A) → IsSome o → o ≡ None → ⊥
none_there (Some x) there none = absurd (cc)
none_there None there none = absurd (cc)

-- a quiet kernel has no turn
no_turn : (k : KernelState) → k.cpus ≡ 1 → is_quiet k ≡ true → IsSome (turn k 0) → ⊥
no_turn k one quiet there = none_there (turn k 0) there ((quiet_idle k).0 quiet 0 (omega arith))

empty_or : (k : KernelState) (turns : ℕ) (b : Bool) → is_quiet k ≡ b → k.cpus ≡ 1 → IsSome (turn k 0) → (is_quiet k ≡ false → suc turns ≤ 0) → ⊥
empty_or k turns true is one there long = no_turn k one is there
empty_or k turns false is one there long = let few = long is in absurd (omega arith)

one_order : (k : KernelState) (turns : ℕ) (order : List ℕ) → k.cpus ≡ 1 → IsFreeOfIdle k (replicate turns 0) → is_quiet (run k (replicate turns 0)) ≡ true →
    AllByRecursion (λ cpu. cpu < 1) order → IsFreeOfIdle k order → (is_quiet (run k order) ≡ false → turns ≤ length order) → order ≡ replicate turns 0
one_order k zero [] one free quiet first free_too long = refl
one_order k zero (cpu ∷ order) one free quiet first free_too long =
    let zero_cpu : cpu ≡ 0 = let less = first.0 in omega arith in absurd (no_turn k one quiet (subst (λ c. IsSome (turn k c)) zero_cpu free_too.0))
one_order k (suc turns) [] one free quiet first free_too long = absurd (empty_or k turns (is_quiet k) refl one free.0 long)
one_order k (suc turns) (cpu ∷ order) one free quiet first free_too long =
    let zero_cpu : cpu ≡ 0 = let less = first.0 in omega arith in
    let rest = one_order (after k 0) turns order (after_cpus k 0 ∙ one) free.1 quiet first.1
    (subst (λ c. IsFreeOfIdle (after k c) order) zero_cpu free_too.1)
    (λ unquiet. let more : suc turns ≤ suc (length order) = long (ap (λ c. is_quiet (run (after k c) order)) zero_cpu ∙ unquiet) in omega arith) in
    ap₂ (λ (c : ℕ) (l : List ℕ). c ∷ l) zero_cpu rest

pub line_of_any : (number turns : ℕ) (k : KernelState) (line order : List ℕ) → k.cpus ≡ 1 → EndsSo number k turns line → AllByRecursion (λ cpu. cpu < k.cpus) order → IsFreeOfIdle k order →
    (is_quiet (run k order) ≡ false → turns ≤ length order) → (summary number (run k order) (trace k order) ≡ line) × (is_quiet (run k order) ≡ true)
line_of_any number turns k line order one ends first free long =
    let is = one_order k turns order one ends.no_idle ends.quiet (subst (λ n. AllByRecursion (λ cpu. cpu < n) order) one first) free long in
    (ap (λ (l : List ℕ). summary number (run k l) (trace k l)) is ∙ ends.said, ap (λ (l : List ℕ). is_quiet (run k l)) is ∙ ends.quiet)
