-- Turns that a block takes.
use Rattle.std.proofs.Common.{◌≡◌, ℕ, ◌+◌, ◌≤◌, List, [], ◌∷◌, length, refl, ap, sym, ◌∙◌, arith, subst}
use Rattle.std.specs.Prelude.{replicate, is_some, true, Option, Some, None, option_map, IfSome}
use Rattle.std.proofs.lemmas.List.{length-replicate}
use Rattle.law_leases.specs.Advances.{step_of}
use Rattle.nova_model.specs.Choice.{Candidate, choice, in_front}
use Rattle.nova_model.specs.Runs.{IsFreeOfIdle, after, run, trace}
use Rattle.nova_model.specs.State.{KernelState}
use Rattle.nova_model.specs.Turn.{Step, answer_of, turn}
use Rattle.nova_model.specs.declared.event.Event.{Event}
use Rattle.nova_model.specs.declared.event.Turn.TheVariants.{Idle}
use Rattle.law_forest.specs.Turns.{Idles, Takes}
use Rattle.law_forest.proofs.Turning.{comes}
use Rattle.nova_finished.specs.Steps.{ArePlainSteps, repeated}

front_few : {T : Type 0} (o : Option T) (xs : List T) → length (in_front o xs) ≤ length xs + 1
front_few None xs = omega arith
front_few (Some x) xs = omega arith

trace_few : (k : KernelState) (xs : List ℕ) → length (trace k xs) ≤ length xs
trace_few k [] = omega arith
trace_few k (x ∷ xs) = omega (arith, front_few (option_map (λ (s : Step). s.event) (turn k x)) (trace (after k x) xs), trace_few (after k x) xs)

-- where each turn has its event no turn is idle
pub all_taken : (k : KernelState) (xs : List ℕ) → length (trace k xs) ≡ length xs → IsFreeOfIdle k xs
all_taken k [] same = tt
all_taken k (x ∷ xs) same = (there (turn k x) same, all_taken (after k x) xs (omega (arith, trace_few (after k x) xs, front_few (option_map (λ (s : Step). s.event) (turn k x)) (trace (after k x) xs), same)))
  where
    there : (o : Option Step) → length (in_front (option_map (λ (s : Step). s.event) o) (trace (after k x) xs)) ≡ length (x ∷ xs) → is_some o ≡ true
    there None h = let few = trace_few (after k x) xs in absurd (omega arith)
    there (Some s) h = refl

no_idle : (o : Option Step) → answer_of o ≡ Idle → is_some o ≡ true → ⊥
no_idle None answer there = cc
no_idle (Some s) answer there = cc

after_turns : (k : KernelState) (cpu : ℕ) → is_some (turn k cpu) ≡ true → (after k cpu).turns ≡ k.turns + 1
after_turns k cpu there = elim (comes k cpu) [
  | Idles chosen ahead same answer ↦ absurd (no_idle (turn k cpu) answer there)
  | Takes t e takes state answer ↦ ap (λ (s : KernelState). s.turns) state
]

-- turns that are not idle are counted
pub run_turns : (k : KernelState) (xs : List ℕ) → IsFreeOfIdle k xs → (run k xs).turns ≡ k.turns + length xs
run_turns k [] free = omega arith
run_turns k (x ∷ xs) free =
    let first = after_turns k x free.0 in
    let rest = run_turns (after k x) xs free.1 in omega arith

module _ (k : KernelState) (cpu n : ℕ) (steps : ArePlainSteps (choice k cpu) cpu n (trace k (replicate n cpu))) where
  -- the events of the turns
  pub events : trace k (replicate n cpu) ≡ repeated (option_map (step_of cpu) (choice k cpu)) n
  events = by_choice (choice k cpu) steps
    where
      by_choice : (o : Option Candidate) → ArePlainSteps o cpu n (trace k (replicate n cpu)) → trace k (replicate n cpu) ≡ repeated (option_map (step_of cpu) o) n
      by_choice None h = ap (λ (m : ℕ). trace k (replicate m cpu)) h
      by_choice (Some c) h = h

  long : length (trace k (replicate n cpu)) ≡ n
  long = by_choice (choice k cpu) steps
    where
      by_choice : (o : Option Candidate) → ArePlainSteps o cpu n (trace k (replicate n cpu)) → length (trace k (replicate n cpu)) ≡ n
      by_choice None h = ap (λ (m : ℕ). length (trace k (replicate m cpu))) h ∙ sym h
      by_choice (Some c) h = ap length h ∙ length-replicate n (step_of cpu c)

  -- none of them is idle
  pub steps_taken : IsFreeOfIdle k (replicate n cpu)
  steps_taken = all_taken k (replicate n cpu) (long ∙ sym (length-replicate n cpu))

-- no turns are plain steps
pub no_steps : (o : Option Candidate) (cpu : ℕ) → ArePlainSteps o cpu 0 []
no_steps None cpu = refl
no_steps (Some c) cpu = refl

-- turns that have the event that was told are plain steps
pub told_steps : (o : Option Candidate) (cpu n : ℕ) (es : List Event) (told : Option Event) → told ≡ option_map (step_of cpu) o → (told ≡ None → n ≡ 0)
    → IfSome told (λ e. es ≡ replicate n e) → ArePlainSteps o cpu n es
told_steps (Some c) cpu n es told is none all = subst (λ (t : Option Event). IfSome t (λ e. es ≡ replicate n e)) is all
told_steps None cpu n es told is none all = none is
