-- The events along an order without an idle turn.
use Rattle.std.proofs.Common.{◌≡◌, ℕ, zero, suc, subst, List, [], ◌∷◌, length, refl, sym, ap, ◌∙◌, arith, ◌+◌}
use Rattle.std.specs.Prelude.{slice_get, take, Bool, true, false, ◌==◌, filter, if◌then◌else◌, map, Option, Some, None, IfSome, IsSome, option_map}
use Rattle.std.proofs.lemmas.List.{length-map}
use Rattle.nova_model.specs.Boot.{Scenario, boot}
use Rattle.nova_model.specs.Choice.{in_front}
use Rattle.nova_model.specs.Runs.{IsFreeOfIdle, after, run, trace}
use Rattle.nova_model.specs.State.{KernelState}
use Rattle.nova_model.specs.Turn.{Step, answer_of, turn}
use Rattle.nova_model.specs.declared.event.Event.{Event}
use Rattle.nova_model.specs.declared.event.Turn.TheVariants.{Stepped}
use Rattle.law_forest.specs.Turns.{Acts, IsTurning, Passes, Turning}
use Rattle.law_forest.proofs.Turning.{outcome}
use Rattle.law_turns.specs.Events.{turns_given}
use Rattle.law_turns.specs.Scheduling.{paid_on, turns_of, turns_passed}
use Rattle.law_turns.proofs.Ticks.{event_on, ticks_are_turns}

abbrev IsOn : ℕ → Step → Type 0
IsOn cpu s = s.event.cpu ≡ cpu

pub turning_on : (k : KernelState) (cpu : ℕ) (t : Turning) (e : Event) → IsTurning k cpu t e → e.cpu ≡ cpu
turning_on k cpu t e (Acts c chosen is event) = ap (λ (x : Event). x.cpu) event
turning_on k cpu t e (Passes p due is event) = ap (λ (x : Event). x.cpu) event ∙ event_on k cpu p

turn_on : (k : KernelState) (cpu : ℕ) → IfSome (turn k cpu) (IsOn cpu)
turn_on k cpu = by_step (turn k cpu) (outcome (λ s o. IfSome o (λ e. e.cpu ≡ cpu)) k cpu (λ none. tt) (turning_on k cpu))
  where
    by_step : (o : Option Step) → IfSome (option_map (λ (s : Step). s.event) o) (λ e. e.cpu ≡ cpu) → IfSome o (IsOn cpu)
    by_step None on = tt
    by_step (Some s) on = on

in_front_on : (cpu : ℕ) (o : Option Step) (es : List Event) → IsSome o → IfSome o (IsOn cpu) →
    map (λ (e : Event). e.cpu) (in_front (option_map (λ (s : Step). s.event) o) es) ≡ cpu ∷ map (λ (e : Event). e.cpu) es
in_front_on cpu None es there on = absurd (cc)
in_front_on cpu (Some s) es there on = ap (λ (n : ℕ). n ∷ map (λ (e : Event). e.cpu) es) on

pub events_on : (k : KernelState) (order : List ℕ) → IsFreeOfIdle k order → map (λ (e : Event). e.cpu) (trace k order) ≡ order
events_on k [] free = refl
events_on k (cpu ∷ order) free =
    in_front_on cpu (turn k cpu) (trace (after k cpu) order) free.0 (turn_on k cpu)
    ∙ ap (λ (ns : List ℕ). cpu ∷ ns) (events_on (after k cpu) order free.1)

pub as_many_events : (k : KernelState) (order : List ℕ) → IsFreeOfIdle k order → length (trace k order) ≡ length order
as_many_events k order free = sym (length-map (trace k order) (λ (e : Event). e.cpu)) ∙ ap length (events_on k order free)

-- each is the answer of its turn
first_event : (o : Option Step) (es : List Event) (e : Event) → IsSome o → slice_get (in_front (option_map (λ (s : Step). s.event) o) es) 0 ≡ Some e → answer_of o ≡ Stepped e
first_event None es e there at = absurd (cc)
first_event (Some s) es e there at = let same : s.event ≡ e = cc in ap (λ (x : Event). Stepped x) same

next_event : (o : Option Step) (es : List Event) (n : ℕ) → IsSome o → slice_get (in_front (option_map (λ (s : Step). s.event) o) es) (suc n) ≡ slice_get es n
next_event None es n there = absurd (cc)
next_event (Some s) es n there = refl

pub event_at : (k : KernelState) (order : List ℕ) (n cpu : ℕ) (e : Event) → IsFreeOfIdle k order → slice_get order n ≡ Some cpu → slice_get (trace k order) n ≡ Some e →
    answer_of (turn (run k (take n order)) cpu) ≡ Stepped e
event_at k [] n cpu e free named at = absurd (cc)
event_at k (first ∷ order) zero cpu e free named at =
    let same : first ≡ cpu = cc in
    subst (λ (c : ℕ). answer_of (turn k c) ≡ Stepped e) same (first_event (turn k first) (trace (after k first) order) e free.0 at)
event_at k (first ∷ order) (suc n) cpu e free named at =
    event_at (after k first) order n cpu e free.1 named (sym (next_event (turn k first) (trace (after k first) order) n free.0) ∙ at)

turns_named : (cpu : ℕ) (es : List Event) → turns_of cpu es ≡ turns_given cpu (map (λ (e : Event). e.cpu) es)
turns_named cpu [] = refl
turns_named cpu (e ∷ es) = by_test (e.cpu == cpu) (turns_named cpu es)
  where
    by_test : (t : Bool) → turns_of cpu es ≡ turns_given cpu (map (λ (x : Event). x.cpu) es) →
        length (if t then e ∷ filter (λ (x : Event). x.cpu == cpu) es else filter (λ (x : Event). x.cpu == cpu) es)
        ≡ length (if t then e.cpu ∷ filter (λ (n : ℕ). n == cpu) (map (λ (x : Event). x.cpu) es) else filter (λ (n : ℕ). n == cpu) (map (λ (x : Event). x.cpu) es))
    by_test true others = omega (arith, others)
    by_test false others = others

pub ticks_given : (s : Scenario) (order : List ℕ) (cpu : ℕ) → IsFreeOfIdle (boot s) order →
    paid_on (run (boot s) order) cpu + turns_passed cpu (trace (boot s) order) ≡ turns_given cpu order
ticks_given s order cpu free = ticks_are_turns s order cpu ∙ turns_named cpu (trace (boot s) order) ∙ ap (turns_given cpu) (events_on (boot s) order free)
