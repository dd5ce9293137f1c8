-- What the turns of a processor tell: their events are of it, so that a trace is told apart by processors.
use Rattle.std.proofs.Common.{◌≡◌, ℕ, List, ◌∷◌, refl, ap, ◌∙◌}
use Rattle.std.specs.Prelude.{Bool, true, false, IfSome, filter, map, Option, Some, None, option_map, if◌then◌else◌}
use Rattle.nova_model.specs.Choice.{Candidate, choice, in_front, next_to_act}
use Rattle.nova_model.specs.Deeds.{deed}
use Rattle.nova_model.specs.State.{KernelState}
use Rattle.nova_model.specs.Times.{next_moment}
use Rattle.nova_model.specs.Turn.{Step, answer_of, event_of, turn}
use Rattle.nova_model.specs.declared.event.Event.{Event}
use Rattle.nova_model.specs.declared.event.Turn.TheVariants.{Stepped}
use Rattle.law_forest.proofs.Actors.{chosen_answers}
use Rattle.law_forest.proofs.Turning.{event_answered, event_at, event_in, none_taken, outcome}
use Rattle.law_turns.proofs.Traces.{turning_on}
use Rattle.law_flow.specs.Processors.{events_on, unfound, unnumbered_event}

-- the event of a turn by its answer, and of one who acts
pub event_told : (k : KernelState) (cpu : ℕ) (e : Event) → answer_of (turn k cpu) ≡ Stepped e → event_at k cpu ≡ Some e
event_told k cpu e is = event_answered (turn k cpu) ∙ ap event_in is

pub chosen_told : (k : KernelState) (cpu : ℕ) (c : Candidate) → next_to_act k cpu ≡ Some c → event_at k cpu ≡ Some (event_of cpu c (deed k c.actor))
chosen_told k cpu c is = event_told k cpu (event_of cpu c (deed k c.actor)) (chosen_answers k cpu c is)

pub none_told : (k : KernelState) (cpu : ℕ) → choice k cpu ≡ None → next_moment k.times cpu ≡ None → event_at k cpu ≡ None
none_told k cpu none quiet = ap (option_map (λ (s : Step). s.event)) (none_taken k cpu none quiet)

on_it : (k : KernelState) (cpu : ℕ) → IfSome (event_at k cpu) (λ e. e.cpu ≡ cpu)
on_it k cpu = outcome (λ s o. IfSome o (λ e. e.cpu ≡ cpu)) k cpu (λ none. tt) (turning_on k cpu)

abbrev on_these : (ℕ → Bool) → List Event → List Event
on_these C events = filter (λ (e : Event). C e.cpu) events

-- the events of the side's processors, but for what alarms that are none of these find
abbrev pub told_on : (ℕ → Bool) → (ℕ → Bool) → List Event → List Event
told_on A C events = map (unfound A) (events_on C events)

abbrev told_of : (ℕ → Bool) → Option Event → Option Event
told_of A o = option_map (unfound A) (option_map unnumbered_event o)

-- of a trace they begin with the event of such a turn
pub told_here : (A C : ℕ → Bool) (k : KernelState) (cpu : ℕ) (rest : List Event) → C cpu ≡ true → told_on A C (in_front (event_at k cpu) rest) ≡ in_front (told_of A (event_at k cpu)) (told_on A C rest)
told_here A C k cpu rest c = by_event (event_at k cpu) (on_it k cpu)
  where
    by_event : (o : Option Event) → IfSome o (λ e. e.cpu ≡ cpu) → told_on A C (in_front o rest) ≡ in_front (told_of A o) (told_on A C rest)
    by_event None on = refl
    by_event (Some e) on = ap (λ (t : Bool). map (unfound A) (map unnumbered_event (if t then e ∷ on_these C rest else on_these C rest))) (ap C on ∙ c)

-- and leave out that of a turn elsewhere
pub told_away : (A C : ℕ → Bool) (k : KernelState) (cpu : ℕ) (rest : List Event) → C cpu ≡ false → told_on A C (in_front (event_at k cpu) rest) ≡ told_on A C rest
told_away A C k cpu rest c = by_event (event_at k cpu) (on_it k cpu)
  where
    by_event : (o : Option Event) → IfSome o (λ e. e.cpu ≡ cpu) → told_on A C (in_front o rest) ≡ told_on A C rest
    by_event None on = refl
    by_event (Some e) on = ap (λ (t : Bool). map (unfound A) (map unnumbered_event (if t then e ∷ on_these C rest else on_these C rest))) (ap C on ∙ c)
