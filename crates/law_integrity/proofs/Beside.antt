-- The turn of a processor in two states with the same times, in which the same candidate is chosen.
use Rattle.std.proofs.Common.{◌≡◌, ℕ, refl, sym, ap, ◌∙◌, subst}
use Rattle.std.specs.Prelude.{IsSome, option_map, Option, Some, None}
use Rattle.nova_model.specs.Choice.{Candidate, choice, next_to_act}
use Rattle.nova_model.specs.Deeds.{deed}
use Rattle.nova_model.specs.Runs.{after}
use Rattle.nova_model.specs.State.{KernelState}
use Rattle.nova_model.specs.Times.{due_on, next_moment}
use Rattle.nova_model.specs.Turn.{Step, chosen_by, event_of, state_after, tick_by, turn, turn_by}
use Rattle.nova_model.specs.declared.deed.Deed.{Deed}
use Rattle.nova_model.specs.declared.event.Event.{Event}
use Rattle.nova_model.specs.declared.times.Due.{Due}
use Rattle.nova_model.specs.declared.times.Due.TheVariants as due
use Rattle.law_forest.specs.Effects.{Falls, Passing, Ticks}
use Rattle.law_forest.specs.Turns.{acting, passing, passing_event, turned}
use Rattle.law_forest.proofs.Turning.{acts_next, chosen_turn, due_turn, none_taken, tick_turn}

-- that both are so
pub record ChooseSame (k l : KernelState) (cpu : ℕ) : Type 0 where
  pub times : l.times ≡ k.times
  pub chosen : choice l cpu ≡ choice k cpu

pub idle_stays : (k : KernelState) (cpu : ℕ) → choice k cpu ≡ None → next_moment k.times cpu ≡ None → after k cpu ≡ k
idle_stays k cpu none quiet = ap (state_after k) (none_taken k cpu none quiet)

-- what holds of both, of both after what comes by itself, and of both after the turn of the chosen candidate, holds of both after
pub both_after : (R : KernelState → KernelState → Type 0) (k l : KernelState) (cpu : ℕ) → ChooseSame k l cpu → R k l →
    ((p : Passing) → R (turned k cpu (passing k p)) (turned l cpu (passing l p))) →
    ((c : Candidate) → next_to_act k cpu ≡ Some c → R (turned k cpu (acting k c)) (turned l cpu (acting l c))) → R (after k cpu) (after l cpu)
both_after R k l cpu same idles passes acts_ = by_due (due_on k.times cpu) refl
  where
    due_same : due_on l.times cpu ≡ due_on k.times cpu
    due_same = ap (λ t. due_on t cpu) same.times

    moment_same : next_moment l.times cpu ≡ next_moment k.times cpu
    moment_same = ap (λ t. next_moment t cpu) same.times

    moved : (a b : KernelState) → after k cpu ≡ a → after l cpu ≡ b → R a b → R (after k cpu) (after l cpu)
    moved a b first second h = subst (λ (s : KernelState). R s (after l cpu)) (sym first) (subst (λ (s : KernelState). R a s) (sym second) h)

    by_moment : (o : Option ℕ) → next_moment k.times cpu ≡ o → due_on k.times cpu ≡ None → choice k cpu ≡ None → R (after k cpu) (after l cpu)
    by_moment None quiet calm is = moved k l (idle_stays k cpu is quiet) (idle_stays l cpu (same.chosen ∙ is) (moment_same ∙ quiet)) idles
    by_moment (Some moment) comes calm is =
        let some : IsSome (next_moment k.times cpu) = subst IsSome (sym comes) refl in
        moved _ _ (tick_turn k cpu calm is some) (tick_turn l cpu (due_same ∙ calm) (same.chosen ∙ is) (subst IsSome (sym moment_same) some)) (passes Ticks)

    by_choice : (o : Option Candidate) → choice k cpu ≡ o → due_on k.times cpu ≡ None → R (after k cpu) (after l cpu)
    by_choice None is calm = by_moment (next_moment k.times cpu) refl calm is
    by_choice (Some c) is calm =
        let first : next_to_act k cpu ≡ Some c = acts_next k cpu c is calm in
        moved _ _ (chosen_turn k cpu c first) (chosen_turn l cpu c (acts_next l cpu c (same.chosen ∙ is) (due_same ∙ calm))) (acts_ c first)

    by_due : (o : Option Due) → due_on k.times cpu ≡ o → R (after k cpu) (after l cpu)
    by_due (Some what) is = moved _ _ (due_turn k cpu what is) (due_turn l cpu what (due_same ∙ is)) (passes (Falls what))
    by_due None is = by_choice (choice k cpu) refl is

-- and both have the same event, where what comes by itself has it, and the deed of the chosen context is the same
pub both_events : (k l : KernelState) (cpu : ℕ) → ChooseSame k l cpu → ((p : Passing) → passing_event l cpu p ≡ passing_event k cpu p) →
    ((c : Candidate) → next_to_act k cpu ≡ Some c → deed l c.actor ≡ deed k c.actor) →
    option_map (λ (s : Step). s.event) (turn l cpu) ≡ option_map (λ (s : Step). s.event) (turn k cpu)
unfolding turn
both_events k l cpu same passes acts_ = ap (λ t. told (turn_by l cpu (due_on t cpu))) same.times ∙ by_due (due_on k.times cpu) refl
  where
    told : Option Step → Option Event
    told o = option_map (λ (s : Step). s.event) o

    by_moment : (o : Option ℕ) → told (tick_by l cpu o) ≡ told (tick_by k cpu o)
    by_moment None = refl
    by_moment (Some moment) = refl

    by_choice : (o : Option Candidate) → choice k cpu ≡ o → due_on k.times cpu ≡ None → told (chosen_by l cpu o) ≡ told (chosen_by k cpu o)
    by_choice None is calm = ap (λ t. told (tick_by l cpu (next_moment t cpu))) same.times ∙ by_moment (next_moment k.times cpu)
    by_choice (Some c) is calm = ap (λ (d : Deed). Some (event_of cpu c d)) (acts_ c (acts_next k cpu c is calm))

    by_due : (o : Option Due) → due_on k.times cpu ≡ o → told (turn_by l cpu o) ≡ told (turn_by k cpu o)
    by_due (Some (due.Alarm alarm)) is = ap (λ (e : Event). Some e) (passes (Falls (due.Alarm alarm)))
    by_due (Some (due.Deadline ec)) is = ap (λ (e : Event). Some e) (passes (Falls (due.Deadline ec)))
    by_due None is = ap (λ (o : Option Candidate). told (chosen_by l cpu o)) same.chosen ∙ by_choice (choice k cpu) refl is
