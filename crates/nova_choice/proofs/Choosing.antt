-- The choice and its turn, by the number of the scheduling context and the context that acts.
use Rattle.std.proofs.Common.{◌≡◌, ℕ, refl, ap, ◌∙◌}
use Rattle.std.specs.Prelude.{true, false, Option, Some, None, is_none, is_some, option_map}
use Rattle.nova_model.specs.Choice.{Candidate, choice, choose}
use Rattle.nova_model.specs.State.{KernelState}
use Rattle.nova_model.specs.Times.{due_on, next_moment}
use Rattle.nova_model.specs.Turn.{chosen_by, tick_by, ticking, turn, turn_by, what_is_due}
use Rattle.nova_model.specs.declared.times.Due.{Due}
use Rattle.nova_sched.specs.Queues.{Schedule}
use Rattle.nova_sched.specs.Queues as queues
use Rattle.nova_choice.specs.Choices.{chosen_of, led, led_by, taken_by}
use Rattle.nova_choice.specs.Schedules.{AreQueued}
use Rattle.nova_choice.specs.declared.choice.Chosen.{Chosen}
use Rattle.nova_choice.proofs.Nexts.{choose_told, chosen_acts}

-- the context that acts in the turns of the scheduling context that the queues choose is that which acts in those of the one that is chosen
pub led_chosen : (k : KernelState) (s : Schedule) (cpu : ℕ) → AreQueued k s → led k (queues.choose s cpu) ≡ option_map chosen_of (choice k cpu)
led_chosen k s cpu queued = ap (led k) (choose_told k s cpu queued) ∙ by_choice (choice k cpu) refl
  where
    by_choice : (o : Option Candidate) → choice k cpu ≡ o → led k (option_map (λ (c : Candidate). c.sc) o) ≡ option_map chosen_of o
    by_choice None is = refl
    by_choice (Some c) is = ap (led_by c.sc) (chosen_acts k cpu c is)

-- the candidate that was told
pub record IsTold (k : KernelState) (cpu : ℕ) (chosen : Chosen) : Type 0 where
  pub candidate : Candidate
  pub is : choice k cpu ≡ Some candidate
  pub told : chosen_of candidate ≡ chosen

pub told_by : (k : KernelState) (cpu : ℕ) (chosen : Chosen) → Some chosen ≡ option_map chosen_of (choice k cpu) → IsTold k cpu chosen
told_by k cpu chosen h = by_choice (choice k cpu) refl h
  where
    by_choice : (o : Option Candidate) → choice k cpu ≡ o → Some chosen ≡ option_map chosen_of o → IsTold k cpu chosen
    by_choice None is g = absurd cc
    by_choice (Some c) is g = record { candidate = c; is = is; told = let same : chosen_of c ≡ chosen = cc in same }

-- its turn, where nothing is due
pub turn_told : (k : KernelState) (cpu : ℕ) (chosen : Chosen) → due_on k.times cpu ≡ None → Some chosen ≡ option_map chosen_of (choice k cpu) → turn k cpu ≡ Some (taken_by k cpu chosen)
unfolding turn
turn_told k cpu chosen none h =
    let told = told_by k cpu chosen h in
    ap (turn_by k cpu) none ∙ ap (chosen_by k cpu) told.is ∙ ap (λ (c : Chosen). Some (taken_by k cpu c)) told.told

no_choice : (o : Option Candidate) → None ≡ option_map chosen_of o → o ≡ None
no_choice None h = refl
no_choice (Some c) h = absurd cc

-- where none is chosen: an idle turn, or a tick
pub turn_none : (k : KernelState) (cpu : ℕ) → due_on k.times cpu ≡ None → None ≡ option_map chosen_of (choice k cpu) → next_moment k.times cpu ≡ None → turn k cpu ≡ None
unfolding turn
turn_none k cpu none h nothing = ap (turn_by k cpu) none ∙ ap (chosen_by k cpu) (no_choice (choice k cpu) h) ∙ ap (tick_by k cpu) nothing

pub turn_ticks : (k : KernelState) (cpu moment : ℕ) → due_on k.times cpu ≡ None → None ≡ option_map chosen_of (choice k cpu) → next_moment k.times cpu ≡ Some moment → turn k cpu ≡ Some (ticking k cpu)
unfolding turn
turn_ticks k cpu moment none h some = ap (turn_by k cpu) none ∙ ap (chosen_by k cpu) (no_choice (choice k cpu) h) ∙ ap (tick_by k cpu) some

-- where something is due
pub turn_due : (k : KernelState) (cpu : ℕ) (what : Due) → due_on k.times cpu ≡ Some what → turn k cpu ≡ Some (what_is_due k cpu what)
unfolding turn
turn_due k cpu what due = ap (turn_by k cpu) due

pub idle_choose : (k : KernelState) (cpu : ℕ) → is_some (choose k cpu) ≡ false → is_none (choice k cpu) ≡ true
idle_choose k cpu h = by_choice (choice k cpu) h
  where
    by_choice : (o : Option Candidate) → is_some (option_map (λ (c : Candidate). c.sc) o) ≡ false → is_none o ≡ true
    by_choice None g = refl
    by_choice (Some c) g = absurd cc
