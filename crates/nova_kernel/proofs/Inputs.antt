-- The input of a turn is that of the chosen context.
use Rattle.std.proofs.Common.{◌≡◌, ℕ, refl, ap}
use Rattle.std.specs.Prelude.{true, false, is_some, Option, Some, None, option_map}
use Rattle.nova_model.specs.Times.{due_on}
use Rattle.nova_model.specs.declared.times.Due.{Due}
use Rattle.nova_choice.specs.Choices.{chosen_of}
use Rattle.nova_choice.specs.declared.choice.Chosen.{Chosen}
use Rattle.nova_model.specs.Choice.{Candidate, choice, next_to_act, unless_due}
use Rattle.nova_model.specs.Deeds.{deed}
use Rattle.nova_model.specs.Guests.{input, input_by}
use Rattle.nova_model.specs.Inputs.{input_of}
use Rattle.nova_model.specs.State.{KernelState}

chosen_input : (k : KernelState) (g : ℕ) (c : Chosen) (o : Option Candidate) → Some c ≡ option_map chosen_of o → input_of k c.actor g (deed k c.actor) ≡ input_by k g o
chosen_input k g c None is = absurd (cc)
chosen_input k g c (Some d) is = let e : c ≡ chosen_of d = cc in ap (λ (n : ℕ). input_of k n g (deed k n)) (ap (λ (x : Chosen). x.actor) e)

pub input_chosen : (k : KernelState) (cpu g : ℕ) (c : Chosen) → Some c ≡ option_map chosen_of (next_to_act k cpu) → input_of k c.actor g (deed k c.actor) ≡ input k cpu g
unfolding input
input_chosen k cpu g c is = chosen_input k g c (next_to_act k cpu) is

idle_input : (k : KernelState) (g : ℕ) (o : Option Candidate) → None ≡ option_map chosen_of o → None ≡ input_by k g o
idle_input k g None is = refl
idle_input k g (Some d) is = absurd (cc)

pub input_idle : (k : KernelState) (cpu g : ℕ) → None ≡ option_map chosen_of (next_to_act k cpu) → None ≡ input k cpu g
unfolding input
input_idle k cpu g is = idle_input k g (next_to_act k cpu) is

-- the context that acts next, by whether something is due
pub next_none : (k : KernelState) (cpu : ℕ) → is_some (due_on k.times cpu) ≡ true → None ≡ option_map chosen_of (next_to_act k cpu)
unfolding next_to_act
next_none k cpu is = by_due (due_on k.times cpu) is
  where
    by_due : (o : Option Due) → is_some o ≡ true → None ≡ option_map chosen_of (unless_due o (choice k cpu))
    by_due None h = absurd (cc)
    by_due (Some what) h = refl

pub next_chosen : (k : KernelState) (cpu : ℕ) (o : Option Chosen) → is_some (due_on k.times cpu) ≡ false → o ≡ option_map chosen_of (choice k cpu) → o ≡ option_map chosen_of (next_to_act k cpu)
unfolding next_to_act
next_chosen k cpu o is told = by_due (due_on k.times cpu) is
  where
    by_due : (d : Option Due) → is_some d ≡ false → o ≡ option_map chosen_of (unless_due d (choice k cpu))
    by_due None h = told
    by_due (Some what) h = absurd (cc)
