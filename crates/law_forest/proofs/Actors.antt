-- The context that acts in a turn: what the turn answers, and what it is for a virtual CPU.
use Rattle.std.proofs.Common.{◌≡◌, ℕ, refl, sym, ap, ◌∙◌, subst}
use Rattle.std.specs.Prelude.{Option, Some, None, option_map}
use Rattle.std.proofs.lemmas.Option.{same_Some}
use Rattle.nova_guest.specs.declared.input.Input.{Input}
use Rattle.nova_model.specs.Choice.{Candidate, next_to_act}
use Rattle.nova_model.specs.Deeds.{deed}
use Rattle.nova_model.specs.Guests.{input, input_by}
use Rattle.nova_model.specs.Inputs.{input_of}
use Rattle.nova_model.specs.State.{KernelState}
use Rattle.nova_model.specs.Turn.{answer_of, event_of, turn}
use Rattle.nova_model.specs.declared.event.Turn.TheVariants.{Stepped}
use Rattle.law_forest.specs.Turns.{Acts, Idles, Passes, Takes}
use Rattle.law_forest.proofs.Turning.{comes, idle_none, passing_none}

-- what holds of the chosen context holds of the context that acts
pub who_acts : (P : ℕ → Type 0) (k : KernelState) (cpu ec : ℕ) → option_map (λ c. c.actor) (next_to_act k cpu) ≡ Some ec →
    ((c : Candidate) → next_to_act k cpu ≡ Some c → P c.actor) → P ec
who_acts P k cpu ec acts holds = by_chosen (next_to_act k cpu) refl acts
  where
    by_chosen : (o : Option Candidate) → next_to_act k cpu ≡ o → option_map (λ c. c.actor) o ≡ Some ec → P ec
    by_chosen None is h = absurd (cc)
    by_chosen (Some c) is h = subst P (same_Some c.actor ec h) (holds c is)

-- the event of the turn
pub chosen_answers : (k : KernelState) (cpu : ℕ) (c : Candidate) → next_to_act k cpu ≡ Some c → answer_of (turn k cpu) ≡ Stepped (event_of cpu c (deed k c.actor))
chosen_answers k cpu c chosen = elim (comes k cpu) [
  | Idles none moment same answer ↦ absurd (let both : None ≡ Some c = sym (idle_none k cpu none) ∙ chosen in cc)
  | Takes t e is state answer ↦ elim is [
    | Acts d taken acts event ↦
        answer ∙ ap Stepped event ∙ ap (λ (x : Candidate). Stepped (event_of cpu x (deed k x.actor))) (same_Some d c (sym taken ∙ chosen))
    | Passes p due passes event ↦ absurd (let both : None ≡ Some c = sym (passing_none k cpu p due) ∙ chosen in cc)
  ]
]

-- and its input: what holds of none, and of the deed of the chosen context, holds of it
pub chosen_input : (k : KernelState) (cpu g : ℕ) (c : Candidate) → next_to_act k cpu ≡ Some c → input k cpu g ≡ input_of k c.actor g (deed k c.actor)
unfolding input
chosen_input k cpu g c chosen = ap (λ (o : Option Candidate). input_by k g o) chosen

pub of_input : (P : Option Input → Type 0) (k : KernelState) (cpu g : ℕ) → P None →
    ((c : Candidate) → next_to_act k cpu ≡ Some c → P (input_of k c.actor g (deed k c.actor))) → P (input k cpu g)
unfolding input
of_input P k cpu g none some = by_chosen (next_to_act k cpu) refl
  where
    by_chosen : (o : Option Candidate) → next_to_act k cpu ≡ o → P (input_by k g o)
    by_chosen None is = none
    by_chosen (Some c) is = some c is
