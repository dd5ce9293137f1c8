-- A turn makes a derivation where its deed does.
use Rattle.std.proofs.Common.{◌≡◌, ℕ, ◌<◌, sym, subst, arith, rules}
use Rattle.std.specs.Prelude.{Option, None, Some, option_map, true, Result, Ok, Err, OnErr}
use Rattle.nova_model.specs.Choice.{choice}
use Rattle.nova_model.specs.Deeds.{deed, done, is_making}
use Rattle.nova_model.specs.Delegations.{Delegations}
use Rattle.nova_model.specs.Inputs.{stirred}
use Rattle.nova_model.specs.State.{KernelState}
use Rattle.nova_model.specs.Times.{due_on}
use Rattle.nova_model.specs.Turn.{chosen_by, state_after, turn, turn_by}
use Rattle.nova_model.specs.declared.times.Due.{Due}
use Rattle.nova_model.specs.Choice.{Candidate}
use Rattle.nova_model.specs.declared.deed.Deed.{Deed}
use Rattle.nova_model.specs.declared.deed.Deed.TheVariants.{Makes, Opens, Gives}
use Rattle.nova_turn.specs.Views.{HasMade, IsMaking}
use Rattle.nova_choice.specs.Choices.{chosen_of}
use Rattle.nova_choice.specs.declared.choice.Chosen.{Chosen}
use Rattle.nova_choice.proofs.Choosing.{IsTold, told_by}
use Rattle.nova_deeds.proofs.Counts.{delegations-charged}

done-making : (k : KernelState) (ec : ℕ) (d : Deed) → is_making d ≡ true → HasMade k (done k ec d)
done-making k ec (Makes call target new) making = omega arith
done-making k ec (Opens target number) making = omega arith
done-making k ec (Gives child cursor) making = omega arith
done-making k ec other making = cc

making-turn : (k : KernelState) (cpu : ℕ) (c : Candidate) → due_on k.times cpu ≡ None → choice k cpu ≡ Some c → is_making (deed k c.actor) ≡ true → IsMaking k cpu
unfolding turn
making-turn k cpu c none chosen making =
    subst (λ (o : Option Due). HasMade k (state_after k (turn_by k cpu o))) (sym none)
    (subst (λ (o : Option Candidate). HasMade k (state_after k (chosen_by k cpu o))) (sym chosen)
    (subst (λ (f : Delegations). k.delegations.next < f.next) (sym (delegations-charged (stirred k c.actor (deed k c.actor) (done k c.actor (deed k c.actor))) cpu c.sc))
    (done-making k c.actor (deed k c.actor) making)))

making-told : (k : KernelState) (cpu : ℕ) (chosen : Chosen) → due_on k.times cpu ≡ None → IsTold k cpu chosen → is_making (deed k chosen.actor) ≡ true → IsMaking k cpu
making-told k cpu chosen none told making =
    making-turn k cpu told.candidate none told.is (subst (λ (c : Chosen). is_making (deed k c.actor) ≡ true) (sym told.told) making)

pub making-wants : {T E : Type 0} (k : KernelState) (cpu : ℕ) (chosen : Chosen) (result : Result T E) → due_on k.times cpu ≡ None → Some chosen ≡ option_map chosen_of (choice k cpu) →
    is_making (deed k chosen.actor) ≡ true → OnErr result (IsMaking k cpu)
making-wants k cpu chosen (Ok x) none is making = search rules
making-wants k cpu chosen (Err error) none is making = making-told k cpu chosen none (told_by k cpu chosen is) making
