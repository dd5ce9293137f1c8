-- Each of these turns is a plain step, of the same virtual CPU and paid by the same scheduling context.
use Rattle.law_turns.specs.Moments.{IsEarly}
use Rattle.law_forest.proofs.Actors.{chosen_answers}
use Rattle.law_forest.proofs.Turning.{event_answered, event_at, event_in}
use Rattle.std.proofs.Common.{◌≡◌, ℕ, zero, suc, ◌≤◌, List, [], ap, ap₂, ◌∙◌, refl, arith}
use Rattle.std.specs.Prelude.{replicate, Option, Some, None}
use Rattle.nova_guest.specs.Alone.{applied, outputs}
use Rattle.nova_guest.specs.declared.input.Input.TheVariants.{Own}
use Rattle.nova_model.specs.Choice.{Candidate, next_to_act, in_front}
use Rattle.nova_model.specs.Deeds.{deed}
use Rattle.nova_model.specs.Runs.{after, trace}
use Rattle.nova_model.specs.State.{KernelState}
use Rattle.nova_model.specs.Turn.{event_of, turn}
use Rattle.nova_model.specs.Views.{view}
use Rattle.nova_model.specs.declared.budget.Budget.{Budget}
use Rattle.nova_model.specs.declared.deed.Deed.{Deed}
use Rattle.nova_model.specs.declared.deed.Deed.TheVariants.{Steps}
use Rattle.nova_model.specs.declared.event.Event.{Event}
use Rattle.law_isolation.specs.Sound.{IsSound}
use Rattle.law_isolation.proofs.Premises.{guest, premises}
use Rattle.law_isolation.proofs.Runs.{turn_sound}
use Rattle.law_leases.specs.Advances.{IsLeasable, step_of}
use Rattle.law_leases.proofs.Advanced.{paid_one}
use Rattle.law_leases.proofs.Bursting.{IsStepped, first_quiet, next_leasable, next_quiet, one_step, acts_now, next_early}
use Rattle.law_leases.proofs.Stepping.{plain}

shown : (k : KernelState) (cpu : ℕ) (c : Candidate) → next_to_act k cpu ≡ Some c → deed k c.actor ≡ Steps → event_at k cpu ≡ Some (step_of cpu c)
shown k cpu c acts does =
    event_answered (turn k cpu) ∙ ap event_in (chosen_answers k cpu c acts) ∙ ap (λ (d : Deed). Some (event_of cpu c d)) does

one_shown : (k : KernelState) (cpu : ℕ) (c : Candidate) (b : Budget) → IsSound k → IsLeasable k cpu c b → next_to_act k cpu ≡ Some c → (applied (view k c.actor) Own).out ≡ None →
    event_at k cpu ≡ Some (step_of cpu c)
one_shown k cpu c b sound may acts out = shown k cpu c acts (plain k c.actor (premises k sound) (guest k c.actor sound may.guest) may.ready may.recall out).does

pub traced : (n : ℕ) (k : KernelState) (cpu : ℕ) (c : Candidate) (b : Budget) → IsSound k → IsLeasable k cpu c b → n ≤ b.left → IsEarly k.times cpu n →
    outputs (view k c.actor) (replicate n Own) ≡ [] → trace k (replicate n cpu) ≡ replicate n (step_of cpu c)
traced zero k cpu c b sound may left early quiet = refl
traced (suc zero) k cpu c b sound may left early quiet =
    ap (λ (o : Option Event). in_front o []) (one_shown k cpu c b sound may (acts_now k cpu 0 c b may early) (first_quiet 0 (view k c.actor) quiet))
traced (suc (suc n)) k cpu c b sound may left early quiet =
    let step : IsStepped k cpu c b (after k cpu) = one_step k cpu c b sound may (acts_now k cpu (suc n) c b may early) (first_quiet (suc n) (view k c.actor) quiet) in
    ap₂ (λ (o : Option Event) (es : List Event). in_front o es) (one_shown k cpu c b sound may (acts_now k cpu (suc n) c b may early) (first_quiet (suc n) (view k c.actor) quiet))
    (traced (suc n) (after k cpu) cpu c (paid_one b) (turn_sound k cpu sound) (next_leasable k cpu c b sound may (omega arith) step) (omega arith)
    (next_early (suc n) k cpu c b may (omega arith) step early) (next_quiet (suc n) k cpu c b step quiet))
