-- Where none may create, each turn of a processor that isn't due is the highest priority's, as long as it may run.
use Rattle.std.proofs.Common.{◌≡◌, ℕ, ◌<◌, ◌+◌, List, [], ◌∷◌, inl, inr, refl, sym, ap, ap₂, ◌∙◌, subst, arith}
use Rattle.std.specs.Prelude.{◌≢◌, ◌||◌, Bool, true, false, ◌==◌, ◌&&◌, is_none, is_some, Option, Some, None, option_and_then}
use Rattle.std.proofs.lemmas.Bool.{eq-eqb, eqb-true}
use Rattle.nova_model.specs.Boot.{Scenario, boot}
use Rattle.nova_model.specs.Choice.{Candidate, choice, next_to_act}
use Rattle.nova_model.specs.Edges.{acts, acts_as, chase, edge_of, state_in}
use Rattle.nova_model.specs.Runs.{after, run}
use Rattle.nova_model.specs.State.{KernelState}
use Rattle.nova_model.specs.Times.{due_on}
use Rattle.nova_model.specs.declared.budget.Budget.{Budget}
use Rattle.nova_model.specs.declared.context.State.TheVariants.{Dead}
use Rattle.nova_model.specs.declared.times.Due.{Due}
use Rattle.nova_ec.proofs.Ends.{chases_go_on}
use Rattle.law_forest.specs.Effects.{Falls}
use Rattle.law_forest.proofs.Turning.{acts_next, idle_none, passing_none}
use Rattle.law_turns.specs.Keeping.{IsKept}
use Rattle.law_turns.proofs.Candidates.{schedule_of, the_chosen}
use Rattle.law_turns.proofs.Ticks.{one_if}
use Rattle.law_response.specs.Creating.{NobodyCreates, OutranksOthers}
use Rattle.law_response.specs.Waits.{IsSchedule, MayRun, StaysRunnable, due_in, is_due, is_paid_by, paid_in, turns_at}
use Rattle.law_response.proofs.Choosing.{Above, Before, IsBeside, Itself, candidate_of_schedule, chosen_beside}
use Rattle.law_response.proofs.Creating.{all_limited, nothing_after, outranks_still}
use Rattle.law_response.proofs.Responding.{reached_is_kept}
use Rattle.law_response.proofs.Waiting.{IsReached, after_schedule, not_paid, reached_after, reached_stamped}

-- turns of a dead execution context lead to none that acts
never_runs : (k : KernelState) (ec : ℕ) → IsKept k → state_in k.contexts ec ≡ Some Dead → MayRun k ec → ⊥
never_runs k ec kept dead may =
    let rests : acts k.contexts ec ≡ false = ap (acts_as k.contexts) dead in
    let itself : chase k.contexts ec ≡ ec = (chases_go_on k.contexts ec kept.edges).ends (ap₂ (λ (t : Bool) (o : Option ℕ). t || is_none o) rests (ap (option_and_then edge_of) dead)) in
    let both : true ≡ false = sym may ∙ ap (acts k.contexts) itself ∙ rests in cc

-- a candidate other than that which outranks all has a lesser priority
pub outranked : (k : KernelState) (cpu sc priority : ℕ) (c : Candidate) → IsKept k → OutranksOthers k cpu sc priority → choice k cpu ≡ Some c → c.sc ≢ sc → c.priority < priority
outranked k cpu sc priority c kept outranks is other =
    let candidate = the_chosen k cpu c is in
    let schedule = schedule_of k cpu c candidate in
    let its = candidate_of_schedule k cpu c c.sc schedule.ec cpu schedule.priority schedule.quantum candidate refl schedule.object in
    elim (outranks c.sc schedule.ec schedule.priority schedule.quantum schedule.object other) [
      | inl less ↦ (let same = its.ranks in omega (arith, less, same))
      | inr dead ↦ absurd (never_runs k schedule.ec kept dead its.may)
    ]

-- ONE TURN

-- a turn of the processor is due, or its own
abbrev Sum : Bool → Bool → Bool → Type 0
Sum here due paid = one_if here ≡ one_if (here && due) + one_if paid

summed : (k : KernelState) (by cpu sc : ℕ) (here due paid : Bool) → (by == cpu) ≡ here → is_due k by ≡ due → is_paid_by sc (next_to_act k by) ≡ paid → Sum here due paid →
    Sum (by == cpu) (is_due k by) (is_paid_by sc (next_to_act k by))
summed k by cpu sc here due paid h d p sum =
    subst (λ (t : Bool). Sum t (is_due k by) (is_paid_by sc (next_to_act k by))) (sym h)
    (subst (λ (t : Bool). Sum here t (is_paid_by sc (next_to_act k by))) (sym d) (subst (λ (t : Bool). Sum here due t) (sym p) sum))

sum_none : (here : Bool) → Sum here true false
sum_none true = refl
sum_none false = refl

pub turn_goes : (k : KernelState) (by sc ec cpu priority quantum : ℕ) (b : Budget) → IsReached k → IsSchedule k sc ec cpu priority quantum b → OutranksOthers k cpu sc priority →
    (by ≡ cpu → is_due k by ≡ false → MayRun k ec) → Sum (by == cpu) (is_due k by) (is_paid_by sc (next_to_act k by))
turn_goes k by sc ec cpu priority quantum b r its outranks may = by_due (due_on k.times by) refl
  where
    beside : (by == cpu) ≡ true → due_on k.times by ≡ None → by ≡ cpu → (c : Candidate) → choice k by ≡ Some c → IsBeside sc priority b.stamp c →
        Sum (by == cpu) (is_due k by) (is_paid_by sc (next_to_act k by))
    beside here calm at c is (Itself number equal stamp) =
        summed k by cpu sc true false true here (ap is_some calm) (ap (is_paid_by sc) (acts_next k by c is calm) ∙ eq-eqb c.sc sc number) refl
    beside here calm at c is (Above number greater) =
        let less = outranked k cpu sc priority c (reached_is_kept k r) outranks (ap (choice k) (sym at) ∙ is) number in absurd (omega (arith, less, greater))
    beside here calm at c is (Before number equal stamp) =
        let less = outranked k cpu sc priority c (reached_is_kept k r) outranks (ap (choice k) (sym at) ∙ is) number in absurd (omega (arith, less, equal))

    elsewhere : (by == cpu) ≡ false → due_on k.times by ≡ None → (o : Option Candidate) → choice k by ≡ o → Sum (by == cpu) (is_due k by) (is_paid_by sc (next_to_act k by))
    elsewhere apart calm None is = summed k by cpu sc false false false apart (ap is_some calm) (ap (is_paid_by sc) (idle_none k by is)) refl
    elsewhere apart calm (Some c) is =
        summed k by cpu sc false false false apart (ap is_some calm)
        (ap (is_paid_by sc) (acts_next k by c is calm) ∙ not_paid k by cpu sc ec priority quantum c apart is its.object) refl

    by_here : due_on k.times by ≡ None → (t : Bool) → (by == cpu) ≡ t → Sum (by == cpu) (is_due k by) (is_paid_by sc (next_to_act k by))
    by_here calm true here =
        let at : by ≡ cpu = eqb-true by cpu here in
        let its' : IsSchedule k sc ec by priority quantum b = subst (λ (n : ℕ). IsSchedule k sc ec n priority quantum b) (sym at) its in
        let ch = chosen_beside k sc ec by priority quantum b (reached_stamped k r) its' (may at (ap is_some calm)) in
        beside here calm at ch.chosen ch.choice ch.beside
    by_here calm false apart = elsewhere apart calm (choice k by) refl

    by_due : (o : Option Due) → due_on k.times by ≡ o → Sum (by == cpu) (is_due k by) (is_paid_by sc (next_to_act k by))
    by_due (Some what) is =
        summed k by cpu sc (by == cpu) true false refl (ap is_some is) (ap (is_paid_by sc) (passing_none k by (Falls what) is)) (sum_none (by == cpu))
    by_due None is = by_here is (by == cpu) refl

-- ALL TURNS

every_turn : (k : KernelState) (turns : List ℕ) (sc ec cpu priority quantum : ℕ) (b : Budget) → IsReached k → NobodyCreates k → IsSchedule k sc ec cpu priority quantum b →
    OutranksOthers k cpu sc priority → StaysRunnable k cpu ec turns → turns_at cpu turns ≡ due_in k cpu turns + paid_in k sc turns
every_turn k [] sc ec cpu priority quantum b r nobody its outranks stays = refl
every_turn k (by ∷ turns) sc ec cpu priority quantum b r nobody its outranks (may, stays) =
    let a = after_schedule k by sc ec cpu priority quantum b its in
    let limited = all_limited k by nobody in
    let later : NobodyCreates (after k by) = λ n. nothing_after k by (λ m. ⊥) r limited n (λ none. none) in
    let first = turn_goes k by sc ec cpu priority quantum b r its outranks may in
    let rest = every_turn (after k by) turns sc ec cpu priority quantum a.budget (reached_after k by r) later a.still (outranks_still k by cpu sc priority (λ m. ⊥) r limited outranks) stays in
    omega (arith, first, rest)

pub has_every_turn : (s : Scenario) (before turns : List ℕ) (sc ec cpu priority quantum : ℕ) (b : Budget) → NobodyCreates (run (boot s) before) →
    IsSchedule (run (boot s) before) sc ec cpu priority quantum b → OutranksOthers (run (boot s) before) cpu sc priority → StaysRunnable (run (boot s) before) cpu ec turns →
    turns_at cpu turns ≡ due_in (run (boot s) before) cpu turns + paid_in (run (boot s) before) sc turns
has_every_turn s before turns sc ec cpu priority quantum b nobody its outranks stays =
    every_turn (run (boot s) before) turns sc ec cpu priority quantum b (record { scenario = s; turns = before; is = refl }) nobody its outranks stays
