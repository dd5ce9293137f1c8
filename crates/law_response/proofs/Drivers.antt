-- The greatest of a processor acts within the turns that are due there: closed, in rings and deadlines.
use Rattle.std.proofs.Common.{◌≡◌, ℕ, ◌<◌, ◌≤◌, List, [], ◌∷◌, refl, sym, ap, ◌∙◌, subst, arith}
use Rattle.std.specs.Prelude.{◌≢◌, Bool, true, false, ◌==◌, ◌&&◌, is_some, slice_get, Option, Some, None, option_map}
use Rattle.law_response.specs.Creating.{NobodyElseCreates, OutranksOthers}
use Rattle.law_response.proofs.Creating.{others_create_nothing, outranks_after}
use Rattle.std.proofs.lemmas.Bool.{eqb-true}
use Rattle.nova_model.specs.Boot.{Scenario, boot}
use Rattle.nova_model.specs.Choice.{Candidate, actor, choice, next_to_act}
use Rattle.nova_model.specs.Deeds.{deed}
use Rattle.nova_model.specs.Runs.{after, run}
use Rattle.nova_model.specs.Semaphores.{semaphore}
use Rattle.nova_model.specs.State.{KernelState, deadline_of}
use Rattle.nova_model.specs.Times.{clock, due_on, goes_on}
use Rattle.nova_model.specs.declared.budget.Budget.{Budget}
use Rattle.nova_model.specs.declared.deed.Deed.{Deed}
use Rattle.nova_model.specs.declared.deed.Deed.TheVariants.{Blocks}
use Rattle.nova_model.specs.declared.times.AlarmState.{AlarmState}
use Rattle.nova_model.specs.declared.times.Deadline.{Deadline}
use Rattle.nova_model.specs.declared.times.Due.{Due}
use Rattle.law_forest.specs.Effects.{Falls}
use Rattle.law_forest.proofs.Turning.{acts_next, passing_none}
use Rattle.law_turns.specs.Keeping.{IsKept}
use Rattle.law_turns.proofs.Candidates.{the_chosen}
use Rattle.law_turns.proofs.Referring.{Asks, deed_asks}
use Rattle.nova_gsi.proofs.Homes.{actor_home}
use Rattle.law_response.specs.Dues.{IsPrompt, sets_in, sets_one, sets_once}
use Rattle.law_response.specs.Waits.{IsSchedule, NeverActs, due_in, is_due, turns_at}
use Rattle.law_response.proofs.Choosing.{Above, Before, IsBeside, Itself, candidate_of_schedule, chosen_beside}
use Rattle.law_response.proofs.Called.{called_due, first_there}
use Rattle.law_response.proofs.Coming.{Called, Here, IsComing, Late, coming_after, coming_calls, coming_may}
use Rattle.law_response.proofs.Dues.{few_are_due}
use Rattle.law_response.proofs.Highest.{outranked}
use Rattle.law_response.proofs.Late.{late_due}
use Rattle.law_response.proofs.Responding.{reached_is_kept}
use Rattle.law_response.proofs.Selves.{itself_leads}
use Rattle.law_response.proofs.Waiting.{IsReached, after_schedule, reached_after, reached_stamped}
use Rattle.law_turns.proofs.Ticks.{one_if}

-- A TURN OF ITS PROCESSOR IS DUE

actor_coming : (k : KernelState) (ec cpu : ℕ) → IsKept k → IsComing k ec cpu → is_due k cpu ≡ false → actor k ec ≡ ec
actor_coming k ec cpu kept (Here acts) calm = itself_leads k ec acts.state kept acts.is acts.acts
actor_coming k ec cpu kept (Late d at its come) calm = let may = late_due k ec d at (rw its come) in
    absurd (let both : true ≡ false = sym may ∙ ap (is_due k) its ∙ calm in cc)
actor_coming k ec cpu kept (Called c) calm = let may = called_due k ec cpu c in absurd (let both : true ≡ false = sym may ∙ calm in cc)

is_due_then : (k : KernelState) (sc ec cpu priority quantum : ℕ) (b : Budget) → IsReached k → IsSchedule k sc ec cpu priority quantum b → IsComing k ec cpu → OutranksOthers k cpu sc priority →
    option_map (λ (c : Candidate). c.actor) (next_to_act k cpu) ≢ Some ec → is_due k cpu ≡ true
is_due_then k sc ec cpu priority quantum b r its coming outranks never = by_due (is_due k cpu) refl
  where
    kept : IsKept k
    kept = reached_is_kept k r

    by_none : (o : Option Due) → due_on k.times cpu ≡ o → is_some o ≡ false → due_on k.times cpu ≡ None
    by_none None is calm = is
    by_none (Some what) is calm = absurd cc

    rank : (c : Candidate) → choice k cpu ≡ Some c → c.sc ≢ sc → c.priority < priority
    rank c is other = outranked k cpu sc priority c kept outranks is other

    by_beside : is_due k cpu ≡ false → (c : Candidate) → choice k cpu ≡ Some c → IsBeside sc priority b.stamp c → ⊥
    by_beside calm c is (Itself number equal stamp) =
        let acts = (candidate_of_schedule k cpu c sc ec cpu priority quantum (the_chosen k cpu c is) number its.object).acts in
        let next = acts_next k cpu c is (by_none (due_on k.times cpu) refl calm) in
        never (ap (option_map (λ (x : Candidate). x.actor)) next ∙ ap (λ (n : ℕ). Some n) (acts ∙ actor_coming k ec cpu kept coming calm))
    by_beside calm c is (Above number greater) = let less = rank c is number in omega arith
    by_beside calm c is (Before number equal stamp) = let less = rank c is number in omega arith

    by_due : (t : Bool) → is_due k cpu ≡ t → is_due k cpu ≡ true
    by_due true is = is
    by_due false is =
        let ch = chosen_beside k sc ec cpu priority quantum b (reached_stamped k r) its (coming_may k cpu ec cpu kept coming refl is) in
        absurd (by_beside is ch.chosen ch.choice ch.beside)

-- none acts where something is due
pub nobody_acts : (k : KernelState) (cpu : ℕ) → is_due k cpu ≡ true → next_to_act k cpu ≡ None
nobody_acts k cpu due = by_due (due_on k.times cpu) refl due
  where
    by_due : (o : Option Due) → due_on k.times cpu ≡ o → is_some o ≡ true → next_to_act k cpu ≡ None
    by_due None is there = absurd cc
    by_due (Some what) is there = passing_none k cpu (Falls what) is

-- a context that sets a deadline sets one of the processor whose turn it is
sets_home : (s : Scenario) (turns : List ℕ) (by cpu : ℕ) (c : Candidate) → next_to_act (run (boot s) turns) by ≡ Some c → sets_one cpu (deed (run (boot s) turns) c.actor) ≡ true → by ≡ cpu
sets_home s turns by cpu c chosen sets = by_deed (deed k c.actor) refl (deed_asks k c.actor) sets
  where
    k : KernelState
    k = run (boot s) turns

    by_deed : (d : Deed) → deed k c.actor ≡ d → Asks k c.actor d → sets_one cpu d ≡ true → by ≡ cpu
    by_deed (Blocks sm (Some d)) is asks sets =
        let until = asks.2 in
        sym (actor_home s turns by c chosen) ∙ sym until.processor ∙ eqb-true d.cpu cpu sets
    by_deed (Blocks sm None) is asks sets = absurd cc
    by_deed other is asks sets = absurd cc

pub sets_none : (k : KernelState) (by cpu : ℕ) → IsReached k → (by ≡ cpu → next_to_act k by ≡ None) → sets_once cpu k (next_to_act k by) ≡ false
sets_none k by cpu r nobody = by_choice (next_to_act k by) refl
  where
    by_test : (c : Candidate) → next_to_act k by ≡ Some c → (t : Bool) → sets_one cpu (deed k c.actor) ≡ t → t ≡ false
    by_test c chosen false is = refl
    by_test c chosen true is =
        let home : by ≡ cpu =
        sets_home r.scenario r.turns by cpu c (sym (ap (λ (s : KernelState). next_to_act s by) r.is) ∙ chosen) (sym (ap (λ (s : KernelState). sets_one cpu (deed s c.actor)) r.is) ∙ is) in
        absurd (let none : None ≡ Some c = sym (nobody home) ∙ chosen in cc)

    by_choice : (o : Option Candidate) → next_to_act k by ≡ o → sets_once cpu k o ≡ false
    by_choice None is = refl
    by_choice (Some c) chosen = by_test c chosen (sets_one cpu (deed k c.actor)) refl

-- ALL TURNS

pub record AreDue (k : KernelState) (turns : List ℕ) (cpu : ℕ) : Type 0 where
  pub due : turns_at cpu turns ≡ due_in k cpu turns
  pub none : sets_in k cpu turns ≡ 0

are_due : (k : KernelState) (turns : List ℕ) (sc ec cpu priority quantum : ℕ) (b : Budget) → IsReached k → IsSchedule k sc ec cpu priority quantum b → IsComing k ec cpu →
    NobodyElseCreates k ec → OutranksOthers k cpu sc priority → NeverActs k ec turns → AreDue k turns cpu
are_due k [] sc ec cpu priority quantum b r its coming nobody outranks never = record { due = refl; none = refl }
are_due k (by ∷ turns) sc ec cpu priority quantum b r its coming nobody outranks (first, never) =
    let kept = reached_is_kept k r in
    let a = after_schedule k by sc ec cpu priority quantum b its in
    let calls = λ (handler : ℕ). coming_calls k ec cpu handler kept coming in
    let rest = are_due (after k by) turns sc ec cpu priority quantum a.budget (reached_after k by r) a.still (coming_after k by ec cpu kept coming first)
    (others_create_nothing k by ec r nobody first calls) (outranks_after k by cpu sc ec priority r nobody first calls outranks) never in
    let due : by ≡ cpu → is_due k by ≡ true =
    λ same. subst (λ (n : ℕ). option_map (λ (c : Candidate). c.actor) (next_to_act k n) ≢ Some ec → is_due k n ≡ true) (sym same) (is_due_then k sc ec cpu priority quantum b r its coming outranks) first in
    let sets = ap one_if (sets_none k by cpu r (λ same. nobody_acts k by (due same))) in
    let here = counts (by == cpu) refl due in
    record { due = omega (arith, rest.due, here); none = omega (arith, rest.none, sets) }
  where
    counts : (t : Bool) → (by == cpu) ≡ t → (by ≡ cpu → is_due k by ≡ true) → one_if (by == cpu) ≡ one_if ((by == cpu) && is_due k by)
    counts true is due = let one = due (eqb-true by cpu is) in rw (is, one) refl
    counts false is due = rw is refl

prompt : (s : Scenario) (before turns : List ℕ) (sc ec cpu priority quantum : ℕ) (b : Budget) → IsSchedule (run (boot s) before) sc ec cpu priority quantum b →
    IsComing (run (boot s) before) ec cpu → NobodyElseCreates (run (boot s) before) ec → OutranksOthers (run (boot s) before) cpu sc priority → NeverActs (run (boot s) before) ec turns →
    IsPrompt (run (boot s) before) turns cpu
prompt s before turns sc ec cpu priority quantum b its coming nobody outranks never =
    let h = are_due (run (boot s) before) turns sc ec cpu priority quantum b (record { scenario = s; turns = before; is = refl }) its coming nobody outranks never in
    let few = few_are_due s before turns cpu in
    let due = h.due in let none = h.none in omega arith

pub late_prompt : (s : Scenario) (before turns : List ℕ) (sc ec priority quantum : ℕ) (b : Budget) (d : Deadline) → IsSchedule (run (boot s) before) sc ec d.cpu priority quantum b →
    deadline_of (run (boot s) before).times ec ≡ Some d → d.at ≤ clock (run (boot s) before).times d.cpu → NobodyElseCreates (run (boot s) before) ec →
    OutranksOthers (run (boot s) before) d.cpu sc priority → NeverActs (run (boot s) before) ec turns → IsPrompt (run (boot s) before) turns d.cpu
late_prompt s before turns sc ec priority quantum b d its at come nobody outranks never =
    prompt s before turns sc ec d.cpu priority quantum b its (Late d at refl come) nobody outranks never

pub called_prompt : (s : Scenario) (before turns : List ℕ) (sc ec priority quantum n : ℕ) (b : Budget) (a : AlarmState) (rest : List ℕ) →
    IsSchedule (run (boot s) before) sc ec a.alarm.cpu priority quantum b → slice_get (run (boot s) before).times.alarms n ≡ Some a → goes_on a ≡ true →
    a.next ≤ clock (run (boot s) before).times a.alarm.cpu → (semaphore (run (boot s) before).semaphores a.alarm.sm).waiting ≡ ec ∷ rest → NobodyElseCreates (run (boot s) before) ec →
    OutranksOthers (run (boot s) before) a.alarm.cpu sc priority → NeverActs (run (boot s) before) ec turns → IsPrompt (run (boot s) before) turns a.alarm.cpu
called_prompt s before turns sc ec priority quantum n b a rest its at more come first nobody outranks never =
    prompt s before turns sc ec a.alarm.cpu priority quantum b its
    (Called (record { number = n; alarm = a; at = at; its = refl; more = more; come = come; first = first_there (run (boot s) before).semaphores a.alarm.sm ec rest first })) nobody outranks never
