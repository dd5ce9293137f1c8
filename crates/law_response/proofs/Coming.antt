-- A context whose moment has come acts in time: each turn of its processor is due until it is woken, and then it acts by itself.
use Rattle.std.proofs.Common.{◌≡◌, ℕ, ◌≤◌, List, [], ◌∷◌, inl, inr, refl, sym, ap, ap₂, ◌∙◌, arith}
use Rattle.std.specs.Prelude.{◌≢◌, ◌||◌, Bool, true, false, ◌==◌, is_none, slice_get, Option, Some, None, option_map, option_and_then}
use Rattle.std.proofs.lemmas.Bool.{eqb-true}
use Rattle.std.proofs.lemmas.Option.{same_Some}
use Rattle.nova_model.specs.Boot.{Scenario, boot}
use Rattle.nova_model.specs.Choice.{Candidate, next_to_act}
use Rattle.nova_model.specs.Edges.{acts, acts_as, chase, edge_of, state_in}
use Rattle.nova_model.specs.Runs.{after, run}
use Rattle.nova_model.specs.State.{KernelState, deadline_of}
use Rattle.nova_model.specs.Semaphores.{semaphore}
use Rattle.nova_model.specs.declared.times.AlarmState.{AlarmState}
use Rattle.nova_model.specs.Times.{goes_on, clock}
use Rattle.nova_model.specs.declared.budget.Budget.{Budget}
use Rattle.nova_model.specs.declared.context.State.TheVariants.{Blocked, Calling}
use Rattle.nova_model.specs.declared.times.Deadline.{Deadline}
use Rattle.nova_ec.proofs.Ends.{chases_go_on}
use Rattle.law_forest.proofs.Turning.{acts_chosen}
use Rattle.law_turns.specs.Keeping.{IsKept}
use Rattle.law_turns.proofs.Candidates.{the_chosen}
use Rattle.law_turns.proofs.Ticks.{one_if}
use Rattle.law_response.specs.Waits.{ActsItself, acts_itself, IsInTime, IsSchedule, MayRun, NeverActs, StaysRunnable, is_due, is_paid_by, paid_in}
use Rattle.law_response.proofs.Choosing.{candidate_of_schedule}
use Rattle.law_response.proofs.Responding.{pays_none, reached_is_kept}
use Rattle.law_response.proofs.Selves.{itself_after, itself_leads, itself_may}
use Rattle.law_response.proofs.Called.{IsCalled, called_after, called_blocked, called_due, first_there}
use Rattle.law_response.proofs.Late.{clock_rises, late_due, stands_after}
use Rattle.law_response.proofs.Waiting.{IsReached, after_schedule, reached_after, waited}

-- IT WAITS FOR ITS MOMENT, OR ACTS BY ITSELF

-- a blocked context pays for no turn
blocked_pays : (k : KernelState) (by sc ec cpu priority quantum sm : ℕ) (b : Budget) → IsKept k → IsSchedule k sc ec cpu priority quantum b → state_in k.contexts ec ≡ Some (Blocked sm) →
    is_paid_by sc (next_to_act k by) ≡ false
blocked_pays k by sc ec cpu priority quantum sm b kept its blocked = by_choice (next_to_act k by) refl
  where
    idle : MayRun k ec → ⊥
    idle may =
        let rests : acts k.contexts ec ≡ false = ap (acts_as k.contexts) blocked in
        let itself : chase k.contexts ec ≡ ec = (chases_go_on k.contexts ec kept.edges).ends (ap₂ (λ (t : Bool) (o : Option ℕ). t || is_none o) rests (ap (option_and_then edge_of) blocked)) in
        let both : true ≡ false = sym may ∙ ap (acts k.contexts) itself ∙ rests in cc

    by_test : (c : Candidate) → next_to_act k by ≡ Some c → (t : Bool) → (c.sc == sc) ≡ t → t ≡ false
    by_test c chosen true is =
        absurd (idle (candidate_of_schedule k by c sc ec cpu priority quantum (the_chosen k by c (acts_chosen k by c chosen).0) (eqb-true c.sc sc is) its.object).may)
    by_test c chosen false is = refl

    by_choice : (o : Option Candidate) → next_to_act k by ≡ o → is_paid_by sc o ≡ false
    by_choice None none = refl
    by_choice (Some c) chosen = by_test c chosen (c.sc == sc) refl

itself_pays : (k : KernelState) (by sc ec cpu priority quantum : ℕ) (b : Budget) → IsKept k → IsSchedule k sc ec cpu priority quantum b → ActsItself k ec →
    option_map (λ (c : Candidate). c.actor) (next_to_act k by) ≢ Some ec → is_paid_by sc (next_to_act k by) ≡ false
itself_pays k by sc ec cpu priority quantum b kept its acts never =
    pays_none k by sc ec cpu priority quantum b its
    (λ same. never (same ∙ ap (λ (n : ℕ). Some n) (itself_leads k ec acts.state kept acts.is acts.acts)))

-- its deadline stands, and its moment has come; it is the first that waits for an alarm, whose moment has come; or it acts by itself
pub data IsComing (k : KernelState) (ec cpu : ℕ) : Type 0 where
  Late : (d : Deadline) → deadline_of k.times ec ≡ Some d → d.cpu ≡ cpu → d.at ≤ clock k.times cpu → IsComing k ec cpu
  Called : IsCalled k ec cpu → IsComing k ec cpu
  Here : ActsItself k ec → IsComing k ec cpu

pub coming_after : (k : KernelState) (by ec cpu : ℕ) → IsKept k → IsComing k ec cpu → option_map (λ (c : Candidate). c.actor) (next_to_act k by) ≢ Some ec → IsComing (after k by) ec cpu
coming_after k by ec cpu kept (Late d at its come) never = elim (stands_after k by ec d kept at never) [
  | inl stands ↦ Late d stands its (let rises = clock_rises k by cpu in omega arith)
  | inr acts ↦ Here acts
]
coming_after k by ec cpu kept (Called c) never = elim (called_after k by ec cpu kept c never) [
  | inl called ↦ Called called
  | inr acts ↦ Here acts
]
coming_after k by ec cpu kept (Here acts) never =
    Here (record { state = acts.state; is = itself_after k by ec acts.state kept acts.is acts.acts never; acts = acts.acts })

pub coming_may : (k : KernelState) (by ec cpu : ℕ) → IsKept k → IsComing k ec cpu → by ≡ cpu → is_due k by ≡ false → MayRun k ec
coming_may k by ec cpu kept (Late d at its come) same calm =
    let there : d.at ≤ clock k.times d.cpu = rw its come in
    absurd (let both : true ≡ false = sym (late_due k ec d at there) ∙ ap (is_due k) (its ∙ sym same) ∙ calm in cc)
coming_may k by ec cpu kept (Called c) same calm = absurd (let both : true ≡ false = sym (called_due k ec cpu c) ∙ ap (is_due k) (sym same) ∙ calm in cc)
coming_may k by ec cpu kept (Here acts) same calm = itself_may k ec acts.state kept acts.is acts.acts

coming_pays : (k : KernelState) (by sc ec cpu priority quantum : ℕ) (b : Budget) → IsKept k → IsSchedule k sc ec cpu priority quantum b → IsComing k ec cpu →
    option_map (λ (c : Candidate). c.actor) (next_to_act k by) ≢ Some ec → is_paid_by sc (next_to_act k by) ≡ false
coming_pays k by sc ec cpu priority quantum b kept its (Late d at home come) never = blocked_pays k by sc ec cpu priority quantum d.sm b kept its (kept.deadlines ec d at).blocked
coming_pays k by sc ec cpu priority quantum b kept its (Called c) never = blocked_pays k by sc ec cpu priority quantum c.alarm.alarm.sm b kept its (called_blocked k ec cpu kept c)
coming_pays k by sc ec cpu priority quantum b kept its (Here acts) never = itself_pays k by sc ec cpu priority quantum b kept its acts never

-- it waits for no reply
pub coming_calls : (k : KernelState) (ec cpu handler : ℕ) → IsKept k → IsComing k ec cpu → state_in k.contexts ec ≢ Some (Calling handler)
coming_calls k ec cpu handler kept (Late d at home come) calls = let both = sym (kept.deadlines ec d at).blocked ∙ calls in cc
coming_calls k ec cpu handler kept (Called c) calls = let both = sym (called_blocked k ec cpu kept c) ∙ calls in cc
coming_calls k ec cpu handler kept (Here acts) calls =
    let same : acts.state ≡ Calling handler = same_Some acts.state (Calling handler) (sym acts.is ∙ calls) in
    let both : true ≡ false = sym acts.acts ∙ ap acts_itself same in cc

pub record StaysComing (k : KernelState) (turns : List ℕ) (sc ec cpu : ℕ) : Type 0 where
  pub stays : StaysRunnable k cpu ec turns
  pub none : paid_in k sc turns ≡ 0

pub stays_coming : (k : KernelState) (turns : List ℕ) (sc ec cpu priority quantum : ℕ) (b : Budget) → IsReached k → IsSchedule k sc ec cpu priority quantum b → IsComing k ec cpu →
    NeverActs k ec turns → StaysComing k turns sc ec cpu
stays_coming k [] sc ec cpu priority quantum b r its coming never = record { stays = tt; none = refl }
stays_coming k (by ∷ turns) sc ec cpu priority quantum b r its coming (first, never) =
    let kept = reached_is_kept k r in
    let a = after_schedule k by sc ec cpu priority quantum b its in
    let rest = stays_coming (after k by) turns sc ec cpu priority quantum a.budget (reached_after k by r) a.still (coming_after k by ec cpu kept coming first) never in
    let once : one_if (is_paid_by sc (next_to_act k by)) ≡ 0 = ap one_if (coming_pays k by sc ec cpu priority quantum b kept its coming first) in
    record { stays = (λ same calm. coming_may k by ec cpu kept coming same calm, rest.stays); none = omega (arith, once, rest.none) }

comes_in_time : (s : Scenario) (before turns : List ℕ) (sc ec cpu priority quantum : ℕ) (b : Budget) → IsSchedule (run (boot s) before) sc ec cpu priority quantum b →
    IsComing (run (boot s) before) ec cpu → NeverActs (run (boot s) before) ec turns → IsInTime (run (boot s) before) turns cpu priority b
comes_in_time s before turns sc ec cpu priority quantum b its coming never =
    let k = run (boot s) before in
    let r : IsReached k = record { scenario = s; turns = before; is = refl } in
    let so = stays_coming k turns sc ec cpu priority quantum b r its coming never in
    let w = waited k turns sc ec cpu priority quantum b r its so.stays (let none = so.none in omega arith) in
    let none = so.none in let count = w.count in omega arith

pub late_in_time : (s : Scenario) (before turns : List ℕ) (sc ec priority quantum : ℕ) (b : Budget) (d : Deadline) → IsSchedule (run (boot s) before) sc ec d.cpu priority quantum b →
    deadline_of (run (boot s) before).times ec ≡ Some d → d.at ≤ clock (run (boot s) before).times d.cpu → NeverActs (run (boot s) before) ec turns →
    IsInTime (run (boot s) before) turns d.cpu priority b
late_in_time s before turns sc ec priority quantum b d its at come never = comes_in_time s before turns sc ec d.cpu priority quantum b its (Late d at refl come) never

pub called_in_time : (s : Scenario) (before turns : List ℕ) (sc ec priority quantum n : ℕ) (b : Budget) (a : AlarmState) (rest : List ℕ) →
    IsSchedule (run (boot s) before) sc ec a.alarm.cpu priority quantum b → slice_get (run (boot s) before).times.alarms n ≡ Some a → goes_on a ≡ true →
    a.next ≤ clock (run (boot s) before).times a.alarm.cpu → (semaphore (run (boot s) before).semaphores a.alarm.sm).waiting ≡ ec ∷ rest → NeverActs (run (boot s) before) ec turns →
    IsInTime (run (boot s) before) turns a.alarm.cpu priority b
called_in_time s before turns sc ec priority quantum n b a rest its at more come first never =
    comes_in_time s before turns sc ec a.alarm.cpu priority quantum b its
    (Called (record { number = n; alarm = a; at = at; its = refl; more = more; come = come; first = first_there (run (boot s) before).semaphores a.alarm.sm ec rest first })) never
