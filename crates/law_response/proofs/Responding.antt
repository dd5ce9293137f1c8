-- A context that may run acts in time: what stands before it, what is due and what is of a greater priority are all that come first.
use Rattle.std.proofs.Common.{◌≡◌, ℕ, List, [], ◌∷◌, refl, sym, ap, ◌∙◌, subst, arith}
use Rattle.std.specs.Prelude.{◌≢◌, Bool, true, false, ◌==◌, Option, Some, None, option_map}
use Rattle.std.proofs.lemmas.Bool.{eqb-true}
use Rattle.nova_model.specs.Boot.{Scenario, boot}
use Rattle.nova_model.specs.Capabilities.{is_schedulable}
use Rattle.nova_model.specs.Choice.{Candidate, actor, next_to_act}
use Rattle.nova_model.specs.Hypercalls.{schedules}
use Rattle.nova_model.specs.Runs.{after, run}
use Rattle.nova_model.specs.State.{KernelState, is_local_thread}
use Rattle.nova_model.specs.declared.budget.Budget.{Budget}
use Rattle.law_forest.proofs.Turning.{acts_chosen}
use Rattle.law_turns.specs.Keeping.{IsKept}
use Rattle.law_turns.specs.Tables.{IsOf}
use Rattle.law_turns.proofs.Candidates.{the_chosen}
use Rattle.law_turns.proofs.Donation.{reached_kept}
use Rattle.law_turns.proofs.Schedules.{schedulable}
use Rattle.law_turns.proofs.Ticks.{one_if}
use Rattle.law_response.specs.Waits.{Awaits, HasAwaited, IsSchedule, MayRun, StaysRunnable, is_paid_by, paid_in}
use Rattle.law_response.proofs.Choosing.{candidate_of_schedule}
use Rattle.law_response.proofs.Leads.{led_after, schedulable_apart}
use Rattle.law_response.proofs.Waiting.{IsReached, after_schedule, reached_after, waited}

pub reached_is_kept : (k : KernelState) → IsReached k → IsKept k
reached_is_kept k r = subst IsKept (sym r.is) (reached_kept r.scenario r.turns)

owner_apart : (k : KernelState) (sc ec cpu priority quantum : ℕ) (b : Budget) → IsReached k → IsSchedule k sc ec cpu priority quantum b → is_local_thread k ec ≡ false
owner_apart k sc ec cpu priority quantum b r its =
    let one : (ec == ec) ≡ true = grind arith in
    let has : IsOf k.objects (schedules ec) sc = ap (option_map (schedules ec)) its.object ∙ ap (λ (t : Bool). Some t) one in
    schedulable_apart k ec
    (subst (λ (s : KernelState). IsOf s.objects (schedules ec) sc → IsOf s.objects is_schedulable ec) (sym r.is) (schedulable r.scenario r.turns ec sc) has)

pub still_runs : (k : KernelState) (by sc ec cpu priority quantum : ℕ) (b : Budget) → IsReached k → IsSchedule k sc ec cpu priority quantum b → MayRun k ec →
    option_map (λ (c : Candidate). c.actor) (next_to_act k by) ≢ Some (actor k ec) → MayRun (after k by) ec
still_runs k by sc ec cpu priority quantum b r its may await = led_after k by ec (reached_is_kept k r) (owner_apart k sc ec cpu priority quantum b r its) may await

-- it pays for none in which that context doesn't act
pub pays_none : (k : KernelState) (by sc ec cpu priority quantum : ℕ) (b : Budget) → IsSchedule k sc ec cpu priority quantum b →
    option_map (λ (c : Candidate). c.actor) (next_to_act k by) ≢ Some (actor k ec) → is_paid_by sc (next_to_act k by) ≡ false
pays_none k by sc ec cpu priority quantum b its await = by_choice (next_to_act k by) refl
  where
    by_test : (c : Candidate) → next_to_act k by ≡ Some c → (t : Bool) → (c.sc == sc) ≡ t → t ≡ false
    by_test c chosen true is =
        let same : c.sc ≡ sc = eqb-true c.sc sc is in
        let acts = (candidate_of_schedule k by c sc ec cpu priority quantum (the_chosen k by c (acts_chosen k by c chosen).0) same its.object).acts in
        absurd (await (ap (option_map (λ (x : Candidate). x.actor)) chosen ∙ ap (λ (n : ℕ). Some n) acts))
    by_test c chosen false is = refl

    by_choice : (o : Option Candidate) → next_to_act k by ≡ o → is_paid_by sc o ≡ false
    by_choice None none = refl
    by_choice (Some c) chosen = by_test c chosen (c.sc == sc) refl

record StaysSo (k : KernelState) (turns : List ℕ) (sc ec cpu : ℕ) : Type 0 where
  stays : StaysRunnable k cpu ec turns
  none : paid_in k sc turns ≡ 0
  still : MayRun (run k turns) ec

stays_so : (k : KernelState) (turns : List ℕ) (sc ec cpu priority quantum : ℕ) (b : Budget) → IsReached k → IsSchedule k sc ec cpu priority quantum b → MayRun k ec → Awaits k ec turns →
    StaysSo k turns sc ec cpu
stays_so k [] sc ec cpu priority quantum b r its may await = record { stays = tt; none = refl; still = may }
stays_so k (by ∷ turns) sc ec cpu priority quantum b r its may (first, await) =
    let a = after_schedule k by sc ec cpu priority quantum b its in
    let rest = stays_so (after k by) turns sc ec cpu priority quantum a.budget (reached_after k by r) a.still (still_runs k by sc ec cpu priority quantum b r its may first) await in
    let once : one_if (is_paid_by sc (next_to_act k by)) ≡ 0 = ap one_if (pays_none k by sc ec cpu priority quantum b its first) in
    record { stays = (λ same calm. may, rest.stays); none = omega (arith, once, rest.none); still = rest.still }

pub awaited : (s : Scenario) (before turns : List ℕ) (sc ec cpu priority quantum : ℕ) (b : Budget) → IsSchedule (run (boot s) before) sc ec cpu priority quantum b →
    MayRun (run (boot s) before) ec → Awaits (run (boot s) before) ec turns → HasAwaited (run (boot s) before) turns sc ec cpu priority b
awaited s before turns sc ec cpu priority quantum b its may await =
    let k = run (boot s) before in
    let r : IsReached k = record { scenario = s; turns = before; is = refl } in
    let so = stays_so k turns sc ec cpu priority quantum b r its may await in
    let w = waited k turns sc ec cpu priority quantum b r its so.stays (let none = so.none in omega arith) in
    record { still = so.still; none = so.none; count = omega (arith, w.count, so.none) }
