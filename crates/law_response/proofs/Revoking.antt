-- A context that revokes stays runnable, so that its revoke ends in time.
use Rattle.std.proofs.Common.{◌≡◌, ℕ, ◌≤◌, List, [], ◌∷◌, length, refl, ap, ◌∙◌, arith}
use Rattle.std.specs.Prelude.{Bool, true, false, ◌==◌, if◌then◌else◌, Option, Some, None}
use Rattle.std.proofs.lemmas.Bool.{eqb-true}
use Rattle.nova_model.specs.Boot.{Scenario, boot}
use Rattle.nova_model.specs.Choice.{Candidate, actor, next_to_act}
use Rattle.nova_model.specs.Edges.{state_in}
use Rattle.nova_model.specs.Revokes.{Revocation}
use Rattle.nova_model.specs.Runs.{after, run}
use Rattle.nova_model.specs.State.{KernelState, ec_in}
use Rattle.nova_model.specs.declared.budget.Budget.{Budget}
use Rattle.nova_model.specs.declared.context.State.TheVariants.{Revoking}
use Rattle.law_forest.proofs.Running.{revoking_there}
use Rattle.law_forest.proofs.Turning.{acts_chosen}
use Rattle.law_turns.proofs.Candidates.{the_chosen}
use Rattle.law_turns.proofs.Ticks.{one_if}
use Rattle.law_revocation.specs.Along.{Runs, acts_in, acts_once}
use Rattle.law_revocation.specs.Whole.{left}
use Rattle.law_revocation.proofs.Kept.{reached_sound}
use Rattle.law_revocation.proofs.Shrinking.{shrunk}
use Rattle.law_response.specs.Waits.{HasShared, IsSchedule, StaysRunnable, is_paid_by, paid_in}
use Rattle.law_response.proofs.Choosing.{candidate_of_schedule}
use Rattle.law_response.proofs.Responding.{reached_is_kept}
use Rattle.law_response.proofs.Selves.{itself_leads, itself_may, kept_state}
use Rattle.law_response.proofs.Sharing.{reached_shared}
use Rattle.law_response.proofs.Waiting.{IsReached, after_schedule, reached_after}

record Revokes (k : KernelState) (turns : List ℕ) (sc ec cpu : ℕ) : Type 0 where
  stays : StaysRunnable k cpu ec turns
  paid : paid_in k sc turns ≤ acts_in k ec turns

pub own_once : (k : KernelState) (by sc ec cpu priority quantum : ℕ) (b : Budget) → IsSchedule k sc ec cpu priority quantum b → actor k ec ≡ ec →
    one_if (is_paid_by sc (next_to_act k by)) ≤ acts_once ec (next_to_act k by)
own_once k by sc ec cpu priority quantum b its itself = by_choice (next_to_act k by) refl
  where
    by_test : (c : Candidate) → next_to_act k by ≡ Some c → (t : Bool) → (c.sc == sc) ≡ t → one_if t ≤ acts_once ec (Some c)
    by_test c chosen true is =
        let acts = (candidate_of_schedule k by c sc ec cpu priority quantum (the_chosen k by c (acts_chosen k by c chosen).0) (eqb-true c.sc sc is) its.object).acts in
        let same : c.actor ≡ ec = acts ∙ itself in
        let test : (c.actor == ec) ≡ true = grind arith in
        let once : acts_once ec (Some c) ≡ 1 = ap (λ (t : Bool). if t then 1 else 0) test in
        omega (arith, once)
    by_test c chosen false is = omega arith

    by_choice : (o : Option Candidate) → next_to_act k by ≡ o → one_if (is_paid_by sc o) ≤ acts_once ec o
    by_choice None none = omega arith
    by_choice (Some c) chosen = by_test c chosen (c.sc == sc) refl

revokes : (k : KernelState) (turns : List ℕ) (sc ec cpu priority quantum : ℕ) (b : Budget) (r : Revocation) → IsReached k → IsSchedule k sc ec cpu priority quantum b → Runs k ec r turns →
    Revokes k turns sc ec cpu
revokes k [] sc ec cpu priority quantum b r reached its runs = record { stays = tt; paid = omega arith }
revokes k (by ∷ turns) sc ec cpu priority quantum b r reached its (now, runs) =
    let it = revoking_there k ec r now in
    let at : state_in k.contexts ec ≡ Some (Revoking it.range it.own) = kept_state (ec_in k.contexts ec) (Revoking it.range it.own) it.state refl in
    let kept = reached_is_kept k reached in
    let may = itself_may k ec (Revoking it.range it.own) kept at refl in
    let once = own_once k by sc ec cpu priority quantum b its (itself_leads k ec (Revoking it.range it.own) kept at refl) in
    let a = after_schedule k by sc ec cpu priority quantum b its in
    let rest = revokes (after k by) turns sc ec cpu priority quantum a.budget r (reached_after k by reached) a.still runs in
    record { stays = (λ same calm. may, rest.stays); paid = omega (arith, once, rest.paid) }

pub revoked_in_time : (s : Scenario) (before turns : List ℕ) (sc ec cpu priority quantum : ℕ) (b : Budget) (r : Revocation) → 1 ≤ s.root.quantum →
    IsSchedule (run (boot s) before) sc ec cpu priority quantum b → Runs (run (boot s) before) ec r turns →
    HasShared (run (boot s) before) turns sc ec cpu priority quantum b × (paid_in (run (boot s) before) sc turns ≤ length (left r (run (boot s) before)))
revoked_in_time s before turns sc ec cpu priority quantum b r least its runs =
    let k = run (boot s) before in
    let so = revokes k turns sc ec cpu priority quantum b r (record { scenario = s; turns = before; is = refl }) its runs in
    let shrinks = shrunk k turns ec r (reached_sound s before) runs in
    (reached_shared s before turns sc ec cpu priority quantum b least its so.stays, (let paid = so.paid in let fewer = shrinks.fewer in omega arith))
