-- One of the greatest priority goes first, and turns go along edges.
use Rattle.std.proofs.Common.{◌≡◌, ℕ, suc, ◌<◌, ◌+◌, List, refl, ap₂, subst, arith}
use Rattle.std.specs.Prelude.{◌≢◌, ◌||◌, Bool, false, is_none, Option, Some, None, IfSome}
use Rattle.std.specs.List.{Contains}
use Rattle.nova_model.specs.Boot.{Scenario, boot}
use Rattle.nova_model.specs.Choice.{Candidate, actor, candidates, choice}
use Rattle.nova_model.specs.Edges.{acts, after_edges, edge}
use Rattle.nova_model.specs.Runs.{run}
use Rattle.nova_model.specs.State.{KernelState}
use Rattle.nova_model.specs.Times.{due_on}
use Rattle.nova_model.specs.declared.budget.Budget.{Budget}
use Rattle.nova_ec.proofs.Ends.{chases_go_on}
use Rattle.law_forest.proofs.Turning.{acts_next}
use Rattle.law_turns.specs.Choices.{IsBest}
use Rattle.law_turns.proofs.Best.{choice_best}
use Rattle.law_turns.proofs.Candidates.{the_chosen}
use Rattle.law_turns.proofs.Donation.{reached_kept}
use Rattle.law_response.specs.Waits.{GoesFirst, IsSchedule, MayRun}
use Rattle.law_response.proofs.Choosing.{Above, Before, IsBeside, IsChosen, Itself, candidate_of_schedule, chosen_beside}
use Rattle.law_response.proofs.Waiting.{reached_stamped}

chosen_there : (k : KernelState) (cpu : ℕ) (c : Candidate) → choice k cpu ≡ Some c → Contains (candidates k cpu) c
chosen_there k cpu c is = (subst (λ (o : Option Candidate). IfSome o (IsBest (candidates k cpu))) is (choice_best k cpu)).there

pub goes_first : (s : Scenario) (before : List ℕ) (sc ec cpu priority quantum : ℕ) (b : Budget) → IsSchedule (run (boot s) before) sc ec cpu priority quantum b → MayRun (run (boot s) before) ec →
    due_on (run (boot s) before).times cpu ≡ None → ((d : Candidate) → Contains (candidates (run (boot s) before) cpu) d → d.sc ≢ sc → d.priority < priority) →
    GoesFirst (run (boot s) before) cpu sc ec
goes_first s before sc ec cpu priority quantum b its may calm lesser = by_beside ch.beside
  where
    k : KernelState
    k = run (boot s) before

    ch : IsChosen k cpu sc priority b.stamp
    ch = chosen_beside k sc ec cpu priority quantum b (reached_stamped k (record { scenario = s; turns = before; is = refl })) its may

    by_beside : IsBeside sc priority b.stamp ch.chosen → GoesFirst k cpu sc ec
    by_beside (Itself number equal stamp) = record {
      chosen = ch.chosen;
      acts = acts_next k cpu ch.chosen ch.choice calm;
      pays = number;
      its = (candidate_of_schedule k cpu ch.chosen sc ec cpu priority quantum (the_chosen k cpu ch.chosen ch.choice) number its.object).acts;
    }
    by_beside (Above number greater) = let less = lesser ch.chosen (chosen_there k cpu ch.chosen ch.choice) number in absurd (omega arith)
    by_beside (Before number equal less) = let below = lesser ch.chosen (chosen_there k cpu ch.chosen ch.choice) number in absurd (omega arith)

pub along_edges : (s : Scenario) (before : List ℕ) (ec h : ℕ) → edge (run (boot s) before).contexts ec ≡ Some h → acts (run (boot s) before).contexts ec ≡ false →
    actor (run (boot s) before) ec ≡ actor (run (boot s) before) h
along_edges s before ec h way idle =
    let cs = (run (boot s) before).contexts in
    (chases_go_on cs ec (reached_kept s before).edges).goes_on h (ap₂ (λ (t : Bool) (o : Option ℕ). t || is_none o) idle way) way

pub no_circle : (s : Scenario) (turns : List ℕ) (ec n : ℕ) → after_edges (n + 1) (edge (run (boot s) turns).contexts) ec ≢ Some ec
no_circle s turns ec n =
    let one : suc n ≡ n + 1 = omega arith in
    subst (λ (m : ℕ). after_edges m (edge (run (boot s) turns).contexts) ec ≢ Some ec) one ((reached_kept s turns).edges.no_circle ec n)
