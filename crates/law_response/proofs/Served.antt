-- Round robin serves the highest priority: what was found of turns of a processor, in rounds.
use Rattle.std.proofs.Common.{◌≡◌, ℕ, ◌<◌, ◌≤◌, ◌+◌, ◌-◌, List, [], ◌∷◌, ◌++◌, length, length-append, append_assoc, refl, sym, ap, ◌∙◌, subst, arith}
use Rattle.std.specs.Prelude.{Bool, true, false, ◌==◌, ◌&&◌, slice_get, Option, Some, None}
use Rattle.std.specs.List.{concat}
use Rattle.std.proofs.lemmas.Bool.{eqb-true}
use Rattle.nova_objects.specs.declared.object.Object.{Object}
use Rattle.nova_objects.specs.declared.object.Object.TheVariants.{Sc}
use Rattle.nova_model.specs.Boot.{Scenario, boot}
use Rattle.nova_model.specs.Choice.{Candidate, next_to_act}
use Rattle.nova_model.specs.Runs.{after, rounds, run}
use Rattle.nova_model.specs.State.{KernelState}
use Rattle.law_forest.proofs.Turning.{acts_chosen, event_at}
use Rattle.law_turns.specs.Rounds.{AreRounds, GoesRound}
use Rattle.law_turns.proofs.Candidates.{schedule_of, the_chosen}
use Rattle.law_turns.proofs.Passes.{run_append}
use Rattle.law_turns.proofs.Paying.{Comes, Idles, Passes, Takes, comes, still_object}
use Rattle.law_turns.proofs.Processors.{run_cpus}
use Rattle.law_turns.proofs.Rotation.{rounds_go}
use Rattle.law_turns.proofs.Ticks.{one_if}
use Rattle.law_response.specs.Served.{IsHighest, IsPassedOver, ServesInRounds}
use Rattle.law_response.specs.Waits.{above_in, due_in, is_above, others}
use Rattle.law_response.proofs.Choosing.{candidate_of_schedule}
use Rattle.law_response.proofs.Rounds.{served_by_rounds}
use Rattle.law_response.proofs.Selves.{acts_in_time}
use Rattle.law_response.proofs.Sharing.{reached_before, run_others}

-- OBJECTS STAY

object_after : (k : KernelState) (by n : ℕ) (o : Object) → slice_get k.objects n ≡ Some o → slice_get (after k by).objects n ≡ Some o
object_after k by n o at = by_turn (after k by) (comes k by)
  where
    by_turn : (s : KernelState) → Comes k s by (event_at k by) → slice_get s.objects n ≡ Some o
    by_turn s (Idles none is event) = ap (λ (x : KernelState). slice_get x.objects n) is ∙ at
    by_turn s (Passes p is none event) = ap (λ (x : KernelState). slice_get x.objects n) is ∙ at
    by_turn s (Takes c chosen t event) = ap (λ (os : List Object). slice_get os n) t.objects ∙ still_object k t.between c.actor n o t.adds at

object_run : (k : KernelState) (turns : List ℕ) (n : ℕ) (o : Object) → slice_get k.objects n ≡ Some o → slice_get (run k turns).objects n ≡ Some o
object_run k [] n o at = at
object_run k (by ∷ turns) n o at = object_run (after k by) turns n o (object_after k by n o at)

highest_before : (k : KernelState) (turns : List ℕ) (cpu priority : ℕ) → IsHighest (run k turns) cpu priority → IsHighest k cpu priority
highest_before k turns cpu priority highest n ec p quantum at = highest n ec p quantum (object_run k turns n (Sc ec cpu p quantum) at)

-- NO TURN IS OF A GREATER PRIORITY

none_above : (k : KernelState) (by cpu priority : ℕ) → IsHighest k cpu priority → ((by == cpu) && is_above priority (next_to_act k by)) ≡ false
none_above k by cpu priority highest = by_choice (next_to_act k by) refl (by == cpu) refl
  where
    by_choice : (o : Option Candidate) → next_to_act k by ≡ o → (here : Bool) → (by == cpu) ≡ here → (here && is_above priority o) ≡ false
    by_choice o chosen false apart = refl
    by_choice None chosen true same = refl
    by_choice (Some c) chosen true same =
        let candidate = the_chosen k by c (acts_chosen k by c chosen).0 in
        let schedule = schedule_of k by c candidate in
        let ranks = (candidate_of_schedule k by c c.sc schedule.ec by schedule.priority schedule.quantum candidate refl schedule.object).ranks in
        let at : by ≡ cpu = eqb-true by cpu same in
        let most = highest c.sc schedule.ec schedule.priority schedule.quantum (schedule.object ∙ ap (λ (n : ℕ). Some (Sc schedule.ec n schedule.priority schedule.quantum)) at) in
        let least : c.priority ≤ priority = omega (arith, ranks, most) in
        grind arith

none_above_in : (k : KernelState) (turns : List ℕ) (cpu priority : ℕ) → IsHighest (run k turns) cpu priority → above_in k cpu priority turns ≡ 0
none_above_in k [] cpu priority highest = refl
none_above_in k (by ∷ turns) cpu priority highest =
    let first : one_if ((by == cpu) && is_above priority (next_to_act k by)) ≡ 0 = ap one_if (none_above k by cpu priority (highest_before k (by ∷ turns) cpu priority highest)) in
    let rest = none_above_in (after k by) turns cpu priority highest in
    omega (arith, first, rest)

-- ROUNDS OF AN ORDER

joined : (xs ys : List (List ℕ)) → concat (xs ++ ys) ≡ concat xs ++ concat ys
joined [] ys = refl
joined (x ∷ xs) ys = ap (λ (l : List ℕ). x ++ l) (joined xs ys) ∙ sym (append_assoc x (concat xs) (concat ys))

later_rounds : (k : KernelState) (most : ℕ) (before rest : List (List ℕ)) → AreRounds k most (before ++ rest) → AreRounds (run k (concat before)) (most - length (concat before)) rest
later_rounds k most [] rest are = let all : most ≡ most - 0 = omega arith in subst (λ (n : ℕ). AreRounds k n rest) all are
later_rounds k most (r ∷ before) rest (first, are) =
    let both = length-append r (concat before) in
    let fewer : most - length r - length (concat before) ≡ most - length (r ++ concat before) = omega (arith, both) in
    subst (λ (s : KernelState). AreRounds s (most - length (r ++ concat before)) rest) (sym (run_append k r (concat before)))
    (subst (λ (n : ℕ). AreRounds (run (run k r) (concat before)) n rest) fewer (later_rounds (run k r) (most - length r) before rest are))

first_rounds : (k : KernelState) (most : ℕ) (these later : List (List ℕ)) → AreRounds k most (these ++ later) → AreRounds k most these
first_rounds k most [] later are = tt
first_rounds k most (r ∷ these) later (first, are) = (first, first_rounds (run k r) (most - length r) these later are)

-- THEY SERVE

pub serves_in_rounds : (s : Scenario) (most : ℕ) → 1 ≤ s.root.quantum → ServesInRounds (boot s) most (rounds (boot s) most)
serves_in_rounds s most least = record { goes = goes; served = served }
  where
    k : KernelState
    k = boot s

    goes : GoesRound k most (rounds k most)
    goes = rounds_go k most

    served : (before these later : List (List ℕ)) (sc ec cpu priority quantum : ℕ) → before ++ these ++ later ≡ goes.rounds → cpu < k.cpus →
        IsPassedOver k before these sc ec cpu priority quantum → IsHighest (run k (rounds k most)) cpu priority → length (concat before) + length (concat these) < most →
        length these ≤ due_in (run k (concat before)) cpu (concat these) + others (run k (rounds k most)) cpu priority sc
    served before these later sc ec cpu priority quantum whole there passed highest fewer =
        let begun : KernelState = run k (concat before) in
        let parts : before ++ (these ++ later) ≡ goes.rounds = sym (append_assoc before these later) ∙ whole in
        let ends : run k (rounds k most) ≡ run (run begun (concat these)) (concat later) =
        ap (run k) (sym goes.joined ∙ ap concat (sym parts) ∙ joined before (these ++ later) ∙ ap (λ (l : List ℕ). concat before ++ l) (joined these later))
        ∙ run_append k (concat before) (concat these ++ concat later)
        ∙ run_append begun (concat these) (concat later) in
        let are = first_rounds begun (most - length (concat before)) these later
        (later_rounds k most before (these ++ later) (subst (AreRounds k most) (sym parts) goes.each)) in
        let here : cpu < begun.cpus = subst (λ (n : ℕ). cpu < n) (sym (run_cpus k (concat before))) there in
        let turns = served_by_rounds s (concat before) these (most - length (concat before)) sc ec cpu priority quantum passed.budget passed.itself.state here passed.schedule passed.itself.is passed.itself.acts
        are (omega (arith, fewer)) passed.never in
        let waited = (acts_in_time s (concat before) (concat these) sc ec cpu priority quantum passed.budget passed.itself.state passed.schedule passed.itself.is passed.itself.acts passed.never).0 in
        let none = none_above_in begun (concat these) cpu priority
        (highest_before (run begun (concat these)) (concat later) cpu priority (subst (λ (x : KernelState). IsHighest x cpu priority) ends highest)) in
        let before_it = reached_before s (concat before) sc ec cpu priority quantum passed.budget least passed.schedule in
        let first = run_others begun (concat these) cpu priority sc in
        let second = run_others (run begun (concat these)) (concat later) cpu priority sc in
        let same = ap (λ (x : KernelState). others x cpu priority sc) ends in
        let count = waited.count in
        omega (arith, turns, count, none, before_it, first, second, same)
