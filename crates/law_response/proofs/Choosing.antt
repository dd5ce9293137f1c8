-- What is chosen where a scheduling context is runnable: it, one of a greater priority, or one that stands before it in its ring.
use Rattle.std.proofs.Common.{◌≡◌, ℕ, zero, suc, ◌<◌, ◌≤◌, ◌+◌, List, [], ◌∷◌, inl, inr, refl, sym, ap, ap₂, ◌∙◌, subst, arith}
use Rattle.std.specs.Prelude.{◌≢◌, Bool, true, false, ◌==◌, ◌&&◌, if◌then◌else◌, slice_get, Option, Some, None, IfSome}
use Rattle.std.specs.List.{Contains}
use Rattle.std.proofs.lemmas.Bool.{eqb-true, eqb-false}
use Rattle.nova_objects.specs.declared.object.Object.{Object}
use Rattle.nova_objects.specs.declared.object.Object.TheVariants.{Sc}
use Rattle.nova_model.specs.Choice.{Candidate, actor, candidate_of, candidate_with, candidates, candidates_from, choice, in_front}
use Rattle.nova_model.specs.Edges.{acts}
use Rattle.nova_model.specs.State.{KernelState, budget_at}
use Rattle.nova_model.specs.declared.budget.Budget.{Budget}
use Rattle.law_turns.specs.Choices.{IsBest}
use Rattle.law_turns.proofs.Best.{choice_best, choice_idle}
use Rattle.law_turns.proofs.Candidates.{IsCandidate, schedule_of, the_chosen}
use Rattle.law_turns.proofs.Stamps.{AreStamped}
use Rattle.law_response.specs.Waits.{IsSchedule, MayRun}

-- A RUNNABLE SCHEDULING CONTEXT IS A CANDIDATE

behind : (o : Option Candidate) (cs : List Candidate) (c : Candidate) → Contains cs c → Contains (in_front o cs) c
behind None cs c there = there
behind (Some d) cs c there = (suc there.0, (let lt = there.1 in omega arith), there.2)

foremost_there : (o : Option Candidate) (cs : List Candidate) (c : Candidate) → o ≡ Some c → Contains (in_front o cs) c
foremost_there o cs c is = subst (λ (p : Option Candidate). Contains (in_front p cs) c) (sym is) (0, omega arith, refl)

among : (k : KernelState) (cpu first : ℕ) (os : List Object) (n : ℕ) (o : Object) (c : Candidate) → slice_get os n ≡ Some o → candidate_of k cpu (first + n) o ≡ Some c →
    Contains (candidates_from k cpu first os) c
among k cpu first [] n o c at is = absurd (cc)
among k cpu first (x ∷ os) zero o c at is =
    let same : x ≡ o = cc in
    let here : first + 0 ≡ first = omega arith in
    foremost_there (candidate_of k cpu first x) (candidates_from k cpu (first + 1) os) c
    (ap (candidate_of k cpu first) same ∙ ap (λ (n : ℕ). candidate_of k cpu n o) (sym here) ∙ is)
among k cpu first (x ∷ os) (suc n) o c at is =
    let here : first + 1 + n ≡ first + suc n = omega arith in
    behind (candidate_of k cpu first x) (candidates_from k cpu (first + 1) os) c
    (among k cpu (first + 1) os n o c at (ap (λ (n : ℕ). candidate_of k cpu n o) here ∙ is))

abbrev pub candidate_at : KernelState → ℕ → ℕ → ℕ → Budget → Candidate
candidate_at k sc ec priority b = record { sc = sc; actor = actor k ec; priority = priority; stamp = b.stamp }

candidate_is : (k : KernelState) (sc ec cpu priority quantum : ℕ) (b : Budget) → budget_at k sc ≡ Some b → MayRun k ec →
    candidate_of k cpu sc (Sc ec cpu priority quantum) ≡ Some (candidate_at k sc ec priority b)
candidate_is k sc ec cpu priority quantum b budget may =
    let same : (cpu == cpu) ≡ true = grind arith in
    ap₂ (λ (s t : Bool). if s && t then candidate_with sc (actor k ec) priority (budget_at k sc) else None) same may ∙ ap (candidate_with sc (actor k ec) priority) budget

pub candidate_there : (k : KernelState) (sc ec cpu priority quantum : ℕ) (b : Budget) → IsSchedule k sc ec cpu priority quantum b → MayRun k ec →
    Contains (candidates k cpu) (candidate_at k sc ec priority b)
candidate_there k sc ec cpu priority quantum b its may =
    let here : 0 + sc ≡ sc = omega arith in
    among k cpu 0 k.objects sc (Sc ec cpu priority quantum) (candidate_at k sc ec priority b) its.object
    (ap (λ (n : ℕ). candidate_of k cpu n (Sc ec cpu priority quantum)) here ∙ candidate_is k sc ec cpu priority quantum b its.budget may)

-- what a candidate is of its object
pub record IsOfSchedule (k : KernelState) (c : Candidate) (ec priority : ℕ) : Type 0 where
  pub ranks : c.priority ≡ priority
  pub acts : c.actor ≡ actor k ec
  pub may : MayRun k ec

of_schedule : (k : KernelState) (sc ec its_cpu cpu priority quantum : ℕ) (c : Candidate) → candidate_of k cpu sc (Sc ec its_cpu priority quantum) ≡ Some c →
    IsOfSchedule k c ec priority
of_schedule k sc ec its_cpu cpu priority quantum c is = by_test (its_cpu == cpu) (acts k.contexts (actor k ec)) refl is
  where
    by_budget : (o : Option Budget) → MayRun k ec → candidate_with sc (actor k ec) priority o ≡ Some c → IsOfSchedule k c ec priority
    by_budget None may at = absurd (cc)
    by_budget (Some b) may at =
        let same : candidate_at k sc ec priority b ≡ c = cc in
        record { ranks = sym (ap (λ (x : Candidate). x.priority) same); acts = sym (ap (λ (x : Candidate). x.actor) same); may = may }

    by_test : (here test : Bool) → acts k.contexts (actor k ec) ≡ test → (if here && test then candidate_with sc (actor k ec) priority (budget_at k sc) else None) ≡ Some c →
        IsOfSchedule k c ec priority
    by_test true true may at = by_budget (budget_at k sc) may at
    by_test true false may at = absurd (cc)
    by_test false test may at = absurd (cc)

pub candidate_of_schedule : (k : KernelState) (cpu : ℕ) (c : Candidate) (sc ec its_cpu priority quantum : ℕ) → IsCandidate k cpu c → c.sc ≡ sc →
    slice_get k.objects sc ≡ Some (Sc ec its_cpu priority quantum) → IsOfSchedule k c ec priority
candidate_of_schedule k cpu c sc ec its_cpu priority quantum its same object =
    let at : Some its.object ≡ Some (Sc ec its_cpu priority quantum) = sym its.at ∙ ap (slice_get k.objects) same ∙ object in
    let one : its.object ≡ Sc ec its_cpu priority quantum = cc in
    of_schedule k c.sc ec its_cpu cpu priority quantum c (ap (candidate_of k cpu c.sc) (sym one) ∙ its.is)

-- WHICH IS CHOSEN BESIDE IT

-- it, one of a greater priority, or one of its priority with a lesser stamp
pub data IsBeside (sc priority stamp : ℕ) (c : Candidate) : Type 0 where
  Itself : c.sc ≡ sc → c.priority ≡ priority → c.stamp ≡ stamp → IsBeside sc priority stamp c
  Above : c.sc ≢ sc → priority < c.priority → IsBeside sc priority stamp c
  Before : c.sc ≢ sc → c.priority ≡ priority → c.stamp < stamp → IsBeside sc priority stamp c

pub record IsChosen (k : KernelState) (cpu sc priority stamp : ℕ) : Type 0 where
  pub chosen : Candidate
  pub choice : choice k cpu ≡ Some chosen
  pub beside : IsBeside sc priority stamp chosen

beside : (k : KernelState) (sc ec cpu priority quantum : ℕ) (b : Budget) (c : Candidate) → AreStamped k.objects k.budgets k.next_stamp →
    IsSchedule k sc ec cpu priority quantum b → MayRun k ec → choice k cpu ≡ Some c → IsBest (candidates k cpu) c → IsBeside sc priority b.stamp c
beside k sc ec cpu priority quantum b c stamped its may is best = by_number (c.sc == sc) refl
  where
    candidate : IsCandidate k cpu c
    candidate = the_chosen k cpu c is

    same_budget : c.sc ≡ sc → (x : Budget) → budget_at k c.sc ≡ Some x → c.stamp ≡ x.stamp → c.stamp ≡ b.stamp
    same_budget same x there stamp =
        let both : Some x ≡ Some b = sym there ∙ ap (budget_at k) same ∙ its.budget in
        let one : x ≡ b = cc in
        stamp ∙ ap (λ (y : Budget). y.stamp) one

    less : c.sc ≢ sc → (x : Budget) → budget_at k c.sc ≡ Some x → c.stamp ≡ x.stamp → c.stamp ≤ b.stamp → c.stamp < b.stamp
    less other x there stamp most = by_stamp (c.stamp == b.stamp) refl
      where
        by_stamp : (t : Bool) → (c.stamp == b.stamp) ≡ t → c.stamp < b.stamp
        by_stamp true eq =
            let same : c.stamp ≡ b.stamp = eqb-true c.stamp b.stamp eq in
            absurd (other (stamped.apart c.sc sc x b there its.budget (sym stamp ∙ same)))
        by_stamp false eq = grind arith

    by_number : (t : Bool) → (c.sc == sc) ≡ t → IsBeside sc priority b.stamp c
    by_number true eq =
        let same : c.sc ≡ sc = eqb-true c.sc sc eq in
        let schedule = schedule_of k cpu c candidate in
        Itself same (candidate_of_schedule k cpu c sc ec cpu priority quantum candidate same its.object).ranks (same_budget same schedule.budget schedule.there schedule.stamp)
    by_number false eq =
        let other : c.sc ≢ sc = eqb-false c.sc sc eq in
        let schedule = schedule_of k cpu c candidate in
        elim (best.greatest (candidate_at k sc ec priority b) (candidate_there k sc ec cpu priority quantum b its may)) [
          | inl greater ↦ Above other greater
          | inr equal ↦ Before other (sym equal.0) (less other schedule.budget schedule.there schedule.stamp equal.1)
        ]

pub chosen_beside : (k : KernelState) (sc ec cpu priority quantum : ℕ) (b : Budget) → AreStamped k.objects k.budgets k.next_stamp →
    IsSchedule k sc ec cpu priority quantum b → MayRun k ec → IsChosen k cpu sc priority b.stamp
chosen_beside k sc ec cpu priority quantum b stamped its may = by_choice (choice k cpu) refl (choice_best k cpu)
  where
    by_choice : (o : Option Candidate) → choice k cpu ≡ o → IfSome o (IsBest (candidates k cpu)) → IsChosen k cpu sc priority b.stamp
    by_choice None is best =
        let none : candidates k cpu ≡ [] = (choice_idle k cpu).0 is in
        let there = subst (λ (cs : List Candidate). Contains cs (candidate_at k sc ec priority b)) none (candidate_there k sc ec cpu priority quantum b its may) in
        absurd (let lt = there.1 in omega arith)
    by_choice (Some c) is best = record { chosen = c; choice = is; beside = beside k sc ec cpu priority quantum b c stamped its may is best }
