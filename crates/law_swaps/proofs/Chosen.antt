-- Where somebody is chosen on a processor, somebody is chosen on it after a plain step of any.
use Rattle.std.proofs.Common.{◌≡◌, ◌≢◌, ℕ, ◌+◌, List, [], ◌∷◌, refl, sym, ap, ap₂, ◌∙◌, subst, inl, inr}
use Rattle.std.specs.Prelude.{◌⊎◌, Bool, true, false, ◌==◌, ◌&&◌, IsSome, is_some, slice_get, slice_set, Option, Some, None, option_map, if◌then◌else◌}
use Rattle.std.proofs.lemmas.Bool.{cases_eq}
use Rattle.rv_model.specs.Registers.{Registers}
use Rattle.rv_model.specs.Step.{Store}
use Rattle.nova_ec.proofs.Untouched.{same_acts}
use Rattle.nova_ec.specs.Ways.{TurnsStay}
use Rattle.nova_objects.specs.declared.object.Object.{Object}
use Rattle.nova_objects.specs.declared.object.Object.TheVariants.{Sc}
use Rattle.nova_model.specs.Choice.{Candidate, actor, candidate_of, candidate_with, candidates_from, choice, choose, in_front, next_to_act}
use Rattle.nova_model.specs.Edges.{acts}
use Rattle.nova_model.specs.State.{KernelState, Stirs, budget_at, context, entry}
use Rattle.nova_model.specs.Turn.{budget_after, is_spent, quantum_in}
use Rattle.nova_model.specs.declared.budget.Budget.{Budget}
use Rattle.law_forest.specs.Turns.{budgets_paid}
use Rattle.law_forest.proofs.Turning.{acts_chosen}
use Rattle.law_turns.proofs.Best.{choice_idle}
use Rattle.law_turns.proofs.Setting.{entry_itself}
use Rattle.law_swaps.proofs.Charging.{paid_other}
use Rattle.law_swaps.proofs.Choosing.{IsHome, moves_none}
use Rattle.law_swaps.proofs.Stepping.{stepped_by}

pub somebody : (k : KernelState) (cpu : ℕ) (c : Candidate) → next_to_act k cpu ≡ Some c → IsSome (choose k cpu)
somebody k cpu c next = subst (λ (o : Option Candidate). IsSome (option_map (λ (x : Candidate). x.sc) o)) (sym (acts_chosen k cpu c next).0) refl

-- who pays still has a budget
budget_stays : (bs : List (Option Budget)) (x q m n : ℕ) → is_some (entry (slice_get (budgets_paid bs x q m (entry (slice_get bs x))) n)) ≡ is_some (entry (slice_get bs n))
budget_stays bs x q m n = by_budget (entry (slice_get bs x)) refl (cases_eq n x)
  where
    by_budget : (o : Option Budget) → entry (slice_get bs x) ≡ o → (n ≡ x) ⊎ (n ≢ x) → is_some (entry (slice_get (budgets_paid bs x q m o) n)) ≡ is_some (entry (slice_get bs n))
    by_budget None is at = refl
    by_budget (Some b) is (inl same) =
        ap (λ (i : ℕ). is_some (entry (slice_get (slice_set bs x (Some (budget_after (is_spent b) q m b))) i))) same
        ∙ ap (λ (o : Option Budget). is_some o) (entry_itself bs x (budget_after (is_spent b) q m b) (subst IsSome (sym is) refl))
        ∙ sym (ap (λ (i : ℕ). is_some (entry (slice_get bs i))) same ∙ ap (λ (o : Option Budget). is_some o) is)
    by_budget (Some b) is (inr other) = ap (λ (o : Option (Option Budget)). is_some (entry o)) (paid_other bs x q m n (Some b) other)

-- a scheduling context is a candidate where it was
runnable : (t : Bool) (sc ec priority : ℕ) (b : Option Budget) → is_some (if t then candidate_with sc ec priority b else None) ≡ (t && is_some b)
runnable false sc ec priority b = refl
runnable true sc ec priority None = refl
runnable true sc ec priority (Some b) = refl

abbrev HaveSameCandidates : KernelState → KernelState → ℕ → Type 0
HaveSameCandidates k new cpu = (n : ℕ) (o : Object) → is_some (candidate_of new cpu n o) ≡ is_some (candidate_of k cpu n o)

same_candidates : (k new : KernelState) (cpu : ℕ) → ((ec : ℕ) → TurnsStay k.contexts new.contexts ec) → ((sc : ℕ) → is_some (budget_at new sc) ≡ is_some (budget_at k sc)) → HaveSameCandidates k new cpu
same_candidates k new cpu turns budgets n (Sc ec its priority quantum) =
    runnable ((its == cpu) && acts new.contexts (actor new ec)) n (actor new ec) priority (budget_at new n)
    ∙ ap₂ (λ (t u : Bool). ((its == cpu) && t) && u) (same_acts k.contexts new.contexts ec (turns ec)) (budgets n)
    ∙ sym (runnable ((its == cpu) && acts k.contexts (actor k ec)) n (actor k ec) priority (budget_at k n))
same_candidates k new cpu turns budgets n other = refl

none_before : (k new : KernelState) (cpu first : ℕ) (os : List Object) → HaveSameCandidates k new cpu → candidates_from new cpu first os ≡ [] → candidates_from k cpu first os ≡ []
none_before k new cpu first [] same none = refl
none_before k new cpu first (o ∷ os) same none = by_both (candidate_of k cpu first o) (candidate_of new cpu first o) (same first o) none (λ h. none_before k new cpu (first + 1) os same h)
  where
    by_both : (c d : Option Candidate) → is_some d ≡ is_some c → in_front d (candidates_from new cpu (first + 1) os) ≡ [] →
        (candidates_from new cpu (first + 1) os ≡ [] → candidates_from k cpu (first + 1) os ≡ []) → in_front c (candidates_from k cpu (first + 1) os) ≡ []
    by_both None None alike h rest = rest h
    by_both None (Some d) alike h rest = absurd (cc)
    by_both (Some c) None alike h rest = absurd (cc)
    by_both (Some c) (Some d) alike h rest = absurd (cc)

pub chosen_still : (k : KernelState) (p cpu : ℕ) (c : Candidate) (regs : Registers) (store : Option Store) (stirs : Stirs) → IsHome k p c → IsSome (choose k cpu) → IsSome (choose (stepped_by k p c regs store stirs) cpu)
chosen_still k p cpu c regs store stirs home here = by_choice (choice (stepped_by k p c regs store stirs) cpu) refl
  where
    same : HaveSameCandidates k (stepped_by k p c regs store stirs) cpu
    same = same_candidates k (stepped_by k p c regs store stirs) cpu
        (λ ec. moves_none k.contexts c.actor (context k c.actor) (record (context k c.actor) { regs = regs }) home.there refl ec)
        (λ sc. budget_stays k.budgets c.sc (quantum_in (slice_get k.objects c.sc)) k.next_stamp sc)

    by_choice : (o : Option Candidate) → choice (stepped_by k p c regs store stirs) cpu ≡ o → IsSome (option_map (λ (x : Candidate). x.sc) (choice (stepped_by k p c regs store stirs) cpu))
    by_choice (Some d) is = subst (λ (o : Option Candidate). IsSome (option_map (λ (x : Candidate). x.sc) o)) (sym is) refl
    by_choice None is =
        let none : choice k cpu ≡ None = (choice_idle k cpu).1 (none_before k (stepped_by k p c regs store stirs) cpu 0 k.objects same ((choice_idle (stepped_by k p c regs store stirs) cpu).0 is)) in
        absurd (let some : IsSome (option_map (λ (x : Candidate). x.sc) None) = subst (λ (o : Option Candidate). IsSome (option_map (λ (x : Candidate). x.sc) o)) none here in cc)
