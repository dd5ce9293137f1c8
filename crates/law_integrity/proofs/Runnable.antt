-- Candidates are exactly those that may run.
use Rattle.std.proofs.Common.{◌≡◌, ◌<◌, ℕ, zero, suc, ◌+◌, List, [], ◌∷◌, refl, sym, ap, ◌∙◌, subst, inl, inr, arith}
use Rattle.std.specs.Prelude.{Bool, true, false, ◌==◌, ◌&&◌, if◌then◌else◌, Contains, IfSome, slice_get, Option, Some, None}
use Rattle.std.proofs.lemmas.Bool.{cases_order, eq-eqb}
use Rattle.std.proofs.lemmas.Option.{same_Some}
use Rattle.nova_objects.specs.declared.object.Object.{Object}
use Rattle.nova_objects.specs.declared.object.Object.TheVariants.{Sc}
use Rattle.nova_model.specs.Choice.{Candidate, actor, candidate_of, candidate_with, candidates, candidates_from, in_front}
use Rattle.nova_model.specs.Edges.{AreEdges, acts, after_edges, chase, edge, stays}
use Rattle.nova_model.specs.State.{Contexts, KernelState, budget_at}
use Rattle.nova_model.specs.declared.budget.Budget.{Budget}
use Rattle.nova_ec.specs.Ways.{EndsAt}
use Rattle.nova_ec.proofs.Ends.{chases_end}
use Rattle.law_forest.proofs.Members.{IsIn, contains_from_in}
use Rattle.law_turns.proofs.Candidates.{IsCandidate, each_candidate, schedule_of}
use Rattle.law_integrity.specs.Runnable.{IsRunnable}

-- THE END OF A CHASE IS ONE

not_before : (cs : Contexts) (e f g : ℕ) (a : EndsAt cs e f) (b : EndsAt cs e g) → a.edges < b.edges → ⊥
not_before cs e f g a b less =
    let passes : stays cs f ≡ false = subst (λ (o : Option ℕ). IfSome o (λ x. stays cs x ≡ false)) a.way (b.first a.edges less) in
    let last = a.last in
    absurd (cc)

pub one_end : (cs : Contexts) (e f g : ℕ) → EndsAt cs e f → EndsAt cs e g → f ≡ g
one_end cs e f g a b = elim (cases_order a.edges b.edges) [
  | inl same ↦ same_Some f g (sym a.way ∙ ap (λ (n : ℕ). after_edges n (edge cs) e) same ∙ b.way)
  | inr order ↦ elim order [
    | inl less ↦ absurd (not_before cs e f g a b less)
    | inr more ↦ absurd (not_before cs e g f b a more)
  ]
]

-- A CANDIDATE MAY RUN

-- of a scheduling context that is a candidate
record IsCounted (k : KernelState) (ec priority : ℕ) (c : Candidate) : Type 0 where
  actor : c.actor ≡ chase k.contexts ec
  able : acts k.contexts (chase k.contexts ec) ≡ true
  priority_is : c.priority ≡ priority

counted_is : (k : KernelState) (cpu sc ec its_cpu priority quantum : ℕ) (c : Candidate) → candidate_of k cpu sc (Sc ec its_cpu priority quantum) ≡ Some c → IsCounted k ec priority c
counted_is k cpu sc ec its_cpu priority quantum c is = by_tests (its_cpu == cpu) (acts k.contexts (actor k ec)) refl is
  where
    by_budget : acts k.contexts (actor k ec) ≡ true → (b : Option Budget) → candidate_with sc (actor k ec) priority b ≡ Some c → IsCounted k ec priority c
    by_budget able None e = absurd (cc)
    by_budget able (Some b) e =
        let same = same_Some _ c e in
        record { actor = sym (ap (λ (d : Candidate). d.actor) same); able = able; priority_is = sym (ap (λ (d : Candidate). d.priority) same) }

    by_tests : (here able : Bool) → acts k.contexts (actor k ec) ≡ able → (if here && able then candidate_with sc (actor k ec) priority (budget_at k sc) else None) ≡ Some c →
        IsCounted k ec priority c
    by_tests true true able e = by_budget able (budget_at k sc) e
    by_tests true false able e = absurd (cc)
    by_tests false t able e = absurd (cc)

pub candidate_runs : (k : KernelState) (cpu : ℕ) (c : Candidate) → AreEdges k.contexts → IsCandidate k cpu c → IsRunnable k cpu c
candidate_runs k cpu c edges candidate =
    let its = schedule_of k cpu c candidate in
    let object : candidate.object ≡ Sc its.ec cpu its.priority its.quantum = same_Some _ _ (sym candidate.at ∙ its.object) in
    let is = counted_is k cpu c.sc its.ec cpu its.priority its.quantum c (ap (candidate_of k cpu c.sc) (sym object) ∙ candidate.is) in
    record {
      donor = its.ec;
      quantum = its.quantum;
      object = its.object ∙ ap (λ (p : ℕ). Some (Sc its.ec cpu p its.quantum)) (sym is.priority_is);
      budget = its.budget;
      there = its.there;
      stamp = its.stamp;
      leads = subst (EndsAt k.contexts its.ec) (sym is.actor) (chases_end k.contexts its.ec edges);
      able = subst (λ (n : ℕ). acts k.contexts n ≡ true) (sym is.actor) is.able;
    }

-- WHAT MAY RUN IS A CANDIDATE

front_in : (o : Option Candidate) (cs : List Candidate) (c : Candidate) → IsIn cs c → IsIn (in_front o cs) c
front_in None cs c there = there
front_in (Some d) cs c there = inr there

among : (k : KernelState) (cpu first : ℕ) (os : List Object) (n : ℕ) (o : Object) (c : Candidate) → slice_get os n ≡ Some o → candidate_of k cpu (first + n) o ≡ Some c →
    IsIn (candidates_from k cpu first os) c
among k cpu first [] n o c at is = absurd (cc)
among k cpu first (x ∷ os) zero o c at is =
    let same : x ≡ o = same_Some x o at in
    let here : candidate_of k cpu first x ≡ Some c = ap (candidate_of k cpu first) same ∙ ap (λ (n : ℕ). candidate_of k cpu n o) (omega arith) ∙ is in
    subst (λ (p : Option Candidate). IsIn (in_front p (candidates_from k cpu (first + 1) os)) c) (sym here) (inl refl)
among k cpu first (x ∷ os) (suc n) o c at is =
    front_in (candidate_of k cpu first x) (candidates_from k cpu (first + 1) os) c
    (among k cpu (first + 1) os n o c at (ap (λ (m : ℕ). candidate_of k cpu m o) (omega arith) ∙ is))

pub runnable_in : (k : KernelState) (cpu : ℕ) (c : Candidate) → AreEdges k.contexts → IsRunnable k cpu c → Contains (candidates k cpu) c
runnable_in k cpu c edges r =
    contains_from_in (candidates k cpu) c (among k cpu 0 k.objects c.sc (Sc r.donor cpu c.priority r.quantum) c r.object (ap (λ (n : ℕ). candidate_of k cpu n object) (omega arith) ∙ is))
  where
    object : Object
    object = Sc r.donor cpu c.priority r.quantum

    led : chase k.contexts r.donor ≡ c.actor
    led = one_end k.contexts r.donor (chase k.contexts r.donor) c.actor (chases_end k.contexts r.donor edges) r.leads

    here : (cpu == cpu) ≡ true
    here = eq-eqb cpu cpu refl

    able : acts k.contexts (actor k r.donor) ≡ true
    able = ap (acts k.contexts) led ∙ r.able

    is : candidate_of k cpu c.sc object ≡ Some c
    is = rw (here, able, r.there) (ap (λ (n : ℕ). Some (record { sc = c.sc; actor = n; priority = c.priority; stamp = r.budget.stamp })) led
        ∙ ap (λ (n : ℕ). Some (record { sc = c.sc; actor = c.actor; priority = c.priority; stamp = n })) (sym r.stamp))

pub runs_candidate : (k : KernelState) (cpu : ℕ) (c : Candidate) → AreEdges k.contexts → Contains (candidates k cpu) c → IsRunnable k cpu c
runs_candidate k cpu c edges there = candidate_runs k cpu c edges (each_candidate k cpu c there)
