-- What a candidate is: the object of its number is a scheduling context of the processor, with a budget.
use Rattle.std.proofs.Common.{◌≡◌, ℕ, suc, ◌+◌, List, [], ◌∷◌, refl, sym, ap, ◌∙◌, subst, arith}
use Rattle.std.specs.Prelude.{Bool, true, false, ◌==◌, ◌&&◌, if◌then◌else◌, slice_get, Option, Some, None, IfSome}
use Rattle.std.specs.List.{AllByRecursion, Contains}
use Rattle.std.proofs.lemmas.Bool.{eqb-true}
use Rattle.nova_objects.specs.declared.object.Object.{Object}
use Rattle.nova_objects.specs.declared.object.Object.TheVariants.{Pd, Ec, Sc, Pt, Sm}
use Rattle.nova_model.specs.Choice.{Candidate, actor, candidate_of, candidate_with, candidates, candidates_from, choice}
use Rattle.nova_model.specs.Edges.{acts}
use Rattle.nova_model.specs.State.{KernelState, budget_at}
use Rattle.nova_model.specs.declared.budget.Budget.{Budget}
use Rattle.law_forest.proofs.Members.{all_at, all_weaker, in_from_contains}
use Rattle.law_turns.proofs.Chosen.{found_all, with_front}

-- an object of this number, of which it is the candidate
pub record IsOfObject (k : KernelState) (cpu sc : ℕ) (o : Object) (c : Candidate) : Type 0 where
  pub number : c.sc ≡ sc
  pub ec : ℕ
  pub priority : ℕ
  pub quantum : ℕ
  pub budget : Budget
  pub object : o ≡ Sc ec cpu priority quantum
  pub there : budget_at k sc ≡ Some budget
  pub stamp : c.stamp ≡ budget.stamp

candidate_is : (k : KernelState) (cpu sc : ℕ) (o : Object) → IfSome (candidate_of k cpu sc o) (IsOfObject k cpu sc o)
candidate_is k cpu sc (Sc ec its_cpu priority quantum) = by_test (its_cpu == cpu) refl (acts k.contexts (actor k ec))
  where
    by_budget : its_cpu ≡ cpu → (b : Option Budget) → budget_at k sc ≡ b →
        IfSome (candidate_with sc (actor k ec) priority b) (IsOfObject k cpu sc (Sc ec its_cpu priority quantum))
    by_budget same None is = tt
    by_budget same (Some b) is = record {
      number = refl;
      ec = ec;
      priority = priority;
      quantum = quantum;
      budget = b;
      object = ap (λ (n : ℕ). Sc ec n priority quantum) same;
      there = is;
      stamp = refl;
    }

    by_test : (here : Bool) → (its_cpu == cpu) ≡ here → (test : Bool) →
        IfSome (if here && test then candidate_with sc (actor k ec) priority (budget_at k sc) else None) (IsOfObject k cpu sc (Sc ec its_cpu priority quantum))
    by_test true is true = by_budget (eqb-true its_cpu cpu is) (budget_at k sc) refl
    by_test true is false = tt
    by_test false is test = tt
candidate_is k cpu sc Pd = tt
candidate_is k cpu sc (Ec pd its_cpu kind event) = tt
candidate_is k cpu sc (Pt ec mtd ip) = tt
candidate_is k cpu sc Sm = tt

-- among objects that are numbered from `first` on
record IsAmong (k : KernelState) (cpu first : ℕ) (os : List Object) (c : Candidate) : Type 0 where
  index : ℕ
  object : Object
  number : c.sc ≡ first + index
  at : slice_get os index ≡ Some object
  is : candidate_of k cpu c.sc object ≡ Some c

later : (k : KernelState) (cpu first : ℕ) (o : Object) (os : List Object) (c : Candidate) → IsAmong k cpu (first + 1) os c → IsAmong k cpu first (o ∷ os) c
later k cpu first o os c a = record { index = suc a.index; object = a.object; number = let n = a.number in omega arith; at = a.at; is = a.is }

front_is : (k : KernelState) (cpu first : ℕ) (o : Object) (os : List Object) (found : Option Candidate) → candidate_of k cpu first o ≡ found →
    IfSome found (IsOfObject k cpu first o) → IfSome found (IsAmong k cpu first (o ∷ os))
front_is k cpu first o os None is h = tt
front_is k cpu first o os (Some c) is h =
    record { index = 0; object = o; number = let n = h.number in omega arith; at = refl; is = ap (λ (n : ℕ). candidate_of k cpu n o) h.number ∙ is }

candidates_among : (k : KernelState) (cpu first : ℕ) (os : List Object) → AllByRecursion (IsAmong k cpu first os) (candidates_from k cpu first os)
candidates_among k cpu first [] = tt
candidates_among k cpu first (o ∷ os) =
    with_front (IsAmong k cpu first (o ∷ os)) (candidate_of k cpu first o) (candidates_from k cpu (first + 1) os)
    (front_is k cpu first o os (candidate_of k cpu first o) refl (candidate_is k cpu first o))
    (all_weaker (IsAmong k cpu (first + 1) os) (IsAmong k cpu first (o ∷ os)) (candidates_from k cpu (first + 1) os) (later k cpu first o os)
    (candidates_among k cpu (first + 1) os))

-- the object of its number
pub record IsCandidate (k : KernelState) (cpu : ℕ) (c : Candidate) : Type 0 where
  pub object : Object
  pub at : slice_get k.objects c.sc ≡ Some object
  pub is : candidate_of k cpu c.sc object ≡ Some c

among_all : (k : KernelState) (cpu : ℕ) (c : Candidate) → IsAmong k cpu 0 k.objects c → IsCandidate k cpu c
among_all k cpu c a =
    let n = a.number in
    let same : c.sc ≡ a.index = omega arith in
    record { object = a.object; at = ap (slice_get k.objects) same ∙ a.at; is = a.is }

all_candidates : (k : KernelState) (cpu : ℕ) → AllByRecursion (IsCandidate k cpu) (candidates k cpu)
all_candidates k cpu = all_weaker (IsAmong k cpu 0 k.objects) (IsCandidate k cpu) (candidates k cpu) (among_all k cpu) (candidates_among k cpu 0 k.objects)

pub each_candidate : (k : KernelState) (cpu : ℕ) (c : Candidate) → Contains (candidates k cpu) c → IsCandidate k cpu c
each_candidate k cpu c there = all_at (IsCandidate k cpu) (candidates k cpu) c (all_candidates k cpu) (in_from_contains (candidates k cpu) c there)

chosen_candidate : (k : KernelState) (cpu : ℕ) → IfSome (choice k cpu) (IsCandidate k cpu)
unfolding choice
chosen_candidate k cpu = found_all (IsCandidate k cpu) _ (candidates k cpu) (all_candidates k cpu)

pub the_chosen : (k : KernelState) (cpu : ℕ) (c : Candidate) → choice k cpu ≡ Some c → IsCandidate k cpu c
the_chosen k cpu c is = subst (λ (o : Option Candidate). IfSome o (IsCandidate k cpu)) is (chosen_candidate k cpu)

-- its scheduling context
pub record HasSchedule (k : KernelState) (cpu : ℕ) (c : Candidate) : Type 0 where
  pub ec : ℕ
  pub priority : ℕ
  pub quantum : ℕ
  pub budget : Budget
  pub object : slice_get k.objects c.sc ≡ Some (Sc ec cpu priority quantum)
  pub there : budget_at k c.sc ≡ Some budget
  pub stamp : c.stamp ≡ budget.stamp

pub schedule_of : (k : KernelState) (cpu : ℕ) (c : Candidate) → IsCandidate k cpu c → HasSchedule k cpu c
schedule_of k cpu c candidate =
    let its = subst (λ (o : Option Candidate). IfSome o (IsOfObject k cpu c.sc candidate.object)) candidate.is (candidate_is k cpu c.sc candidate.object) in
    record {
      ec = its.ec;
      priority = its.priority;
      quantum = its.quantum;
      budget = its.budget;
      object = candidate.at ∙ ap (λ (o : Object). Some o) its.object;
      there = its.there;
      stamp = its.stamp;
    }

-- two of one number are the same
pub same_candidate : (k : KernelState) (cpu : ℕ) (c d : Candidate) → IsCandidate k cpu c → IsCandidate k cpu d → c.sc ≡ d.sc → c ≡ d
same_candidate k cpu c d its other same =
    let at : Some its.object ≡ Some other.object = sym its.at ∙ ap (slice_get k.objects) same ∙ other.at in
    let object : its.object ≡ other.object = cc in
    let both : Some c ≡ Some d = sym its.is ∙ ap (λ (n : ℕ). candidate_of k cpu n its.object) same ∙ ap (candidate_of k cpu d.sc) object ∙ other.is in
    cc
