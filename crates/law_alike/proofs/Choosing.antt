-- The same context is chosen on a processor in alike states.
use Rattle.std.proofs.Common.{◌≡◌, ℕ, suc, ◌+◌, List, [], ◌∷◌, ap, ap₂, sym, ◌∙◌, subst, refl, arith}
use Rattle.std.specs.Prelude.{Bool, true, false, ◌==◌, ◌&&◌, ◌||◌, nat_lt, slice_get, Option, Some, None, option_map, if◌then◌else◌}
use Rattle.std.proofs.lemmas.Bool.{eqb-true}
use Rattle.nova_objects.specs.declared.object.Object.{Object}
use Rattle.nova_objects.specs.declared.object.Object.TheVariants.{Pd, Ec, Sc, Pt, Sm}
use Rattle.nova_model.specs.Choice.{Candidate, actor, candidate_of, candidate_with, candidates, candidates_from, choice, choose, foremost, goes_before, in_front, outranks}
use Rattle.nova_model.specs.Edges.{acts}
use Rattle.nova_model.specs.State.{KernelState, budget_at, entry}
use Rattle.nova_model.specs.declared.budget.Budget.{Budget}
use Rattle.law_turns.specs.Budgets.{stamp_in}
use Rattle.law_alike.specs.Alike.{IsAlike, ArePeers, uncounted}
use Rattle.law_alike.proofs.Lists.{Both, InStep, first_step, map_entry}

-- what is chosen is read off the state without counts, and of budgets
abbrev with_budgets : KernelState → List (Option Budget) → KernelState
with_budgets u bs = record u { budgets = bs }

candidate_same : (k : KernelState) (cpu sc : ℕ) (o : Object) → candidate_of k cpu sc o ≡ candidate_of (with_budgets (uncounted k) k.budgets) cpu sc o
candidate_same k cpu sc (Sc ec its priority quantum) = refl
candidate_same k cpu sc other = refl

candidates_same : (k : KernelState) (cpu n : ℕ) (os : List Object) → candidates_from k cpu n os ≡ candidates_from (with_budgets (uncounted k) k.budgets) cpu n os
candidates_same k cpu n [] = refl
candidates_same k cpu n (o ∷ os) =
    ap₂ (λ (c : Option Candidate) (rest : List Candidate). in_front c rest) (candidate_same k cpu n o) (candidates_same k cpu (n + 1) os)

choice_same : (k : KernelState) (cpu : ℕ) → choice k cpu ≡ choice (with_budgets (uncounted k) k.budgets) cpu
unfolding choice
choice_same k cpu = ap foremost (candidates_same k cpu 0 k.objects)

-- CANDIDATES OF TWO TABLES OF BUDGETS

-- the same but for stamps, each of which is that of its scheduling context
pub record AreSameBut (u : KernelState) (bs cs : List (Option Budget)) (cpu : ℕ) (c d : Candidate) : Type 0 where
  pub sc : d.sc ≡ c.sc
  pub actor : d.actor ≡ c.actor
  pub priority : d.priority ≡ c.priority
  pub ec : ℕ
  pub quantum : ℕ
  pub object : slice_get u.objects c.sc ≡ Some (Sc ec cpu c.priority quantum)
  pub first : c.stamp ≡ stamp_in (entry (slice_get bs c.sc))
  pub second : d.stamp ≡ stamp_in (entry (slice_get cs c.sc))

abbrev HaveSameLefts : List (Option Budget) → List (Option Budget) → Type 0
HaveSameLefts bs cs = (n : ℕ) → option_map (λ (b : Budget). b.left) (entry (slice_get bs n)) ≡ option_map (λ (b : Budget). b.left) (entry (slice_get cs n))

candidates_paired : (u : KernelState) (bs cs : List (Option Budget)) → HaveSameLefts bs cs → (cpu n : ℕ) (o : Object) → slice_get u.objects n ≡ Some o →
    Both (AreSameBut u bs cs cpu) (candidate_of (with_budgets u bs) cpu n o) (candidate_of (with_budgets u cs) cpu n o)
candidates_paired u bs cs same cpu n (Sc ec its priority quantum) at = by_test (its == cpu) (acts u.contexts who) refl
  where
    who : ℕ
    who = actor u ec

    by_budgets : (p q : Option Budget) → entry (slice_get bs n) ≡ p → entry (slice_get cs n) ≡ q →
        option_map (λ (b : Budget). b.left) p ≡ option_map (λ (b : Budget). b.left) q → its ≡ cpu →
        Both (AreSameBut u bs cs cpu) (candidate_with n who priority p) (candidate_with n who priority q)
    by_budgets None None first second left here = tt
    by_budgets None (Some c) first second left here = absurd (cc)
    by_budgets (Some b) None first second left here = absurd (cc)
    by_budgets (Some b) (Some c) first second left here = record {
      sc = refl;
      actor = refl;
      priority = refl;
      ec = ec;
      quantum = quantum;
      object = at ∙ ap (λ (p : ℕ). Some (Sc ec p priority quantum)) here;
      first = sym (ap stamp_in first);
      second = sym (ap stamp_in second);
    }

    by_test : (t v : Bool) → (its == cpu) ≡ t →
        Both (AreSameBut u bs cs cpu) (if t && v then candidate_with n who priority (entry (slice_get bs n)) else None) (if t && v then candidate_with n who priority (entry (slice_get cs n)) else None)
    by_test true true here = by_budgets (entry (slice_get bs n)) (entry (slice_get cs n)) refl refl (same n) (eqb-true its cpu here)
    by_test true false here = tt
    by_test false v here = tt
candidates_paired u bs cs same cpu n Pd at = tt
candidates_paired u bs cs same cpu n (Ec pd its kind event) at = tt
candidates_paired u bs cs same cpu n (Pt ec mtd ip) at = tt
candidates_paired u bs cs same cpu n Sm at = tt

candidates_step : (u : KernelState) (bs cs : List (Option Budget)) → HaveSameLefts bs cs → (cpu n : ℕ) (os : List Object) → ((i m : ℕ) → m ≡ n + i → slice_get u.objects m ≡ slice_get os i) →
    InStep (AreSameBut u bs cs cpu) (candidates_from (with_budgets u bs) cpu n os) (candidates_from (with_budgets u cs) cpu n os)
candidates_step u bs cs same cpu n [] at = tt
candidates_step u bs cs same cpu n (o ∷ os) at =
    by_pair (candidate_of (with_budgets u bs) cpu n o) (candidate_of (with_budgets u cs) cpu n o)
    (candidates_paired u bs cs same cpu n o (at 0 n (omega arith)))
    (candidates_step u bs cs same cpu (n + 1) os (λ i m e. at (suc i) m (omega (arith, e))))
  where
    by_pair : (c d : Option Candidate) → Both (AreSameBut u bs cs cpu) c d →
        InStep (AreSameBut u bs cs cpu) (candidates_from (with_budgets u bs) cpu (n + 1) os) (candidates_from (with_budgets u cs) cpu (n + 1) os) →
        InStep (AreSameBut u bs cs cpu) (in_front c (candidates_from (with_budgets u bs) cpu (n + 1) os)) (in_front d (candidates_from (with_budgets u cs) cpu (n + 1) os))
    by_pair None None pair rest = rest
    by_pair None (Some d) pair rest = absurd pair
    by_pair (Some c) None pair rest = absurd pair
    by_pair (Some c) (Some d) pair rest = (pair, rest)

-- peers are in the same order
abbrev pub AreOrdered : List Object → List (Option Budget) → List (Option Budget) → Type 0
AreOrdered os bs cs = (m n : ℕ) → ArePeers os m n →
    nat_lt (stamp_in (entry (slice_get bs m))) (stamp_in (entry (slice_get bs n))) ≡ nat_lt (stamp_in (entry (slice_get cs m))) (stamp_in (entry (slice_get cs n)))

before_same : (u : KernelState) (bs cs : List (Option Budget)) → AreOrdered u.objects bs cs → (cpu : ℕ) (a b c d : Candidate) → AreSameBut u bs cs cpu a b → AreSameBut u bs cs cpu c d →
    goes_before c a ≡ goes_before d b
before_same u bs cs order cpu a b c d ab cd =
    by_test (c.priority == a.priority) refl
    ∙ ap₂ (λ (p q : ℕ). outranks p d.stamp q b.stamp) (sym cd.priority) (sym ab.priority)
  where
    peers : c.priority ≡ a.priority → ArePeers u.objects c.sc a.sc
    peers same = record {
      cpu = cpu;
      priority = a.priority;
      first_ec = cd.ec;
      first_quantum = cd.quantum;
      second_ec = ab.ec;
      second_quantum = ab.quantum;
      first = cd.object ∙ ap (λ (p : ℕ). Some (Sc cd.ec cpu p cd.quantum)) same;
      second = ab.object;
    }

    by_test : (t : Bool) → (c.priority == a.priority) ≡ t →
        (nat_lt a.priority c.priority || (t && nat_lt c.stamp a.stamp)) ≡ (nat_lt a.priority c.priority || (t && nat_lt d.stamp b.stamp))
    by_test true is =
        ap (λ (v : Bool). nat_lt a.priority c.priority || v)
        (ap₂ nat_lt cd.first ab.first ∙ order c.sc a.sc (peers (eqb-true c.priority a.priority is)) ∙ sym (ap₂ nat_lt cd.second ab.second))
    by_test false is = refl

foremost_paired : (u : KernelState) (bs cs : List (Option Budget)) → HaveSameLefts bs cs → AreOrdered u.objects bs cs → (cpu : ℕ) →
    Both (AreSameBut u bs cs cpu) (choice (with_budgets u bs) cpu) (choice (with_budgets u cs) cpu)
unfolding choice
foremost_paired u bs cs same order cpu =
    first_step (AreSameBut u bs cs cpu) goes_before (before_same u bs cs order cpu) (candidates (with_budgets u bs) cpu) (candidates (with_budgets u cs) cpu)
    (candidates_step u bs cs same cpu 0 u.objects (λ i m e. ap (slice_get u.objects) (let same : m ≡ i = omega (arith, e) in same)))

-- ALIKE STATES

pub same_lefts : (k l : KernelState) → IsAlike k l → (n : ℕ) → option_map (λ (b : Budget). b.left) (budget_at k n) ≡ option_map (λ (b : Budget). b.left) (budget_at l n)
same_lefts k l alike n =
    sym (map_entry (λ (b : Budget). b.left) k.budgets n)
    ∙ ap (λ (ls : List (Option ℕ)). entry (slice_get ls n)) alike.left
    ∙ map_entry (λ (b : Budget). b.left) l.budgets n

pub choice_paired : (k l : KernelState) (cpu : ℕ) → IsAlike k l → Both (AreSameBut (uncounted k) k.budgets l.budgets cpu) (choice k cpu) (choice l cpu)
choice_paired k l cpu alike =
    subst (λ (c : Option Candidate). Both (AreSameBut (uncounted k) k.budgets l.budgets cpu) c (choice l cpu)) (sym (choice_same k cpu))
    (subst (Both (AreSameBut (uncounted k) k.budgets l.budgets cpu) (choice (with_budgets (uncounted k) k.budgets) cpu)) other
    (foremost_paired (uncounted k) k.budgets l.budgets (same_lefts k l alike) alike.order cpu))
  where
    other : choice (with_budgets (uncounted k) l.budgets) cpu ≡ choice l cpu
    other = ap (λ (u : KernelState). choice (with_budgets u l.budgets) cpu) alike.rest ∙ sym (choice_same l cpu)

pub same_choice : (k l : KernelState) (cpu : ℕ) → IsAlike k l → choose k cpu ≡ choose l cpu
same_choice k l cpu alike = by_choices (choice k cpu) (choice l cpu) (choice_paired k l cpu alike)
  where
    by_choices : (c d : Option Candidate) → Both (AreSameBut (uncounted k) k.budgets l.budgets cpu) c d → option_map (λ (x : Candidate). x.sc) c ≡ option_map (λ (x : Candidate). x.sc) d
    by_choices None None pair = refl
    by_choices None (Some d) pair = absurd pair
    by_choices (Some c) None pair = absurd pair
    by_choices (Some c) (Some d) pair = ap Some (sym pair.sc)
