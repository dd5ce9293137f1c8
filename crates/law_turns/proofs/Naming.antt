-- The contexts that the event of a turn names.
use Rattle.nova_model.specs.Times.{next_moment}
use Rattle.law_forest.specs.Effects.{Falls, Passing, Ticks}
use Rattle.law_forest.specs.Turns.{is_passing, passing_event}
use Rattle.std.proofs.Common.{◌≡◌, ℕ, zero, suc, ◌<◌, length, refl, sym, ap, ◌∙◌, subst, arith}
use Rattle.std.specs.Prelude.{◌↔◌, Bool, true, false, ◌==◌, ◌&&◌, ◌||◌, cond, if◌then◌else◌, is_none, Option, Some, None, IfSome, option_and_then, option_map}
use Rattle.std.specs.List.{find}
use Rattle.nova_objects.specs.declared.object.Object.TheVariants.{Sc}
use Rattle.nova_model.specs.Choice.{Candidate, actor, candidate_of, candidate_with, choice, next_to_act, choose}
use Rattle.nova_model.specs.Deeds.{deed}
use Rattle.nova_model.specs.Edges.{acts, after_edges, chase, edge, met_within, or_itself, stays}
use Rattle.nova_model.specs.State.{Contexts, KernelState, budget_at}
use Rattle.nova_model.specs.Turn.{answer_of, event_of, turn}
use Rattle.nova_model.specs.declared.budget.Budget.{Budget}
use Rattle.nova_model.specs.declared.event.Event.{Event}
use Rattle.nova_model.specs.declared.event.Turn.TheVariants.{Stepped}
use Rattle.law_forest.proofs.Turning as turning
use Rattle.nova_model.specs.declared.times.Due.TheVariants as due
use Rattle.law_forest.proofs.Turning.{acting_kind, acts_chosen, of_event, of_events}
use Rattle.law_turns.specs.Events.{ActsFor, NamesChosen, NamesNobody}
use Rattle.law_turns.proofs.Candidates.{schedule_of, the_chosen}
use Rattle.law_turns.proofs.Chosen.{choice_acts}

-- ALONG EDGES

-- the first that is met with which turns stay
record IsFirst (cs : Contexts) (e who : ℕ) : Type 0 where
  edges : ℕ
  met : after_edges edges (edge cs) e ≡ Some who
  first : (n other : ℕ) → n < edges → after_edges n (edge cs) e ≡ Some other → stays cs other ≡ false

itself : (cs : Contexts) (e : ℕ) → IsFirst cs e e
itself cs e = record { edges = 0; met = refl; first = λ n other less is. absurd (omega arith) }

further : (cs : Contexts) (e f who : ℕ) → stays cs e ≡ false → edge cs e ≡ Some f → IsFirst cs f who → IsFirst cs e who
further cs e f who leaves to h = record {
  edges = suc h.edges;
  met = ap (option_and_then (after_edges h.edges (edge cs))) to ∙ h.met;
  first = before;
}
  where
    before : (n other : ℕ) → n < suc h.edges → after_edges n (edge cs) e ≡ Some other → stays cs other ≡ false
    before zero other less is = let same : e ≡ other = cc in ap (stays cs) (sym same) ∙ leaves
    before (suc n) other less is = h.first n other (omega arith) (sym (ap (option_and_then (after_edges n (edge cs))) to) ∙ is)

further_some : (cs : Contexts) (e f : ℕ) (o : Option ℕ) → stays cs e ≡ false → edge cs e ≡ Some f → IfSome o (IsFirst cs f) → IfSome o (IsFirst cs e)
further_some cs e f None leaves to h = tt
further_some cs e f (Some who) leaves to h = further cs e f who leaves to h

first_met : (cs : Contexts) (n e : ℕ) → IfSome (find (stays cs) (met_within n (edge cs) (Some e))) (IsFirst cs e)
first_met cs zero e = tt
first_met cs (suc n) e = by_test (stays cs e) refl (first_met cs n)
  where
    by_edge : (m : ℕ) (o : Option ℕ) → edge cs e ≡ o → stays cs e ≡ false → ((f : ℕ) → IfSome (find (stays cs) (met_within m (edge cs) (Some f))) (IsFirst cs f)) →
        IfSome (find (stays cs) (met_within m (edge cs) o)) (IsFirst cs e)
    by_edge zero None to leaves h = tt
    by_edge (suc m) None to leaves h = tt
    by_edge m (Some f) to leaves h = further_some cs e f (find (stays cs) (met_within m (edge cs) (Some f))) leaves to (h f)

    by_test : (t : Bool) → stays cs e ≡ t → ((f : ℕ) → IfSome (find (stays cs) (met_within n (edge cs) (Some f))) (IsFirst cs f)) →
        IfSome (cond t (Some e) (find (stays cs) (met_within n (edge cs) (edge cs e)))) (IsFirst cs e)
    by_test true is others = itself cs e
    by_test false is others = by_edge n (edge cs e) refl is others

first_or_itself : (cs : Contexts) (e : ℕ) (o : Option ℕ) → IfSome o (IsFirst cs e) → IsFirst cs e (or_itself e o)
first_or_itself cs e None h = itself cs e
first_or_itself cs e (Some who) h = h

chase_first : (cs : Contexts) (e : ℕ) → IsFirst cs e (chase cs e)
chase_first cs e = first_or_itself cs e (find (stays cs) (met_within (length cs) (edge cs) (Some e))) (first_met cs (length cs) e)

leaves_idle : (cs : Contexts) (e : ℕ) → stays cs e ≡ false → acts cs e ≡ false
leaves_idle cs e h = by_test (acts cs e) h
  where
    by_test : (t : Bool) → (t || is_none (edge cs e)) ≡ false → t ≡ false
    by_test true is = is
    by_test false is = refl

acts_for : (cs : Contexts) (e who : ℕ) → chase cs e ≡ who → acts cs who ≡ true → ActsFor cs e who
acts_for cs e who is able =
    let h = subst (IsFirst cs e) is (chase_first cs e) in
    record { edges = h.edges; met = h.met; able = able; first = λ n other less at. leaves_idle cs other (h.first n other less at) }

-- WHICH CONTEXT IS CHOSEN

candidate_chases : (k : KernelState) (cpu sc ec its priority quantum : ℕ) → IfSome (candidate_of k cpu sc (Sc ec its priority quantum)) (λ c. chase k.contexts ec ≡ c.actor)
candidate_chases k cpu sc ec its priority quantum = by_test ((its == cpu) && acts k.contexts (actor k ec)) (budget_at k sc)
  where
    by_test : (t : Bool) (b : Option Budget) → IfSome (if t then candidate_with sc (actor k ec) priority b else None) (λ (c : Candidate). chase k.contexts ec ≡ c.actor)
    by_test true (Some b) = refl
    by_test true None = tt
    by_test false b = tt

names : (k : KernelState) (cpu : ℕ) (c : Candidate) → next_to_act k cpu ≡ Some c → NamesChosen k cpu (event_of cpu c (deed k c.actor))
names k cpu c is =
    let candidate = the_chosen k cpu c (acts_chosen k cpu c is).0 in
    let its = schedule_of k cpu c candidate in
    let same : candidate.object ≡ Sc its.ec cpu its.priority its.quantum = let at = candidate.at in let object = its.object in cc in
    let chased : chase k.contexts its.ec ≡ c.actor =
    subst (λ (o : Option Candidate). IfSome o (λ (x : Candidate). chase k.contexts its.ec ≡ x.actor))
    (sym (ap (candidate_of k cpu c.sc) same) ∙ candidate.is) (candidate_chases k cpu c.sc its.ec cpu its.priority its.quantum) in
    record {
      chosen = ap (λ (o : Option Candidate). option_map (λ (x : Candidate). x.sc) o) (acts_chosen k cpu c is).0;
      processor = refl;
      its = its.ec;
      priority = its.priority;
      quantum = its.quantum;
      object = its.object;
      chased = chased;
      actor = acts_for k.contexts its.ec c.actor chased (subst (λ (o : Option Candidate). IfSome o (λ (x : Candidate). acts k.contexts x.actor ≡ true)) (acts_chosen k cpu c is).0 (choice_acts k cpu));
    }

-- NONE IS CHOSEN

nobody : (o : Option Candidate) → option_map (λ (c : Candidate). c.sc) o ≡ None → o ≡ None
nobody None h = refl
nobody (Some c) h = absurd (cc)

pub none_chosen : (k : KernelState) (cpu : ℕ) → ((choose k cpu ≡ None) × (next_moment k.times cpu ≡ None)) ↔ (turn k cpu ≡ None)
none_chosen k cpu = (
  λ h. turning.none_taken k cpu (nobody (choice k cpu) h.0) h.1,
  λ h. let both = turning.none_chosen k cpu h in (ap (λ (o : Option Candidate). option_map (λ (c : Candidate). c.sc) o) both.0, both.1),
)

-- what comes by itself names none that pays
pub passing_names : (k : KernelState) (cpu : ℕ) (e : Event) → is_passing e.kind ≡ true → answer_of (turn k cpu) ≡ Stepped e → NamesNobody cpu e
passing_names k cpu e passing steps =
    of_events (λ (f : Event). is_passing f.kind ≡ true → NamesNobody cpu f) k cpu e steps (λ p comes state its. names_nobody p)
    (λ c chosen state its. absurd (let both : true ≡ false = sym its ∙ acting_kind (deed k c.actor) in cc)) passing
  where
    names_nobody : (p : Passing) → NamesNobody cpu (passing_event k cpu p)
    names_nobody (Falls (due.Alarm alarm)) = record { processor = refl; schedule = refl }
    names_nobody (Falls (due.Deadline ec)) = record { processor = refl; schedule = refl }
    names_nobody Ticks = record { processor = refl; schedule = refl }

pub event_names : (k : KernelState) (cpu : ℕ) (e : Event) → is_passing e.kind ≡ false → answer_of (turn k cpu) ≡ Stepped e → NamesChosen k cpu e
event_names k cpu e acts steps = of_event (NamesChosen k cpu) k cpu e acts steps (λ c chosen state. names k cpu c chosen)
