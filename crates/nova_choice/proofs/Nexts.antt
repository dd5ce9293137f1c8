-- The queues' choice is the kernel's: the first of the candidates, told by its number.
use Rattle.std.proofs.Common.{◌≡◌, ℕ, zero, suc, ◌+◌, ◌==◌, List, [], ◌∷◌, refl, ap, ap₂, sym, ◌∙◌, arith}
use Rattle.std.specs.Prelude.{Bool, true, false, not, ◌&&◌, Option, Some, None, if◌then◌else◌, map, option_map, slice_get}
use Rattle.std.specs.List.{find, list_all}
use Rattle.nova_model.specs.Choice.{Candidate, actor, candidate_of, candidate_with, candidates, candidates_from, choice, choose, first_of, goes_before, in_front}
use Rattle.nova_model.specs.State.{Contexts, KernelState, budget_at, entry}
use Rattle.nova_model.specs.declared.budget.Budget.{Budget}
use Rattle.nova_objects.specs.declared.object.Object.{Object}
use Rattle.nova_objects.specs.declared.object.Object.TheVariants.{Pd, Ec, Sc, Pt, Sm}
use Rattle.nova_sched.specs.Queues.{Schedule, next, queued_at, runnable_of, runnables, runnables_from, runs_before}
use Rattle.nova_sched.specs.Queues as queues
use Rattle.nova_sched.specs.declared.queued.Queued.{Queued}
use Rattle.nova_sched.specs.declared.queued.Runnable.{Runnable}
use Rattle.nova_choice.specs.Schedules.{AreQueued, actor_of, leads, wanted_with}

-- a candidate as the queues tell it
abbrev pub told : Candidate → Runnable
told c = record { sc = c.sc; priority = c.priority; stamp = c.stamp }

-- THE FIRST

all_told : (a : Candidate) (cs : List Candidate) → list_all (λ b. not (runs_before b (told a))) (map told cs) ≡ list_all (λ b. not (goes_before b a)) cs
all_told a [] = refl
all_told a (c ∷ cs) = ap (λ (t : Bool). not (goes_before c a) && t) (all_told a cs)

find_told : (all cs : List Candidate) →
    find (λ a. list_all (λ b. not (runs_before b a)) (map told all)) (map told cs) ≡ option_map told (find (λ a. list_all (λ b. not (goes_before b a)) all) cs)
find_told all [] = refl
find_told all (c ∷ cs) =
    ap₂ (λ (t : Bool) (o : Option Runnable). if t then Some (told c) else o) (all_told c all) (find_told all cs) ∙ by_test (list_all (λ b. not (goes_before b c)) all)
  where
    by_test : (t : Bool) → (if t then Some (told c) else option_map told (find (λ a. list_all (λ b. not (goes_before b a)) all) cs))
        ≡ option_map told (if t then Some c else find (λ a. list_all (λ b. not (goes_before b a)) all) cs)
    by_test true = refl
    by_test false = refl

first_told : (cs : List Candidate) → first_of runs_before (map told cs) ≡ option_map told (first_of goes_before cs)
first_told cs = find_told cs cs

-- THE SAME LISTS

runnable_with : (k : KernelState) (cpu n ec its_cpu priority quantum : ℕ) (o : Option Budget) (t : Bool) →
    runnable_of cpu n (wanted_with k.contexts (Some (Sc ec its_cpu priority quantum)) o)
    ≡ option_map told (if (its_cpu == cpu) && leads k.contexts ec then candidate_with n (actor k ec) priority o else None)
runnable_with k cpu n ec its_cpu priority quantum None t = by_test ((its_cpu == cpu) && leads k.contexts ec)
  where
    by_test : (b : Bool) → None ≡ option_map told (if b then candidate_with n (actor k ec) priority None else None)
    by_test true = refl
    by_test false = refl
runnable_with k cpu n ec its_cpu priority quantum (Some b) t = by_test ((its_cpu == cpu) && leads k.contexts ec)
  where
    by_test : (x : Bool) → (if x then Some (record { sc = n; priority = priority; stamp = b.stamp }) else None) ≡ option_map told (if x then candidate_with n (actor k ec) priority (Some b) else None)
    by_test true = refl
    by_test false = refl

runnable_wanted : (k : KernelState) (cpu n : ℕ) (o : Object) → runnable_of cpu n (wanted_with k.contexts (Some o) (budget_at k n)) ≡ option_map told (candidate_of k cpu n o)
runnable_wanted k cpu n (Sc ec its_cpu priority quantum) = runnable_with k cpu n ec its_cpu priority quantum (budget_at k n) true
runnable_wanted k cpu n Pd = refl
runnable_wanted k cpu n (Ec pd its_cpu kind event) = refl
runnable_wanted k cpu n (Pt ec mtd ip) = refl
runnable_wanted k cpu n Sm = refl

-- entries that are as they are wanted, from a number on
abbrev AreFrom : KernelState → ℕ → List (Option Queued) → List Object → Type 0
AreFrom k n es os = (i : ℕ) → entry (slice_get es i) ≡ wanted_with k.contexts (slice_get os i) (budget_at k (n + i))

are_next : (k : KernelState) (n : ℕ) (e : Option Queued) (es : List (Option Queued)) (o : Object) (os : List Object) → AreFrom k n (e ∷ es) (o ∷ os) → AreFrom k (n + 1) es os
are_next k n e es o os h i = h (suc i) ∙ ap (λ (m : ℕ). wanted_with k.contexts (slice_get os i) (budget_at k m)) (let s : n + suc i ≡ n + 1 + i = omega arith in s)

none_next : (k : KernelState) (n : ℕ) (o : Object) (os : List Object) → AreFrom k n [] (o ∷ os) → AreFrom k (n + 1) [] os
none_next k n o os h i = h (suc i) ∙ ap (λ (m : ℕ). wanted_with k.contexts (slice_get os i) (budget_at k m)) (let s : n + suc i ≡ n + 1 + i = omega arith in s)

at_first : (k : KernelState) (cpu n : ℕ) (e : Option Queued) (o : Object) → e ≡ wanted_with k.contexts (Some o) (budget_at k (n + 0)) →
    runnable_of cpu n e ≡ option_map told (candidate_of k cpu n o)
at_first k cpu n e o is =
    ap (runnable_of cpu n) (is ∙ ap (λ (m : ℕ). wanted_with k.contexts (Some o) (budget_at k m)) (let s : n + 0 ≡ n = omega arith in s))
    ∙ runnable_wanted k cpu n o

front_told : (o : Option Candidate) (cs : List Candidate) → in_front (option_map told o) (map told cs) ≡ map told (in_front o cs)
front_told None cs = refl
front_told (Some c) cs = refl

none_front : (o : Option Candidate) → None ≡ option_map told o → o ≡ None
none_front None h = refl
none_front (Some c) h = absurd cc

none_wanted : (cs : Contexts) (o : Option Budget) → wanted_with cs None o ≡ None
none_wanted cs o = refl

runnables_told : (k : KernelState) (cpu n : ℕ) (es : List (Option Queued)) (os : List Object) → AreFrom k n es os →
    runnables_from cpu n es ≡ map told (candidates_from k cpu n os)
runnables_told k cpu n [] [] h = refl
runnables_told k cpu n [] (o ∷ os) h =
    let here : candidate_of k cpu n o ≡ None = none_front (candidate_of k cpu n o) (at_first k cpu n None o (h zero)) in
    runnables_told k cpu (n + 1) [] os (none_next k n o os h)
    ∙ ap (λ (c : Option Candidate). map told (in_front c (candidates_from k cpu (n + 1) os))) (sym here)
runnables_told k cpu n (e ∷ es) [] h =
    let here : e ≡ None = h zero in
    ap (λ (d : Option Queued). in_front (runnable_of cpu n d) (runnables_from cpu (n + 1) es)) here
    ∙ runnables_told k cpu (n + 1) es [] (λ i. h (suc i))
runnables_told k cpu n (e ∷ es) (o ∷ os) h =
    ap₂ (λ (r : Option Runnable) (rs : List Runnable). in_front r rs) (at_first k cpu n e o (h zero)) (runnables_told k cpu (n + 1) es os (are_next k n e es o os h))
    ∙ front_told (candidate_of k cpu n o) (candidates_from k cpu (n + 1) os)

-- all are from the first on
all_wanted : (k : KernelState) (s : Schedule) → AreQueued k s → AreFrom k 0 s.entries k.objects
all_wanted k s queued i = queued.entries i ∙ ap (λ (m : ℕ). wanted_with k.contexts (slice_get k.objects i) (budget_at k m)) (let e : i ≡ 0 + i = omega arith in e)

pub next_told : (k : KernelState) (s : Schedule) (cpu : ℕ) → AreQueued k s → next s cpu ≡ option_map told (choice k cpu)
unfolding next choice
next_told k s cpu queued = ap (first_of runs_before) (runnables_told k cpu 0 s.entries k.objects (all_wanted k s queued)) ∙ first_told (candidates k cpu)

number_told : (o : Option Candidate) → option_map (λ (r : Runnable). r.sc) (option_map told o) ≡ option_map (λ (c : Candidate). c.sc) o
number_told None = refl
number_told (Some c) = refl

pub choose_told : (k : KernelState) (s : Schedule) (cpu : ℕ) → AreQueued k s → queues.choose s cpu ≡ choose k cpu
choose_told k s cpu queued = ap (option_map (λ (r : Runnable). r.sc)) (next_told k s cpu queued) ∙ number_told (choice k cpu)

-- WHICH CONTEXT ACTS

-- a candidate that is chosen is that of its own number
found_of : (p : Candidate → Bool) (k : KernelState) (cpu n : ℕ) (os : List Object) (c : Candidate) → find p (candidates_from k cpu n os) ≡ Some c →
    (i : ℕ) × (o : Object) × (slice_get os i ≡ Some o) × (candidate_of k cpu (n + i) o ≡ Some c)
found_of p k cpu n [] c h = absurd cc
found_of p k cpu n (o ∷ os) c h =
    by_here (λ g.
    let rest = found_of p k cpu (n + 1) os c g in (
      suc rest.0,
      rest.1,
      rest.2,
      ap (λ (m : ℕ). candidate_of k cpu m rest.1) (let e : n + suc rest.0 ≡ n + 1 + rest.0 = omega arith in e) ∙ rest.3,
    )) (candidate_of k cpu n o) refl h
  where
    by_here : (find p (candidates_from k cpu (n + 1) os) ≡ Some c → (i : ℕ) × (x : Object) × (slice_get (o ∷ os) i ≡ Some x) × (candidate_of k cpu (n + i) x ≡ Some c)) →
        (d : Option Candidate) → candidate_of k cpu n o ≡ d → find p (in_front d (candidates_from k cpu (n + 1) os)) ≡ Some c →
        (i : ℕ) × (x : Object) × (slice_get (o ∷ os) i ≡ Some x) × (candidate_of k cpu (n + i) x ≡ Some c)
    by_here later None is g = later g
    by_here later (Some d) is g = by_test (p d) refl g
      where
        by_test : (t : Bool) → p d ≡ t → (if t then Some d else find p (candidates_from k cpu (n + 1) os)) ≡ Some c →
            (i : ℕ) × (x : Object) × (slice_get (o ∷ os) i ≡ Some x) × (candidate_of k cpu (n + i) x ≡ Some c)
        by_test true passes f = (0, o, refl, ap (λ (m : ℕ). candidate_of k cpu m o) (let e : n + 0 ≡ n = omega arith in e) ∙ is ∙ f)
        by_test false passes f = later f

-- the context that acts in its turns
acting : (k : KernelState) (cpu sc : ℕ) (o : Object) (c : Candidate) → candidate_of k cpu sc o ≡ Some c → (c.sc ≡ sc) × (actor_of k.contexts (Some o) ≡ Some c.actor)
acting k cpu sc (Sc ec its_cpu priority quantum) c h = by_test (its_cpu == cpu) (leads k.contexts ec) refl (budget_at k sc) h
  where
    by_test : (t u : Bool) → leads k.contexts ec ≡ u → (b : Option Budget) → (if t && u then candidate_with sc (actor k ec) priority b else None) ≡ Some c →
        (c.sc ≡ sc) × (actor_of k.contexts (Some (Sc ec its_cpu priority quantum)) ≡ Some c.actor)
    by_test true true is (Some b) g =
        let same : record { sc = sc; actor = actor k ec; priority = priority; stamp = b.stamp } ≡ c = cc in
        (sym (ap (λ (d : Candidate). d.sc) same), rw is (ap (λ (d : Candidate). Some d.actor) same))
    by_test true true is None g = absurd cc
    by_test true false is b g = absurd cc
    by_test false u is b g = absurd cc
acting k cpu sc Pd c h = absurd cc
acting k cpu sc (Ec pd its_cpu kind event) c h = absurd cc
acting k cpu sc (Pt ec mtd ip) c h = absurd cc
acting k cpu sc Sm c h = absurd cc

-- the context that acts in the turns of the chosen scheduling context
pub chosen_acts : (k : KernelState) (cpu : ℕ) (c : Candidate) → choice k cpu ≡ Some c → actor_of k.contexts (slice_get k.objects c.sc) ≡ Some c.actor
unfolding choice
chosen_acts k cpu c chosen =
    let found = found_of (λ a. list_all (λ b. not (goes_before b a)) (candidates k cpu)) k cpu 0 k.objects c chosen in
    let acts = acting k cpu (0 + found.0) found.1 c found.3 in
    let place : c.sc ≡ found.0 = acts.0 ∙ (let e : 0 + found.0 ≡ found.0 = omega arith in e) in
    ap (λ (n : ℕ). actor_of k.contexts (slice_get k.objects n)) place ∙ ap (actor_of k.contexts) found.2 ∙ acts.1
