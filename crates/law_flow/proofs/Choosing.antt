-- The candidate that is chosen on a processor of the side's is the same in two states.
use Rattle.std.proofs.Common.{◌≡◌, ◌⊎◌, ℕ, ◌+◌, zero, suc, List, [], ◌∷◌, refl, sym, ap, ap₂, ◌∙◌, subst, inl, inr, arith}
use Rattle.std.specs.Prelude.{Bool, true, false, ◌==◌, ◌&&◌, ◌||◌, not, map, nat_lt, IfSome, IsSome, is_none, is_some, slice_get, option_map, option_and_then, Option, Some, None, if◌then◌else◌}
use Rattle.std.specs.List.{AllByRecursion, find, list_all}
use Rattle.std.proofs.lemmas.Bool.{eqb-true}
use Rattle.std.proofs.lemmas.Option.{same_Some}
use Rattle.nova_objects.specs.declared.object.Object.{Object}
use Rattle.nova_objects.specs.declared.object.Object.TheVariants.{Pd, Ec, Sc, Pt, Sm}
use Rattle.nova_model.specs.Choice.{Candidate, candidate_of, candidate_with, candidates_from, choice, foremost, goes_before, in_front}
use Rattle.nova_model.specs.Edges.{AreEdges, acts, acts_as, acts_by, after_edges, chase, edge, edge_of, state_in, stays}
use Rattle.nova_model.specs.State.{Contexts, KernelState, budget_at}
use Rattle.nova_model.specs.Times.{before_rest}
use Rattle.nova_model.specs.declared.budget.Budget.{Budget}
use Rattle.nova_model.specs.declared.context.State.{State}
use Rattle.nova_model.specs.declared.context.State.TheVariants.{Blocked, Calling, Dead, Exiting, Fresh, Granting, Helping, Parked, Ready, Replying, Revoking, Sending}
use Rattle.nova_ec.proofs.Ends.{chases_end, chases_go_on}
use Rattle.law_forest.proofs.Members.{all_at, found_in}
use Rattle.law_turns.proofs.Links.{place}
use Rattle.law_turns.specs.Tables.{Refers, cpu_of}
use Rattle.law_isolation.specs.Sound.{IsSound}
use Rattle.law_integrity.proofs.Edges.{at_index}
use Rattle.law_integrity.proofs.Runnable.{one_end}
use Rattle.law_flow.specs.Flow.{IsSide}
use Rattle.law_turns.specs.Budgets.{stamp_in}
use Rattle.law_flow.specs.Processors.{AreTimed, IsAtHome, is_still, stamp_at}
use Rattle.law_flow.proofs.Seeing.{Both, edge_same, state_same, ways_same}
use Rattle.law_flow.proofs.Timing.{listed, listed_same}

-- WHICH CONTEXT ACTS IN THE TURNS OF ONE OF THE SIDE

acts_same : (k l : KernelState) (S P : ℕ → Type 0) → Both k l S P → (n : ℕ) → P n → acts l.contexts n ≡ acts k.contexts n
acts_same k l S P b n p = ap (acts_as l.contexts) (state_same k l S P b n p) ∙ by_state (state_in k.contexts n) refl
  where
    by_edge : (t : State) (o : Option ℕ) → edge k.contexts n ≡ o → edge_of t ≡ o → acts_by t (option_and_then (state_in l.contexts) (edge_of t)) ≡ acts_by t (option_and_then (state_in k.contexts) (edge_of t))
    by_edge t None at is = ap (λ (o : Option ℕ). acts_by t (option_and_then (state_in l.contexts) o)) is ∙ sym (ap (λ (o : Option ℕ). acts_by t (option_and_then (state_in k.contexts) o)) is)
    by_edge t (Some h) at is =
        ap (λ (o : Option ℕ). acts_by t (option_and_then (state_in l.contexts) o)) is
        ∙ ap (acts_by t) (state_same k l S P b h (b.side.edges n h p at))
        ∙ sym (ap (λ (o : Option ℕ). acts_by t (option_and_then (state_in k.contexts) o)) is)

    by_state : (o : Option State) → state_in k.contexts n ≡ o → acts_as l.contexts o ≡ acts_as k.contexts o
    by_state None at = refl
    by_state (Some t) at = by_edge t (edge k.contexts n) refl (sym (ap (option_and_then edge_of) at))

stays_same : (k l : KernelState) (S P : ℕ → Type 0) → Both k l S P → (n : ℕ) → P n → stays l.contexts n ≡ stays k.contexts n
stays_same k l S P b n p = ap₂ (λ (t : Bool) (o : Option ℕ). t || is_none o) (acts_same k l S P b n p) (edge_same k l S P b n p)

-- each that is met from one of the side's is the side's
way_mine : (k : KernelState) (S P : ℕ → Type 0) → IsSide k S P → (m n f : ℕ) → P n → after_edges m (edge k.contexts) n ≡ Some f → P f
way_mine k S P side zero n f p is = subst P (same_Some n f is) p
way_mine k S P side (suc m) n f p is = by_edge (edge k.contexts n) refl is (λ h at later. way_mine k S P side m h f (side.edges n h p at) later)
  where
    by_edge : (o : Option ℕ) → edge k.contexts n ≡ o → option_and_then (after_edges m (edge k.contexts)) o ≡ Some f →
        ((h : ℕ) → edge k.contexts n ≡ Some h → after_edges m (edge k.contexts) h ≡ Some f → P f) → P f
    by_edge None at h rest = absurd (cc)
    by_edge (Some g) at h rest = rest g at h

pub actor_mine : (k : KernelState) (S P : ℕ → Type 0) → IsSide k S P → AreEdges k.contexts → (n : ℕ) → P n → P (chase k.contexts n)
actor_mine k S P side sound n p = let ends = chases_end k.contexts n sound in way_mine k S P side ends.edges n (chase k.contexts n) p ends.way

pub chase_same : (k l : KernelState) (S P : ℕ → Type 0) → Both k l S P → (n : ℕ) → P n → chase l.contexts n ≡ chase k.contexts n
chase_same k l S P b n p =
    let ends = chases_end k.contexts n b.first in
    one_end l.contexts n (chase l.contexts n) (chase k.contexts n) (chases_end l.contexts n b.second) (record {
      edges = ends.edges;
      way = ways_same k l S P b ends.edges n p ∙ ends.way;
      last = stays_same k l S P b (chase k.contexts n) (actor_mine k S P b.side b.first n p) ∙ ends.last;
      first = λ i below.
          subst (λ (o : Option ℕ). IfSome o (λ x. stays l.contexts x ≡ false)) (sym (ways_same k l S P b i n p))
          (by_met i (after_edges i (edge k.contexts) n) refl (ends.first i below));
    })
  where
    by_met : (i : ℕ) (o : Option ℕ) → after_edges i (edge k.contexts) n ≡ o → IfSome o (λ x. stays k.contexts x ≡ false) → IfSome o (λ x. stays l.contexts x ≡ false)
    by_met i None is none = tt
    by_met i (Some x) is none = stays_same k l S P b x (way_mine k S P b.side i n x p is) ∙ none

-- a context that is still doesn't act
pub still_acts : (cs : Contexts) (o : Option State) → is_still o ≡ true → acts_as cs o ≡ false
still_acts cs (Some Parked) h = refl
still_acts cs (Some Dead) h = refl
still_acts cs (Some (Blocked sm)) h = refl
still_acts cs None h = absurd (cc)
still_acts cs (Some Fresh) h = absurd (cc)
still_acts cs (Some Ready) h = absurd (cc)
still_acts cs (Some (Calling handler)) h = absurd (cc)
still_acts cs (Some (Helping handler)) h = absurd (cc)
still_acts cs (Some (Exiting reason q0 q1)) h = absurd (cc)
still_acts cs (Some (Sending reason q0 q1 handler)) h = absurd (cc)
still_acts cs (Some (Granting new)) h = absurd (cc)
still_acts cs (Some Replying) h = absurd (cc)
still_acts cs (Some (Revoking range own)) h = absurd (cc)

-- a context that is still gives its turns to none that acts
still_none : (k : KernelState) (n : ℕ) → AreEdges k.contexts → is_still (state_in k.contexts n) ≡ true → acts k.contexts (chase k.contexts n) ≡ false
still_none k n sound still = ap (acts k.contexts) ((chases_go_on k.contexts n sound).ends (by_stays (state_in k.contexts n) refl still)) ∙ still_acts k.contexts (state_in k.contexts n) still
  where
    no_edge : (o : Option State) → is_still o ≡ true → is_none (option_and_then edge_of o) ≡ true
    no_edge (Some Parked) h = refl
    no_edge (Some Dead) h = refl
    no_edge (Some (Blocked sm)) h = refl
    no_edge None h = absurd (cc)
    no_edge (Some Fresh) h = absurd (cc)
    no_edge (Some Ready) h = absurd (cc)
    no_edge (Some (Calling handler)) h = absurd (cc)
    no_edge (Some (Helping handler)) h = absurd (cc)
    no_edge (Some (Exiting reason q0 q1)) h = absurd (cc)
    no_edge (Some (Sending reason q0 q1 handler)) h = absurd (cc)
    no_edge (Some (Granting new)) h = absurd (cc)
    no_edge (Some Replying) h = absurd (cc)
    no_edge (Some (Revoking range own)) h = absurd (cc)

    or_so : (t u : Bool) → u ≡ true → (t || u) ≡ true
    or_so true u h = refl
    or_so false u h = h

    by_stays : (o : Option State) → state_in k.contexts n ≡ o → is_still o ≡ true → stays k.contexts n ≡ true
    by_stays o at h = or_so (acts k.contexts n) (is_none (edge k.contexts n)) (ap (λ (p : Option State). is_none (option_and_then edge_of p)) at ∙ no_edge o h)

-- CANDIDATES, BUT FOR THEIR STAMPS

pub record Rank : Type 0 where
  pub sc : ℕ
  pub actor : ℕ
  pub priority : ℕ

abbrev ranked : Candidate → Rank
ranked c = record { sc = c.sc; actor = c.actor; priority = c.priority }

abbrev pub stamped : KernelState → Rank → Candidate
stamped k r = record { sc = r.sc; actor = r.actor; priority = r.priority; stamp = stamp_at k r.sc }

abbrev rank_with : ℕ → ℕ → ℕ → Bool → Option Rank
rank_with sc who priority true = Some (record { sc = sc; actor = who; priority = priority })
rank_with sc who priority false = None

abbrev rank_of : KernelState → ℕ → ℕ → Object → Option Rank
rank_of k cpu sc (Sc ec its priority quantum) = if (its == cpu) && acts k.contexts (chase k.contexts ec) then rank_with sc (chase k.contexts ec) priority (is_some (budget_at k sc)) else None
rank_of k cpu sc other = None

candidate_ranked : (k : KernelState) (cpu sc : ℕ) (o : Object) → candidate_of k cpu sc o ≡ option_map (stamped k) (rank_of k cpu sc o)
candidate_ranked k cpu sc (Sc ec its priority quantum) = by_test ((its == cpu) && acts k.contexts (chase k.contexts ec))
  where
    by_budget : (o : Option Budget) → budget_at k sc ≡ o → candidate_with sc (chase k.contexts ec) priority o ≡ option_map (stamped k) (rank_with sc (chase k.contexts ec) priority (is_some o))
    by_budget None is = refl
    by_budget (Some b) is =
        ap (λ (n : ℕ). Some (record { sc = sc; actor = chase k.contexts ec; priority = priority; stamp = n })) (sym (ap stamp_in is))

    by_test : (t : Bool) → (if t then candidate_with sc (chase k.contexts ec) priority (budget_at k sc) else None)
        ≡ option_map (stamped k) (if t then rank_with sc (chase k.contexts ec) priority (is_some (budget_at k sc)) else None)
    by_test true = by_budget (budget_at k sc) refl
    by_test false = refl
candidate_ranked k cpu sc Pd = refl
candidate_ranked k cpu sc (Ec pd its kind event) = refl
candidate_ranked k cpu sc (Pt ec mtd ip) = refl
candidate_ranked k cpu sc Sm = refl

candidates_ranked : (k : KernelState) (cpu n : ℕ) (os : List Object) → candidates_from k cpu n os ≡ map (stamped k) (listed (rank_of k cpu) n os)
candidates_ranked k cpu n [] = refl
candidates_ranked k cpu n (o ∷ os) =
    ap₂ (λ (c : Option Candidate) (rest : List Candidate). in_front c rest) (candidate_ranked k cpu n o) (candidates_ranked k cpu (n + 1) os) ∙ by_rank (rank_of k cpu n o)
  where
    by_rank : (r : Option Rank) → in_front (option_map (stamped k) r) (map (stamped k) (listed (rank_of k cpu) (n + 1) os)) ≡ map (stamped k) (before_rest r (listed (rank_of k cpu) (n + 1) os))
    by_rank None = refl
    by_rank (Some r) = refl

-- THE FIRST OF THEM

find_mapped : {A B : Type 0} (f : A → B) (p : B → Bool) (xs : List A) → find p (map f xs) ≡ option_map f (find (λ x. p (f x)) xs)
find_mapped f p [] = refl
find_mapped {A} {B} f p (x ∷ xs) = by_test (p (f x)) (find_mapped f p xs)
  where
    by_test : (t : Bool) → find p (map f xs) ≡ option_map f (find (λ x. p (f x)) xs) → (if t then Some (f x) else find p (map f xs)) ≡ option_map f (if t then Some x else find (λ x. p (f x)) xs)
    by_test true rest = refl
    by_test false rest = rest

all_mapped : {A B : Type 0} (f : A → B) (p : B → Bool) (xs : List A) → list_all p (map f xs) ≡ list_all (λ x. p (f x)) xs
all_mapped f p [] = refl
all_mapped f p (x ∷ xs) = ap (λ (t : Bool). p (f x) && t) (all_mapped f p xs)

find_alike : {A : Type 0} (Q : A → Type 0) (p q : A → Bool) (xs : List A) → AllByRecursion Q xs → ((x : A) → Q x → p x ≡ q x) → find p xs ≡ find q xs
find_alike Q p q [] all same = refl
find_alike {A} Q p q (x ∷ xs) all same = ap₂ (λ (t : Bool) (o : Option A). if t then Some x else o) (same x all.0) (find_alike Q p q xs all.1 same)

all_alike : {A : Type 0} (Q : A → Type 0) (p q : A → Bool) (xs : List A) → AllByRecursion Q xs → ((x : A) → Q x → p x ≡ q x) → list_all p xs ≡ list_all q xs
all_alike Q p q [] all same = refl
all_alike Q p q (x ∷ xs) all same = ap₂ (λ (t u : Bool). t && u) (same x all.0) (all_alike Q p q xs all.1 same)

abbrev best_in : KernelState → List Rank → Rank → Bool
best_in k rs r = list_all (λ (q : Rank). not (goes_before (stamped k q) (stamped k r))) rs

foremost_ranked : (k : KernelState) (rs : List Rank) → foremost (map (stamped k) rs) ≡ option_map (stamped k) (find (best_in k rs) rs)
foremost_ranked k rs =
    find_mapped (stamped k) (λ (a : Candidate). list_all (λ (b : Candidate). not (goes_before b a)) (map (stamped k) rs)) rs
    ∙ ap (option_map (stamped k)) (find_alike (λ (r : Rank). Unit {0}) _ _ rs (units rs) (λ r u. all_mapped (stamped k) (λ (b : Candidate). not (goes_before b (stamped k r))) rs))
  where
    units : (xs : List Rank) → AllByRecursion (λ (r : Rank). Unit {0}) xs
    units [] = tt
    units (x ∷ xs) = (tt, units xs)

-- of the side, with a budget, and so is the context that acts
abbrev pub IsPaying : KernelState → (ℕ → Type 0) → Rank → Type 0
IsPaying k P r = P r.sc × IsSome (budget_at k r.sc) × P r.actor

best_same : (k l : KernelState) (P C : ℕ → Type 0) → AreTimed k l P C → (rs : List Rank) → AllByRecursion (IsPaying k P) rs → find (best_in l rs) rs ≡ find (best_in k rs) rs
best_same k l P C t rs all =
    find_alike (IsPaying k P) (best_in l rs) (best_in k rs) rs all (λ r p.
    all_alike (IsPaying k P) _ _ rs all (λ q o.
    ap (λ (u : Bool). not (nat_lt r.priority q.priority || ((q.priority == r.priority) && u))) (t.order q.sc r.sc o.0 p.0 o.1 p.1)))

-- ON A PROCESSOR OF THE SIDE'S

-- a scheduling context of such a processor is the side's, or gives its turns to none
whose : (k : KernelState) (S P C : ℕ → Type 0) → IsSound k → IsSide k S P → IsAtHome k S P C → (n ec cpu priority quantum : ℕ) → slice_get k.objects n ≡ Some (Sc ec cpu priority quantum) → C cpu →
    (P n × P ec) ⊎ (acts k.contexts (chase k.contexts ec) ≡ false)
whose k S P C sound side home n ec cpu priority quantum is c = by_object (slice_get k.objects ec) refl (at_index (Refers k.objects) k.objects n (Sc ec cpu priority quantum) sound.kept.tables.refer is)
  where
    by_object : (o : Option Object) → slice_get k.objects ec ≡ o → cpu_of o ≡ Some cpu → (P n × P ec) ⊎ (acts k.contexts (chase k.contexts ec) ≡ false)
    by_object (Some (Ec pd its kind event)) at h =
        let same : its ≡ cpu = same_Some its cpu h in
        elim (home.strangers ec pd its kind event at (subst C (sym same) c)) [
          | inl s ↦ inl (home.has.schedules n ec cpu priority quantum is (record { domain = pd; cpu = its; kind = kind; event = event; object = at; of = s }), side.members ec pd its kind event at s)
          | inr still ↦ inr (still_none k ec sound.kept.edges still.state)
        ]
    by_object (Some Pd) at h = absurd (cc)
    by_object (Some (Sc e its p q)) at h = absurd (cc)
    by_object (Some (Pt e mtd ip)) at h = absurd (cc)
    by_object (Some Sm) at h = absurd (cc)
    by_object None at h = absurd (cc)

pub no_rank : (k : KernelState) (cpu m ec its priority quantum : ℕ) → ((its ≡ cpu) → acts k.contexts (chase k.contexts ec) ≡ false) → rank_of k cpu m (Sc ec its priority quantum) ≡ None
no_rank k cpu m ec its priority quantum none = by_test (its == cpu) refl
  where
    by_acts : (t : Bool) → t ≡ false → (if t then rank_with m (chase k.contexts ec) priority (is_some (budget_at k m)) else None) ≡ None
    by_acts false h = refl
    by_acts true h = absurd (cc)

    by_test : (t : Bool) → (its == cpu) ≡ t → (if t && acts k.contexts (chase k.contexts ec) then rank_with m (chase k.contexts ec) priority (is_some (budget_at k m)) else None) ≡ None
    by_test true is = by_acts (acts k.contexts (chase k.contexts ec)) (none (eqb-true its cpu is))
    by_test false is = refl

-- one of the side's, with its execution context
record IsMine (k : KernelState) (P : ℕ → Type 0) (i : ℕ) : Type 0 where
  ec : ℕ
  its : ℕ
  priority : ℕ
  quantum : ℕ
  is : slice_get k.objects i ≡ Some (Sc ec its priority quantum)
  sc : P i
  donor : P ec

rank_mine : (k : KernelState) (S P C : ℕ → Type 0) (cpu : ℕ) → IsSound k → IsSide k S P → IsAtHome k S P C → C cpu → (i m : ℕ) → (o : Option Object) → slice_get k.objects i ≡ o →
    (option_and_then (rank_of k cpu m) o ≡ None) ⊎ IsMine k P i
rank_mine k S P C cpu sound side home c i m (Some (Sc ec its priority quantum)) is = elim (place its cpu) [
  | inl same ↦ elim (whose k S P C sound side home i ec its priority quantum is (subst C (sym same) c)) [
    | inl mine ↦ inr (record { ec = ec; its = its; priority = priority; quantum = quantum; is = is; sc = mine.0; donor = mine.1 })
    | inr none ↦ inl (no_rank k cpu m ec its priority quantum (λ s. none))
  ]
  | inr other ↦ inl (no_rank k cpu m ec its priority quantum (λ s. absurd (other s)))
]
rank_mine k S P C cpu sound side home c i m None is = inl refl
rank_mine k S P C cpu sound side home c i m (Some Pd) is = inl refl
rank_mine k S P C cpu sound side home c i m (Some (Ec pd its kind event)) is = inl refl
rank_mine k S P C cpu sound side home c i m (Some (Pt ec mtd ip)) is = inl refl
rank_mine k S P C cpu sound side home c i m (Some Sm) is = inl refl

pub some_same : (o p : Option Budget) → option_map (λ (b : Budget). b.left) o ≡ option_map (λ (b : Budget). b.left) p → is_some o ≡ is_some p
some_same None None h = refl
some_same None (Some c) h = absurd (cc)
some_same (Some b) None h = absurd (cc)
some_same (Some b) (Some c) h = refl

rank_same : (k l : KernelState) (S P C : ℕ → Type 0) → Both k l S P → AreTimed k l P C → (cpu m i : ℕ) → m ≡ i → IsMine k P i →
    option_and_then (rank_of l cpu m) (slice_get l.objects i) ≡ option_and_then (rank_of k cpu m) (slice_get k.objects i)
rank_same k l S P C b t cpu m i e mine =
    ap (option_and_then (rank_of l cpu m)) (b.alike.objects i mine.sc ∙ mine.is)
    ∙ ap (λ (n : ℕ). if (mine.its == cpu) && acts l.contexts n then rank_with m n mine.priority (is_some (budget_at l m)) else None) (chase_same k l S P b mine.ec mine.donor)
    ∙ ap₂ (λ (t u : Bool). if (mine.its == cpu) && t then rank_with m (chase k.contexts mine.ec) mine.priority u else None)
    (acts_same k l S P b (chase k.contexts mine.ec) (actor_mine k S P b.side b.first mine.ec mine.donor))
    (some_same (budget_at l m) (budget_at k m) (t.left m (subst P (sym e) mine.sc)))
    ∙ sym (ap (option_and_then (rank_of k cpu m)) mine.is)

pub ranks_same : (k l : KernelState) (S P C : ℕ → Type 0) (cpu : ℕ) → IsSound k → IsSound l → Both k l S P → IsSide l S P → IsAtHome k S P C → IsAtHome l S P C → AreTimed k l P C → C cpu →
    listed (rank_of l cpu) 0 l.objects ≡ listed (rank_of k cpu) 0 k.objects
ranks_same k l S P C cpu sound also b other home abroad t c =
    listed_same (rank_of k cpu) (rank_of l cpu) 0 k.objects l.objects (λ i m e. by_number i m (let same : m ≡ i = omega (arith, e) in same)
    (rank_mine k S P C cpu sound b.side home c i m (slice_get k.objects i) refl) (rank_mine l S P C cpu also other abroad c i m (slice_get l.objects i) refl))
  where
    by_number : (i m : ℕ) → m ≡ i → (option_and_then (rank_of k cpu m) (slice_get k.objects i) ≡ None) ⊎ IsMine k P i → (option_and_then (rank_of l cpu m) (slice_get l.objects i) ≡ None) ⊎ IsMine l P i →
        option_and_then (rank_of l cpu m) (slice_get l.objects i) ≡ option_and_then (rank_of k cpu m) (slice_get k.objects i)
    by_number i m e (inr mine) theirs = rank_same k l S P C b t cpu m i e mine
    by_number i m e (inl none) (inl nothing) = nothing ∙ sym none
    by_number i m e (inl none) (inr mine) =
        rank_same k l S P C b t cpu m i e (record {
          ec = mine.ec;
          its = mine.its;
          priority = mine.priority;
          quantum = mine.quantum;
          is = sym (b.alike.objects i mine.sc) ∙ mine.is;
          sc = mine.sc;
          donor = mine.donor;
        })

listed_all : {X Y : Type 0} (Q : Y → Type 0) (f : ℕ → X → Option Y) (n : ℕ) (xs : List X) → ((i m : ℕ) (y : Y) → m ≡ n + i → option_and_then (f m) (slice_get xs i) ≡ Some y → Q y) → AllByRecursion Q (listed f n xs)
listed_all Q f n [] all = tt
listed_all {X} {Y} Q f n (x ∷ xs) all = by_head (f n x) (all 0 n) (listed_all Q f (n + 1) xs (λ i m y e is. all (suc i) m y (omega (arith, e)) is))
  where
    by_head : (o : Option Y) → ((y : Y) → n ≡ n + 0 → o ≡ Some y → Q y) → AllByRecursion Q (listed f (n + 1) xs) → AllByRecursion Q (before_rest o (listed f (n + 1) xs))
    by_head None first rest = rest
    by_head (Some y) first rest = (first y (omega arith) refl, rest)

pub ranks_pay : (k : KernelState) (S P C : ℕ → Type 0) (cpu : ℕ) → IsSound k → IsSide k S P → IsAtHome k S P C → C cpu → AllByRecursion (IsPaying k P) (listed (rank_of k cpu) 0 k.objects)
ranks_pay k S P C cpu sound side home c =
    listed_all (IsPaying k P) (rank_of k cpu) 0 k.objects (λ i m r e is. by_mine i m r (let same : m ≡ i = omega (arith, e) in same) is (rank_mine k S P C cpu sound side home c i m (slice_get k.objects i) refl))
  where
    by_budget : (m who priority : ℕ) (r : Rank) (t : Bool) → is_some (budget_at k m) ≡ t → P m → P who → rank_with m who priority t ≡ Some r → IsPaying k P r
    by_budget m who priority r true there p q h =
        let same : m ≡ r.sc = ap (λ (r : Rank). r.sc) (same_Some _ r h) in
        let one : who ≡ r.actor = ap (λ (r : Rank). r.actor) (same_Some _ r h) in (subst P same p, subst (λ (n : ℕ). is_some (budget_at k n) ≡ true) same there, subst P one q)
    by_budget m who priority r false there p q h = absurd (cc)

    by_test : (m who priority : ℕ) (r : Rank) (t : Bool) → P m → P who → (if t then rank_with m who priority (is_some (budget_at k m)) else None) ≡ Some r → IsPaying k P r
    by_test m who priority r true p q h = by_budget m who priority r (is_some (budget_at k m)) refl p q h
    by_test m who priority r false p q h = absurd (cc)

    by_mine : (i m : ℕ) (r : Rank) → m ≡ i → option_and_then (rank_of k cpu m) (slice_get k.objects i) ≡ Some r → (option_and_then (rank_of k cpu m) (slice_get k.objects i) ≡ None) ⊎ IsMine k P i → IsPaying k P r
    by_mine i m r e is (inl none) = absurd (let both : None ≡ Some r = sym none ∙ is in cc)
    by_mine i m r e is (inr mine) =
        by_test m (chase k.contexts mine.ec) mine.priority r ((mine.its == cpu) && acts k.contexts (chase k.contexts mine.ec)) (subst P (sym e) mine.sc)
        (actor_mine k S P side sound.kept.edges mine.ec mine.donor) (sym (ap (option_and_then (rank_of k cpu m)) mine.is) ∙ is)

-- THE CHOICE

pub choice_ranked : (k : KernelState) (cpu : ℕ) → choice k cpu ≡ option_map (stamped k) (find (best_in k (listed (rank_of k cpu) 0 k.objects)) (listed (rank_of k cpu) 0 k.objects))
unfolding choice
choice_ranked k cpu = ap foremost (candidates_ranked k cpu 0 k.objects) ∙ foremost_ranked k (listed (rank_of k cpu) 0 k.objects)

-- in both states the same context is chosen, by the same scheduling context, or none in either
pub record ChosenSame (k l : KernelState) (P : ℕ → Type 0) (cpu : ℕ) : Type 0 where
  pub rank : Option Rank
  pub first : choice k cpu ≡ option_map (stamped k) rank
  pub second : choice l cpu ≡ option_map (stamped l) rank
  pub pays : (r : Rank) → rank ≡ Some r → IsPaying k P r

pub chosen_same : (k l : KernelState) (S P C : ℕ → Type 0) (cpu : ℕ) → IsSound k → IsSound l → Both k l S P → IsSide l S P → IsAtHome k S P C → IsAtHome l S P C → AreTimed k l P C → C cpu → ChosenSame k l P cpu
chosen_same k l S P C cpu sound also b other home abroad t c = record {
  rank = find (best_in k rs) rs;
  first = choice_ranked k cpu;
  second =
      choice_ranked l cpu
      ∙ ap (λ (xs : List Rank). option_map (stamped l) (find (best_in l xs) xs)) (ranks_same k l S P C cpu sound also b other home abroad t c)
      ∙ ap (option_map (stamped l)) (best_same k l P C t rs pay);
  pays = λ r is. all_at (IsPaying k P) rs r pay (found_in (best_in k rs) rs r is).0;
}
  where
    rs : List Rank
    rs = listed (rank_of k cpu) 0 k.objects

    pay : AllByRecursion (IsPaying k P) (listed (rank_of k cpu) 0 k.objects)
    pay = ranks_pay k S P C cpu sound b.side home c
