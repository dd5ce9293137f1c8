-- A search on its way, and its end.
use Rattle.std.proofs.Common.{◌≡◌, ◌⊎◌, ℕ, ◌+◌, ◌<◌, ◌≤◌, List, [], ◌∷◌, length, refl, ap, sym, subst, ◌∙◌, arith, inl, inr}
use Rattle.std.specs.Prelude.{Bool, true, false, Contains, None, nat_le, nat_lt, slice_index_or}
use Rattle.std.specs.Bool.{OnTrue}
use Rattle.std.proofs.lemmas.List.{length-map}
use Rattle.std.proofs.lemmas.List.Elements.{All-contains}
use Rattle.nova_model.specs.Choice.{is_quiet}
use Rattle.nova_model.specs.State.{KernelState}
use Rattle.nova_compare.proofs.Places.{place}
use Rattle.nova_model.specs.Runs.{after, run}
use Rattle.nova_search.specs.declared.edges.Edge.{Edge}
use Rattle.nova_search.specs.declared.exploring.Course.{Course}
use Rattle.nova_search.specs.declared.exploring.Passage.{Passage}
use Rattle.nova_search.specs.declared.exploring.Passage.TheVariants.{Met, Passed, Ticks}
use Rattle.nova_search.specs.declared.found.Found.{Found}
use Rattle.nova_search.specs.declared.merging.Merging.{Merging}
use Rattle.nova_search.specs.declared.merging.Merging.TheVariants.{Alike, Same}
use Rattle.nova_search.specs.Edges.{AreAhead, AreTried, AreTurnsDrawn, AreUpTo, IsEdge}
use Rattle.nova_search.specs.Going.{AreDrawn, IsEnded, IsGoing, IsSeen}
use Rattle.nova_search.specs.Merged.{IsApt, IsOne}
use Rattle.nova_search.specs.Reductions.{IsStill}
use Rattle.nova_search.specs.Searches.{AreLinked, AreOfTurnsBefore, AreVisited, GoesBeyond, IsFirst, IsFirstAt, IsReached, IsWay, state_at, state_of, states_of}
use Rattle.nova_search.proofs.Closed.{all_led, all_within}
use Rattle.nova_search.proofs.Drawn.{all_tried_on}
use Rattle.nova_search.proofs.Growth.{cpus_here, holds_here, left_here, states_many, still_at, underway_first, underway_here}
use Rattle.nova_search.proofs.Nearest.{by_turns_first, by_turns_left, by_turns_on, most_of, nearest}
use Rattle.nova_search.proofs.Own.{own_first, own_next}

pub going_first : (m : Merging) (test : KernelState → Bool) (k : KernelState) (limit : ℕ) (found : List Found) (edges : List Edge) → states_of found ≡ k ∷ [] → edges ≡ [] →
    IsGoing m test k limit found edges 0 true
going_first m test k limit found edges only none = record {
  way = underway_first m k limit (states_of found) only;
  by_turns = by_turns_first k limit (states_of found) only;
  first = λ d. ap (λ (l : List KernelState). slice_index_or l 0 d) only;
  linked = record { each = λ i d first less. absurd (omega (arith, one, first, less)) };
  turns = own_first found k only;
  none = λ i d less. absurd (omega (arith, less));
  beyond = λ not. absurd (cc);
  drawn = λ _. record {
    are = record { each = λ i d less. absurd (omega (arith, less, no_edges)); rising = λ i j d ordered less. absurd (omega (arith, less, no_edges)) };
    below = λ i d less. absurd (omega (arith, less, no_edges));
    tried = λ i d less. absurd (omega (arith, less));
  };
}
  where
    no_edges : length edges ≡ 0
    no_edges = ap length none

    one : length found ≡ 1
    one = sym (length-map found state_of) ∙ ap length only

-- the state at a place is expanded
module _ (m : Merging) (test : KernelState → Bool) (k : KernelState) (limit : ℕ) (xs ys : List Found) (es fs : List Edge) (i : ℕ) (w : Bool) (s : KernelState)
    (going : IsGoing m test k limit xs es i w) (less : i < length xs) (here : (d : KernelState) → state_at xs i d ≡ s) (not : test s ≡ false) (few : s.turns < limit)
    (visited : AreVisited m (states_of xs) (states_of ys) s s.cpus) (linked : AreLinked ys)
    (own : AreOfTurnsBefore ys i s.cpus) (drawn : m ≡ Same → AreTurnsDrawn (states_of xs) es (states_of ys) fs i s.cpus) where
  cpus : s.cpus ≡ k.cpus
  cpus = cpus_here m k limit xs i w s going.way less here

  there : i < length (states_of xs)
  there = let long = length-map xs state_of in omega (arith, less, long)

  visited_at : (d : KernelState) → AreVisited m (states_of xs) (states_of ys) (state_at xs i d) k.cpus
  visited_at d =
      subst (λ (x : KernelState). AreVisited m (states_of xs) (states_of ys) x k.cpus) (sym (here d))
      (subst (λ (n : ℕ). AreVisited m (states_of xs) (states_of ys) s n) cpus visited)

  few_at : (d : KernelState) → (state_at xs i d).turns < limit
  few_at d = subst (λ (x : KernelState). x.turns < limit) (sym (here d)) few

  same : (j : ℕ) (d : KernelState) → j < length xs → state_at ys j d ≡ state_at xs j d
  same j d is = still_at (states_of xs) (states_of ys) j d visited.grows (let long = length-map xs state_of in omega (arith, is, long))

  module _ (before : AreDrawn k limit xs es i) (turns : AreTurnsDrawn (states_of xs) es (states_of ys) fs i s.cpus) where
    up_to : AreUpTo (states_of ys) fs i
    up_to = turns.edges (record { are = before.are; most = λ j d is. let below = before.below j d is in omega (arith, below) })

    tried_at : (j : ℕ) (d : KernelState) → (j < i) ⊎ (j ≡ i) → (state_at ys j d).turns < limit → AreTried k.cpus (states_of ys) fs j
    tried_at j d (inl old) short =
        all_tried_on (states_of xs) (states_of ys) (s.turns + 1) es fs j k.cpus visited.grows turns.extends (omega (arith, old, there))
        (before.tried j d old (subst (λ (x : KernelState). x.turns < limit) (same j d (omega (arith, old, less))) short))
    tried_at j d (inr last) short = subst (λ (n : ℕ). AreTried k.cpus (states_of ys) fs n) (sym last) (subst (λ (n : ℕ). AreTried n (states_of ys) fs i) cpus turns.tried)

    drawn_to : AreDrawn k limit ys fs (i + 1)
    drawn_to = record {
      are = up_to.are;
      below = λ j d is. let most = up_to.most j d is in omega (arith, most);
      tried = λ j d is short. tried_at j d (place j i is) short;
    }

  none_at : (j : ℕ) (d : KernelState) → (j < i) ⊎ (j ≡ i) → test (state_at ys j d) ≡ false
  none_at j d (inl old) = ap test (same j d (omega (arith, old, less))) ∙ going.none j d old
  none_at j d (inr last) = subst (λ (n : ℕ). test (state_at ys n d) ≡ false) (sym last) (ap test (same i d less ∙ here d) ∙ not)

  pub going_on : IsGoing m test k limit ys fs (i + 1) w
  going_on = record {
    way = underway_here m k limit xs ys i w going.way less visited_at (most_of limit (states_of xs) (states_of ys) i going.by_turns there (λ d. (visited_at d).grows));
    by_turns = by_turns_on limit (states_of xs) (states_of ys) i going.by_turns there (λ d. (visited_at d).grows) few_at;
    first = λ d. still_at (states_of xs) (states_of ys) 0 d visited.grows (omega (arith, there)) ∙ going.first d;
    linked = linked;
    turns = own_next ys i s.cpus own;
    none = λ j d is. none_at j d (place j i is);
    drawn = λ is. drawn_to (going.drawn is) (drawn is);
    beyond = going.beyond;
  }

pub none_so_far : (test : KernelState → Bool) (xs : List KernelState) (i : ℕ) → ((j : ℕ) (d : KernelState) → j < i → test (slice_index_or xs j d) ≡ false) →
    ((d : KernelState) → test (slice_index_or xs i d) ≡ false) → (j : ℕ) (d : KernelState) → j < i + 1 → test (slice_index_or xs j d) ≡ false
none_so_far test xs i none not j d less = by_place (place j i less)
  where
    by_place : (j < i) ⊎ (j ≡ i) → test (slice_index_or xs j d) ≡ false
    by_place (inl old) = none j d old
    by_place (inr last) = subst (λ (n : ℕ). test (slice_index_or xs n d) ≡ false) (sym last) (not d)

-- some processor has a turn to take in a state that has taken as many turns as the limit allows, or more
goes_beyond : (k : KernelState) (limit : ℕ) (s : KernelState) → IsReached k s → limit ≤ s.turns → is_quiet s ≡ false → GoesBeyond k limit
goes_beyond k limit s r many not = record {
  order = r.order;
  way = subst (λ (x : KernelState). IsWay k x r.order) r.way.state r.way;
  turns = by_place (place limit (k.turns + length r.order) (let turns = r.way.turns in omega (arith, turns, many)));
}
  where
    by_place : (limit < k.turns + length r.order) ⊎ (limit ≡ k.turns + length r.order) →
        (limit < k.turns + length r.order) ⊎ ((limit ≡ k.turns + length r.order) × (is_quiet (run k r.order) ≡ false))
    by_place (inl more) = inl more
    by_place (inr same) = inr (same, subst (λ (x : KernelState). is_quiet x ≡ false) r.way.state not)

-- the state at a place is left as it is
pub going_left : (m : Merging) (test : KernelState → Bool) (k : KernelState) (limit : ℕ) (xs : List Found) (es : List Edge) (i : ℕ) (s : KernelState) (w r : Bool) →
    IsGoing m test k limit xs es i w → i < length xs → ((d : KernelState) → state_at xs i d ≡ s) → test s ≡ false → limit ≤ s.turns → (w ≡ true → r ≡ is_quiet s) →
    OnTrue r ((w ≡ true) × ((t : KernelState) → IsOne m s t → IsStill s.cpus t)) → IsGoing m test k limit xs es (i + 1) r
going_left m test k limit xs es i s w r going less here not many quiet stays = record {
  way = left_here m k limit xs i s w r going.way less many here stays;
  by_turns = by_turns_left limit (states_of xs) i going.by_turns;
  first = going.first;
  linked = going.linked;
  turns = own_next xs i 0 going.turns;
  none = none_so_far test (states_of xs) i going.none (λ d. ap test (here d) ∙ not);
  drawn = λ is. drawn_to (going.drawn is);
  beyond = beyond_by w refl;
}
  where
    beyond_by : (t : Bool) → w ≡ t → r ≡ false → GoesBeyond k limit
    beyond_by true whole cut = goes_beyond k limit s (All-contains (IsReached k) (states_of xs) s going.way.reached (holds_here xs i s less here)) many (sym (quiet whole) ∙ cut)
    beyond_by false whole cut = going.beyond whole

    tried_at : AreDrawn k limit xs es i → (j : ℕ) (d : KernelState) → (j < i) ⊎ (j ≡ i) → (state_at xs j d).turns < limit → AreTried k.cpus (states_of xs) es j
    tried_at before j d (inl old) short = before.tried j d old short
    tried_at before j d (inr last) short =
        let few = subst (λ (n : ℕ). (state_at xs n d).turns < limit) last short in
        let most = subst (λ (x : KernelState). limit ≤ x.turns) (sym (here d)) many in
        absurd (omega (arith, few, most))

    drawn_to : AreDrawn k limit xs es i → AreDrawn k limit xs es (i + 1)
    drawn_to before = record {
      are = before.are;
      below = λ j d is. let below = before.below j d is in omega (arith, below);
      tried = λ j d is short. tried_at before j d (place j i is) short;
    }

pub first_so : (test : KernelState → Bool) (xs : List Found) (i : ℕ) → i < length xs → ((d : KernelState) → test (state_at xs i d) ≡ true) →
    ((j : ℕ) (d : KernelState) → j < i → test (state_at xs j d) ≡ false) → IsFirstAt test (states_of xs) i
first_so test xs i less passes none = record { there = (let long = length-map xs state_of in omega (arith, less, long)); passes = passes; none = none }

pub none_so : (test : KernelState → Bool) (xs : List KernelState) (i : ℕ) → length xs ≤ i → ((j : ℕ) (d : KernelState) → j < i → test (slice_index_or xs j d) ≡ false) →
    (s : KernelState) → Contains xs s → test s ≡ false
none_so test xs i most none s there = ap test (sym there.2) ∙ none there.0 s (let is = there.1 in omega (arith, is, most))

-- what came of going through the state at a place
module _ (m : Merging) (test : KernelState → Bool) (k : KernelState) (limit : ℕ) (xs : List Found) (es : List Edge) (i : ℕ) (w : Bool) (p : Passage) (seen : IsSeen m test k limit xs es i w p) where
  pub seen_on : (stays : Bool) → p ≡ Passed stays → IsGoing m test k limit xs es (i + 1) stays
  seen_on stays is = subst (λ (x : Passage). IsSeen m test k limit xs es i w x) is seen

  pub seen_ticks : p ≡ Ticks → IsGoing m test k limit xs es i w × (m ≡ Alike)
  seen_ticks is = subst (λ (x : Passage). IsSeen m test k limit xs es i w x) is seen

  pub seen_goal : p ≡ Met → IsGoing m test k limit xs es i w × ((d : KernelState) → test (state_at xs i d) ≡ true) × (i < length xs)
  seen_goal is = subst (λ (x : Passage). IsSeen m test k limit xs es i w x) is seen

-- a turn leads to a later place
going_ahead : (m : Merging) (test : KernelState → Bool) (k : KernelState) (limit : ℕ) (xs : List Found) (es : List Edge) (i : ℕ) (w : Bool) → IsGoing m test k limit xs es i w →
    AreDrawn k limit xs es i → AreAhead es
going_ahead m test k limit xs es i w going drawn = record { each = λ j d less. by_test (slice_index_or es j d) (drawn.are.each j d less) (nat_lt (slice_index_or es j d).from (slice_index_or es j d).to) refl }
  where
    by_test : (e : Edge) → IsEdge (states_of xs) e → (t : Bool) → nat_lt e.from e.to ≡ t → e.from < e.to
    by_test e is true less = grind (arith, less)
    by_test e is false not =
        let back : e.to ≤ e.from = grind (arith, not) in
        let rising = going.by_turns.rising e.to e.from k back is.from in
        let one = (is.next k).turns in
        absurd (omega (arith, rising, one))

-- A search ends at a place: it is over only where no more states were found than places were gone through.
module _ (m : Merging) (test : KernelState → Bool) (k : KernelState) (limit most : ℕ) (xs : List Found) (es : List Edge) (i : ℕ) (w : Bool) (going : IsGoing m test k limit xs es i w)
    (goes_on : (s : KernelState) (cpu : ℕ) → IsApt s → IsApt (after s cpu)) (one : IsOne m k k) (apt : IsApt k) where
  pub ended_by : (course : Course) → (course.tells_ticks ≡ false → IsFirst test (states_of xs) course.goal) → (course.is_over ≡ true → length xs ≤ i) → course.is_whole ≡ w →
      (course.tells_ticks ≡ false → course.goal ≡ None → course.is_over ≡ false → most < length xs) → (m ≡ Same → course.tells_ticks ≡ false) → IsEnded m test k limit most xs es course
  ended_by course first over whole more same = record {
    reached = going.way.reached;
    nearest = nearest m goes_on k limit (states_of xs) i w going.way going.by_turns going.first one apt;
    goal = first;
    within = λ is. all_within m goes_on k limit (states_of xs) i w going.way one apt (states_many xs i (over is));
    all = λ is all. all_led m goes_on k limit (states_of xs) i w going.way one apt (states_many xs i (over is)) (sym whole ∙ all);
    beyond = λ not. going.beyond (sym whole ∙ not);
    more = more;
    same = same;
    first = going.first;
    linked = going.linked;
    own = going.turns.own;
    few = λ place d some less. going.by_turns.few place d some (let long = length-map xs state_of in omega (arith, less, long));
    are = λ is. (going.drawn is).are;
    ahead = λ is. going_ahead m test k limit xs es i w going (going.drawn is);
    tried = λ is all place d less short. (going.drawn is).tried place d (let many = over all in omega (arith, less, many)) short;
  }

pub few_so : (n most : ℕ) → nat_le n most ≡ true → n ≤ most
few_so n most is = grind (arith, is)

pub many_so : (n most : ℕ) → nat_le n most ≡ false → most < n
many_so n most is = grind (arith, is)

-- a search stays whole at a state in which the kernel is quiet
pub whole_if : (m : Merging) (w r : Bool) (s : KernelState) → w ≡ true → r ≡ is_quiet s → ((t : KernelState) → IsOne m s t → is_quiet s ≡ true → IsStill s.cpus t) →
    OnTrue r ((w ≡ true) × ((t : KernelState) → IsOne m s t → IsStill s.cpus t))
whole_if m w true s whole is still = (whole, λ t one. still t one (sym is))
whole_if m w false s whole is still = tt

-- turns may part alike states alone
pub alike_if : (m : Merging) (r : Bool) → (m ≡ Same → r ≡ false) → r ≡ true → m ≡ Alike
alike_if Same r same so = absurd (let not = same refl in cc)
alike_if Alike r same so = refl
