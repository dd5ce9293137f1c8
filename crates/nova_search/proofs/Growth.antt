-- What stays where states are found behind those that were.
use Rattle.std.proofs.Common.{◌≡◌, ℕ, zero, suc, ◌+◌, ◌<◌, ◌≤◌, List, [], ◌∷◌, ◌++◌, length, refl, ap, sym, subst, ◌∙◌, append_assoc, arith, inl, inr}
use Rattle.std.specs.Prelude.{◌⊎◌, Option, Some, None, Bool, true, false, slice_index_or, Contains, All}
use Rattle.std.proofs.lemmas.List.{append-nil, get_or-map, length-append, length-map, map-append}
use Rattle.std.proofs.lemmas.List.Elements.{All-cons, All-contains, All-nil, All-push, Contains-append_left, Contains-get_or}
use Rattle.std.specs.Bool.{OnTrue}
use Rattle.std.specs.List.{AllByRecursion}
use Rattle.nova_model.specs.State.{KernelState}
use Rattle.nova_model.specs.Runs.{after}
use Rattle.nova_compare.specs.Steps.{IsNext, IsSuccessor}
use Rattle.nova_compare.proofs.Places.{place}
use Rattle.nova_search.specs.declared.found.Found.{Found}
use Rattle.nova_search.specs.declared.merging.Merging.{Merging}
use Rattle.nova_search.specs.Merged.{HasOne, IsApt, IsOne, IsOneAt}
use Rattle.nova_search.specs.Reductions.{IsStill}
use Rattle.nova_search.specs.Searches.{AreVisited, Grows, HasNear, IsExpanded, IsMore, IsReached, IsUnderWay, IsVisited, Keeps, state_at, state_of, states_of}
use Rattle.nova_search.proofs.Ways.{begun, goes_on}

pub same_grows : (xs : List KernelState) (turns : ℕ) → Grows xs xs turns
same_grows xs turns = record { more = []; whole = sym (append-nil xs); taken = tt }

pub same_keeps : (xs : List KernelState) → Keeps xs xs
same_keeps xs = record { reached = λ k each. each }

all_append : (P : KernelState → Type 0) (xs ys : List KernelState) → AllByRecursion P xs → AllByRecursion P ys → AllByRecursion P (xs ++ ys)
all_append P [] ys first second = second
all_append P (x ∷ xs) ys first second = (first.0, all_append P xs ys first.1 second)

pub grows_on : {turns : ℕ} (xs ys zs : List KernelState) → Grows xs ys turns → Grows ys zs turns → Grows xs zs turns
grows_on {turns} xs ys zs g h = record {
  more = g.more ++ h.more;
  whole = h.whole ∙ ap (λ (l : List KernelState). l ++ h.more) g.whole ∙ append_assoc xs g.more h.more;
  taken = all_append (λ (s : KernelState). s.turns ≡ turns) g.more h.more g.taken h.taken;
}

pub keeps_on : (xs ys zs : List KernelState) → Keeps xs ys → Keeps ys zs → Keeps xs zs
keeps_on xs ys zs g h = record { reached = λ k each. h.reached k (g.reached k each) }

pub still_there : {turns : ℕ} (xs ys : List KernelState) (s : KernelState) → Grows xs ys turns → Contains xs s → Contains ys s
still_there xs ys s g there = subst (λ (l : List KernelState). Contains l s) (sym g.whole) (Contains-append_left xs g.more s there)

pub still_has : {turns : ℕ} (m : Merging) (xs ys : List KernelState) (s : KernelState) → Grows xs ys turns → HasOne m xs s → HasOne m ys s
still_has m xs ys s g has = record { one = has.one; there = still_there xs ys has.one g has.there; is = has.is }

pub still_expanded : {turns : ℕ} (m : Merging) (n : ℕ) (xs ys : List KernelState) (s : KernelState) → Grows xs ys turns → IsExpanded m n xs s → IsExpanded m n ys s
still_expanded m n xs ys s g e = record {
  each = λ t apt is cpu less. still_near (after t cpu) (e.each t apt is cpu less);
}
  where
    still_near : (t : KernelState) → HasNear m xs (s.turns + 1) t → HasNear m ys (s.turns + 1) t
    still_near t near = record { has = record { one = near.has.one; there = still_there xs ys near.has.one g near.has.there; is = near.has.is }; few = near.few }

pub at_front : {T : Type 0} (xs ys : List T) (i : ℕ) (d : T) → i < length xs → slice_index_or (xs ++ ys) i d ≡ slice_index_or xs i d
at_front [] ys i d less = absurd (omega (arith, less))
at_front (x ∷ xs) ys zero d less = refl
at_front (x ∷ xs) ys (suc i) d less = at_front xs ys i d (omega (arith, less))

pub any_default : {T : Type 0} (l : List T) (i : ℕ) (d e : T) → i < length l → slice_index_or l i d ≡ slice_index_or l i e
any_default [] i d e less = absurd (omega (arith, less))
any_default (s ∷ l) zero d e less = refl
any_default (s ∷ l) (suc i) d e less = any_default l i d e (omega (arith, less))

pub still_at : {turns : ℕ} (xs ys : List KernelState) (i : ℕ) (d : KernelState) → Grows xs ys turns → i < length xs → slice_index_or ys i d ≡ slice_index_or xs i d
still_at xs ys i d g less = ap (λ (l : List KernelState). slice_index_or l i d) g.whole ∙ at_front xs g.more i d less

-- a turn of an idle processor
pub idle_visited : (m : Merging) (xs : List KernelState) (s : KernelState) (cpu : ℕ) → Contains xs s → after s cpu ≡ s →
    ((t : KernelState) → IsApt t → IsOne m s t → IsOne m (after s cpu) (after t cpu)) → IsVisited m xs xs s cpu
idle_visited m xs s cpu there idle turns = record {
  grows = same_grows xs (s.turns + 1);
  keeps = same_keeps xs;
  there = λ t apt is. record { one = s; there = there; is = subst (λ (x : KernelState). IsOne m x (after t cpu)) idle (turns t apt is) };
}

-- one that is not idle
states_more : (old : List Found) (f : Found) → states_of (old ++ f ∷ []) ≡ states_of old ++ state_of f ∷ []
states_more old f = map-append state_of old (f ∷ [])

pub grows_by : (old new : List Found) (place cpu : ℕ) (t : KernelState) (turns : ℕ) → IsMore old place cpu t new → t.turns ≡ turns → Grows (states_of old) (states_of new) turns
grows_by old new place cpu t turns (inl same) is = subst (λ (l : List Found). Grows (states_of old) (states_of l) turns) (sym same) (same_grows (states_of old) turns)
grows_by old new place cpu t turns (inr (f, by, more)) is =
    record { more = state_of f ∷ []; whole = ap states_of more ∙ states_more old f; taken = (ap (λ (s : KernelState). s.turns) by.state ∙ is, tt) }

pub keeps_by : (old new : List Found) (place cpu : ℕ) (s t : KernelState) → IsMore old place cpu t new → cpu < s.cpus → IsSuccessor s cpu t → Contains (states_of old) s →
    Keeps (states_of old) (states_of new)
keeps_by old new place cpu s t (inl same) is next there = subst (λ (l : List Found). Keeps (states_of old) (states_of l)) (sym same) (same_keeps (states_of old))
keeps_by old new place cpu s t (inr (f, by, more)) is next there = record {
  reached = λ k each. subst (λ (l : List KernelState). All (IsReached k) l) (sym (ap states_of more ∙ states_more old f))
      (All-push (IsReached k) (states_of old) (state_of f) each
      (subst (λ (x : KernelState). IsReached k x) (sym by.state) (goes_on k s t cpu (All-contains (IsReached k) (states_of old) s each there) is next)));
}

pub next_visited : (m : Merging) (old new : List Found) (place cpu to : ℕ) (s t : KernelState) → IsMore old place cpu t new → IsOneAt m (states_of new) to t → cpu < s.cpus →
    IsSuccessor s cpu t → Contains (states_of old) s → ((u v w : KernelState) → IsOne m u v → IsOne m v w → IsOne m u w) →
    ((u : KernelState) → IsApt u → IsOne m s u → IsOne m (after s cpu) (after u cpu)) → IsVisited m (states_of old) (states_of new) s cpu
next_visited m old new place cpu to s t more at is next here through turns = record {
  grows = grows_by old new place cpu t (s.turns + 1) more next.turns;
  keeps = keeps_by old new place cpu s t more is next here;
  there = λ u apt same. record {
    one = slice_index_or (states_of new) to s;
    there = Contains-get_or (states_of new) to s at.there;
    is = through (slice_index_or (states_of new) to s) t (after u cpu) (at.is s) (subst (λ (x : KernelState). IsOne m x (after u cpu)) (sym next.state) (turns u apt same));
  };
}

-- what came of a turn
pub idles_by : (s : KernelState) (cpu : ℕ) (next : Option KernelState) → IsNext s cpu next → next ≡ None → after s cpu ≡ s
idles_by s cpu next came none = subst (λ (o : Option KernelState). IsNext s cpu o) none came

pub succeeds_by : (s t : KernelState) (cpu : ℕ) (next : Option KernelState) → IsNext s cpu next → next ≡ Some t → IsSuccessor s cpu t
succeeds_by s t cpu next came some = subst (λ (o : Option KernelState). IsNext s cpu o) some came

-- turns of no processor, and of one more
pub none_visited : (m : Merging) (xs : List KernelState) (s : KernelState) → AreVisited m xs xs s 0
none_visited m xs s = record {
  grows = same_grows xs (s.turns + 1);
  keeps = same_keeps xs;
  there = λ cpu is. absurd (omega (arith, is));
}

pub visited_on : (m : Merging) (xs ys zs : List KernelState) (s : KernelState) (n : ℕ) → AreVisited m xs ys s n → IsVisited m ys zs s n → AreVisited m xs zs s (n + 1)
visited_on m xs ys zs s n a v = record {
  grows = grows_on xs ys zs a.grows v.grows;
  keeps = keeps_on xs ys zs a.keeps v.keeps;
  there = λ cpu is t apt one. there_by cpu (place cpu n is) t apt one;
}
  where
    there_by : (cpu : ℕ) → (cpu < n) ⊎ (cpu ≡ n) → (t : KernelState) → IsApt t → IsOne m s t → HasOne m zs (after t cpu)
    there_by cpu (inl less) t apt one = still_has m ys zs (after t cpu) v.grows (a.there cpu less t apt one)
    there_by cpu (inr same) t apt one = subst (λ (c : ℕ). HasOne m zs (after t c)) (sym same) (v.there t apt one)

-- the search at its beginning, and after each place
pub underway_first : (m : Merging) (k : KernelState) (limit : ℕ) (states : List KernelState) → states ≡ k ∷ [] → IsUnderWay m k limit states 0 true
underway_first m k limit states only = subst (λ (l : List KernelState). IsUnderWay m k limit l 0 true) (sym only) (record {
  opening = (0, omega arith, refl);
  reached = All-cons (IsReached k) k [] (begun k) (All-nil (IsReached k));
  expanded = λ i d less. absurd (omega (arith, less));
  whole = λ is i d less. absurd (omega (arith, less));
})

pub underway_on : (m : Merging) (k : KernelState) (limit : ℕ) (xs ys : List KernelState) (i : ℕ) (is_whole : Bool) → IsUnderWay m k limit xs i is_whole → i < length xs →
    ((d : KernelState) → AreVisited m xs ys (slice_index_or xs i d) k.cpus) → ((d s : KernelState) → Contains ys s → s.turns ≤ (slice_index_or xs i d).turns + 1) →
    IsUnderWay m k limit ys (i + 1) is_whole
underway_on m k limit xs ys i is_whole way less visited near = record {
  opening = still_there xs ys k grows way.opening;
  reached = (visited k).keeps.reached k way.reached;
  expanded = λ j d is turns. expanded_by j d (place j i is) turns;
  whole = λ whole j d is. whole_by whole j d (place j i is);
}
  where
    grows : Grows xs ys ((slice_index_or xs i k).turns + 1)
    grows = (visited k).grows

    same : (j : ℕ) (d : KernelState) → j < length xs → slice_index_or ys j d ≡ slice_index_or xs j d
    same j d is = still_at xs ys j d grows is

    now : (d : KernelState) → IsExpanded m k.cpus ys (slice_index_or xs i d)
    now d = record { each = λ t apt is cpu few. near_by (after t cpu) ((visited d).there cpu few t apt is) }
      where
        near_by : (t : KernelState) → HasOne m ys t → HasNear m ys ((slice_index_or xs i d).turns + 1) t
        near_by t has = record { has = has; few = near d has.one has.there }

    before : (j : ℕ) (d : KernelState) → j < length xs → IsExpanded m k.cpus xs (slice_index_or xs j d) → IsExpanded m k.cpus ys (slice_index_or ys j d)
    before j d is e = subst (λ (s : KernelState). IsExpanded m k.cpus ys s) (sym (same j d is)) (still_expanded m k.cpus xs ys (slice_index_or xs j d) grows e)

    here : (j : ℕ) (d : KernelState) → j ≡ i → IsExpanded m k.cpus ys (slice_index_or ys j d)
    here j d last =
        subst (λ (n : ℕ). IsExpanded m k.cpus ys (slice_index_or ys n d)) (sym last)
        (subst (λ (s : KernelState). IsExpanded m k.cpus ys s) (sym (same i d less)) (now d))

    expanded_by : (j : ℕ) (d : KernelState) → (j < i) ⊎ (j ≡ i) → (slice_index_or ys j d).turns < limit → IsExpanded m k.cpus ys (slice_index_or ys j d)
    expanded_by j d (inl old) turns =
        let is : j < length xs = omega (arith, old, less) in
        before j d is (way.expanded j d old (subst (λ (s : KernelState). s.turns < limit) (same j d is) turns))
    expanded_by j d (inr last) turns = here j d last

    whole_by : is_whole ≡ true → (j : ℕ) (d : KernelState) → (j < i) ⊎ (j ≡ i) → IsExpanded m k.cpus ys (slice_index_or ys j d)
    whole_by whole j d (inl old) = before j d (omega (arith, old, less)) (way.whole whole j d old)
    whole_by whole j d (inr last) = here j d last

-- where each turn is idle, from each state that is one with it, none leads to another
still_expands : (m : Merging) (n : ℕ) (xs : List KernelState) (s : KernelState) → Contains xs s → ((t : KernelState) → IsOne m s t → IsStill n t) → IsExpanded m n xs s
still_expands m n xs s there still = record {
  each = λ t apt is cpu less. record {
    has = record { one = s; there = there; is = subst (λ (x : KernelState). IsOne m s x) (sym (still t is cpu less)) is };
    few = omega arith;
  };
}

-- a place that is left as it is, where the search stays whole only if each turn is idle there
pub underway_left : (m : Merging) (k : KernelState) (limit : ℕ) (xs : List KernelState) (i : ℕ) (is_whole r : Bool) → IsUnderWay m k limit xs i is_whole → i < length xs →
    ((d : KernelState) → limit ≤ (slice_index_or xs i d).turns) → OnTrue r ((is_whole ≡ true) × ((d t : KernelState) → IsOne m (slice_index_or xs i d) t → IsStill k.cpus t)) →
    IsUnderWay m k limit xs (i + 1) r
underway_left m k limit xs i is_whole r way less many stays = record {
  opening = way.opening;
  reached = way.reached;
  expanded = λ j d is turns. expanded_by j d (place j i is) turns;
  whole = λ whole j d is. whole_by r stays whole j d (place j i is);
}
  where
    expanded_by : (j : ℕ) (d : KernelState) → (j < i) ⊎ (j ≡ i) → (slice_index_or xs j d).turns < limit → IsExpanded m k.cpus xs (slice_index_or xs j d)
    expanded_by j d (inl old) turns = way.expanded j d old turns
    expanded_by j d (inr last) turns =
        let few = subst (λ (n : ℕ). (slice_index_or xs n d).turns < limit) last turns in
        let more = many d in
        absurd (omega (arith, few, more))

    whole_by : (t : Bool) → OnTrue t ((is_whole ≡ true) × ((d u : KernelState) → IsOne m (slice_index_or xs i d) u → IsStill k.cpus u)) → t ≡ true →
        (j : ℕ) (d : KernelState) → (j < i) ⊎ (j ≡ i) → IsExpanded m k.cpus xs (slice_index_or xs j d)
    whole_by true stays whole j d (inl old) = way.whole stays.0 j d old
    whole_by true stays whole j d (inr last) =
        subst (λ (n : ℕ). IsExpanded m k.cpus xs (slice_index_or xs n d)) (sym last)
        (still_expands m k.cpus xs (slice_index_or xs i d) (Contains-get_or xs i d less) (stays.1 d))
    whole_by false stays whole j d is = absurd (cc)

-- the state at a place, as code reads it
pub at_place : (xs : List Found) (i : ℕ) (d : KernelState) (e : Found) → i < length xs → slice_index_or (states_of xs) i d ≡ state_of (slice_index_or xs i e)
at_place xs i d e less = get_or-map state_of xs i e d less

pub state_here : (xs : List Found) (i : ℕ) (f : Found) (d : KernelState) → i < length xs → f ≡ slice_index_or xs i f → state_at xs i d ≡ state_of f
state_here xs i f d less is = at_place xs i d f less ∙ ap state_of (sym is)

-- the state at a place, as code has it
pub holds_here : (xs : List Found) (i : ℕ) (s : KernelState) → i < length xs → ((d : KernelState) → state_at xs i d ≡ s) → Contains (states_of xs) s
holds_here xs i s less here = (i, (let long = length-map xs state_of in omega (arith, less, long)), here s)

contains_here : (xs : List Found) (i : ℕ) (d : KernelState) → i < length xs → Contains (states_of xs) (state_at xs i d)
contains_here xs i d less = Contains-get_or (states_of xs) i d (let long = length-map xs state_of in omega (arith, less, long))

pub stays_at : {turns : ℕ} (xs ys : List Found) (i : ℕ) (s : KernelState) → i < length xs → Grows (states_of xs) (states_of ys) turns → ((d : KernelState) → state_at xs i d ≡ s) →
    (d : KernelState) → state_at ys i d ≡ s
stays_at xs ys i s less grows here d = still_at (states_of xs) (states_of ys) i d grows (let long = length-map xs state_of in omega (arith, less, long)) ∙ here d

pub stays_there : {turns : ℕ} (xs ys : List Found) (i : ℕ) → i < length xs → Grows (states_of xs) (states_of ys) turns → i < length ys
stays_there xs ys i less grows =
    let long = length-map xs state_of in
    let other = length-map ys state_of in
    let whole = ap length grows.whole ∙ length-append (states_of xs) grows.more in
    omega (arith, less, long, other, whole)

-- the search at a place, as code reads it
pub states_many : (xs : List Found) (i : ℕ) → length xs ≤ i → length (states_of xs) ≤ i
states_many xs i most = let long = length-map xs state_of in omega (arith, most, long)

pub cpus_here : (m : Merging) (k : KernelState) (limit : ℕ) (xs : List Found) (i : ℕ) (w : Bool) (s : KernelState) → IsUnderWay m k limit (states_of xs) i w → i < length xs →
    ((d : KernelState) → state_at xs i d ≡ s) → s.cpus ≡ k.cpus
cpus_here m k limit xs i w s way less here = (All-contains (IsReached k) (states_of xs) s way.reached (holds_here xs i s less here)).cpus

pub underway_here : (m : Merging) (k : KernelState) (limit : ℕ) (xs ys : List Found) (i : ℕ) (w : Bool) → IsUnderWay m k limit (states_of xs) i w → i < length xs →
    ((d : KernelState) → AreVisited m (states_of xs) (states_of ys) (state_at xs i d) k.cpus) →
    ((d s : KernelState) → Contains (states_of ys) s → s.turns ≤ (state_at xs i d).turns + 1) → IsUnderWay m k limit (states_of ys) (i + 1) w
underway_here m k limit xs ys i w way less visited near =
    underway_on m k limit (states_of xs) (states_of ys) i w way (let long = length-map xs state_of in omega (arith, less, long)) visited near

pub left_here : (m : Merging) (k : KernelState) (limit : ℕ) (xs : List Found) (i : ℕ) (s : KernelState) (w r : Bool) → IsUnderWay m k limit (states_of xs) i w → i < length xs →
    limit ≤ s.turns → ((d : KernelState) → state_at xs i d ≡ s) → OnTrue r ((w ≡ true) × ((t : KernelState) → IsOne m s t → IsStill s.cpus t)) →
    IsUnderWay m k limit (states_of xs) (i + 1) r
left_here m k limit xs i s w r way less many here stays =
    underway_left m k limit (states_of xs) i w r way (let long = length-map xs state_of in omega (arith, less, long))
    (λ d. subst (λ (x : KernelState). limit ≤ x.turns) (sym (here d)) many) (by_test r stays)
  where
    by_test : (t : Bool) → OnTrue t ((w ≡ true) × ((u : KernelState) → IsOne m s u → IsStill s.cpus u)) →
        OnTrue t ((w ≡ true) × ((d u : KernelState) → IsOne m (state_at xs i d) u → IsStill k.cpus u))
    by_test true stays = (
      stays.0,
      λ d u is.
          subst (λ (n : ℕ). IsStill n u) (cpus_here m k limit xs i w s way less here) (stays.1 u (subst (λ (x : KernelState). IsOne m x u) (here d) is)),
    )
    by_test false stays = tt
