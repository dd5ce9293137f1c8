-- From states that were found to orders.
use Rattle.std.proofs.Common.{◌≡◌, ◌⊎◌, ◌∙◌, ◌+◌, ◌<◌, ◌≤◌, ℕ, zero, suc, List, [], ◌∷◌, refl, ap, sym, subst, length, arith, inl, inr}
use Rattle.std.specs.Prelude.{All, Bool, true, false, Option, Some, None, Result, Ok, Err, IfOk, IfSome, Contains, nat_lt, slice_index_or}
use Rattle.std.proofs.lemmas.List.{length-map}
use Rattle.std.proofs.lemmas.List.Elements.{All-contains, Contains-get_or}
use Rattle.nova_model.specs.Choice.{is_quiet}
use Rattle.nova_model.specs.Runs.{run}
use Rattle.nova_model.specs.State.{KernelState}
use Rattle.nova_order.specs.Blocks.{BlockList, IsOrder, turns}
use Rattle.nova_order.specs.declared.block.Block.{Block}
use Rattle.law_alike.specs.Alike.{IsAlike}
use Rattle.nova_search.specs.Merged.{HasOne, IsOne}
use Rattle.nova_search.specs.Searches.{AreAll, AreAllWithin, AreLinked, AreNearest, AreOfOwnTurns, AreProcessors, GoesBeyond, IsBefore, IsFirst, IsFirstAt, IsReached, IsWay, state_at, state_of, states_of}
use Rattle.nova_search.specs.declared.exploring.Explored.{Explored}
use Rattle.nova_search.specs.declared.found.Found.{Found}
use Rattle.nova_search.specs.declared.merging.Merging.{Merging}
use Rattle.nova_search.specs.declared.merging.Merging.TheVariants.{Alike, Same}
use Rattle.nova_compare.proofs.Places.{place}
use Rattle.nova_search.proofs.Growth.{any_default}
use Rattle.nova_asking.specs.Answers.{AreCounted, AreCounts, AreEnds, AreEqual, AreNot, AreSeen, EndsSo, IsAbsent, IsCovered, IsEndBy, IsFoundBy, IsNever, IsNeverBy, IsNeverThere, IsReachedWithin, IsShort, IsShortest, IsSometimeThere, IsWitness, extent_of, outcomes}
use Rattle.nova_asking.specs.Outcomes.{outcome}
use Rattle.nova_asking.specs.Questions.{ahead, has_context, is_so, named}
use Rattle.nova_asking.specs.Searched.{AreFew, AreFrom, BeginsIn, HaveOutcomes, IsMissing, IsPresent, IsSearch, unless_at}
use Rattle.nova_asking.specs.declared.extent.Extent.{Extent}
use Rattle.nova_asking.specs.declared.extent.Extent.TheVariants.{Within, Cut}
use Rattle.nova_asking.specs.declared.extent.Extent.TheVariants as extents
use Rattle.nova_asking.specs.declared.question.Question.{Question}
use Rattle.nova_asking.specs.declared.ends.End.{End}

-- what is known of alike states
pub record AreKnown : Type 0 where
  pub itself : (s : KernelState) → IsAlike s s
  pub contexts : (ec : ℕ) (k l : KernelState) → IsAlike k l → has_context ec k ≡ has_context ec l

-- states that are one are alike
module _ (known : AreKnown) (m : Merging) where
  one_alike : (n : Merging) (s t : KernelState) → IsOne n s t → IsAlike s t
  one_alike Same s t is = subst (λ (x : KernelState). IsAlike s x) is (known.itself s)
  one_alike Alike s t is = is

  pub has_alike : (states : List KernelState) (s : KernelState) → HasOne m states s → HasOne Alike states s
  has_alike states s has = record { one = has.one; there = has.there; is = one_alike m has.one s has.is }

  pub nearest_alike : (k : KernelState) (states : List KernelState) → AreNearest m k states → AreNearest Alike k states
  nearest_alike k states nearest = record {
    each = λ place d there order are few.
        (let before : IsBefore m states place (run k order) = nearest.each place d there order are few in
        record { its_place = before.its_place; before = before.before; is = λ e. one_alike m (slice_index_or states before.its_place e) (run k order) (before.is e) });
  }

  pub same_context : (ec : ℕ) (s t : KernelState) → IsOne m s t → has_context ec s ≡ has_context ec t
  same_context ec s t is = known.contexts ec s t (one_alike m s t is)

  pub search_alike : (test : KernelState → Bool) (k : KernelState) (limit most : ℕ) (e : Explored) → IsSearch m test k limit most e → IsSearch Alike test k limit most e
  search_alike test k limit most e search = record {
    reached = search.reached;
    nearest = nearest_alike k (states_of e.found.items) search.nearest;
    goal = search.goal;
    within = λ over. record { each = λ order are few. has_alike (states_of e.found.items) (run k order) ((search.within over).each order are few) };
    all = λ over whole. record { each = λ order are. has_alike (states_of e.found.items) (run k order) ((search.all over whole).each order are) };
    more = search.more;
    beyond = search.beyond;
    first = search.first;
    linked = search.linked;
    own = search.own;
    few = search.few;
  }

-- the state after each order of an extent is one with one of these
abbrev pub GoAlong : Merging → Extent → KernelState → ℕ → List KernelState → Type 0
GoAlong m extent k limit states = (order : List ℕ) → IsCovered extent k limit order → HasOne m states (run k order)

-- so it is for what a search found that went as far or further
pub covered : (m : Merging) (k : KernelState) (limit reach : ℕ) (states : List KernelState) (is_over is_whole : Bool) → limit ≤ reach → (is_over ≡ true → AreAllWithin m k reach states) →
    (is_over ≡ true → is_whole ≡ true → AreAll m k states) → GoAlong m (extent_of is_over is_whole) k limit states
covered m k limit reach states true true far within all order are = (all refl refl).each order are
covered m k limit reach states true false far within all order are = (within refl).each order are.0 (let few = are.1 in omega (arith, few, far))
covered m k limit reach states false is_whole far within all order are = absurd are

-- a way has no more turns than the limit leaves
pub short_by : (k s : KernelState) (limit : ℕ) (order : List ℕ) → IsWay k s order → s.turns ≤ limit → IsShort k limit order
short_by k s limit order way few = let turns = way.turns in omega (arith, turns, few)

pub short_at : (k : KernelState) (limit : ℕ) (found : List Found) (place : ℕ) (order : List ℕ) → BeginsIn k found → AreFew limit found → place < length found →
    IsWay k (state_at found place k) order → IsShort k limit order
short_at k limit found zero order first few there way =
    let turns = way.turns in
    let same = ap (λ (s : KernelState). s.turns) (first k) in
    omega (arith, turns, same)
short_at k limit found (suc place) order first few there way = short_by k (state_at found (suc place) k) limit order way (few (suc place) k (omega arith) there)

-- an order within the limit leads to each of the states
reached_within : (k : KernelState) (limit : ℕ) (found : List Found) → All (IsReached k) (states_of found) → BeginsIn k found → AreFew limit found → All (IsReachedWithin k limit) (states_of found)
reached_within k limit found reached first few = λ place d less. within place d less (reached place d less)
  where
    within : (place : ℕ) (d : KernelState) → place < length (states_of found) → IsReached k (slice_index_or (states_of found) place d) →
        IsReachedWithin k limit (slice_index_or (states_of found) place d)
    within place d less r = record {
      reached = r;
      short = short_at k limit found place r.order first few (let long = length-map found state_of in omega (arith, less, long))
          (subst (λ (s : KernelState). IsWay k s r.order) (any_default (states_of found) place d k less) r.way);
    }

-- where a search is cut, it isn't over
not_over : (is_over is_whole : Bool) → extent_of is_over is_whole ≡ Cut → is_over ≡ false
not_over true true is = absurd (cc)
not_over true false is = absurd (cc)
not_over false is_whole is = refl

-- where it is within the limit, it isn't whole
not_whole : (is_over is_whole : Bool) → extent_of is_over is_whole ≡ Within → is_whole ≡ false
not_whole true true is = absurd (cc)
not_whole true false is = refl
not_whole false is_whole is = absurd (cc)

-- runs that go on beyond a limit go on beyond a nearer one
nearer_beyond : (k : KernelState) (limit reach : ℕ) → limit ≤ reach → GoesBeyond k reach → GoesBeyond k limit
nearer_beyond k limit reach far beyond = record { order = beyond.order; way = beyond.way; turns = by_turns beyond.turns }
  where
    by_turns : (reach < k.turns + length beyond.order) ⊎ ((reach ≡ k.turns + length beyond.order) × (is_quiet (run k beyond.order) ≡ false)) →
        (limit < k.turns + length beyond.order) ⊎ ((limit ≡ k.turns + length beyond.order) × (is_quiet (run k beyond.order) ≡ false))
    by_turns (inl more) = inl (omega (arith, more, far))
    by_turns (inr (same, on)) = by_place (place limit reach (omega (arith, far)))
      where
        by_place : (limit < reach) ⊎ (limit ≡ reach) → (limit < k.turns + length beyond.order) ⊎ ((limit ≡ k.turns + length beyond.order) × (is_quiet (run k beyond.order) ≡ false))
        by_place (inl less) = inl (omega (arith, less, same))
        by_place (inr its) = inr (its ∙ same, on)

-- a search for nothing has no goal
pub no_goal : (states : List KernelState) (o : Option ℕ) → IsFirst (λ (s : KernelState). false) states o → (d : KernelState) → o ≡ None
no_goal states (Some place) is d = let so : false ≡ true = is.passes d in absurd (cc)
no_goal states None is d = refl

module _ (m : Merging) (test : KernelState → Bool) (k : KernelState) (limit reach most : ℕ) (e : Explored) (search : IsSearch m test k reach most e) (far : limit ≤ reach) where
  pub along : (extent : Extent) → extent ≡ extent_of e.is_over e.is_whole → GoAlong m extent k limit (states_of e.found.items)
  along extent is =
      subst (λ (x : Extent). GoAlong m x k limit (states_of e.found.items)) (sym is)
      (covered m k limit reach (states_of e.found.items) e.is_over e.is_whole far search.within search.all)

  pub seen_in : AreKnown → AreSeen k reach e.found.items
  seen_in known = record {
    reached = reached_within k reach e.found.items search.reached search.first search.few;
    linked = search.linked;
    own = search.own;
    nearest = nearest_alike known m k (states_of e.found.items) search.nearest;
  }

  pub more_where_cut : (extent : Extent) → e.goal ≡ None → extent ≡ extent_of e.is_over e.is_whole → extent ≡ Cut → most < length e.found.items
  more_where_cut extent none is cut = search.more none (not_over e.is_over e.is_whole (sym is ∙ cut))

  pub beyond_where_within : (extent : Extent) → extent ≡ extent_of e.is_over e.is_whole → extent ≡ Within → GoesBeyond k limit
  beyond_where_within extent is within = nearer_beyond k limit reach far (search.beyond (not_whole e.is_over e.is_whole (sym is ∙ within)))

pub ways_if : {E : Type 0} (found : List Found) (place : ℕ) (path : List ℕ) (r : Result BlockList E) → IfOk r (λ (order : BlockList). turns order.blocks ≡ path) →
    ((d : KernelState) → IsWay (state_at found 0 d) (state_at found place d) path) →
    IfOk r (λ (order : BlockList). (d : KernelState) → IsWay (state_at found 0 d) (state_at found place d) (turns order.blocks))
ways_if found place path (Ok order) same ways = λ d. subst (λ (o : List ℕ). IsWay (state_at found 0 d) (state_at found place d) o) (sym same) (ways d)
ways_if found place path (Err e) same ways = tt

-- a way from the state that was found first
pub way_from : (k : KernelState) (found : List Found) (place : ℕ) (order : List ℕ) → BeginsIn k found → ((d : KernelState) → IsWay (state_at found 0 d) (state_at found place d) order) →
    (d : KernelState) → IsWay k (state_at found place d) order
way_from k found place order first way d = subst (λ (s : KernelState). IsWay s (state_at found place d) order) (first d) (way d)

-- no order of fewer turns leads to such a state than to the first one
pub shortest : (m : Merging) (holds : KernelState → Type 0) (k : KernelState) (states : List KernelState) (place : ℕ) (order : List ℕ) →
    ((s t : KernelState) → IsOne m s t → holds t → holds s) → AreNearest m k states → place < length states → IsWay k (slice_index_or states place k) order →
    ((i : ℕ) (d : KernelState) → i < place → holds (slice_index_or states i d) → ⊥) → IsShortest holds k order
shortest m holds k states place order back nearest there way none = record { each = λ other are is. by_test other are is (nat_lt (length other) (length order)) refl }
  where
    by_test : (other : List ℕ) → AreProcessors k.cpus other → holds (run k other) → (t : Bool) → nat_lt (length other) (length order) ≡ t → length order ≤ length other
    by_test other are is true less =
        let fewer : length other < length order = grind (arith, less) in
        let turns = way.turns in
        let before = nearest.each place k there other are (omega (arith, turns, fewer)) in
        absurd (none before.its_place k before.before (back (slice_index_or states before.its_place k) (run k other) (before.is k) is))
    by_test other are is false less = grind (arith, less)

not_both : (b : Bool) → b ≡ true → b ≡ false → ⊥
not_both b is not = absurd (cc)

pub witnessed : (m : Merging) (q : Question) (k : KernelState) (limit : ℕ) (found : List Found) (place : ℕ) (order : List ℕ) →
    ((s t : KernelState) → IsOne m s t → is_so q s ≡ is_so q t) → AreNearest m k (states_of found) → place < length found → IsWay k (state_at found place k) order → IsShort k limit order →
    is_so q (state_at found place k) ≡ true → ((i : ℕ) (d : KernelState) → i < place → is_so q (state_at found i d) ≡ false) → IsWitness q k limit order
witnessed m q k limit found place order same nearest there way short is none = record {
  way = subst (λ (s : KernelState). IsWay k s order) way.state way;
  short = short;
  is = subst (λ (s : KernelState). is_so q s ≡ true) way.state is;
  shortest = shortest m (λ (s : KernelState). is_so q s ≡ true) k (states_of found) place order (λ s t one so. same s t one ∙ so) nearest
      (let long = length-map found state_of in omega (arith, there, long)) way (λ i d less so. not_both (is_so q (state_at found i d)) so (none i d less));
}

pub end_by : (k : KernelState) (limit : ℕ) (found : List Found) (place : ℕ) (order text : List ℕ) → ((s t : KernelState) → IsAlike s t → is_quiet s ≡ is_quiet t) →
    ((s t : KernelState) → IsAlike s t → outcome s ≡ outcome t) → place < length found → AreFrom k limit found →
    ((d : KernelState) → IsWay (state_at found 0 d) (state_at found place d) order) → ((d : KernelState) → is_quiet (state_at found place d) ≡ true) →
    ((d : KernelState) → text ≡ outcome (state_at found place d)) → ((i : ℕ) (d : KernelState) → i < place → EndsSo (state_at found i d) text → ⊥) → IsEndBy k limit order text
end_by k limit found place order text as_quiet as_outcome less from ways quiet same none = record {
  way = subst (λ (s : KernelState). IsWay k s order) way.state way;
  short = short_at k limit found place order from.first from.few less way;
  ends = record {
    quiet = subst (λ (s : KernelState). is_quiet s ≡ true) way.state (quiet k);
    outcome = same k ∙ ap outcome way.state;
  };
  shortest = shortest Alike (λ (s : KernelState). EndsSo s text) k (states_of found) place order
      (λ s t alike ends. record { quiet = as_quiet s t alike ∙ ends.quiet; outcome = ends.outcome ∙ sym (as_outcome s t alike) }) from.nearest
      (let long = length-map found state_of in omega (arith, less, long)) way none;
}
  where
    way : IsWay k (state_at found place k) order
    way = way_from k found place order from.first ways k

-- what a search promises, clause by clause
pub searched : (m : Merging) (test : KernelState → Bool) (k : KernelState) (limit most : ℕ) (e : Explored) → e.tells_ticks ≡ false → All (IsReached k) (states_of e.found.items) →
    AreNearest m k (states_of e.found.items) → (e.tells_ticks ≡ false → IsFirst test (states_of e.found.items) e.goal) →
    (e.is_over ≡ true → AreAllWithin m k limit (states_of e.found.items)) → (e.is_over ≡ true → e.is_whole ≡ true → AreAll m k (states_of e.found.items)) →
    (e.tells_ticks ≡ false → e.goal ≡ None → e.is_over ≡ false → most < length e.found.items) → (e.is_whole ≡ false → GoesBeyond k limit) → BeginsIn k e.found.items → AreLinked e.found.items → AreOfOwnTurns e.found.items →
    AreFew limit e.found.items → IsSearch m test k limit most e
searched m test k limit most e told reached nearest goal within all more beyond first linked own few =
    record { reached = reached; nearest = nearest; goal = goal told; within = within; all = all; more = more told; beyond = beyond; first = first; linked = linked; own = own; few = few }

-- of an execution context that a question names
sometime : (k : KernelState) (limit : ℕ) (found : List Found) (ec : ℕ) → All (IsReached k) (states_of found) → BeginsIn k found → AreFew limit found →
    IsPresent ec (states_of found) → IsSometimeThere ec k limit
sometime k limit found ec reached first few present =
    let r = All-contains (IsReached k) (states_of found) present.state reached present.there in
    record {
      order = r.order;
      way = subst (λ (s : KernelState). IsWay k s r.order) r.way.state r.way;
      short = short_at k limit found present.there.0 r.order first few (let less = present.there.1 in let long = length-map found state_of in omega (arith, less, long))
          (subst (λ (s : KernelState). IsWay k s r.order) (sym (at_place k)) r.way);
      has = subst (λ (s : KernelState). has_context ec s ≡ true) r.way.state present.has;
    }
  where
    at_place : (d : KernelState) → state_at found present.there.0 d ≡ present.state
    at_place d = any_default (states_of found) present.there.0 d present.state present.there.1 ∙ present.there.2

absent_by : (known : AreKnown) (m : Merging) (q : Question) (k : KernelState) (limit reach : ℕ) (found : List Found) (extent : Extent) (o : Option ℕ) → reach ≡ limit + ahead q →
    All (IsReached k) (states_of found) → BeginsIn k found → AreFew reach found → GoAlong m extent k reach (states_of found) → IsMissing q (states_of found) o → IsAbsent q k limit extent o
absent_by known m q k limit reach found extent (Some ec) same reached first few along (names, none) =
    (names, subst (λ (n : ℕ). IsNeverThere ec k n extent) same (record { each = λ order are. not_there order (along order are) }))
  where
    not_there : (order : List ℕ) → HasOne m (states_of found) (run k order) → has_context ec (run k order) ≡ false
    not_there order has = sym (same_context known m ec has.one (run k order) has.is) ∙ none has.one has.there
absent_by known m q k limit reach found extent None same reached first few along present =
    λ ec is. subst (λ (n : ℕ). IsSometimeThere ec k n) same (sometime k reach found ec reached first few (present ec is))

pub covered_further : (extent : Extent) (k : KernelState) (limit reach : ℕ) (order : List ℕ) → limit ≤ reach → IsCovered extent k limit order → IsCovered extent k reach order
covered_further extents.All k limit reach order far are = are
covered_further extents.Within k limit reach order far are = (are.0, (let few = are.1 in omega (arith, few, far)))
covered_further extents.Cut k limit reach order far are = absurd are

pub never_by : (known : AreKnown) (m : Merging) (test : KernelState → Bool) (q : Question) (k : KernelState) (limit reach most : ℕ) (e : Explored) (found : List Found) (extent : Extent)
    (states : ℕ) (absent : Option ℕ) → IsSearch m test k reach most e → reach ≡ limit + ahead q → found ≡ e.found.items → IsNever q k limit extent →
    GoAlong m extent k reach (states_of e.found.items) → (extent ≡ Cut → most < length e.found.items) → (extent ≡ Within → GoesBeyond k limit) → states ≡ length found →
    IsMissing q (states_of found) absent → AreNot q e.found.items → AreEqual q extent k limit e.found.items → IsNeverBy q k limit most extent states absent
never_by known m test q k limit reach most e found extent states absent search far same never along more beyond many missing none equal = record {
  never = never;
  count = record {
    found = e.found.items;
    seen = subst (λ (n : ℕ). AreSeen k n e.found.items) far (seen_in m test k limit reach most e search (omega (arith, far)) known);
    there = λ order are. has_alike known m (states_of e.found.items) (run k order) (along order (covered_further extent k limit reach order (omega (arith, far)) are));
    number = sym (many ∙ ap length same);
    more = λ cut. subst (λ (n : ℕ). most < n) (sym (many ∙ ap length same)) (more cut);
    beyond = beyond;
  };
  none = none;
  equal = equal;
  absent = absent_by known m q k limit reach e.found.items extent absent far search.reached search.first search.few along
      (subst (λ (l : List Found). IsMissing q (states_of l) absent) same missing);
}

pub none_named : (q : Question) (states : List KernelState) (o : Option ℕ) → o ≡ named q → o ≡ None → IsMissing q states None
none_named q states o is none = λ ec names. let no : named q ≡ None = sym is ∙ none in absurd (cc)

present_at : (q : Question) (ec : ℕ) (states : List KernelState) (place : ℕ) → named q ≡ Some ec → IsFirstAt (has_context ec) states place → IsMissing q states None
present_at q ec [] place is first = let there = first.there in absurd (omega (arith, there))
present_at q ec (s ∷ states) place is first = λ n names.
    let same : ec ≡ n = some_same ec n (sym is ∙ names) in
    subst (λ (m : ℕ). IsPresent m (s ∷ states)) same
    (record { state = slice_index_or (s ∷ states) place s; there = Contains-get_or (s ∷ states) place s first.there; has = first.passes s })
  where
    some_same : (a b : ℕ) → Some a ≡ Some b → a ≡ b
    some_same a b e = cc

pub missing_by : (q : Question) (ec : ℕ) (states : List KernelState) (o : Option ℕ) → named q ≡ Some ec → IsFirst (has_context ec) states o → IsMissing q states (unless_at o ec)
missing_by q ec states (Some place) is first = present_at q ec states place is first
missing_by q ec states None is none = (is, none)

-- the state at the end of a way from the first
found_there : (k : KernelState) (found : List Found) (place : ℕ) (order : List ℕ) → place < length found → IsWay k (state_at found place k) order → Contains (states_of found) (run k order)
found_there k found place order less way =
    subst (λ (s : KernelState). Contains (states_of found) s) way.state
    (Contains-get_or (states_of found) place k (let long = length-map found state_of in omega (arith, less, long)))

pub found_by : (m : Merging) (q : Question) (k : KernelState) (limit : ℕ) (found : List Found) (place states : ℕ) (blocks : List Block) →
    ((s t : KernelState) → IsOne m s t → is_so q s ≡ is_so q t) → IsOrder blocks → AreSeen k (limit + ahead q) found → AreNearest m k (states_of found) → states ≡ length found →
    place < length found → IsWay k (state_at found place k) (turns blocks) → IsShort k limit (turns blocks) → is_so q (state_at found place k) ≡ true →
    ((i : ℕ) (d : KernelState) → i < place → is_so q (state_at found i d) ≡ false) → IsFoundBy q k limit blocks states
found_by m q k limit found place states blocks same order seen nearest many there way short is none = record {
  order = order;
  leads = witnessed m q k limit found place (turns blocks) same nearest there way short is none;
  found = record { found = found; seen = seen; there = found_there k found place (turns blocks) there way; number = sym many };
}

-- where the place of what is looked for is
pub goal_there : (test : KernelState → Bool) (found : List Found) (o : Option ℕ) → IsFirst test (states_of found) o → IfSome o (λ (place : ℕ). place < length found)
goal_there test found (Some place) is = let there = is.there in let long = length-map found state_of in omega (arith, there, long)
goal_there test found None is = tt

-- and of each end
pub counts : (known : AreKnown) (test : KernelState → Bool) (k : KernelState) (limit most : ℕ) (e : Explored) (found : List Found) (extent : Extent) (ends : List End) →
    IsSearch Alike test k limit most e → found ≡ e.found.items → GoAlong Alike extent k limit (states_of e.found.items) → (extent ≡ Cut → most < length e.found.items) →
    (extent ≡ Within → GoesBeyond k limit) → AreCounted (states_of found) ends → HaveOutcomes (states_of found) (outcomes ends) → AreCounts k limit most extent (length found) ends
counts known test k limit most e found extent ends search same along more beyond are have = record {
  all = record {
    found = e.found.items;
    seen = seen_in Alike test k limit limit most e search (omega arith) known;
    there = along;
    number = ap length (sym same);
    more = λ cut. subst (λ (l : List Found). most < length l) (sym same) (more cut);
    beyond = beyond;
  };
  each = subst (λ (l : List Found). AreCounted (states_of l) ends) same are;
  listed = (subst (λ (l : List Found). HaveOutcomes (states_of l) (outcomes ends)) same have).each;
}

pub told_ends : (test : KernelState → Bool) (k : KernelState) (limit most : ℕ) (e : Explored) (found : List Found) (texts : List (List ℕ)) (extent : Extent) →
    ((s t : KernelState) → IsAlike s t → is_quiet s ≡ is_quiet t) → ((s t : KernelState) → IsAlike s t → outcome s ≡ outcome t) → IsSearch Alike test k limit most e →
    found ≡ e.found.items → HaveOutcomes (states_of found) texts → extent ≡ extent_of e.is_over e.is_whole → AreEnds k limit extent texts
told_ends test k limit most e found texts extent as_quiet as_outcome search same have is = record {
  each = λ order are quiet. ended order (along Alike test k limit limit most e search (omega arith) extent is order are) quiet;
}
  where
    ended : (order : List ℕ) → HasOne Alike (states_of e.found.items) (run k order) → is_quiet (run k order) ≡ true → Contains texts (outcome (run k order))
    ended order has quiet =
        subst (λ (t : List ℕ). Contains texts t) (as_outcome has.one (run k order) has.is)
        ((subst (λ (l : List Found). HaveOutcomes (states_of l) texts) same have).each has.one has.there (as_quiet has.one (run k order) has.is ∙ quiet))
