-- States that hang, by the least turns that are noted of them.
use Rattle.std.proofs.Common.{◌≡◌, ◌⊎◌, ◌∙◌, ℕ, zero, suc, ◌+◌, ◌<◌, ◌≤◌, List, length, refl, ap, sym, subst, arith, inl, inr}
use Rattle.std.specs.Prelude.{Bool, true, false, not, ◌&&◌, Option, Some, None, Contains, nat_le, nat_lt, slice_index_or}
use Rattle.std.proofs.lemmas.List.{length-map}
use Rattle.std.proofs.lemmas.List.Elements.{All-contains, Contains-get_or}
use Rattle.nova_model.specs.Runs.{after, run}
use Rattle.nova_model.specs.State.{KernelState}
use Rattle.nova_order.specs.Blocks.{IsOrder, turns as turns_of}
use Rattle.nova_order.specs.declared.block.Block.{Block}
use Rattle.nova_search.specs.Edges.{IsEdge, IsLed, edge}
use Rattle.nova_search.specs.Merged.{HasOne}
use Rattle.nova_search.specs.Searches.{AreProcessors, GoesBeyond, IsReached, IsWay, state_at, state_of, states_of}
use Rattle.nova_search.specs.declared.edges.Edge.{Edge}
use Rattle.nova_search.specs.declared.exploring.Explored.{Explored}
use Rattle.nova_search.specs.declared.found.Found.{Found}
use Rattle.nova_search.specs.declared.merging.Merging.TheVariants.{Same}
use Rattle.nova_asking.specs.Answers.{AreEqual, IsAnswer, IsFoundBy, IsNever, extent_of}
use Rattle.nova_asking.specs.Hangs.{comes_within, is_aim}
use Rattle.nova_asking.specs.Least.{AreDrawn, AreLeast, ComesAt, IsSeen, is_within, least_at, seems}
use Rattle.nova_asking.specs.Questions.{is_so, is_sought}
use Rattle.nova_asking.specs.Searched.{IsSearch, IsUnfound}
use Rattle.nova_asking.specs.declared.aim.Aim.{Aim}
use Rattle.nova_asking.specs.declared.answer.Answer.{Answer}
use Rattle.nova_asking.specs.declared.answer.Answer.TheVariants as answer
use Rattle.nova_asking.specs.declared.extent.Extent.{Extent}
use Rattle.nova_asking.specs.declared.extent.Extent.TheVariants.{Within, Cut}
use Rattle.nova_asking.specs.declared.question.Question.{Question}
use Rattle.nova_asking.specs.declared.question.Question.TheVariants as question
use Rattle.nova_asking.proofs.Coming.{none_comes, only_none}
use Rattle.nova_asking.proofs.Told.{AreKnown, GoAlong, along, beyond_where_within, covered_further, found_by, never_by, no_goal, seen_in, short_by, way_from}

not_both : (b : Bool) → b ≡ true → b ≡ false → ⊥
not_both b is not = absurd (cc)

-- more turns than a limit, or not
pub is_more : (limit turns : ℕ) (b : Bool) → b ≡ true → b ≡ nat_lt limit turns → limit < turns
is_more limit turns b so is = let less = sym is ∙ so in grind (arith, less)

pub is_most : (limit turns : ℕ) (b : Bool) → b ≡ false → b ≡ nat_lt limit turns → turns ≤ limit
is_most limit turns b so is = let more = sym is ∙ so in grind (arith, more)

-- what is noted comes
comes : (test : KernelState → Bool) (cpus turns n : ℕ) (s : KernelState) → s.cpus ≡ cpus → ComesAt test s n → n ≤ s.turns + turns → comes_within test cpus turns s ≡ true
comes test cpus turns n s same at few = by_test (comes_within test cpus turns s) refl
  where
    by_test : (b : Bool) → comes_within test cpus turns s ≡ b → comes_within test cpus turns s ≡ true
    by_test true is = is
    by_test false not =
        let way = at.way in
        let counts = way.turns in
        let number = at.number in
        let none = none_comes test cpus turns s not at.order (subst (λ (m : ℕ). AreProcessors m at.order) same way.processors) (omega (arith, counts, number, few)) in
        absurd (not_both (test (run s at.order)) (ap test (sym way.state) ∙ at.passes) none)

within_less : (o : Option ℕ) (n m : ℕ) → n ≤ m → is_within o m ≡ false → is_within o n ≡ false
within_less None n m most not = refl
within_less (Some x) n m most not = grind (arith, most, not)

module _ (test : KernelState → Bool) (k : KernelState) (reach : ℕ) (e : Explored) (drawn : AreDrawn k reach e) (over : e.is_over ≡ true) (least : List (Option ℕ))
    (are : AreLeast test (states_of e.found.items) e.edges.items 0 least) where
  abbrev states : List KernelState
  states = states_of e.found.items

  not_here : (place : ℕ) (d : KernelState) → place < length states → is_within (least_at least place) (slice_index_or states place d).turns ≡ false →
      test (slice_index_or states place d) ≡ false
  not_here place d there not = by_test (test (slice_index_or states place d)) refl
    where
      by_test : (b : Bool) → test (slice_index_or states place d) ≡ b → test (slice_index_or states place d) ≡ false
      by_test true so = absurd (not_both (is_within (least_at least place) (slice_index_or states place d).turns) (are.here place d there so) not)
      by_test false so = so

  -- an edge from a place leads to one that has no less
  behind : (place : ℕ) (d t : KernelState) (led : IsLed states e.edges.items place t) (turns : ℕ) →
      is_within (least_at least place) ((slice_index_or states place d).turns + suc turns) ≡ false →
      ((slice_index_or states led.to d).turns ≡ (slice_index_or states place d).turns + 1)
      × (is_within (least_at least led.to) ((slice_index_or states led.to d).turns + turns) ≡ false)
  behind place d t led turns not = (counts, by_test (is_within (least_at least led.to) ((slice_index_or states led.to d).turns + turns)) refl)
    where
      x : Edge
      x = edge place led.to

      at : slice_index_or e.edges.items led.there.0 x ≡ x
      at = led.there.2

      is_edge : IsEdge states x
      is_edge = subst (λ (y : Edge). IsEdge states y) at (drawn.edges.each led.there.0 x led.there.1)

      counts : (slice_index_or states led.to d).turns ≡ (slice_index_or states place d).turns + 1
      counts = (is_edge.next d).turns

      by_test : (b : Bool) → is_within (least_at least led.to) ((slice_index_or states led.to d).turns + turns) ≡ b →
          is_within (least_at least led.to) ((slice_index_or states led.to d).turns + turns) ≡ false
      by_test false is = is
      by_test true is =
          let most : (slice_index_or states led.to d).turns + turns ≡ (slice_index_or states place d).turns + suc turns = omega (arith, counts) in
          let within : is_within (least_at least led.to) ((slice_index_or states place d).turns + suc turns) ≡ true =
          subst (λ (n : ℕ). is_within (least_at least led.to) n ≡ true) most is in
          let back = are.closed led.there.0 ((slice_index_or states place d).turns + suc turns) x (omega arith) led.there.1
          (subst (λ (y : Edge). is_within (least_at least y.to) ((slice_index_or states place d).turns + suc turns) ≡ true) (sym at) within) in
          absurd (not_both (is_within (least_at least place) ((slice_index_or states place d).turns + suc turns))
          (subst (λ (y : Edge). is_within (least_at least y.from) ((slice_index_or states place d).turns + suc turns) ≡ true) at back) not)

  -- after a turn in the state at a place, where it is so of each place for fewer turns
  led_on : (turns place : ℕ) (d : KernelState) → place < length e.found.items → (slice_index_or states place d).turns + suc turns ≤ reach →
      is_within (least_at least place) ((slice_index_or states place d).turns + suc turns) ≡ false →
      ((p : ℕ) → p < length e.found.items → (slice_index_or states p d).turns + turns ≤ reach → is_within (least_at least p) ((slice_index_or states p d).turns + turns) ≡ false →
      comes_within test k.cpus turns (slice_index_or states p d) ≡ false) → (cpu : ℕ) →
      (after (slice_index_or states place d) cpu ≡ slice_index_or states place d) ⊎ IsLed states e.edges.items place (after (slice_index_or states place d) cpu) →
      comes_within test k.cpus turns (after (slice_index_or states place d) cpu) ≡ false
  led_on turns place d there few isnt fewer cpu (inl idle) =
      let s = slice_index_or states place d in
      subst (λ (t : KernelState). comes_within test k.cpus turns t ≡ false) (sym idle)
      (fewer place there (omega (arith, few)) (within_less (least_at least place) (s.turns + turns) (s.turns + suc turns) (omega arith) isnt))
  led_on turns place d there few isnt fewer cpu (inr led) =
      let next = behind place d (after (slice_index_or states place d) cpu) led turns isnt in
      let counts = next.0 in
      subst (λ (t : KernelState). comes_within test k.cpus turns t ≡ false) (led.is.is d)
      (fewer led.to (let to = led.is.there in let long = length-map e.found.items state_of in omega (arith, to, long)) (omega (arith, counts, few)) next.1)

  pub none_within : (turns place : ℕ) (d : KernelState) → place < length e.found.items → (slice_index_or states place d).turns + turns ≤ reach →
      is_within (least_at least place) ((slice_index_or states place d).turns + turns) ≡ false → comes_within test k.cpus turns (slice_index_or states place d) ≡ false
  none_within zero place d there few isnt =
      not_here place d (let long = length-map e.found.items state_of in omega (arith, there, long))
      (within_less (least_at least place) (slice_index_or states place d).turns ((slice_index_or states place d).turns + zero) (omega arith) isnt)
  none_within (suc turns) place d there few isnt =
      only_none test k.cpus turns (slice_index_or states place d)
      (not_here place d (let long = length-map e.found.items state_of in omega (arith, there, long))
      (within_less (least_at least place) (slice_index_or states place d).turns ((slice_index_or states place d).turns + suc turns) (omega arith) isnt))
      (λ cpu less. led_on turns place d there few isnt (λ p. none_within turns p d) cpu (drawn.tried over place d there (omega (arith, few)) cpu less d))

-- a state that doesn't seem to hang doesn't, and one that seems to does, as far as the search went
both : (b c : Bool) → b && c ≡ true → (b ≡ true) × (c ≡ true)
both true c is = (refl, is)
both false c is = absurd (cc)

not_not : (b : Bool) → not b ≡ true → b ≡ false
not_not true is = absurd (cc)
not_not false is = refl

doesnt_hang : (turns : ℕ) (a : Aim) (s : KernelState) (o : Option ℕ) → ((n : ℕ) → o ≡ Some n → ComesAt (is_aim a) s n) → seems turns a s o ≡ false → is_so (question.Hangs turns a) s ≡ false
unfolding is_so
doesnt_hang turns a s o come isnt = by_test (is_sought a s) refl o come isnt
  where
    by_test : (b : Bool) → is_sought a s ≡ b → (o : Option ℕ) → ((n : ℕ) → o ≡ Some n → ComesAt (is_aim a) s n) → seems turns a s o ≡ false →
        is_sought a s && not (comes_within (is_aim a) s.cpus turns s) ≡ false
    by_test false sought o come isnt = rw sought refl
    by_test true sought None come isnt = absurd (not_both (seems turns a s None) (rw sought refl) isnt)
    by_test true sought (Some n) come isnt = by_within (nat_le n (s.turns + turns)) refl
      where
        by_within : (t : Bool) → nat_le n (s.turns + turns) ≡ t → is_sought a s && not (comes_within (is_aim a) s.cpus turns s) ≡ false
        by_within false more = absurd (not_both (seems turns a s (Some n)) (rw sought (rw more refl)) isnt)
        by_within true few = rw sought (rw (comes (is_aim a) s.cpus turns n s refl (come n refl) (grind (arith, few))) refl)

does_hang : (turns : ℕ) (a : Aim) (s : KernelState) (o : Option ℕ) → (is_within o (s.turns + turns) ≡ false → comes_within (is_aim a) s.cpus turns s ≡ false) → seems turns a s o ≡ true →
    is_so (question.Hangs turns a) s ≡ true
unfolding is_so
does_hang turns a s o none is =
    let two = both (is_sought a s) (not (is_within o (s.turns + turns))) is in
    rw two.0 (rw (none (not_not (is_within o (s.turns + turns)) two.1)) refl)

module _ (turns : ℕ) (a : Aim) (k : KernelState) (limit most : ℕ) (e : Explored) (known : AreKnown)
    (search : IsSearch Same (λ (s : KernelState). false) k (limit + turns) most e) (drawn : AreDrawn k (limit + turns) e) (found : List Found) (same : found ≡ e.found.items) where
  abbrev pub q : Question
  q = question.Hangs turns a

  abbrev pub all : List KernelState
  all = states_of e.found.items

  isnt_so : (least : List (Option ℕ)) (i : ℕ) (d : KernelState) → AreLeast (is_aim a) all e.edges.items 0 least → i < length all →
      seems turns a (slice_index_or all i d) (least_at least i) ≡ false → is_so q (slice_index_or all i d) ≡ false
  isnt_so least i d are there not = doesnt_hang turns a (slice_index_or all i d) (least_at least i) (λ n noted. are.come i n d there noted) not

  is_so_at : (least : List (Option ℕ)) (i : ℕ) (d : KernelState) → AreLeast (is_aim a) all e.edges.items 0 least → e.is_over ≡ true → i < length e.found.items →
      (slice_index_or all i d).turns ≤ limit → seems turns a (slice_index_or all i d) (least_at least i) ≡ true → is_so q (slice_index_or all i d) ≡ true
  is_so_at least i d are over there few is =
      let s = slice_index_or all i d in
      let long = length-map e.found.items state_of in
      let cpus : s.cpus ≡ k.cpus = (All-contains (IsReached k) all s search.reached (Contains-get_or all i d (omega (arith, there, long)))).cpus in
      does_hang turns a s (least_at least i)
      (λ not. subst (λ (n : ℕ). comes_within (is_aim a) n turns s ≡ false) (sym cpus)
      (none_within (is_aim a) k (limit + turns) e drawn over least are turns i d there (omega (arith, few)) not)) is

  equal_by : (extent : Extent) → GoAlong Same extent k (limit + turns) all → AreEqual q extent k limit e.found.items
  equal_by extent goes order are = there_by (goes order (covered_further extent k limit (limit + turns) order (omega arith) are))
    where
      there_by : HasOne Same all (run k order) → Contains all (run k order)
      there_by has = subst (λ (s : KernelState). Contains all s) has.is has.there

  unfound_by : (x : Answer) (extent : Extent) → IsNever q k limit extent → GoAlong Same extent k (limit + turns) all → (extent ≡ Cut → most < length e.found.items) →
      (extent ≡ Within → GoesBeyond k limit) → IsUnfound q found extent x → IsAnswer q k limit most x
  unfound_by (answer.Found order _) extent never goes more beyond is = absurd is
  unfound_by (answer.Never y count absent) extent never goes more beyond (kind, many, missing) =
      never_by known Same (λ (s : KernelState). false) q k limit (limit + turns) most e found y count absent search refl same
      (subst (λ (z : Extent). IsNever q k limit z) (sym kind) never)
      (subst (λ (z : Extent). GoAlong Same z k (limit + turns) all) (sym kind) goes)
      (λ cut. more (sym kind ∙ cut)) (λ within. beyond (sym kind ∙ within)) many missing (λ of. absurd of)
      (equal_by y (subst (λ (z : Extent). GoAlong Same z k (limit + turns) all) (sym kind) goes))

  pub cut_short : (x : Answer) → e.is_over ≡ false → IsUnfound q found Cut x → IsAnswer q k limit most x
  cut_short x not is =
      unfound_by x Cut (record { each = λ order are. absurd are }) (λ order are. absurd are) (λ cut. search.more (no_goal all e.goal search.goal k) not)
      (λ within. absurd (cc)) is

  never_cut : (b : Bool) → extent_of true b ≡ Cut → ⊥
  never_cut true is = absurd (cc)
  never_cut false is = absurd (cc)

  pub none_hangs : (x : Answer) → e.is_over ≡ true → IsSeen turns a (is_aim a) e None → IsUnfound q found (extent_of true e.is_whole) x → IsAnswer q k limit most x
  none_hangs x over seen is =
      unfound_by x (extent_of true e.is_whole)
      (record { each = λ order are. after_it order (goes order are) })
      (along Same (λ (s : KernelState). false) k (limit + turns) (limit + turns) most e search (omega arith) (extent_of true e.is_whole)
      (ap (λ (b : Bool). extent_of b e.is_whole) (sym over))) (λ cut. absurd (never_cut e.is_whole cut))
      (beyond_where_within Same (λ (s : KernelState). false) k limit (limit + turns) most e search (omega arith) (extent_of true e.is_whole)
      (ap (λ (b : Bool). extent_of b e.is_whole) (sym over))) is
    where
      goes : GoAlong Same (extent_of true e.is_whole) k limit all
      goes = along Same (λ (s : KernelState). false) k limit (limit + turns) most e search (omega arith) (extent_of true e.is_whole)
          (ap (λ (b : Bool). extent_of b e.is_whole) (sym over))

      none : (s : KernelState) → Contains all s → is_so q s ≡ false
      none s there = subst (λ (t : KernelState). is_so q t ≡ false) there.2
          (isnt_so seen.least there.0 s seen.are there.1 (seen.place there.0 s there.1))

      after_it : (order : List ℕ) → HasOne Same all (run k order) → is_so q (run k order) ≡ false
      after_it order has = subst (λ (t : KernelState). is_so q t ≡ false) has.is (none has.one has.there)

  pub too_late : (x : Answer) (place : ℕ) → e.is_over ≡ true → IsSeen turns a (is_aim a) e (Some place) → ((d : KernelState) → limit < (state_at e.found.items place d).turns) →
      IsUnfound q found Within x → IsAnswer q k limit most x
  too_late x place over seen late is =
      unfound_by x Within
      (record { each = λ order are. none order are.0 are.1 })
      (λ order are. (search.within over).each order are.0 are.1)
      (λ cut. absurd (cc)) (λ within. beyond) is
    where
      r : IsReached k (state_at e.found.items place k)
      r = All-contains (IsReached k) all (state_at e.found.items place k) search.reached (Contains-get_or all place k seen.place.there)

      beyond : GoesBeyond k limit
      beyond = record {
        order = r.order;
        way = subst (λ (s : KernelState). IsWay k s r.order) r.way.state r.way;
        turns = inl (let more = late k in let turns = r.way.turns in omega (arith, more, turns));
      }

      none : (order : List ℕ) → AreProcessors k.cpus order → k.turns + length order ≤ limit → is_so q (run k order) ≡ false
      none order are few =
          let more = late k in
          let before = search.nearest.each place k seen.place.there order are (omega (arith, few, more)) in
          let there = seen.place.there in
          let less = before.before in
          subst (λ (t : KernelState). is_so q t ≡ false) (before.is k)
          (isnt_so seen.least before.its_place k seen.are (omega (arith, less, there)) (seen.place.none before.its_place k before.before))

  pub hung_found : (place states : ℕ) (blocks : List Block) → e.is_over ≡ true → IsSeen turns a (is_aim a) e (Some place) → ((d : KernelState) → (state_at e.found.items place d).turns ≤ limit) →
      states ≡ length found → IsOrder blocks → ((d : KernelState) → IsWay (state_at found 0 d) (state_at found place d) (turns_of blocks)) → IsFoundBy q k limit blocks states
  hung_found place count blocks over seen few many order ways =
      let there = seen.place.there in
      let long = length-map e.found.items state_of in
      let less : place < length e.found.items = omega (arith, there, long) in
      let way : IsWay k (state_at e.found.items place k) (turns_of blocks) = way_from k e.found.items place (turns_of blocks) search.first
      (subst (λ (l : List Found). (d : KernelState) → IsWay (state_at l 0 d) (state_at l place d) (turns_of blocks)) same ways) k in
      found_by Same q k limit e.found.items place count blocks (λ s t is. ap (λ (x : KernelState). is_so q x) is) order
      (seen_in Same (λ (s : KernelState). false) k (limit + turns) (limit + turns) most e search (omega arith) known) search.nearest (many ∙ ap length same) less way
      (short_by k (state_at e.found.items place k) limit (turns_of blocks) way (few k))
      (is_so_at seen.least place k seen.are over less (few k) (seen.place.is k))
      (λ i d before. isnt_so seen.least i d seen.are (omega (arith, before, there)) (seen.place.none i d before))
