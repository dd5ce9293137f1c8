-- Clocks, alarms, quanta and stamps after a turn on a processor of the side's.
use Rattle.std.proofs.Common.{◌≡◌, ◌⊎◌, ℕ, ◌+◌, ◌-◌, ◌<◌, ◌==◌, List, [], ◌∷◌, ◌++◌, length, refl, sym, ap, ap₂, ◌∙◌, subst, inl, inr, arith}
use Rattle.std.specs.Prelude.{Bool, true, false, ◌≢◌, nat_lt, IfSome, IsSome, slice_get, slice_set, option_map, Option, Some, None, if◌then◌else◌}
use Rattle.std.proofs.lemmas.Bool.{eqb-true}
use Rattle.std.proofs.lemmas.Option.{same_Some}
use Rattle.nova_objects.specs.declared.object.Object.{Object}
use Rattle.nova_model.specs.Creation.{budget_of, stamp_past}
use Rattle.nova_model.specs.State.{KernelState, budget_at, entry}
use Rattle.nova_model.specs.Times.{clock}
use Rattle.nova_model.specs.Turn.{budget_after, is_spent, quantum_in}
use Rattle.nova_model.specs.declared.budget.Budget.{Budget}
use Rattle.nova_model.specs.declared.deed.Deed.{Deed}
use Rattle.nova_model.specs.declared.new_object.NewObject.{NewObject}
use Rattle.nova_model.specs.declared.new_object.NewObject.TheVariants as new
use Rattle.law_forest.specs.Effects.{joined, made_by, stamp_with}
use Rattle.law_forest.specs.Turns.{budgets_paid, turned}
use Rattle.law_turns.specs.Budgets.{left_in, next_left, stamp_in}
use Rattle.law_turns.proofs.Budgets.{left_after, less_false, less_true, not_less}
use Rattle.law_turns.proofs.Links.{place}
use Rattle.law_turns.proofs.Setting.{entry_below, entry_itself, entry_other, get_last, joined_other, more_at}
use Rattle.law_flow.specs.Processors.{AreTimed, left_at}
use Rattle.law_flow.proofs.Doing.{by_deed}
use Rattle.law_flow.proofs.Tables.{set_same}
use Rattle.law_flow.proofs.Timing.{clock_same}
use Rattle.law_flow.proofs.Choosing.{some_same}
use Rattle.nova_model.specs.declared.times.AlarmState.{AlarmState}

-- A BUDGET THAT IS CHARGED

abbrev budget_in : List (Option Budget) → ℕ → Option Budget
budget_in bs n = entry (slice_get bs n)

abbrev paid_in : List (Option Budget) → ℕ → ℕ → ℕ → List (Option Budget)
paid_in bs sc quantum stamp = budgets_paid bs sc quantum stamp (entry (slice_get bs sc))

paid_one : (bs : List (Option Budget)) (sc quantum stamp : ℕ) (b : Budget) → budget_in bs sc ≡ Some b → budget_in (paid_in bs sc quantum stamp) sc ≡ Some (budget_after (is_spent b) quantum stamp b)
paid_one bs sc quantum stamp b is =
    ap (λ (o : Option Budget). budget_in (budgets_paid bs sc quantum stamp o) sc) is
    ∙ entry_itself bs sc (budget_after (is_spent b) quantum stamp b) (subst IsSome (sym is) refl)

paid_none : (bs : List (Option Budget)) (sc quantum stamp : ℕ) → budget_in bs sc ≡ None → budget_in (paid_in bs sc quantum stamp) sc ≡ None
paid_none bs sc quantum stamp is = ap (λ (o : Option Budget). budget_in (budgets_paid bs sc quantum stamp o) sc) is ∙ is

paid_others : (bs : List (Option Budget)) (sc quantum stamp n : ℕ) → n ≢ sc → budget_in (paid_in bs sc quantum stamp) n ≡ budget_in bs n
paid_others bs sc quantum stamp n other = by_entry (entry (slice_get bs sc))
  where
    by_entry : (o : Option Budget) → budget_in (budgets_paid bs sc quantum stamp o) n ≡ budget_in bs n
    by_entry None = refl
    by_entry (Some b) = entry_other bs sc n (budget_after (is_spent b) quantum stamp b) other

-- WHAT IS LEFT

paid_left : (bs cs : List (Option Budget)) (sc quantum stamp other n : ℕ) → left_in (budget_in cs sc) ≡ left_in (budget_in bs sc) → left_in (budget_in cs n) ≡ left_in (budget_in bs n) →
    left_in (budget_in (paid_in cs sc quantum other) n) ≡ left_in (budget_in (paid_in bs sc quantum stamp) n)
paid_left bs cs sc quantum stamp other n here there = elim (place n sc) [
  | inl is ↦
      ap (λ (m : ℕ). left_in (budget_in (paid_in cs sc quantum other) m)) is ∙ by_entries (budget_in bs sc) refl (budget_in cs sc) refl here
      ∙ sym (ap (λ (m : ℕ). left_in (budget_in (paid_in bs sc quantum stamp) m)) is)
  | inr differs ↦ ap left_in (paid_others cs sc quantum other n differs) ∙ there ∙ sym (ap left_in (paid_others bs sc quantum stamp n differs))
]
  where
    by_entries : (o : Option Budget) → budget_in bs sc ≡ o → (p : Option Budget) → budget_in cs sc ≡ p → left_in p ≡ left_in o →
        left_in (budget_in (paid_in cs sc quantum other) sc) ≡ left_in (budget_in (paid_in bs sc quantum stamp) sc)
    by_entries None is None also h = ap left_in (paid_none cs sc quantum other also) ∙ sym (ap left_in (paid_none bs sc quantum stamp is))
    by_entries None is (Some c) also h = absurd (cc)
    by_entries (Some b) is None also h = absurd (cc)
    by_entries (Some b) is (Some c) also h =
        let same : c.left ≡ b.left = same_Some c.left b.left h in
        ap left_in (paid_one cs sc quantum other c also) ∙ ap (λ (l : ℕ). Some l) (left_after quantum other c ∙ ap (next_left quantum) same ∙ sym (left_after quantum stamp b))
        ∙ sym (ap left_in (paid_one bs sc quantum stamp b is))

-- STAMPS

stamp_after_one : (quantum stamp : ℕ) (b : Budget) → (budget_after (is_spent b) quantum stamp b).stamp ≡ (if b.left - 1 == 0 then stamp else b.stamp)
stamp_after_one quantum stamp b = by_test (b.left - 1 == 0)
  where
    by_test : (t : Bool) → (budget_after t quantum stamp b).stamp ≡ (if t then stamp else b.stamp)
    by_test true = refl
    by_test false = refl

-- the stamp of each after the charge: the one that pays has the next where its quantum is spent
charged_stamp : (bs : List (Option Budget)) (sc quantum stamp n : ℕ) (b : Budget) → budget_in bs sc ≡ Some b → stamp_in (budget_in (paid_in bs sc quantum stamp) n) ≡ (if n == sc then (if b.left - 1 == 0 then stamp else b.stamp) else stamp_in (budget_in bs n))
charged_stamp bs sc quantum stamp n b is = by_test (n == sc) refl
  where
    by_test : (t : Bool) → (n == sc) ≡ t → stamp_in (budget_in (paid_in bs sc quantum stamp) n) ≡ (if t then (if b.left - 1 == 0 then stamp else b.stamp) else stamp_in (budget_in bs n))
    by_test true same =
        let one : n ≡ sc = eqb-true n sc same in
        ap (λ (m : ℕ). stamp_in (budget_in (paid_in bs sc quantum stamp) m)) one ∙ ap stamp_in (paid_one bs sc quantum stamp b is) ∙ stamp_after_one quantum stamp b
    by_test false same = ap stamp_in (paid_others bs sc quantum stamp n (λ one. absurd (grind (arith, same, one))))

-- orders that agree before agree after, where all stamps are below the next
orders_after : (m n sc left : ℕ) (sm sn tm tn ss ts next further : ℕ) → sm < next → sn < next → tm < further → tn < further →
    ((m ≡ sc → sm ≡ ss) × (n ≡ sc → sn ≡ ss)) → ((m ≡ sc → tm ≡ ts) × (n ≡ sc → tn ≡ ts)) → nat_lt tm tn ≡ nat_lt sm sn →
    nat_lt (if m == sc then (if left - 1 == 0 then further else ts) else tm) (if n == sc then (if left - 1 == 0 then further else ts) else tn)
    ≡ nat_lt (if m == sc then (if left - 1 == 0 then next else ss) else sm) (if n == sc then (if left - 1 == 0 then next else ss) else sn)
orders_after m n sc left sm sn tm tn ss ts next further a b c d first second same = by_tests (m == sc) refl (n == sc) refl (left - 1 == 0)
  where
    by_tests : (t : Bool) → (m == sc) ≡ t → (u : Bool) → (n == sc) ≡ u → (v : Bool) →
        nat_lt (if t then (if v then further else ts) else tm) (if u then (if v then further else ts) else tn) ≡ nat_lt (if t then (if v then next else ss) else sm) (if u then (if v then next else ss) else sn)
    by_tests false i false j v = same
    by_tests true i true j true = not_less further ∙ sym (not_less next)
    by_tests true i true j false = not_less ts ∙ sym (not_less ss)
    by_tests true i false j true = less_false tn further d ∙ sym (less_false sn next b)
    by_tests false i true j true = less_true tm further c ∙ sym (less_true sm next a)
    by_tests true i false j false =
        let x = second.0 (eqb-true m sc i) in
        let y = first.0 (eqb-true m sc i) in
        ap (λ (z : ℕ). nat_lt z tn) (sym x) ∙ same ∙ ap (λ (z : ℕ). nat_lt z sn) y
    by_tests false i true j false =
        let x = second.1 (eqb-true n sc j) in
        let y = first.1 (eqb-true n sc j) in
        ap (λ (z : ℕ). nat_lt tm z) (sym x) ∙ same ∙ ap (λ (z : ℕ). nat_lt sm z) y

-- THE SAME TIMES

some_left : (k l : KernelState) (n : ℕ) → left_at l n ≡ left_at k n → IsSome (budget_at k n) → IsSome (budget_at l n)
some_left k l n same there = some_same (budget_at l n) (budget_at k n) same ∙ there

pub timed_flipped : (k l : KernelState) (P C : ℕ → Type 0) → AreTimed k l P C → AreTimed l k P C
timed_flipped k l P C t = record {
  clocks = λ cpu c. sym (t.clocks cpu c);
  alarms = t.same_alarms;
  same_alarms = t.alarms;
  left = λ n p. sym (t.left n p);
  order = λ m n p q there also. sym (t.order m n p q (some_left l k m (sym (t.left m p)) there) (some_left l k n (sym (t.left n q)) also));
}

pub timed_through : (k l m : KernelState) (P C : ℕ → Type 0) → AreTimed k l P C → AreTimed l m P C → AreTimed k m P C
timed_through k l m P C t u = record {
  clocks = λ cpu c. u.clocks cpu c ∙ t.clocks cpu c;
  alarms = λ n a at c. u.alarms n a (t.alarms n a at c) c;
  same_alarms = λ n a at c. t.same_alarms n a (u.same_alarms n a at c) c;
  left = λ n p. u.left n p ∙ t.left n p;
  order = λ i j p q there also. u.order i j p q (some_left k l i (t.left i p) there) (some_left k l j (t.left j q) also) ∙ t.order i j p q there also;
}

pub timed_by : (k new : KernelState) (P C : ℕ → Type 0) → ((cpu : ℕ) → C cpu → slice_get new.times.clocks cpu ≡ slice_get k.times.clocks cpu) →
    ((n : ℕ) (a : AlarmState) → slice_get k.times.alarms n ≡ Some a → C a.alarm.cpu → slice_get new.times.alarms n ≡ Some a) →
    ((n : ℕ) (a : AlarmState) → slice_get new.times.alarms n ≡ Some a → C a.alarm.cpu → slice_get k.times.alarms n ≡ Some a) →
    ((n : ℕ) → P n → budget_at new n ≡ budget_at k n) → AreTimed k new P C
timed_by k new P C clocks alarms same_alarms budgets = record {
  clocks = clocks;
  alarms = alarms;
  same_alarms = same_alarms;
  left = λ n p. ap (option_map (λ (b : Budget). b.left)) (budgets n p);
  order = λ m n p q there also. ap₂ nat_lt (ap stamp_in (budgets m p)) (ap stamp_in (budgets n q));
}

-- CLOCKS AND ALARMS

pub clocks_ticked : (k l : KernelState) (P C : ℕ → Type 0) (cpu : ℕ) → AreTimed k l P C → C cpu → (n : ℕ) → C n →
    slice_get (slice_set l.times.clocks cpu (clock l.times cpu + 1)) n ≡ slice_get (slice_set k.times.clocks cpu (clock k.times cpu + 1)) n
clocks_ticked k l P C cpu t c =
    set_same C k.times.clocks l.times.clocks cpu (clock k.times cpu + 1) (clock l.times cpu + 1) t.clocks (λ q. ap (λ (n : ℕ). n + 1) (clock_same k l P C cpu t c))

-- WHAT IS MADE AND PAID

-- what two tables of budgets agree on: what each scheduling context has left, and in which order their stamps are, all below the next
record AreRanked (P : ℕ → Type 0) (bs cs : List (Option Budget)) (next further : ℕ) : Type 0 where
  left : (n : ℕ) → P n → left_in (budget_in cs n) ≡ left_in (budget_in bs n)
  order : (m n : ℕ) → P m → P n → IsSome (budget_in bs m) → IsSome (budget_in bs n) → nat_lt (stamp_in (budget_in cs m)) (stamp_in (budget_in cs n)) ≡ nat_lt (stamp_in (budget_in bs m)) (stamp_in (budget_in bs n))
  below : (n : ℕ) → IfSome (budget_in bs n) (λ b. b.stamp < next)
  under : (n : ℕ) → IfSome (budget_in cs n) (λ b. b.stamp < further)

some_of : (o : Option Budget) → IsSome o → (b : Budget) × (o ≡ Some b)
some_of None h = absurd (cc)
some_of (Some b) h = (b, refl)

left_some : (o q : Option Budget) → left_in q ≡ left_in o → IsSome o → IsSome q
left_some (Some b) (Some e) h there = refl
left_some (Some b) None h there = absurd (cc)
left_some None q h there = absurd (cc)

stamp_below : (o : Option Budget) (next : ℕ) → IsSome o → IfSome o (λ b. b.stamp < next) → stamp_in o < next
stamp_below (Some b) next there h = h
stamp_below None next there h = absurd (cc)

-- a new one has the next stamp in both
joined_last : (xs : List (Option Budget)) (o : Option Budget) (n : ℕ) → n ≡ length xs → budget_in (xs ++ o ∷ []) n ≡ o
joined_last xs o n is = ap (λ (i : ℕ). entry (slice_get (xs ++ o ∷ []) i)) is ∙ ap (λ (u : Option (Option Budget)). entry u) (get_last xs o)

joined_old : (xs : List (Option Budget)) (o : Option Budget) (n : ℕ) → n ≢ length xs → budget_in (xs ++ o ∷ []) n ≡ budget_in xs n
joined_old xs o n other = ap (λ (u : Option (Option Budget)). entry u) (joined_other xs o n other)

born_left : (stamp other : ℕ) (made : NewObject) → left_in (budget_of other made) ≡ left_in (budget_of stamp made)
born_left stamp other (new.Sc ec cpu priority quantum) = refl
born_left stamp other new.Pd = refl
born_left stamp other (new.Ec pd cpu kind sp event) = refl
born_left stamp other (new.Pt ec mtd ip) = refl
born_left stamp other (new.Sm count) = refl

born_stamp : (stamp : ℕ) (made : NewObject) → IsSome (budget_of stamp made) → stamp_in (budget_of stamp made) ≡ stamp
born_stamp stamp (new.Sc ec cpu priority quantum) h = refl
born_stamp stamp new.Pd h = absurd (cc)
born_stamp stamp (new.Ec pd cpu kind sp event) h = absurd (cc)
born_stamp stamp (new.Pt ec mtd ip) h = absurd (cc)
born_stamp stamp (new.Sm count) h = absurd (cc)

born_below : (stamp : ℕ) (made : NewObject) → IfSome (budget_of stamp made) (λ b. b.stamp < stamp_past stamp made)
born_below stamp (new.Sc ec cpu priority quantum) = omega arith
born_below stamp new.Pd = tt
born_below stamp (new.Ec pd cpu kind sp event) = tt
born_below stamp (new.Pt ec mtd ip) = tt
born_below stamp (new.Sm count) = tt

further_below : (stamp : ℕ) (made : NewObject) (o : Option Budget) → IfSome o (λ b. b.stamp < stamp) → IfSome o (λ b. b.stamp < stamp_past stamp made)
further_below stamp made None h = tt
further_below stamp (new.Sc ec cpu priority quantum) (Some b) h = omega (arith, h)
further_below stamp new.Pd (Some b) h = h
further_below stamp (new.Ec pd cpu kind sp event) (Some b) h = h
further_below stamp (new.Pt ec mtd ip) (Some b) h = h
further_below stamp (new.Sm count) (Some b) h = h

-- all stamps stay below the next
joined_below : (xs : List (Option Budget)) (stamp : ℕ) (made : NewObject) → ((n : ℕ) → IfSome (budget_in xs n) (λ b. b.stamp < stamp)) → (n : ℕ) → IfSome (budget_in (xs ++ budget_of stamp made ∷ []) n) (λ b. b.stamp < stamp_past stamp made)
joined_below xs stamp made below n =
    more_at (λ (o : Option Budget). IfSome o (λ b. b.stamp < stamp_past stamp made)) xs (budget_of stamp made) n (further_below stamp made (budget_in xs n) (below n)) (λ none. born_below stamp made)

made_ranked : (P : ℕ → Type 0) (bs cs : List (Option Budget)) (next further : ℕ) (made : NewObject) → length cs ≡ length bs → AreRanked P bs cs next further →
    AreRanked P (bs ++ budget_of next made ∷ []) (cs ++ budget_of further made ∷ []) (stamp_past next made) (stamp_past further made)
made_ranked P bs cs next further made long r = record {
  left = left_so;
  order = order_so;
  below = joined_below bs next made r.below;
  under = joined_below cs further made r.under;
}
  where
    away : (n : ℕ) → n ≢ length bs → n ≢ length cs
    away n other same = other (same ∙ long)

    left_so : (n : ℕ) → P n → left_in (budget_in (cs ++ budget_of further made ∷ []) n) ≡ left_in (budget_in (bs ++ budget_of next made ∷ []) n)
    left_so n p = elim (place n (length bs)) [
      | inl is ↦
          ap left_in (joined_last cs (budget_of further made) n (is ∙ sym long)) ∙ born_left next further made ∙ sym (ap left_in (joined_last bs (budget_of next made) n is))
      | inr other ↦ ap left_in (joined_old cs (budget_of further made) n (away n other)) ∙ r.left n p ∙ sym (ap left_in (joined_old bs (budget_of next made) n other))
    ]

    -- one that is there has a stamp below the next, and the new one has the next
    order_so : (m n : ℕ) → P m → P n → IsSome (budget_in (bs ++ budget_of next made ∷ []) m) → IsSome (budget_in (bs ++ budget_of next made ∷ []) n) →
        nat_lt (stamp_in (budget_in (cs ++ budget_of further made ∷ []) m)) (stamp_in (budget_in (cs ++ budget_of further made ∷ []) n))
        ≡ nat_lt (stamp_in (budget_in (bs ++ budget_of next made ∷ []) m)) (stamp_in (budget_in (bs ++ budget_of next made ∷ []) n))
    order_so m n p q there also = by_places (place m (length bs)) (place n (length bs))
      where
        mine : List (Option Budget)
        mine = bs ++ budget_of next made ∷ []

        theirs : List (Option Budget)
        theirs = cs ++ budget_of further made ∷ []

        born_in : (i : ℕ) → i ≡ length bs → IsSome (budget_in (bs ++ budget_of next made ∷ []) i) → IsSome (budget_of next made)
        born_in i is some = subst IsSome (joined_last bs (budget_of next made) i is) some

        born_also : (i : ℕ) → i ≡ length bs → IsSome (budget_in (bs ++ budget_of next made ∷ []) i) → IsSome (budget_of further made)
        born_also i is some = left_some (budget_of next made) (budget_of further made) (born_left next further made) (born_in i is some)

        new_k : (i : ℕ) → i ≡ length bs → IsSome (budget_in (bs ++ budget_of next made ∷ []) i) → stamp_in (budget_in (bs ++ budget_of next made ∷ []) i) ≡ next
        new_k i is some = ap stamp_in (joined_last bs (budget_of next made) i is) ∙ born_stamp next made (born_in i is some)

        new_l : (i : ℕ) → i ≡ length bs → IsSome (budget_in (bs ++ budget_of next made ∷ []) i) → stamp_in (budget_in (cs ++ budget_of further made ∷ []) i) ≡ further
        new_l i is some = ap stamp_in (joined_last cs (budget_of further made) i (is ∙ sym long)) ∙ born_stamp further made (born_also i is some)

        old_k : (i : ℕ) → i ≢ length bs → stamp_in (budget_in (bs ++ budget_of next made ∷ []) i) ≡ stamp_in (budget_in bs i)
        old_k i other = ap stamp_in (joined_old bs (budget_of next made) i other)

        old_l : (i : ℕ) → i ≢ length bs → stamp_in (budget_in (cs ++ budget_of further made ∷ []) i) ≡ stamp_in (budget_in cs i)
        old_l i other = ap stamp_in (joined_old cs (budget_of further made) i (away i other))

        was : (i : ℕ) → i ≢ length bs → IsSome (budget_in (bs ++ budget_of next made ∷ []) i) → IsSome (budget_in bs i)
        was i other some = subst IsSome (joined_old bs (budget_of next made) i other) some

        under_k : (i : ℕ) → i ≢ length bs → IsSome (budget_in (bs ++ budget_of next made ∷ []) i) → stamp_in (budget_in bs i) < next
        under_k i other some = stamp_below (budget_in bs i) next (was i other some) (r.below i)

        under_l : (i : ℕ) → P i → i ≢ length bs → IsSome (budget_in (bs ++ budget_of next made ∷ []) i) → stamp_in (budget_in cs i) < further
        under_l i s other some = stamp_below (budget_in cs i) further (left_some (budget_in bs i) (budget_in cs i) (r.left i s) (was i other some)) (r.under i)

        by_places : (m ≡ length bs) ⊎ (m ≢ length bs) → (n ≡ length bs) ⊎ (n ≢ length bs) → nat_lt (stamp_in (budget_in (cs ++ budget_of further made ∷ []) m)) (stamp_in (budget_in (cs ++ budget_of further made ∷ []) n))
            ≡ nat_lt (stamp_in (budget_in (bs ++ budget_of next made ∷ []) m)) (stamp_in (budget_in (bs ++ budget_of next made ∷ []) n))
        by_places (inl i) (inl j) = ap₂ nat_lt (new_l m i there) (new_l n j also) ∙ not_less further ∙ sym (not_less next) ∙ sym (ap₂ nat_lt (new_k m i there) (new_k n j also))
        by_places (inl i) (inr j) =
            ap₂ nat_lt (new_l m i there) (old_l n j) ∙ less_false (stamp_in (budget_in cs n)) further (under_l n q j also) ∙ sym (less_false (stamp_in (budget_in bs n)) next (under_k n j also))
            ∙ sym (ap₂ nat_lt (new_k m i there) (old_k n j))
        by_places (inr i) (inl j) =
            ap₂ nat_lt (old_l m i) (new_l n j also) ∙ less_true (stamp_in (budget_in cs m)) further (under_l m p i there) ∙ sym (less_true (stamp_in (budget_in bs m)) next (under_k m i there))
            ∙ sym (ap₂ nat_lt (old_k m i) (new_k n j also))
        by_places (inr i) (inr j) = ap₂ nat_lt (old_l m i) (old_l n j) ∙ r.order m n p q (was m i there) (was n j also) ∙ sym (ap₂ nat_lt (old_k m i) (old_k n j))

-- what a deed makes, or nothing
joined_ranked : (P : ℕ → Type 0) (bs cs : List (Option Budget)) (next further : ℕ) (made : Option NewObject) → (IsSome made → length cs ≡ length bs) → AreRanked P bs cs next further →
    AreRanked P (joined bs (option_map (budget_of next) made)) (joined cs (option_map (budget_of further) made)) (stamp_with next made) (stamp_with further made)
joined_ranked P bs cs next further None long r = r
joined_ranked P bs cs next further (Some made) long r = made_ranked P bs cs next further made (long refl) r

joined_some : (bs : List (Option Budget)) (next : ℕ) (made : Option NewObject) (n : ℕ) → IsSome (budget_in bs n) → IsSome (budget_in (joined bs (option_map (budget_of next) made)) n)
joined_some bs next None n there = there
joined_some bs next (Some made) n there = let b = some_of (budget_in bs n) there in subst IsSome (sym (joined_old bs (budget_of next made) n (λ is. let below = entry_below bs n b.0 b.1 in omega (arith, is, below)))) there

-- who pays is one of them
paid_order : (P : ℕ → Type 0) (bs cs : List (Option Budget)) (sc quantum next further : ℕ) → AreRanked P bs cs next further → P sc → IsSome (budget_in bs sc) → (m n : ℕ) → P m → P n →
    IsSome (budget_in (paid_in bs sc quantum next) m) → IsSome (budget_in (paid_in bs sc quantum next) n) →
    nat_lt (stamp_in (budget_in (paid_in cs sc quantum further) m)) (stamp_in (budget_in (paid_in cs sc quantum further) n)) ≡ nat_lt (stamp_in (budget_in (paid_in bs sc quantum next) m)) (stamp_in (budget_in (paid_in bs sc quantum next) n))
paid_order P bs cs sc quantum next further r p budgeted m n q s there also =
    let m_there = was_there m there in
    let n_there = was_there n also in
    let b = some_of (budget_in bs sc) budgeted in
    let f = some_of (budget_in cs sc) (left_some (budget_in bs sc) (budget_in cs sc) (r.left sc p) budgeted) in
    let same_left : f.0.left ≡ b.0.left = same_Some f.0.left b.0.left (sym (ap left_in f.1) ∙ r.left sc p ∙ ap left_in b.1) in
    let stamp_k = λ (x : ℕ). charged_stamp bs sc quantum next x b.0 b.1 in
    let stamp_l = λ (x : ℕ). charged_stamp cs sc quantum further x f.0 f.1
    ∙ ap (λ (n : ℕ). if x == sc then (if n - 1 == 0 then further else f.0.stamp) else stamp_in (budget_in cs x)) same_left in
    ap₂ nat_lt (stamp_l m) (stamp_l n)
    ∙ orders_after m n sc b.0.left (stamp_in (budget_in bs m)) (stamp_in (budget_in bs n)) (stamp_in (budget_in cs m)) (stamp_in (budget_in cs n)) b.0.stamp f.0.stamp next further
    (stamp_below (budget_in bs m) next m_there (r.below m)) (stamp_below (budget_in bs n) next n_there (r.below n))
    (stamp_below (budget_in cs m) further (left_some (budget_in bs m) (budget_in cs m) (r.left m q) m_there) (r.under m))
    (stamp_below (budget_in cs n) further (left_some (budget_in bs n) (budget_in cs n) (r.left n s) n_there) (r.under n))
    (λ is. ap (λ (i : ℕ). stamp_in (budget_in bs i)) is ∙ ap stamp_in b.1, λ is. ap (λ (i : ℕ). stamp_in (budget_in bs i)) is ∙ ap stamp_in b.1)
    (λ is. ap (λ (i : ℕ). stamp_in (budget_in cs i)) is ∙ ap stamp_in f.1, λ is. ap (λ (i : ℕ). stamp_in (budget_in cs i)) is ∙ ap stamp_in f.1)
    (r.order m n q s m_there n_there)
    ∙ sym (ap₂ nat_lt (stamp_k m) (stamp_k n))
  where
    -- who has a budget after had one before
    was_there : (x : ℕ) → IsSome (budget_in (paid_in bs sc quantum next) x) → IsSome (budget_in bs x)
    was_there x some = elim (place x sc) [
      | inl is ↦ subst (λ (i : ℕ). IsSome (budget_in bs i)) (sym is) budgeted
      | inr differs ↦ subst IsSome (paid_others bs sc quantum next x differs) some
    ]

-- A TURN THAT IS PAID

pub own_timed : (k l : KernelState) (P C : ℕ → Type 0) (cpu ec sc : ℕ) (d e : Deed) (stirs others : ℕ → Bool) → made_by e ≡ made_by d → (IsSome (made_by d) → length l.budgets ≡ length k.budgets) → AreTimed k l P C → C cpu → P sc →
    slice_get (turned l cpu (by_deed l ec sc e others)).objects sc ≡ slice_get (turned k cpu (by_deed k ec sc d stirs)).objects sc → IsSome (budget_at k sc) →
    ((n : ℕ) → IfSome (budget_at k n) (λ b. b.stamp < k.next_stamp)) → ((n : ℕ) → IfSome (budget_at l n) (λ b. b.stamp < l.next_stamp)) →
    AreTimed (turned k cpu (by_deed k ec sc d stirs)) (turned l cpu (by_deed l ec sc e others)) P C
own_timed k l P C cpu ec sc d e stirs others same long t c p object budgeted below under = record {
  clocks = clocks_ticked k l P C cpu t c;
  alarms = t.alarms;
  same_alarms = t.same_alarms;
  left = λ n q. ap left_in (theirs n) ∙ paid_left mine its sc quantum (stamp_with k.next_stamp made) (stamp_with l.next_stamp made) n (ranked.left sc p) (ranked.left n q);
  order = λ m n q r there also.
      ap₂ nat_lt (ap stamp_in (theirs m)) (ap stamp_in (theirs n))
      ∙ paid_order P mine its sc quantum (stamp_with k.next_stamp made) (stamp_with l.next_stamp made) ranked p (joined_some k.budgets k.next_stamp made sc budgeted) m n q r there also;
}
  where
    made : Option NewObject
    made = made_by d

    quantum : ℕ
    quantum = quantum_in (slice_get (turned k cpu (by_deed k ec sc d stirs)).objects sc)

    mine : List (Option Budget)
    mine = joined k.budgets (option_map (budget_of k.next_stamp) (made_by d))

    its : List (Option Budget)
    its = joined l.budgets (option_map (budget_of l.next_stamp) (made_by d))

    ranked : AreRanked P (joined k.budgets (option_map (budget_of k.next_stamp) (made_by d))) (joined l.budgets (option_map (budget_of l.next_stamp) (made_by d))) (stamp_with k.next_stamp (made_by d)) (stamp_with l.next_stamp (made_by d))
    ranked = joined_ranked P k.budgets l.budgets k.next_stamp l.next_stamp made long (record { left = t.left; order = t.order; below = below; under = under })

    theirs : (n : ℕ) → budget_at (turned l cpu (by_deed l ec sc e others)) n
        ≡ budget_in (paid_in (joined l.budgets (option_map (budget_of l.next_stamp) (made_by d))) sc (quantum_in (slice_get (turned k cpu (by_deed k ec sc d stirs)).objects sc)) (stamp_with l.next_stamp (made_by d))) n
    theirs n =
        ap₂ (λ (o : Option Object) (u : Option NewObject). budget_in (paid_in (joined l.budgets (option_map (budget_of l.next_stamp) u)) sc (quantum_in o) (stamp_with l.next_stamp u)) n) object same
