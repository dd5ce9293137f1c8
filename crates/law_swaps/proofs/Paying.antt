-- A plain step is charged before or after a turn of another processor, in which an object may be made: what is left is the same, and the order of stamps.
use Rattle.std.proofs.Common.{◌≡◌, ◌≢◌, ◌<◌, ◌≤◌, ℕ, zero, suc, ◌+◌, ◌++◌, List, [], ◌∷◌, length, map, refl, sym, ap, ap₂, ◌∙◌, subst, inl, inr, arith}
use Rattle.std.specs.Prelude.{◌⊎◌, slice_get, slice_set, Option, Some, None, option_map}
use Rattle.std.proofs.lemmas.Bool.{cases_eq}
use Rattle.std.proofs.lemmas.Option.{same_Some}
use Rattle.nova_objects.specs.declared.object.Object.{Object}
use Rattle.nova_objects.specs.declared.object.Object.TheVariants.{Sc}
use Rattle.nova_model.specs.Creation.{budget_of, object_of}
use Rattle.nova_model.specs.State.{entry}
use Rattle.nova_model.specs.Turn.{budget_after, is_spent, quantum_in}
use Rattle.nova_model.specs.declared.budget.Budget.{Budget}
use Rattle.nova_model.specs.declared.new_object.NewObject.{NewObject}
use Rattle.nova_model.specs.declared.new_object.NewObject.TheVariants as new
use Rattle.law_forest.specs.Effects.{joined, stamp_with}
use Rattle.law_forest.specs.Turns.{budgets_charged, budgets_paid, stamp_charged, stamp_paid}
use Rattle.law_turns.specs.Budgets.{left_in}
use Rattle.law_turns.proofs.Setting.{get_below, get_last, joined_length, joined_other, set_length}
use Rattle.law_alike.specs.Alike.{ArePeers}
use Rattle.law_alike.proofs.Lists.{map_joined}
use Rattle.law_alike.proofs.Paying.{AreBelow, turned_ordered}
use Rattle.law_swaps.specs.Touches.{processor_given}
use Rattle.law_swaps.proofs.Beside.{joined_below}
use Rattle.law_swaps.proofs.Charging.{IsOn, entry_of, is_less, later_below, lefts_over, lefts_paid, less_same, other_schedule, paid_both, paid_other, quantum_at}

abbrev Budgets : Type 0
Budgets = List (Option Budget)

-- an entry is set where another joins
set_more : {T : Type 0} (xs : List T) (y x : T) (n : ℕ) → n < length xs → slice_set xs n x ++ y ∷ [] ≡ slice_set (xs ++ y ∷ []) n x
set_more [] y x n below = absurd (omega (arith, below))
set_more (z ∷ xs) y x zero below = refl
set_more {T} (z ∷ xs) y x (suc n) below = ap (λ (l : List T). z ∷ l) (set_more xs y x n (omega (arith, below)))

pub joined_set : {T : Type 0} (xs : List T) (o : Option T) (n : ℕ) (x : T) → n < length xs → joined (slice_set xs n x) o ≡ slice_set (joined xs o) n x
joined_set xs None n x below = refl
joined_set xs (Some y) n x below = set_more xs y x n below

joined_paid : (bs : Budgets) (o : Option (Option Budget)) (x q m : ℕ) (b : Option Budget) → x < length bs → joined (budgets_paid bs x q m b) o ≡ budgets_paid (joined bs o) x q m b
joined_paid bs o x q m None below = refl
joined_paid bs o x q m (Some b) below = joined_set bs o x (Some (budget_after (is_spent b) q m b)) below

paid_length : (bs : Budgets) (x q m : ℕ) (b : Option Budget) → length (budgets_paid bs x q m b) ≡ length bs
paid_length bs x q m None = refl
paid_length bs x q m (Some b) = set_length bs x (Some (budget_after (is_spent b) q m b))

past_none : {T : Type 0} (xs : List T) (n : ℕ) → length xs ≤ n → slice_get xs n ≡ None
past_none [] n far = refl
past_none (y ∷ xs) zero far = absurd (omega (arith, far))
past_none (y ∷ xs) (suc n) far = past_none xs n (omega (arith, far))

-- with the object that is made, by the stamp that it takes
abbrev grown : Budgets → ℕ → Option NewObject → Budgets
grown bs stamp made = joined bs (option_map (budget_of stamp) made)

abbrev objects_with : List Object → Option NewObject → List Object
objects_with os made = joined os (option_map object_of made)

left_made : (m n : ℕ) (made : NewObject) → left_in (budget_of m made) ≡ left_in (budget_of n made)
left_made m n (new.Sc ec cpu priority quantum) = refl
left_made m n other = refl

lefts_grown : (bs : Budgets) (m n : ℕ) (made : Option NewObject) → map left_in (grown bs m made) ≡ map left_in (grown bs n made)
lefts_grown bs m n None = refl
lefts_grown bs m n (Some made) =
    map_joined left_in bs (Some (budget_of m made))
    ∙ ap (λ (o : Option ℕ). joined (map left_in bs) (Some o)) (left_made m n made)
    ∙ sym (map_joined left_in bs (Some (budget_of n made)))

below_past : (bs : Budgets) (stamp : ℕ) (made : Option NewObject) → AreBelow bs stamp → AreBelow bs (stamp_with stamp made)
below_past bs stamp None below = below
below_past bs stamp (Some (new.Sc ec cpu priority quantum)) below = λ n. let less = below n in omega (arith, less)
below_past bs stamp (Some other) below = below

-- what is charged: of two scheduling contexts, the first of which is of a processor for which nothing is made
record IsPaying (os : List Object) (bs : Budgets) (made : Option NewObject) (x y p first later : ℕ) (paid : Option Budget) : Type 0 where
  long : length bs ≡ length os
  below : AreBelow bs first
  below_later : AreBelow bs later
  apart : y ≢ x
  on : IsOn os x p
  gift : (cpu : ℕ) → processor_given made ≡ Some cpu → cpu ≢ p
  away : (n : ℕ) → IsOn (objects_with os made) n p → n ≢ y
  there : entry_of (grown bs first made) y ≡ paid
  there_later : entry_of (grown bs later made) y ≡ paid

abbrev first_second : List Object → Budgets → Option NewObject → ℕ → ℕ → ℕ → ℕ → ℕ → Option Budget → Budgets
first_second os bs made x y quantum first later paid =
    budgets_paid (budgets_paid (grown bs later made) x (quantum_at os x) first (entry_of bs x)) y quantum (stamp_with later made) paid

abbrev second_first : List Object → Budgets → Option NewObject → ℕ → ℕ → ℕ → ℕ → ℕ → Option Budget → Budgets
second_first os bs made x y quantum first last paid =
    budgets_paid (budgets_paid (grown bs first made) y quantum (stamp_with first made) paid) x (quantum_at os x) last (entry_of bs x)

lefts_way : (os : List Object) (bs : Budgets) (made : Option NewObject) (x y quantum first later last : ℕ) (paid : Option Budget) → y ≢ x →
    map left_in (second_first os bs made x y quantum first last paid) ≡ map left_in (first_second os bs made x y quantum first later paid)
lefts_way os bs made x y quantum first later last paid ne = sym (
    lefts_over (budgets_paid (grown bs later made) x (quantum_at os x) first (entry_of bs x)) (budgets_paid (grown bs first made) x (quantum_at os x) first (entry_of bs x)) y quantum (stamp_with later made) paid
    (lefts_over (grown bs later made) (grown bs first made) x (quantum_at os x) first (entry_of bs x) (lefts_grown bs later first made))
    ∙ ap (map left_in) (paid_both (grown bs first made) x y (quantum_at os x) quantum first (stamp_with later made) (entry_of bs x) paid ne)
    ∙ lefts_over (budgets_paid (grown bs first made) y quantum (stamp_with later made) paid) (budgets_paid (grown bs first made) y quantum (stamp_with first made) paid) x (quantum_at os x) first (entry_of bs x)
    (lefts_paid (grown bs first made) y quantum (stamp_with later made) (stamp_with first made) paid)
    ∙ lefts_paid (budgets_paid (grown bs first made) y quantum (stamp_with first made) paid) x (quantum_at os x) first last (entry_of bs x)
    )

-- no object that is made is of the first's processor
old_at : (os : List Object) (made : Option NewObject) (p n ec priority quantum : ℕ) → ((cpu : ℕ) → processor_given made ≡ Some cpu → cpu ≢ p) → slice_get (objects_with os made) n ≡ Some (Sc ec p priority quantum) → n < length os
old_at os None p n ec priority quantum gift is = get_below os n _ is
old_at os (Some m) p n ec priority quantum gift is = by_place (cases_eq n (length os))
  where
    by_made : (made : NewObject) → ((cpu : ℕ) → processor_given (Some made) ≡ Some cpu → cpu ≢ p) → object_of made ≡ Sc ec p priority quantum → ⊥
    by_made (new.Sc its cpu rank whole) far same = far cpu refl (let one : cpu ≡ p = cc in one)
    by_made new.Pd far same = absurd (cc)
    by_made (new.Ec pd cpu kind sp event) far same = absurd (cc)
    by_made (new.Pt its mtd ip) far same = absurd (cc)
    by_made (new.Sm count) far same = absurd (cc)

    by_place : (n ≡ length os) ⊎ (n ≢ length os) → n < length os
    by_place (inr ne) = get_below os n _ (sym (joined_other os (object_of m) n ne) ∙ is)
    by_place (inl same) =
        absurd (by_made m gift (same_Some (object_of m) (Sc ec p priority quantum) (sym (get_last os (object_of m)) ∙ (ap (slice_get (os ++ object_of m ∷ [])) (sym same) ∙ is))))

order_way : (os : List Object) (bs : Budgets) (made : Option NewObject) (x y p quantum first later last i j : ℕ) (paid : Option Budget) → IsPaying os bs made x y p first later paid → AreBelow bs last → ArePeers (objects_with os made) i j →
    is_less (second_first os bs made x y quantum first last paid) i j ≡ is_less (first_second os bs made x y quantum first later paid) i j
order_way os bs made x y p quantum first later last i j paid h below_last peers = by_processor (cases_eq peers.cpu p)
  where
    turn_round : is_less (first_second os bs made x y quantum first later paid) i j
        ≡ is_less (budgets_paid (budgets_paid (grown bs later made) y quantum (stamp_with later made) paid) x (quantum_at os x) first (entry_of bs x)) i j
    turn_round = ap (λ (cs : Budgets). is_less cs i j) (paid_both (grown bs later made) x y (quantum_at os x) quantum first (stamp_with later made) (entry_of bs x) paid h.apart)

    turn_back : is_less (second_first os bs made x y quantum first last paid) i j
        ≡ is_less (budgets_paid (budgets_paid (grown bs first made) x (quantum_at os x) last (entry_of bs x)) y quantum (stamp_with first made) paid) i j
    turn_back = ap (λ (cs : Budgets). is_less cs i j) (sym (paid_both (grown bs first made) x y (quantum_at os x) quantum last (stamp_with first made) (entry_of bs x) paid h.apart))

    -- of the first's processor only the first is charged
    own : (n stamp m : ℕ) → n < length os → n ≢ y → (past : ℕ) →
        slice_get (budgets_paid (budgets_paid (grown bs stamp made) x (quantum_at os x) m (entry_of bs x)) y quantum past paid) n ≡ slice_get (budgets_paid bs x (quantum_at os x) m (entry_of bs x)) n
    own n stamp m less ne past =
        paid_other (budgets_paid (grown bs stamp made) x (quantum_at os x) m (entry_of bs x)) y quantum past n paid ne
        ∙ ap (λ (cs : Budgets). slice_get cs n) (sym (joined_paid bs (option_map (budget_of stamp) made) x (quantum_at os x) m (entry_of bs x) (subst (λ (l : ℕ). x < l) (sym h.long) (get_below os x _ h.on.3))))
        ∙ joined_below (budgets_paid bs x (quantum_at os x) m (entry_of bs x)) (option_map (budget_of stamp) made) n
        (subst (λ (l : ℕ). n < l) (sym (paid_length bs x (quantum_at os x) m (entry_of bs x) ∙ h.long)) less)

    by_first : peers.cpu ≡ p → is_less (second_first os bs made x y quantum first last paid) i j ≡ is_less (first_second os bs made x y quantum first later paid) i j
    by_first here =
        let at = peers.first ∙ ap (λ (m : ℕ). Some (Sc peers.first_ec m peers.priority peers.first_quantum)) here in
        let at_too = peers.second ∙ ap (λ (m : ℕ). Some (Sc peers.second_ec m peers.priority peers.second_quantum)) here in
        let less = old_at os made p i peers.first_ec peers.priority peers.first_quantum h.gift at in
        let less_too = old_at os made p j peers.second_ec peers.priority peers.second_quantum h.gift at_too in
        let ne = h.away i (peers.first_ec, peers.priority, peers.first_quantum, at) in
        let ne_too = h.away j (peers.second_ec, peers.priority, peers.second_quantum, at_too) in
        let old : ArePeers os i j = record {
          cpu = peers.cpu;
          priority = peers.priority;
          first_ec = peers.first_ec;
          first_quantum = peers.first_quantum;
          second_ec = peers.second_ec;
          second_quantum = peers.second_quantum;
          first = sym (joined_below os (option_map object_of made) i less) ∙ peers.first;
          second = sym (joined_below os (option_map object_of made) j less_too) ∙ peers.second;
        } in
        turn_back
        ∙ less_same (budgets_paid (budgets_paid (grown bs first made) x (quantum_at os x) last (entry_of bs x)) y quantum (stamp_with first made) paid) (budgets_paid bs x (quantum_at os x) last (entry_of bs x)) i j
        (own i first last less ne (stamp_with first made)) (own j first last less_too ne_too (stamp_with first made))
        ∙ turned_ordered os bs bs last first x (quantum_at os x) None h.long refl below_last h.below (λ c d e. refl) i j old
        ∙ sym (less_same (first_second os bs made x y quantum first later paid) (budgets_paid bs x (quantum_at os x) first (entry_of bs x)) i j
        (own i later first less ne (stamp_with later made)) (own j later first less_too ne_too (stamp_with later made)))

    other_first : peers.cpu ≢ p → (n its priority whole : ℕ) → slice_get (objects_with os made) n ≡ Some (Sc its peers.cpu priority whole) → n ≢ x
    other_first far n its priority whole at =
        other_schedule (objects_with os made) x n its p peers.cpu priority whole (λ same. far (sym same))
        (h.on.0, h.on.1, h.on.2, joined_below os (option_map object_of made) x (get_below os x _ h.on.3) ∙ h.on.3) at

    by_second : peers.cpu ≢ p → is_less (second_first os bs made x y quantum first last paid) i j ≡ is_less (first_second os bs made x y quantum first later paid) i j
    by_second far =
        let ne = other_first far i peers.first_ec peers.priority peers.first_quantum peers.first in
        let ne_too = other_first far j peers.second_ec peers.priority peers.second_quantum peers.second in
        less_same (second_first os bs made x y quantum first last paid) (budgets_paid (grown bs first made) y quantum (stamp_with first made) paid) i j
        (paid_other _ x (quantum_at os x) last i (entry_of bs x) ne) (paid_other _ x (quantum_at os x) last j (entry_of bs x) ne_too)
        ∙ ap (λ (o : Option Budget). is_less (budgets_paid (grown bs first made) y quantum (stamp_with first made) o) i j) (sym h.there)
        ∙ turned_ordered os bs bs first later y quantum made h.long refl h.below h.below_later (λ c d e. refl) i j peers
        ∙ ap (λ (o : Option Budget). is_less (budgets_paid (grown bs later made) y quantum (stamp_with later made) o) i j) h.there_later
        ∙ sym (less_same (budgets_paid (budgets_paid (grown bs later made) y quantum (stamp_with later made) paid) x (quantum_at os x) first (entry_of bs x)) (budgets_paid (grown bs later made) y quantum (stamp_with later made) paid) i j
        (paid_other _ x (quantum_at os x) first i (entry_of bs x) ne) (paid_other _ x (quantum_at os x) first j (entry_of bs x) ne_too))
        ∙ sym turn_round

    by_processor : (peers.cpu ≡ p) ⊎ (peers.cpu ≢ p) → is_less (second_first os bs made x y quantum first last paid) i j ≡ is_less (first_second os bs made x y quantum first later paid) i j
    by_processor (inl here) = by_first here
    by_processor (inr far) = by_second far

-- OF TWO TURNS

-- the budgets after a step and then a turn, and after the turn and then the step
abbrev pub step_turn : List Object → Budgets → ℕ → Option NewObject → Option ℕ → ℕ → Budgets
step_turn os bs stamp made charge x =
    budgets_charged (objects_with os made) (grown (budgets_charged os bs stamp (Some x)) (stamp_charged bs stamp (Some x)) made) (stamp_with (stamp_charged bs stamp (Some x)) made) charge

abbrev pub turn_step : List Object → Budgets → ℕ → Option NewObject → Option ℕ → ℕ → Budgets
turn_step os bs stamp made charge x =
    budgets_charged (objects_with os made) (budgets_charged (objects_with os made) (grown bs stamp made) (stamp_with stamp made) charge) (stamp_charged (grown bs stamp made) (stamp_with stamp made) charge) (Some x)

-- both as one pays after another, for some second one that pays, or none
pub record ArePaid (os : List Object) (bs : Budgets) (stamp : ℕ) (made : Option NewObject) (charge : Option ℕ) (x p : ℕ) : Type 0 where
  second : ℕ
  quantum : ℕ
  last : ℕ
  paid : Option Budget
  paying : IsPaying os bs made x second p stamp (stamp_charged bs stamp (Some x)) paid
  below : AreBelow bs last
  step : step_turn os bs stamp made charge x ≡ first_second os bs made x second quantum stamp (stamp_charged bs stamp (Some x)) paid
  turn : turn_step os bs stamp made charge x ≡ second_first os bs made x second quantum stamp last paid

pub lefts_paid_both : (os : List Object) (bs : Budgets) (stamp : ℕ) (made : Option NewObject) (charge : Option ℕ) (x p : ℕ) → ArePaid os bs stamp made charge x p →
    map left_in (turn_step os bs stamp made charge x) ≡ map left_in (step_turn os bs stamp made charge x)
lefts_paid_both os bs stamp made charge x p are =
    ap (map left_in) are.turn
    ∙ lefts_way os bs made x are.second are.quantum stamp (stamp_charged bs stamp (Some x)) are.last are.paid are.paying.apart
    ∙ sym (ap (map left_in) are.step)

pub order_paid_both : (os : List Object) (bs : Budgets) (stamp : ℕ) (made : Option NewObject) (charge : Option ℕ) (x p i j : ℕ) → ArePaid os bs stamp made charge x p → ArePeers (objects_with os made) i j →
    is_less (turn_step os bs stamp made charge x) i j ≡ is_less (step_turn os bs stamp made charge x) i j
order_paid_both os bs stamp made charge x p i j are peers =
    ap (λ (cs : Budgets). is_less cs i j) are.turn
    ∙ order_way os bs made x are.second p are.quantum stamp (stamp_charged bs stamp (Some x)) are.last i j are.paid are.paying are.below peers
    ∙ sym (ap (λ (cs : Budgets). is_less cs i j) are.step)

pub are_paid : (os : List Object) (bs : Budgets) (stamp : ℕ) (made : Option NewObject) (charge : Option ℕ) (x p q : ℕ) → length bs ≡ length os → AreBelow bs stamp → p ≢ q → IsOn os x p →
    ((cpu : ℕ) → processor_given made ≡ Some cpu → cpu ≢ p) → ((sc : ℕ) → charge ≡ Some sc → IsOn os sc q) → ArePaid os bs stamp made charge x p
are_paid os bs stamp made charge x p q long below other on gift pays = by_charge charge pays
  where
    late : ℕ
    late = stamp_charged bs stamp (Some x)

    below_late : AreBelow bs (stamp_charged bs stamp (Some x))
    below_late = later_below bs stamp (entry_of bs x) below

    less : x < length bs
    less = subst (λ (l : ℕ). x < l) (sym long) (get_below os x _ on.3)

    quantum_same : quantum_at (objects_with os made) x ≡ quantum_at os x
    quantum_same = ap quantum_in (joined_below os (option_map object_of made) x (get_below os x _ on.3))

    entry_grown : (n s : ℕ) → n < length bs → entry_of (grown bs s made) n ≡ entry_of bs n
    entry_grown n s small = ap (λ (o : Option (Option Budget)). entry o) (joined_below bs (option_map (budget_of s) made) n small)

    grown_first : (s : ℕ) → grown (budgets_paid bs x (quantum_at os x) stamp (entry_of bs x)) s made ≡ budgets_paid (grown bs s made) x (quantum_at os x) stamp (entry_of bs x)
    grown_first s = joined_paid bs (option_map (budget_of s) made) x (quantum_at os x) stamp (entry_of bs x) less

    grown_long : (s : ℕ) → length (grown bs s made) ≡ length (objects_with os made)
    grown_long s = by_made made
      where
        by_made : (o : Option NewObject) → length (grown bs s o) ≡ length (objects_with os o)
        by_made None = long
        by_made (Some m) = joined_length bs (budget_of s m) ∙ ap (λ (n : ℕ). n + 1) long ∙ sym (joined_length os (object_of m))

    by_charge : (o : Option ℕ) → ((sc : ℕ) → o ≡ Some sc → IsOn os sc q) → ArePaid os bs stamp made o x p
    by_charge None pays = record {
      second = length (objects_with os made);
      quantum = 0;
      last = stamp_with stamp made;
      paid = None;
      paying = record {
        long = long;
        below = below;
        below_later = below_late;
        apart = λ same. (let small = get_below (objects_with os made) x _ (joined_below os (option_map object_of made) x (get_below os x _ on.3) ∙ on.3) in let is = same in absurd (omega (arith, small, is)));
        on = on;
        gift = gift;
        away = λ n its same. (let small = get_below (objects_with os made) n _ its.3 in let is = same in absurd (omega (arith, small, is)));
        there = ap (λ (o : Option (Option Budget)). entry o) (past_none (grown bs stamp made) (length (objects_with os made)) (let far = grown_long stamp in omega (arith, far)));
        there_later = ap (λ (o : Option (Option Budget)). entry o) (past_none (grown bs late made) (length (objects_with os made)) (let far = grown_long late in omega (arith, far)));
      };
      below = below_past bs stamp made below;
      step = grown_first (stamp_charged bs stamp (Some x));
      turn = ap₂ (λ (quantum : ℕ) (b : Option Budget). budgets_paid (grown bs stamp made) x quantum (stamp_with stamp made) b) quantum_same (entry_grown x stamp less);
    }
    by_charge (Some y) pays =
        let its = pays y refl in
        let small : y < length bs = subst (λ (l : ℕ). y < l) (sym long) (get_below os y _ its.3) in
        let ne : y ≢ x = other_schedule os x y its.0 p q its.1 its.2 other on its.3 in record {
          second = y;
          quantum = quantum_at (objects_with os made) y;
          last = stamp_paid (stamp_with stamp made) (entry_of (grown bs stamp made) y);
          paid = entry_of bs y;
          paying = record {
            long = long;
            below = below;
            below_later = below_late;
            apart = ne;
            on = on;
            gift = gift;
            away = λ n it same. other_schedule (objects_with os made) y n it.0 q p it.1 it.2 (λ one. other (sym one))
                (its.0, its.1, its.2, joined_below os (option_map object_of made) y (get_below os y _ its.3) ∙ its.3) it.3 same;
            there = entry_grown y stamp small;
            there_later = entry_grown y late small;
          };
          below = later_below bs (stamp_with stamp made) (entry_of (grown bs stamp made) y) (below_past bs stamp made below);
          step =
              ap (λ (cs : Budgets). budgets_charged (objects_with os made) cs (stamp_with (stamp_charged bs stamp (Some x)) made) (Some y)) (grown_first (stamp_charged bs stamp (Some x)))
              ∙ ap (λ (b : Option Budget). budgets_paid (budgets_paid (grown bs (stamp_charged bs stamp (Some x)) made) x (quantum_at os x) stamp (entry_of bs x)) y (quantum_at (objects_with os made) y) (stamp_with (stamp_charged bs stamp (Some x)) made) b)
              (ap (λ (o : Option (Option Budget)). entry o) (paid_other (grown bs (stamp_charged bs stamp (Some x)) made) x (quantum_at os x) stamp y (entry_of bs x) ne) ∙ entry_grown y (stamp_charged bs stamp (Some x)) small);
          turn =
              ap₂ (λ (quantum : ℕ) (b : Option Budget). budgets_paid (budgets_charged (objects_with os made) (grown bs stamp made) (stamp_with stamp made) (Some y)) x quantum (stamp_charged (grown bs stamp made) (stamp_with stamp made) (Some y)) b)
              quantum_same
              (ap (λ (o : Option (Option Budget)). entry o)
              (paid_other (grown bs stamp made) y (quantum_at (objects_with os made) y) (stamp_with stamp made) x (entry_of (grown bs stamp made) y) (λ same. ne (sym same))) ∙ entry_grown x stamp less)
              ∙ ap (λ (b : Option Budget). budgets_paid (budgets_paid (grown bs stamp made) y (quantum_at (objects_with os made) y) (stamp_with stamp made) b) x (quantum_at os x) (stamp_paid (stamp_with stamp made) (entry_of (grown bs stamp made) y)) (entry_of bs x))
              (entry_grown y stamp small);
        }
