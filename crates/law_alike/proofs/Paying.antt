-- What is left of quanta, and the order of stamps, where an object is made and where a scheduling context is charged.
use Rattle.std.proofs.Common.{◌≡◌, ℕ, zero, suc, ◌-◌, ◌<◌, ◌==◌, List, [], ◌∷◌, ◌++◌, length, map, refl, sym, ap, ap₂, ◌∙◌, subst, inl, inr, arith}
use Rattle.std.specs.Prelude.{◌⊎◌, ◌≢◌, Bool, true, false, nat_lt, slice_get, slice_set, option_map, Option, Some, None, IsSome, if◌then◌else◌}
use Rattle.std.proofs.lemmas.List.{length-map}
use Rattle.nova_objects.specs.declared.object.Object.{Object}
use Rattle.nova_objects.specs.declared.object.Object.TheVariants.{Sc}
use Rattle.nova_model.specs.Creation.{budget_of, object_of, stamp_past}
use Rattle.nova_model.specs.State.{entry}
use Rattle.nova_model.specs.Turn.{budget_after, is_spent, quantum_in, stamp_after}
use Rattle.nova_model.specs.declared.budget.Budget.{Budget}
use Rattle.nova_model.specs.declared.new_object.NewObject.{NewObject}
use Rattle.nova_model.specs.declared.new_object.NewObject.TheVariants as new
use Rattle.law_forest.specs.Effects.{joined, stamp_with}
use Rattle.law_forest.specs.Turns.{budgets_paid, stamp_paid}
use Rattle.law_turns.specs.Budgets.{left_in, next_left, stamp_in}
use Rattle.law_turns.proofs.Budgets.{left_after, less_false, less_true, not_less}
use Rattle.law_turns.proofs.Links.{place}
use Rattle.law_turns.proofs.Setting.{entry_itself, entry_other, get_last, joined_other}
use Rattle.law_alike.specs.Alike.{ArePeers}
use Rattle.law_alike.proofs.Choosing.{AreOrdered}
use Rattle.law_alike.proofs.Lists.{map_entry, map_joined, map_put}

abbrev Budgets : Type 0
Budgets = List (Option Budget)

abbrev stamp_of : Budgets → ℕ → ℕ
stamp_of bs n = stamp_in (entry (slice_get bs n))

-- WHAT IS LEFT

abbrev first_left : NewObject → Option ℕ
first_left (new.Sc ec cpu priority quantum) = Some quantum
first_left other = None

first_left_is : (next : ℕ) (made : NewObject) → left_in (budget_of next made) ≡ first_left made
first_left_is next (new.Sc ec cpu priority quantum) = refl
first_left_is next other = refl

abbrev lefts_paid : List (Option ℕ) → ℕ → ℕ → Option ℕ → List (Option ℕ)
lefts_paid ls sc quantum None = ls
lefts_paid ls sc quantum (Some left) = slice_set ls sc (Some (next_left quantum left))

-- what is left after a turn, by what was left before
abbrev pub lefts_after : List Object → List (Option ℕ) → ℕ → Option NewObject → List (Option ℕ)
lefts_after os ls sc made = lefts_paid (joined ls (option_map first_left made)) sc (quantum_in (slice_get os sc)) (entry (slice_get (joined ls (option_map first_left made)) sc))

paid_lefts : (bs : Budgets) (sc quantum next : ℕ) (o : Option Budget) → map left_in (budgets_paid bs sc quantum next o) ≡ lefts_paid (map left_in bs) sc quantum (left_in o)
paid_lefts bs sc quantum next None = refl
paid_lefts bs sc quantum next (Some b) =
    map_put left_in bs sc (Some (budget_after (is_spent b) quantum next b))
    ∙ ap (λ (n : ℕ). slice_set (map left_in bs) sc (Some n)) (left_after quantum next b)

made_lefts : (bs : Budgets) (next : ℕ) (made : Option NewObject) → map left_in (joined bs (option_map (budget_of next) made)) ≡ joined (map left_in bs) (option_map first_left made)
made_lefts bs next None = refl
made_lefts bs next (Some made) = map_joined left_in bs (Some (budget_of next made)) ∙ ap (λ (o : Option ℕ). map left_in bs ++ o ∷ []) (first_left_is next made)

pub lefts_turned : (os : List Object) (bs : Budgets) (next further sc : ℕ) (made : Option NewObject) →
    map left_in (budgets_paid (joined bs (option_map (budget_of next) made)) sc (quantum_in (slice_get os sc)) further (entry (slice_get (joined bs (option_map (budget_of next) made)) sc)))
    ≡ lefts_after os (map left_in bs) sc made
lefts_turned os bs next further sc made =
    paid_lefts grown sc (quantum_in (slice_get os sc)) further (entry (slice_get grown sc))
    ∙ ap (lefts_paid (map left_in grown) sc (quantum_in (slice_get os sc))) (sym (map_entry (λ (b : Budget). b.left) grown sc))
    ∙ ap (λ (ls : List (Option ℕ)). lefts_paid ls sc (quantum_in (slice_get os sc)) (entry (slice_get ls sc))) (made_lefts bs next made)
  where
    grown : Budgets
    grown = joined bs (option_map (budget_of next) made)

-- STAMPS

-- stamps below the next, but for one number that has the next
abbrev IsFresh : (ℕ → ℕ) → (ℕ → ℕ) → ℕ → ℕ → Type 0
IsFresh old new p next = (new p ≡ next) × ((n : ℕ) → n ≢ p → new n ≡ old n) × ((n : ℕ) → old n < next)

-- then the order is the same of any two, if it was the same of these where neither is that one
fresh_order : (s t u v : ℕ → ℕ) (p next further m n : ℕ) → IsFresh s t p next → IsFresh u v p further → (m ≢ p → n ≢ p → nat_lt (s m) (s n) ≡ nat_lt (u m) (u n)) → nat_lt (t m) (t n) ≡ nat_lt (v m) (v n)
fresh_order s t u v p next further m n first second same = by_places (place m p) (place n p)
  where
    at : (x : ℕ) → x ≡ p → t x ≡ next
    at x is = ap t is ∙ first.0

    at_second : (x : ℕ) → x ≡ p → v x ≡ further
    at_second x is = ap v is ∙ second.0

    below : (x : ℕ) → x ≢ p → t x < next
    below x other = subst (λ (y : ℕ). y < next) (sym (first.1 x other)) (first.2 x)

    below_second : (x : ℕ) → x ≢ p → v x < further
    below_second x other = subst (λ (y : ℕ). y < further) (sym (second.1 x other)) (second.2 x)

    by_places : (m ≡ p) ⊎ (m ≢ p) → (n ≡ p) ⊎ (n ≢ p) → nat_lt (t m) (t n) ≡ nat_lt (v m) (v n)
    by_places (inl a) (inl b) = ap₂ nat_lt (at m a) (at n b) ∙ not_less next ∙ sym (not_less further) ∙ sym (ap₂ nat_lt (at_second m a) (at_second n b))
    by_places (inl a) (inr b) =
        ap (λ (x : ℕ). nat_lt x (t n)) (at m a) ∙ less_false (t n) next (below n b)
        ∙ sym (ap (λ (x : ℕ). nat_lt x (v n)) (at_second m a) ∙ less_false (v n) further (below_second n b))
    by_places (inr a) (inl b) =
        ap (nat_lt (t m)) (at n b) ∙ less_true (t m) next (below m a)
        ∙ sym (ap (nat_lt (v m)) (at_second n b) ∙ less_true (v m) further (below_second m a))
    by_places (inr a) (inr b) = ap₂ nat_lt (first.1 m a) (first.1 n b) ∙ same a b ∙ sym (ap₂ nat_lt (second.1 m a) (second.1 n b))

abbrev pub AreBelow : Budgets → ℕ → Type 0
AreBelow bs next = (n : ℕ) → stamp_in (entry (slice_get bs n)) < next

-- AN OBJECT THAT IS MADE

-- nothing joins: each has the stamp that it had
pub same_end : (bs : Budgets) (n : ℕ) → stamp_of (bs ++ None ∷ []) n ≡ stamp_of bs n
same_end [] zero = refl
same_end [] (suc n) = refl
same_end (b ∷ bs) zero = refl
same_end (b ∷ bs) (suc n) = same_end bs n

fresh_end : (bs : Budgets) (next ec cpu priority quantum : ℕ) → AreBelow bs next → IsFresh (stamp_of bs) (stamp_of (bs ++ budget_of next (new.Sc ec cpu priority quantum) ∷ [])) (length bs) next
fresh_end bs next ec cpu priority quantum below = (
  ap (λ (o : Option (Option Budget)). stamp_in (entry o)) (get_last bs (budget_of next (new.Sc ec cpu priority quantum))),
  λ n other. ap (λ (o : Option (Option Budget)). stamp_in (entry o)) (joined_other bs (budget_of next (new.Sc ec cpu priority quantum)) n other),
  below,
)

-- peers of a table to which an object joined were peers, unless one of them is that object
peers_before : (os : List Object) (o : Object) (m n : ℕ) → m ≢ length os → n ≢ length os → ArePeers (os ++ o ∷ []) m n → ArePeers os m n
peers_before os o m n a b h = record {
  cpu = h.cpu;
  priority = h.priority;
  first_ec = h.first_ec;
  first_quantum = h.first_quantum;
  second_ec = h.second_ec;
  second_quantum = h.second_quantum;
  first = sym (joined_other os o m a) ∙ h.first;
  second = sym (joined_other os o n b) ∙ h.second;
}

-- which is no scheduling context
not_last : (os : List Object) (o : Object) (n ec cpu priority quantum : ℕ) → ((ec cpu priority quantum : ℕ) → o ≢ Sc ec cpu priority quantum) → slice_get (os ++ o ∷ []) n ≡ Some (Sc ec cpu priority quantum) → n ≢ length os
not_last os o n ec cpu priority quantum differs is at =
    let both : Some o ≡ Some (Sc ec cpu priority quantum) = sym (ap (slice_get (os ++ o ∷ [])) at ∙ get_last os o) ∙ is in
    let same : o ≡ Sc ec cpu priority quantum = cc in differs ec cpu priority quantum same

plain_ordered : (os : List Object) (o : Object) (bs cs : Budgets) → ((ec cpu priority quantum : ℕ) → o ≢ Sc ec cpu priority quantum) → AreOrdered os bs cs →
    AreOrdered (os ++ o ∷ []) (bs ++ None ∷ []) (cs ++ None ∷ [])
plain_ordered os o bs cs differs same m n h =
    ap₂ nat_lt (same_end bs m) (same_end bs n)
    ∙ same m n (peers_before os o m n (not_last os o m h.first_ec h.cpu h.priority h.first_quantum differs h.first) (not_last os o n h.second_ec h.cpu h.priority h.second_quantum differs h.second) h)
    ∙ sym (ap₂ nat_lt (same_end cs m) (same_end cs n))

made_ordered : (os : List Object) (bs cs : Budgets) (next further : ℕ) (made : NewObject) → length bs ≡ length os → length cs ≡ length os → AreBelow bs next → AreBelow cs further → AreOrdered os bs cs →
    AreOrdered (os ++ object_of made ∷ []) (bs ++ budget_of next made ∷ []) (cs ++ budget_of further made ∷ [])
made_ordered os bs cs next further (new.Sc ec cpu priority quantum) long too below under same = λ m n h.
    fresh_order (stamp_of bs) (stamp_of (bs ++ budget_of next made ∷ [])) (stamp_of cs) (stamp_of (cs ++ budget_of further made ∷ [])) (length os) next further m n
    (subst (λ (p : ℕ). IsFresh (stamp_of bs) (stamp_of (bs ++ budget_of next made ∷ [])) p next) long (fresh_end bs next ec cpu priority quantum below))
    (subst (λ (p : ℕ). IsFresh (stamp_of cs) (stamp_of (cs ++ budget_of further made ∷ [])) p further) too (fresh_end cs further ec cpu priority quantum under))
    (λ a b. same m n (peers_before os (object_of made) m n a b h))
  where
    made : NewObject
    made = new.Sc ec cpu priority quantum
made_ordered os bs cs next further new.Pd long too below under same = plain_ordered os _ bs cs (λ a b c d is. absurd (cc)) same
made_ordered os bs cs next further (new.Ec pd cpu kind sp event) long too below under same = plain_ordered os _ bs cs (λ a b c d is. absurd (cc)) same
made_ordered os bs cs next further (new.Pt ec mtd ip) long too below under same = plain_ordered os _ bs cs (λ a b c d is. absurd (cc)) same
made_ordered os bs cs next further (new.Sm count) long too below under same = plain_ordered os _ bs cs (λ a b c d is. absurd (cc)) same

made_below : (bs : Budgets) (next : ℕ) (made : NewObject) → AreBelow bs next → AreBelow (bs ++ budget_of next made ∷ []) (stamp_past next made)
made_below bs next (new.Sc ec cpu priority quantum) below n = elim (place n (length bs)) [
  | inl is ↦ (let f = fresh_end bs next ec cpu priority quantum below in let e = ap (stamp_of (bs ++ budget_of next (new.Sc ec cpu priority quantum) ∷ [])) is ∙ f.0 in omega (arith, e))
  | inr other ↦ (let f = fresh_end bs next ec cpu priority quantum below in let e = f.1 n other in let lt = below n in omega (arith, e, lt))
]
made_below bs next new.Pd below n = subst (λ (s : ℕ). s < next) (sym (same_end bs n)) (below n)
made_below bs next (new.Ec pd cpu kind sp event) below n = subst (λ (s : ℕ). s < next) (sym (same_end bs n)) (below n)
made_below bs next (new.Pt ec mtd ip) below n = subst (λ (s : ℕ). s < next) (sym (same_end bs n)) (below n)
made_below bs next (new.Sm count) below n = subst (λ (s : ℕ). s < next) (sym (same_end bs n)) (below n)

-- A CHARGE

-- the budget that is charged keeps its stamp, or has the next
spent_stamp : (t : Bool) (bs : Budgets) (sc quantum next : ℕ) (b : Budget) → entry (slice_get bs sc) ≡ Some b →
    stamp_of (slice_set bs sc (Some (budget_after t quantum next b))) sc ≡ (if t then next else stamp_of bs sc)
spent_stamp true bs sc quantum next b there = ap stamp_in (entry_itself bs sc (budget_after true quantum next b) (subst IsSome (sym there) refl))
spent_stamp false bs sc quantum next b there = ap stamp_in (entry_itself bs sc (budget_after false quantum next b) (subst IsSome (sym there) refl)) ∙ sym (ap stamp_in there)

others_stamp : (bs : Budgets) (sc n : ℕ) (b : Budget) → n ≢ sc → stamp_of (slice_set bs sc (Some b)) n ≡ stamp_of bs n
others_stamp bs sc n b other = ap stamp_in (entry_other bs sc n b other)

kept_stamp : (bs : Budgets) (sc quantum next n : ℕ) (b : Budget) → entry (slice_get bs sc) ≡ Some b → stamp_of (slice_set bs sc (Some (budget_after false quantum next b))) n ≡ stamp_of bs n
kept_stamp bs sc quantum next n b there = elim (place n sc) [
  | inl is ↦ subst (λ (x : ℕ). stamp_of (slice_set bs sc (Some (budget_after false quantum next b))) x ≡ stamp_of bs x) (sym is) (spent_stamp false bs sc quantum next b there)
  | inr other ↦ others_stamp bs sc n (budget_after false quantum next b) other
]

fresh_spent : (bs : Budgets) (sc quantum next : ℕ) (b : Budget) → entry (slice_get bs sc) ≡ Some b → AreBelow bs next →
    IsFresh (stamp_of bs) (stamp_of (slice_set bs sc (Some (budget_after true quantum next b)))) sc next
fresh_spent bs sc quantum next b there below =
    (spent_stamp true bs sc quantum next b there, λ n other. others_stamp bs sc n (budget_after true quantum next b) other, below)

charge_ordered : (os : List Object) (bs cs : Budgets) (sc quantum next further : ℕ) (o p : Option Budget) → entry (slice_get bs sc) ≡ o → entry (slice_get cs sc) ≡ p → left_in o ≡ left_in p →
    AreBelow bs next → AreBelow cs further → AreOrdered os bs cs → AreOrdered os (budgets_paid bs sc quantum next o) (budgets_paid cs sc quantum further p)
charge_ordered os bs cs sc quantum next further None None there also left below under same = same
charge_ordered os bs cs sc quantum next further None (Some c) there also left below under same = absurd (cc)
charge_ordered os bs cs sc quantum next further (Some b) None there also left below under same = absurd (cc)
charge_ordered os bs cs sc quantum next further (Some b) (Some c) there also left below under same = λ m n h.
    by_test m n h (is_spent b) (is_spent c) (let lefts : b.left ≡ c.left = cc in ap (λ (x : ℕ). x - 1 == 0) lefts)
  where
    by_test : (m n : ℕ) → ArePeers os m n → (t v : Bool) → t ≡ v →
        nat_lt (stamp_of (slice_set bs sc (Some (budget_after t quantum next b))) m) (stamp_of (slice_set bs sc (Some (budget_after t quantum next b))) n)
        ≡ nat_lt (stamp_of (slice_set cs sc (Some (budget_after v quantum further c))) m) (stamp_of (slice_set cs sc (Some (budget_after v quantum further c))) n)
    by_test m n h true true is =
        fresh_order (stamp_of bs) (stamp_of (slice_set bs sc (Some (budget_after true quantum next b)))) (stamp_of cs) (stamp_of (slice_set cs sc (Some (budget_after true quantum further c))))
        sc next further m n (fresh_spent bs sc quantum next b there below) (fresh_spent cs sc quantum further c also under) (λ a e. same m n h)
    by_test m n h false false is =
        ap₂ nat_lt (kept_stamp bs sc quantum next m b there) (kept_stamp bs sc quantum next n b there)
        ∙ same m n h
        ∙ sym (ap₂ nat_lt (kept_stamp cs sc quantum further m c also) (kept_stamp cs sc quantum further n c also))
    by_test m n h true false is = absurd (cc)
    by_test m n h false true is = absurd (cc)

charge_below : (bs : Budgets) (sc quantum next : ℕ) (o : Option Budget) → entry (slice_get bs sc) ≡ o → AreBelow bs next → AreBelow (budgets_paid bs sc quantum next o) (stamp_paid next o)
charge_below bs sc quantum next None there below = below
charge_below bs sc quantum next (Some b) there below = λ n. by_test n (is_spent b)
  where
    by_test : (n : ℕ) (t : Bool) → stamp_of (slice_set bs sc (Some (budget_after t quantum next b))) n < stamp_after t next
    by_test n false = subst (λ (s : ℕ). s < next) (sym (kept_stamp bs sc quantum next n b there)) (below n)
    by_test n true = elim (place n sc) [
      | inl is ↦ (
          let e = ap (stamp_of (slice_set bs sc (Some (budget_after true quantum next b)))) is ∙ spent_stamp true bs sc quantum next b there in
          omega (arith, e)
          )
      | inr other ↦ (let e = others_stamp bs sc n (budget_after true quantum next b) other in let lt = below n in omega (arith, e, lt))
    ]

-- A TURN THAT IS PAID

made_all_ordered : (os : List Object) (bs cs : Budgets) (next further : ℕ) (made : Option NewObject) → length bs ≡ length os → length cs ≡ length os → AreBelow bs next → AreBelow cs further → AreOrdered os bs cs →
    AreOrdered (joined os (option_map object_of made)) (joined bs (option_map (budget_of next) made)) (joined cs (option_map (budget_of further) made))
made_all_ordered os bs cs next further None long too below under same = same
made_all_ordered os bs cs next further (Some made) long too below under same = made_ordered os bs cs next further made long too below under same

made_all_below : (bs : Budgets) (next : ℕ) (made : Option NewObject) → AreBelow bs next → AreBelow (joined bs (option_map (budget_of next) made)) (stamp_with next made)
made_all_below bs next None below = below
made_all_below bs next (Some made) below = made_below bs next made below

abbrev pub grown_budgets : Budgets → ℕ → Option NewObject → Budgets
grown_budgets bs next made = joined bs (option_map (budget_of next) made)

pub turned_below : (bs : Budgets) (next sc quantum : ℕ) (made : Option NewObject) → AreBelow bs next →
    AreBelow (budgets_paid (grown_budgets bs next made) sc quantum (stamp_with next made) (entry (slice_get (grown_budgets bs next made) sc)))
    (stamp_paid (stamp_with next made) (entry (slice_get (grown_budgets bs next made) sc)))
turned_below bs next sc quantum made below =
    charge_below (grown_budgets bs next made) sc quantum (stamp_with next made) (entry (slice_get (grown_budgets bs next made) sc)) refl (made_all_below bs next made below)

pub turned_ordered : (os : List Object) (bs cs : Budgets) (next further sc quantum : ℕ) (made : Option NewObject) → length bs ≡ length os → map left_in bs ≡ map left_in cs →
    AreBelow bs next → AreBelow cs further → AreOrdered os bs cs →
    AreOrdered (joined os (option_map object_of made))
    (budgets_paid (grown_budgets bs next made) sc quantum (stamp_with next made) (entry (slice_get (grown_budgets bs next made) sc)))
    (budgets_paid (grown_budgets cs further made) sc quantum (stamp_with further made) (entry (slice_get (grown_budgets cs further made) sc)))
turned_ordered os bs cs next further sc quantum made long left below under same =
    charge_ordered (joined os (option_map object_of made)) (grown_budgets bs next made) (grown_budgets cs further made) sc quantum (stamp_with next made) (stamp_with further made)
    (entry (slice_get (grown_budgets bs next made) sc)) (entry (slice_get (grown_budgets cs further made) sc)) refl refl lefts
    (made_all_below bs next made below) (made_all_below cs further made under)
    (made_all_ordered os bs cs next further made long too below under same)
  where
    too : length cs ≡ length os
    too = sym (length-map cs left_in) ∙ ap length (sym left) ∙ length-map bs left_in ∙ long

    lefts : left_in (entry (slice_get (grown_budgets bs next made) sc)) ≡ left_in (entry (slice_get (grown_budgets cs further made) sc))
    lefts =
        sym (map_entry (λ (b : Budget). b.left) (grown_budgets bs next made) sc)
        ∙ ap (λ (ls : List (Option ℕ)). entry (slice_get ls sc))
        (made_lefts bs next made ∙ ap (λ (ls : List (Option ℕ)). joined ls (option_map first_left made)) left ∙ sym (made_lefts cs further made))
        ∙ map_entry (λ (b : Budget). b.left) (grown_budgets cs further made) sc
