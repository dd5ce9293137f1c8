-- Two scheduling contexts of two processors are charged in either order: what is left is the same, and the order of stamps of those that compete.
use Rattle.std.proofs.Common.{◌≡◌, ◌≢◌, ℕ, List, map, length, refl, sym, ap, ap₂, ◌∙◌, inl, inr, arith}
use Rattle.std.specs.Prelude.{◌⊎◌, Bool, true, false, nat_lt, slice_get, slice_set, Option, Some, None}
use Rattle.std.proofs.lemmas.Bool.{cases_eq}
use Rattle.std.proofs.lemmas.Option.{same_Some}
use Rattle.nova_objects.specs.declared.object.Object.{Object}
use Rattle.nova_objects.specs.declared.object.Object.TheVariants.{Sc}
use Rattle.nova_model.specs.State.{entry}
use Rattle.nova_model.specs.Turn.{budget_after, is_spent, quantum_in, stamp_after}
use Rattle.nova_model.specs.declared.budget.Budget.{Budget}
use Rattle.law_forest.specs.Turns.{budgets_charged, budgets_paid, stamp_charged, stamp_paid}
use Rattle.law_turns.specs.Budgets.{left_in, stamp_in}
use Rattle.law_turns.proofs.Setting.{get_other, set_both}
use Rattle.law_alike.specs.Alike.{ArePeers}
use Rattle.law_alike.proofs.Lists.{map_put}
use Rattle.law_alike.proofs.Paying.{AreBelow, turned_ordered}

abbrev Budgets : Type 0
Budgets = List (Option Budget)

-- two are paid in either order
pub paid_both : (bs : Budgets) (x y q r m n : ℕ) (o p : Option Budget) → y ≢ x → budgets_paid (budgets_paid bs x q m o) y r n p ≡ budgets_paid (budgets_paid bs y r n p) x q m o
paid_both bs x y q r m n None None other = refl
paid_both bs x y q r m n None (Some c) other = refl
paid_both bs x y q r m n (Some b) None other = refl
paid_both bs x y q r m n (Some b) (Some c) other = set_both bs x y _ _ other

pub paid_other : (bs : Budgets) (x q m n : ℕ) (o : Option Budget) → n ≢ x → slice_get (budgets_paid bs x q m o) n ≡ slice_get bs n
paid_other bs x q m n None other = refl
paid_other bs x q m n (Some b) other = get_other bs x n _ other

-- WHAT IS LEFT

abbrev left_after : Bool → ℕ → Budget → ℕ
left_after true quantum b = quantum
left_after false quantum b = (budget_after false quantum 0 b).left

left_is : (t : Bool) (quantum stamp : ℕ) (b : Budget) → left_in (Some (budget_after t quantum stamp b)) ≡ Some (left_after t quantum b)
left_is true quantum stamp b = refl
left_is false quantum stamp b = refl

pub lefts_paid : (bs : Budgets) (x q m n : ℕ) (o : Option Budget) → map left_in (budgets_paid bs x q m o) ≡ map left_in (budgets_paid bs x q n o)
lefts_paid bs x q m n None = refl
lefts_paid bs x q m n (Some b) =
    map_put left_in bs x (Some (budget_after (is_spent b) q m b))
    ∙ ap (slice_set (map left_in bs) x) (left_is (is_spent b) q m b ∙ sym (left_is (is_spent b) q n b))
    ∙ sym (map_put left_in bs x (Some (budget_after (is_spent b) q n b)))

pub lefts_over : (bs cs : Budgets) (x q m : ℕ) (o : Option Budget) → map left_in bs ≡ map left_in cs → map left_in (budgets_paid bs x q m o) ≡ map left_in (budgets_paid cs x q m o)
lefts_over bs cs x q m None same = same
lefts_over bs cs x q m (Some b) same =
    map_put left_in bs x (Some (budget_after (is_spent b) q m b))
    ∙ ap (λ (ls : List (Option ℕ)). slice_set ls x (left_in (Some (budget_after (is_spent b) q m b)))) same
    ∙ sym (map_put left_in cs x (Some (budget_after (is_spent b) q m b)))

-- OF A STATE

-- a scheduling context of a processor
abbrev pub IsOn : List Object → ℕ → ℕ → Type 0
IsOn os sc cpu = (ec priority quantum : ℕ) × (slice_get os sc ≡ Some (Sc ec cpu priority quantum))

pub other_schedule : (os : List Object) (x y ec p q priority quantum : ℕ) → p ≢ q → IsOn os x p → slice_get os y ≡ Some (Sc ec q priority quantum) → y ≢ x
other_schedule os x y ec p q priority quantum other (its, its_priority, its_quantum, at) is same =
    let both : Sc its p its_priority its_quantum ≡ Sc ec q priority quantum = same_Some _ _ (sym at ∙ (ap (slice_get os) (sym same) ∙ is)) in
    let one : p ≡ q = cc in other one

abbrev pub entry_of : Budgets → ℕ → Option Budget
entry_of bs n = entry (slice_get bs n)

-- charged one after the other, each by what is there then
abbrev pub charged_both : List Object → Budgets → ℕ → ℕ → ℕ → Budgets
charged_both os bs stamp x y = budgets_charged os (budgets_charged os bs stamp (Some x)) (stamp_charged bs stamp (Some x)) (Some y)

abbrev pub quantum_at : List Object → ℕ → ℕ
quantum_at os n = quantum_in (slice_get os n)

-- by what was there at first
abbrev paid_twice : List Object → Budgets → ℕ → ℕ → ℕ → ℕ → Budgets
paid_twice os bs m n x y = budgets_paid (budgets_paid bs x (quantum_at os x) m (entry_of bs x)) y (quantum_at os y) n (entry_of bs y)

charged_is : (os : List Object) (bs : Budgets) (stamp x y : ℕ) → y ≢ x → charged_both os bs stamp x y ≡ paid_twice os bs stamp (stamp_paid stamp (entry_of bs x)) x y
charged_is os bs stamp x y other =
    ap (λ (o : Option (Option Budget)). budgets_paid (budgets_paid bs x (quantum_at os x) stamp (entry_of bs x)) y (quantum_at os y) (stamp_paid stamp (entry_of bs x)) (entry o))
    (paid_other bs x (quantum_at os x) stamp y (entry_of bs x) other)

pub lefts_both : (os : List Object) (bs : Budgets) (stamp x y : ℕ) → y ≢ x → map left_in (charged_both os bs stamp x y) ≡ map left_in (charged_both os bs stamp y x)
lefts_both os bs stamp x y other =
    ap (map left_in) (charged_is os bs stamp x y other)
    ∙ lefts_paid (budgets_paid bs x (quantum_at os x) stamp (entry_of bs x)) y (quantum_at os y) (stamp_paid stamp (entry_of bs x)) stamp (entry_of bs y)
    ∙ ap (map left_in) (paid_both bs x y (quantum_at os x) (quantum_at os y) stamp stamp (entry_of bs x) (entry_of bs y) other)
    ∙ lefts_paid (budgets_paid bs y (quantum_at os y) stamp (entry_of bs y)) x (quantum_at os x) stamp (stamp_paid stamp (entry_of bs y)) (entry_of bs x)
    ∙ sym (ap (map left_in) (charged_is os bs stamp y x (λ same. other (sym same))))

-- THE ORDER OF STAMPS

abbrev pub is_less : Budgets → ℕ → ℕ → Bool
is_less bs m n = nat_lt (stamp_in (entry_of bs m)) (stamp_in (entry_of bs n))

pub less_same : (bs cs : Budgets) (m n : ℕ) → slice_get bs m ≡ slice_get cs m → slice_get bs n ≡ slice_get cs n → is_less bs m n ≡ is_less cs m n
less_same bs cs m n first second = ap₂ (λ (o p : Option (Option Budget)). nat_lt (stamp_in (entry o)) (stamp_in (entry p))) first second

pub later_below : (bs : Budgets) (stamp : ℕ) (o : Option Budget) → AreBelow bs stamp → AreBelow bs (stamp_paid stamp o)
later_below bs stamp None below = below
later_below bs stamp (Some b) below = by_test (is_spent b)
  where
    by_test : (t : Bool) → AreBelow bs (stamp_after t stamp)
    by_test true = λ n. let less = below n in omega (arith, less)
    by_test false = below

pub order_both : (os : List Object) (bs : Budgets) (stamp x y p q i j : ℕ) → length bs ≡ length os → AreBelow bs stamp → p ≢ q → IsOn os x p → IsOn os y q → ArePeers os i j →
    is_less (charged_both os bs stamp x y) i j ≡ is_less (charged_both os bs stamp y x) i j
order_both os bs stamp x y p q i j long below other on too peers =
    ap (λ (cs : Budgets). is_less cs i j) (charged_is os bs stamp x y apart)
    ∙ by_processor (cases_eq peers.cpu p)
    ∙ sym (ap (λ (cs : Budgets). is_less cs i j) (charged_is os bs stamp y x (λ same. apart (sym same))))
  where
    apart : y ≢ x
    apart = other_schedule os x y too.0 p q too.1 too.2 other on too.3

    later : ℕ
    later = stamp_paid stamp (entry_of bs x)

    later_too : ℕ
    later_too = stamp_paid stamp (entry_of bs y)

    -- neither is that of a processor that isn't theirs
    first_not : (n cpu : ℕ) → cpu ≢ peers.cpu → IsOn os n cpu → i ≢ n
    first_not n cpu far is = other_schedule os n i peers.first_ec cpu peers.cpu peers.priority peers.first_quantum far is peers.first

    second_not : (n cpu : ℕ) → cpu ≢ peers.cpu → IsOn os n cpu → j ≢ n
    second_not n cpu far is = other_schedule os n j peers.second_ec cpu peers.cpu peers.priority peers.second_quantum far is peers.second

    -- where they are none of the second's, only the first is seen
    without : (m n z w : ℕ) → i ≢ w → j ≢ w → is_less (paid_twice os bs m n z w) i j ≡ is_less (budgets_paid bs z (quantum_at os z) m (entry_of bs z)) i j
    without m n z w a b =
        less_same (paid_twice os bs m n z w) (budgets_paid bs z (quantum_at os z) m (entry_of bs z)) i j
        (paid_other _ w (quantum_at os w) n i (entry_of bs w) a) (paid_other _ w (quantum_at os w) n j (entry_of bs w) b)

    turned_round : (m n z w : ℕ) → w ≢ z → is_less (paid_twice os bs m n z w) i j ≡ is_less (paid_twice os bs n m w z) i j
    turned_round m n z w far = ap (λ (cs : Budgets). is_less cs i j) (paid_both bs z w (quantum_at os z) (quantum_at os w) m n (entry_of bs z) (entry_of bs w) far)

    -- of the first's processor
    by_first : q ≢ peers.cpu → is_less (paid_twice os bs stamp later x y) i j ≡ is_less (paid_twice os bs stamp later_too y x) i j
    by_first far =
        without stamp later x y (first_not y q far too) (second_not y q far too)
        ∙ turned_ordered os bs bs stamp later_too x (quantum_at os x) None long refl below (later_below bs stamp (entry_of bs y) below) (λ c d h. refl) i j peers
        ∙ sym (without later_too stamp x y (first_not y q far too) (second_not y q far too))
        ∙ turned_round later_too stamp x y apart

    -- and of any other
    by_second : p ≢ peers.cpu → is_less (paid_twice os bs stamp later x y) i j ≡ is_less (paid_twice os bs stamp later_too y x) i j
    by_second far =
        turned_round stamp later x y apart
        ∙ without later stamp y x (first_not x p far on) (second_not x p far on)
        ∙ turned_ordered os bs bs later stamp y (quantum_at os y) None long refl (later_below bs stamp (entry_of bs x) below) below (λ c d h. refl) i j peers
        ∙ sym (without stamp later_too y x (first_not x p far on) (second_not x p far on))

    by_processor : (peers.cpu ≡ p) ⊎ (peers.cpu ≢ p) → is_less (paid_twice os bs stamp later x y) i j ≡ is_less (paid_twice os bs stamp later_too y x) i j
    by_processor (inl here) = by_first (λ same. other (sym here ∙ sym same))
    by_processor (inr away) = by_second (λ same. away (sym same))
