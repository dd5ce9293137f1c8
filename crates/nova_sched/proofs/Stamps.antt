-- Stamps are given once each, and so of those that may run only one is foremost.
use Rattle.std.proofs.Common.{◌≡◌, ℕ, zero, suc, ◌+◌, ◌-◌, ◌<◌, ◌≤◌, List, [], ◌∷◌, ◌++◌, length, refl, ap, sym, ◌∙◌, inl, inr, arith}
use Rattle.std.specs.Prelude.{◌==◌, ◌⊎◌, Bool, true, false, replicate, slice_set, Option, Some, None}
use Rattle.nova_model.specs.Turn.{is_spent, budget_after, stamp_after}
use Rattle.nova_sched.specs.Queues.{Schedule, queued_at, added, marked_by, charged_by, with_entry, new_entry}
use Rattle.nova_sched.specs.Lists.{entry_in}
use Rattle.nova_sched.specs.Precedence.{IsNotBehind, ChangesOne, AreStamped, StampsAreGivenOnce, ForemostIsAlone}
use Rattle.nova_sched.specs.declared.queued.Queued.{Queued}
use Rattle.nova_sched.proofs.Others.{set_other, added_changes_one}

-- a stamp that is the next, or was that of `sc` before
abbrev IsFresh : Schedule → Schedule → ℕ → ℕ → Type 0
IsFresh s t sc stamp = (s.next_stamp ≤ stamp) ⊎ ((x : Queued) × (queued_at s sc ≡ Some x) × (stamp ≡ x.budget.stamp))

record IsStampedAt (s t : Schedule) (sc : ℕ) : Type 0 where
  others : ChangesOne s sc t
  rising : s.next_stamp ≤ t.next_stamp
  below : (y : Queued) → queued_at t sc ≡ Some y → y.budget.stamp < t.next_stamp
  fresh : (y : Queued) → queued_at t sc ≡ Some y → IsFresh s t sc y.budget.stamp

below_at : (s t : Schedule) (sc : ℕ) → AreStamped s → IsStampedAt s t sc → (n : ℕ) (e : Queued) → queued_at t n ≡ Some e → e.budget.stamp < t.next_stamp
below_at s t sc are at n e is = by_place (n == sc) refl
  where
    by_place : (u : Bool) → (n == sc) ≡ u → e.budget.stamp < t.next_stamp
    by_place true place = let same : n ≡ sc = grind (arith, place) in at.below e (ap (queued_at t) (sym same) ∙ is)
    by_place false place =
        let before = are.below n e (sym (at.others n (λ same. absurd (grind (arith, place, same)))) ∙ is) in
        let rising = at.rising in omega arith

-- a scheduling context that changed and another that didn't
apart_at : (s t : Schedule) (sc : ℕ) → AreStamped s → IsStampedAt s t sc → (b : ℕ) (x y : Queued) → queued_at t sc ≡ Some x → ¬ (b ≡ sc) → queued_at t b ≡ Some y →
    x.budget.stamp ≡ y.budget.stamp → sc ≡ b
apart_at s t sc are at b x y is off of same = by_stamp (at.fresh x is)
  where
    before : queued_at s b ≡ Some y
    before = sym (at.others b off) ∙ of

    by_stamp : IsFresh s t sc x.budget.stamp → sc ≡ b
    by_stamp (inl next) = let lt = are.below b y before in absurd (omega arith)
    by_stamp (inr old) = are.apart sc b old.0 y old.1 before (sym old.2 ∙ same)

stamped_at : (s t : Schedule) (sc : ℕ) → AreStamped s → IsStampedAt s t sc → AreStamped t
stamped_at s t sc are at = record {
  below = below_at s t sc are at;
  apart = λ a b x y is of same. by_places a b x y is of same (a == sc) refl (b == sc) refl;
}
  where
    by_places : (a b : ℕ) (x y : Queued) → queued_at t a ≡ Some x → queued_at t b ≡ Some y → x.budget.stamp ≡ y.budget.stamp →
        (u : Bool) → (a == sc) ≡ u → (v : Bool) → (b == sc) ≡ v → a ≡ b
    by_places a b x y is of same true at_a true at_b = grind (arith, at_a, at_b)
    by_places a b x y is of same true at_a false at_b =
        let here : a ≡ sc = grind (arith, at_a) in
        here ∙ apart_at s t sc are at b x y (ap (queued_at t) (sym here) ∙ is) (λ e. absurd (grind (arith, at_b, e))) of same
    by_places a b x y is of same false at_a true at_b =
        let here : b ≡ sc = grind (arith, at_b) in
        sym (here ∙ apart_at s t sc are at a y x (ap (queued_at t) (sym here) ∙ of) (λ e. absurd (grind (arith, at_a, e))) is (sym same))
    by_places a b x y is of same false at_a false at_b =
        are.apart a b x y (sym (at.others a (λ e. absurd (grind (arith, at_a, e)))) ∙ is) (sym (at.others b (λ e. absurd (grind (arith, at_b, e)))) ∙ of) same

-- what stands where an entry was put

pub set_same : (os : List (Option Queued)) (sc : ℕ) (x y : Queued) → entry_in os sc ≡ Some x → entry_in (slice_set os sc (Some y)) sc ≡ Some y
set_same [] sc x y is = absurd cc
set_same (o ∷ os) zero x y is = refl
set_same (o ∷ os) (suc sc) x y is = set_same os sc x y is

pub appended_same : (os : List (Option Queued)) (k : ℕ) (x : Queued) → entry_in ((os ++ replicate k None) ++ Some x ∷ []) (length os + k) ≡ Some x
appended_same [] zero x = refl
appended_same [] (suc k) x = ap (entry_in (None ∷ (replicate k None ++ Some x ∷ []))) (let e : 0 + suc k ≡ suc (0 + k) = omega arith in e) ∙ appended_same [] k x
appended_same (o ∷ os) k x =
    ap (entry_in (o ∷ ((os ++ replicate k None) ++ Some x ∷ []))) (let e : suc (length os) + k ≡ suc (length os + k) = omega arith in e) ∙ appended_same os k x

stamp_of : (o : Option Queued) (x y : Queued) → o ≡ Some x → o ≡ Some y → y.budget.stamp ≡ x.budget.stamp
stamp_of o x y is of = let same : y ≡ x = let both : Some y ≡ Some x = sym of ∙ is in cc in ap (λ (e : Queued). e.budget.stamp) same

-- the changes

stamped_add : (s : Schedule) (sc cpu priority quantum : ℕ) → length s.entries ≤ sc → AreStamped s → AreStamped (added s sc cpu priority quantum)
stamped_add s sc cpu priority quantum le are =
    let here : queued_at (added s sc cpu priority quantum) sc ≡ Some (new_entry cpu priority quantum s.next_stamp) =
    ap (queued_at (added s sc cpu priority quantum)) (let e : sc ≡ length s.entries + (sc - length s.entries) = omega arith in e)
    ∙ appended_same s.entries (sc - length s.entries) (new_entry cpu priority quantum s.next_stamp) in
    stamped_at s (added s sc cpu priority quantum) sc are (record {
      others = added_changes_one s sc cpu priority quantum le;
      rising = omega arith;
      below = λ y of. let e = stamp_of _ _ y here of in omega arith;
      fresh = λ y of. let e = stamp_of _ _ y here of in inl (omega arith);
    })

stamped_mark : (s : Schedule) (sc : ℕ) (runnable : Bool) → AreStamped s → (o : Option Queued) → queued_at s sc ≡ o → AreStamped (marked_by s sc runnable o)
stamped_mark s sc runnable are None is = are
stamped_mark s sc runnable are (Some e) is =
    let here = set_same s.entries sc e (record e { is_runnable = runnable }) is in
    stamped_at s (with_entry s sc (record e { is_runnable = runnable })) sc are (record {
      others = λ other off. set_other s.entries sc other (Some (record e { is_runnable = runnable })) off;
      rising = omega arith;
      below = λ y of. let same = stamp_of _ _ y here of in let lt = are.below sc e is in omega arith;
      fresh = λ y of. inr (e, is, stamp_of _ _ y here of);
    })

stamped_charge : (s : Schedule) (sc : ℕ) → AreStamped s → (e : Queued) → queued_at s sc ≡ Some e → (t : Bool) →
    AreStamped (record s {
      entries = slice_set s.entries sc (Some (record e { budget = budget_after t e.quantum s.next_stamp e.budget }));
      next_stamp = stamp_after t s.next_stamp;
    })
stamped_charge s sc are e is true =
    let here = set_same s.entries sc e (record e { budget = budget_after true e.quantum s.next_stamp e.budget }) is in
    stamped_at s _ sc are (record {
      others = λ other off. set_other s.entries sc other (Some (record e { budget = budget_after true e.quantum s.next_stamp e.budget })) off;
      rising = omega arith;
      below = λ y of. let same = stamp_of _ _ y here of in omega arith;
      fresh = λ y of. let same = stamp_of _ _ y here of in inl (omega arith);
    })
stamped_charge s sc are e is false =
    let here = set_same s.entries sc e (record e { budget = budget_after false e.quantum s.next_stamp e.budget }) is in
    stamped_at s _ sc are (record {
      others = λ other off. set_other s.entries sc other (Some (record e { budget = budget_after false e.quantum s.next_stamp e.budget })) off;
      rising = omega arith;
      below = λ y of. let same = stamp_of _ _ y here of in let lt = are.below sc e is in omega arith;
      fresh = λ y of. inr (e, is, stamp_of _ _ y here of);
    })

stamped_charged : (s : Schedule) (sc : ℕ) → AreStamped s → (o : Option Queued) → queued_at s sc ≡ o → AreStamped (charged_by s sc o)
stamped_charged s sc are None is = are
stamped_charged s sc are (Some e) is = stamped_charge s sc are e is (is_spent e.budget)

pub stamps_are_given_once : StampsAreGivenOnce
stamps_are_given_once = record {
  none = λ cpus. record {
    below = λ sc e is. absurd cc;
    apart = λ a b x y is of same. absurd cc;
  };
  add = stamped_add;
  mark = λ s sc runnable are. stamped_mark s sc runnable are (queued_at s sc) refl;
  charge = λ s sc are. stamped_charged s sc are (queued_at s sc) refl;
}

same_stamp : (x y : Queued) → IsNotBehind x y → IsNotBehind y x → x.budget.stamp ≡ y.budget.stamp
same_stamp x y (inl a) (inl b) = absurd (omega arith)
same_stamp x y (inl a) (inr b) = let e = b.0 in absurd (omega arith)
same_stamp x y (inr a) (inl b) = let e = a.0 in absurd (omega arith)
same_stamp x y (inr a) (inr b) = let l = a.1 in let m = b.1 in omega arith

pub foremost_is_alone : ForemostIsAlone
foremost_is_alone s cpu a b are x y =
    are.apart a b x.chosen y.chosen x.there y.there
    (same_stamp x.chosen y.chosen (x.first b y.chosen y.there y.may_run) (y.first a x.chosen x.there x.may_run))
