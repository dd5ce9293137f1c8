-- Stamps: each is given once, and the next is greater than all.
use Rattle.std.proofs.Common.{◌≡◌, ℕ, zero, suc, ◌<◌, ◌≤◌, ◌+◌, List, [], ◌∷◌, ◌++◌, inl, inr, refl, sym, ap, ◌∙◌, subst, arith}
use Rattle.std.specs.Prelude.{◌≢◌, ◌⊎◌, Bool, true, false, ◌==◌, slice_get, slice_set, Option, Some, None, IfSome}
use Rattle.std.specs.List.{Contains}
use Rattle.std.proofs.lemmas.Bool.{eqb-true}
use Rattle.nova_objects.specs.declared.object.Object.{Object}
use Rattle.nova_model.specs.Boot.{Scenario, bare, boot}
use Rattle.nova_model.specs.Choice.{Candidate, candidates, choice}
use Rattle.nova_model.specs.Creation.{budget_of, object_of, stamp_past}
use Rattle.nova_model.specs.Runs.{after, run}
use Rattle.nova_model.specs.State.{KernelState, budget_at, entry}
use Rattle.nova_model.specs.Turn.{budget_after, is_spent, stamp_after}
use Rattle.nova_model.specs.declared.budget.Budget.{Budget}
use Rattle.nova_model.specs.declared.new_object.NewObject.{NewObject}
use Rattle.nova_model.specs.declared.new_object.NewObject.TheVariants as new
use Rattle.law_turns.specs.Choices.{IsBest, IsOnlyBest}
use Rattle.law_turns.proofs.Best.{choice_best}
use Rattle.law_turns.proofs.Candidates.{IsCandidate, each_candidate, same_candidate, schedule_of}
use Rattle.law_forest.proofs.Turning.{event_at}
use Rattle.law_turns.proofs.Paying.{Adds, AddsNone, AddsOne, Comes, Idles, Lasts, Passes, Takes, boot_run_holds, comes}
use Rattle.law_turns.proofs.Setting.{entry_joined, entry_set}

pub record AreStamped (os : List Object) (bs : List (Option Budget)) (next : ℕ) : Type 0 where
  pub below : (n : ℕ) (b : Budget) → entry (slice_get bs n) ≡ Some b → b.stamp < next
  pub apart : (m n : ℕ) (a b : Budget) → entry (slice_get bs m) ≡ Some a → entry (slice_get bs n) ≡ Some b → a.stamp ≡ b.stamp → m ≡ n

-- a new budget has the stamp that was next, and the next stamp is past it
pub new_stamp : (next : ℕ) (made : NewObject) (b : Budget) → budget_of next made ≡ Some b → (b.stamp ≡ next) × (stamp_past next made ≡ next + 1)
new_stamp next (new.Sc ec cpu priority quantum) b is = (sym (ap stamp_in is), refl)
  where
    stamp_in : Option Budget → ℕ
    stamp_in (Some x) = x.stamp
    stamp_in None = 0
new_stamp next new.Pd b is = absurd (cc)
new_stamp next (new.Ec pd cpu kind sp event) b is = absurd (cc)
new_stamp next (new.Pt ec mtd ip) b is = absurd (cc)
new_stamp next (new.Sm count) b is = absurd (cc)

stamp_rises : (next : ℕ) (made : NewObject) → (next ≤ stamp_past next made) × (stamp_past next made ≤ next + 1)
stamp_rises next (new.Sc ec cpu priority quantum) = (omega arith, omega arith)
stamp_rises next new.Pd = (omega arith, omega arith)
stamp_rises next (new.Ec pd cpu kind sp event) = (omega arith, omega arith)
stamp_rises next (new.Pt ec mtd ip) = (omega arith, omega arith)
stamp_rises next (new.Sm count) = (omega arith, omega arith)

more_stamped : (os : List Object) (bs : List (Option Budget)) (next : ℕ) (made : NewObject) → AreStamped os bs next →
    AreStamped (os ++ object_of made ∷ []) (bs ++ budget_of next made ∷ []) (stamp_past next made)
more_stamped os bs next made h = record {
  below = λ n b at. elim (entry_joined bs (budget_of next made) n b at) [
    | inl there ↦ (let lt = h.below n b there in let up = (stamp_rises next made).0 in omega arith)
    | inr new ↦ (let s = new_stamp next made b new.1 in let e = s.0 in let p = s.1 in omega arith)
  ];
  apart = λ m n a b first second same. elim (entry_joined bs (budget_of next made) m a first) [
    | inl there ↦ elim (entry_joined bs (budget_of next made) n b second) [
      | inl other ↦ h.apart m n a b there other same
      | inr new ↦ (let lt = h.below m a there in let e = (new_stamp next made b new.1).0 in absurd (omega arith))
    ]
    | inr new ↦ elim (entry_joined bs (budget_of next made) n b second) [
      | inl other ↦ (let lt = h.below n b other in let e = (new_stamp next made a new.1).0 in absurd (omega arith))
      | inr too ↦ new.0 ∙ sym too.0
    ]
  ];
}

-- a budget that pays keeps its stamp, or takes the next
abbrev IsRestamped : ℕ → ℕ → Budget → Budget → Type 0
IsRestamped next after b x = ((x.stamp ≡ b.stamp) × (after ≡ next)) ⊎ ((x.stamp ≡ next) × (after ≡ next + 1))

restamped : (next quantum : ℕ) (b : Budget) (t : Bool) → IsRestamped next (stamp_after t next) b (budget_after t quantum next b)
restamped next quantum b true = inr (refl, refl)
restamped next quantum b false = inl (refl, refl)

set_stamped : (os : List Object) (bs : List (Option Budget)) (next after sc : ℕ) (b x : Budget) → entry (slice_get bs sc) ≡ Some b → IsRestamped next after b x →
    AreStamped os bs next → AreStamped os (slice_set bs sc (Some x)) after
set_stamped os bs next after sc b x its stamp h = record {
  below = λ n y at. elim (entry_set bs sc n x y at) [
    | inl itself ↦ subst (λ (z : Budget). z.stamp < after) itself.1 itself_below
    | inr other ↦ (let lt = h.below n y other.1 in let up = rises in omega arith)
  ];
  apart = λ m n y z first second same. elim (entry_set bs sc m x y first) [
    | inl itself ↦ elim (entry_set bs sc n x z second) [
      | inl too ↦ itself.0 ∙ sym too.0
      | inr other ↦ absurd (other.0 (sym (alone n z other.1 (ap (λ (u : Budget). u.stamp) itself.1 ∙ same))))
    ]
    | inr other ↦ elim (entry_set bs sc n x z second) [
      | inl itself ↦ absurd (other.0 (sym (alone m y other.1 (ap (λ (u : Budget). u.stamp) itself.1 ∙ sym same))))
      | inr too ↦ h.apart m n y z other.1 too.1 same
    ]
  ];
}
  where
    its_below : b.stamp < next
    its_below = h.below sc b its

    rises : next ≤ after
    rises = elim stamp [
      | inl kept ↦ (let e = kept.1 in omega arith)
      | inr new ↦ (let e = new.1 in omega arith)
    ]

    itself_below : x.stamp < after
    itself_below = elim stamp [
      | inl kept ↦ (let e = kept.0 in let p = kept.1 in let lt = its_below in omega arith)
      | inr new ↦ (let e = new.0 in let p = new.1 in omega arith)
    ]

    -- another of its new stamp is itself
    alone : (n : ℕ) (z : Budget) → entry (slice_get bs n) ≡ Some z → x.stamp ≡ z.stamp → sc ≡ n
    alone n z at same = elim stamp [
      | inl kept ↦ h.apart sc n b z its at (sym kept.0 ∙ same)
      | inr new ↦ (let lt = h.below n z at in let e = new.0 in absurd (omega arith))
    ]

stamps_last : Lasts AreStamped
stamps_last = record {
  more = λ os bs next made new h. more_stamped os bs next made h;
  pays = λ os bs next sc ec cpu priority quantum b object its h.
      set_stamped os bs next (stamp_after (is_spent b) next) sc b (budget_after (is_spent b) quantum next b) its (restamped next quantum b (is_spent b)) h;
}

root_stamped : (s : Scenario) (n : ℕ) (b : Budget) → budget_at (bare s.cpus s.ram s.consoles s.root) n ≡ Some b → (n ≡ 2) × (b.stamp ≡ 0)
root_stamped s zero b is = absurd (cc)
root_stamped s (suc zero) b is = absurd (cc)
root_stamped s (suc (suc zero)) b is = let same : record { left = s.root.quantum; stamp = 0; ticks = 0 } ≡ b = cc in (refl, sym (ap (λ (x : Budget). x.stamp) same))
root_stamped s (suc (suc (suc n))) b is = absurd (cc)

pub run_stamped : (s : Scenario) (turns : List ℕ) → AreStamped (run (boot s) turns).objects (run (boot s) turns).budgets (run (boot s) turns).next_stamp
run_stamped s turns = boot_run_holds AreStamped stamps_last s turns (record {
  below = λ n b at. let e = (root_stamped s n b at).1 in omega arith;
  apart = λ m n a b first second same. (root_stamped s m a first).0 ∙ sym (root_stamped s n b second).0;
})

pub stamps_below : (s : Scenario) (turns : List ℕ) (n : ℕ) → IfSome (budget_at (run (boot s) turns) n) (λ b. b.stamp < (run (boot s) turns).next_stamp)
stamps_below s turns n = by_budget (budget_at (run (boot s) turns) n) refl
  where
    by_budget : (o : Option Budget) → budget_at (run (boot s) turns) n ≡ o → IfSome o (λ b. b.stamp < (run (boot s) turns).next_stamp)
    by_budget None is = tt
    by_budget (Some b) is = (run_stamped s turns).below n b is

pub stamps_apart : (s : Scenario) (turns : List ℕ) (m n : ℕ) (a b : Budget) → budget_at (run (boot s) turns) m ≡ Some a → budget_at (run (boot s) turns) n ≡ Some b →
    a.stamp ≡ b.stamp → m ≡ n
stamps_apart s turns = (run_stamped s turns).apart

-- A TURN NEVER LOWERS THE NEXT STAMP

pub record Rises (old new by : ℕ) : Type 0 where
  pub least : old ≤ new
  pub most : new ≤ old + by

pub adds_rise : (k s : KernelState) (ec : ℕ) → Adds k s ec → Rises k.next_stamp s.next_stamp 1
adds_rise k s ec (AddsNone objects budgets next) = record { least = omega arith; most = omega arith }
adds_rise k s ec (AddsOne made bound objects budgets next) =
    let r = stamp_rises k.next_stamp made in
    let least = r.0 in
    let most = r.1 in record { least = omega arith; most = omega arith }

pub after_rises : (next : ℕ) (t : Bool) → Rises next (stamp_after t next) 1
after_rises next true = record { least = omega arith; most = omega arith }
after_rises next false = record { least = omega arith; most = omega arith }

pub turn_rises : (k : KernelState) (cpu : ℕ) → k.next_stamp ≤ (after k cpu).next_stamp
turn_rises k cpu = by_turn (after k cpu) (comes k cpu)
  where
    by_turn : (s : KernelState) → Comes k s cpu (event_at k cpu) → k.next_stamp ≤ s.next_stamp
    by_turn s (Idles idle is event) = rw is (omega arith)
    by_turn s (Passes p is none event) = rw is (omega arith)
    by_turn s (Takes c chosen t event) =
        let first = (adds_rise k t.between c.actor t.adds).least in
        let second = (after_rises t.between.next_stamp (is_spent t.its.budget)).least in
        let next = t.next in omega arith

-- THE BEST IS THE ONLY ONE

pub only_best : (s : Scenario) (turns : List ℕ) (cpu : ℕ) → IfSome (choice (run (boot s) turns) cpu) (IsOnlyBest (candidates (run (boot s) turns) cpu))
only_best s turns cpu = by_choice (choice (run (boot s) turns) cpu) (choice_best (run (boot s) turns) cpu)
  where
    k : KernelState
    k = run (boot s) turns

    lesser : (c d : Candidate) → Contains (candidates k cpu) c → Contains (candidates k cpu) d → d ≢ c → c.stamp ≤ d.stamp → c.stamp < d.stamp
    lesser c d first second other least =
        let one = each_candidate k cpu c first in
        let two = each_candidate k cpu d second in
        let its = schedule_of k cpu c one in
        let that = schedule_of k cpu d two in
        by_test (c.stamp == d.stamp) refl one two its.budget that.budget its.there that.there its.stamp that.stamp
      where
        by_test : (t : Bool) → (c.stamp == d.stamp) ≡ t → IsCandidate k cpu c → IsCandidate k cpu d → (a b : Budget) → budget_at k c.sc ≡ Some a → budget_at k d.sc ≡ Some b →
            c.stamp ≡ a.stamp → d.stamp ≡ b.stamp → c.stamp < d.stamp
        by_test true is one two a b at there its that =
            let same : c.stamp ≡ d.stamp = eqb-true c.stamp d.stamp is in
            absurd (other (sym (same_candidate k cpu c d one two ((run_stamped s turns).apart c.sc d.sc a b at there (sym its ∙ same ∙ that)))))
        by_test false is one two a b at there its that = grind arith

    by_choice : (o : Option Candidate) → IfSome o (IsBest (candidates k cpu)) → IfSome o (IsOnlyBest (candidates k cpu))
    by_choice None best = tt
    by_choice (Some c) best = record {
      there = best.there;
      before = λ d there other. elim (best.greatest d there) [
        | inl less ↦ inl less
        | inr same ↦ inr (same.0, lesser c d best.there there other same.1)
      ];
    }
