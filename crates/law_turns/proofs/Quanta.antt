-- What is left of a quantum: at least 1, and at most all of it.
use Rattle.std.proofs.Common.{◌≡◌, ℕ, zero, suc, ◌≤◌, ◌-◌, ◌+◌, List, [], ◌∷◌, ◌++◌, length, inl, inr, refl, sym, ap, ◌∙◌, subst, arith}
use Rattle.std.specs.Prelude.{Bool, true, false, ◌==◌, slice_get, slice_set, Option, Some, None, IfSome}
use Rattle.nova_objects.specs.declared.object.Object.{Object}
use Rattle.nova_objects.specs.declared.object.Object.TheVariants.{Pd, Ec, Sc, Pt, Sm}
use Rattle.nova_model.specs.Boot.{Scenario, bare, boot}
use Rattle.nova_model.specs.Creation.{budget_of, object_of, stamp_past}
use Rattle.nova_model.specs.Runs.{run}
use Rattle.nova_model.specs.State.{KernelState, budget_at, entry}
use Rattle.nova_model.specs.Turn.{budget_after, is_spent, stamp_after}
use Rattle.nova_model.specs.declared.budget.Budget.{Budget}
use Rattle.nova_model.specs.declared.new_object.NewObject.{NewObject}
use Rattle.nova_model.specs.declared.new_object.NewObject.TheVariants as new
use Rattle.law_turns.specs.Scheduling.{HasTurnsLeft}
use Rattle.law_turns.proofs.Paying.{IsNew, Lasts, boot_run_holds}
use Rattle.law_turns.proofs.Setting.{entry_below, entry_joined, entry_set, get_below, get_joined, joined_length, set_length}

pub record IsWithin (quantum : ℕ) (b : Budget) : Type 0 where
  pub least : 1 ≤ b.left
  pub most : b.left ≤ quantum

abbrev pub IsOfQuantum : Object → Budget → Type 0
IsOfQuantum (Sc ec cpu priority quantum) b = IsWithin quantum b
IsOfQuantum other b = Unit {0}

pub record AreWithin (os : List Object) (bs : List (Option Budget)) (next : ℕ) : Type 0 where
  pub lengths : length bs ≡ length os
  pub within : (n : ℕ) (o : Object) (b : Budget) → slice_get os n ≡ Some o → entry (slice_get bs n) ≡ Some b → IsOfQuantum o b

new_within : (os : List Object) (next : ℕ) (made : NewObject) (o : Object) (b : Budget) → IsNew os made → object_of made ≡ o → budget_of next made ≡ Some b → IsOfQuantum o b
new_within os next (new.Sc ec cpu priority quantum) o b fresh object is =
    let left : quantum ≡ b.left = ap left_in is in
    let turns = fresh.2 in
    subst (λ (x : Object). IsOfQuantum x b) object (record { least = omega arith; most = omega arith })
  where
    left_in : Option Budget → ℕ
    left_in (Some x) = x.left
    left_in None = 0
new_within os next new.Pd o b fresh object is = absurd (cc)
new_within os next (new.Ec pd cpu kind sp event) o b fresh object is = absurd (cc)
new_within os next (new.Pt ec mtd ip) o b fresh object is = absurd (cc)
new_within os next (new.Sm count) o b fresh object is = absurd (cc)

more_within : (os : List Object) (bs : List (Option Budget)) (next : ℕ) (made : NewObject) → IsNew os made → AreWithin os bs next →
    AreWithin (os ++ object_of made ∷ []) (bs ++ budget_of next made ∷ []) (stamp_past next made)
more_within os bs next made fresh h = record {
  lengths = joined_length bs (budget_of next made) ∙ ap (λ (n : ℕ). n + 1) h.lengths ∙ sym (joined_length os (object_of made));
  within = λ n o b object budget. elim (get_joined os (object_of made) n o object) [
    | inl old ↦ elim (entry_joined bs (budget_of next made) n b budget) [
      | inl there ↦ h.within n o b old there
      | inr last ↦ (let lt = get_below os n o old in let e = last.0 in let l = h.lengths in absurd (omega arith))
    ]
    | inr new ↦ elim (entry_joined bs (budget_of next made) n b budget) [
      | inl there ↦ (let lt = entry_below bs n b there in let e = new.0 in let l = h.lengths in absurd (omega arith))
      | inr last ↦ new_within os next made o b fresh new.1 last.1
    ]
  ];
}

-- a budget that pays
spent_within : (quantum next : ℕ) (b : Budget) → IsWithin quantum b → IsWithin quantum (budget_after (is_spent b) quantum next b)
spent_within quantum next b h = by_test (is_spent b) refl
  where
    by_test : (t : Bool) → (b.left - 1 == 0) ≡ t → IsWithin quantum (budget_after t quantum next b)
    by_test true is = let least = h.least in let most = h.most in record { least = omega arith; most = omega arith }
    by_test false is = let least = h.least in let most = h.most in record { least = grind arith; most = omega arith }

set_within : (os : List Object) (bs : List (Option Budget)) (next after sc : ℕ) (its : Object) (x : Budget) → slice_get os sc ≡ Some its → IsOfQuantum its x →
    AreWithin os bs next → AreWithin os (slice_set bs sc (Some x)) after
set_within os bs next after sc its x object quantum h = record {
  lengths = set_length bs sc (Some x) ∙ h.lengths;
  within = λ n o b at budget. elim (entry_set bs sc n x b budget) [
    | inl itself ↦ (
        let same : Some its ≡ Some o = sym object ∙ ap (slice_get os) (sym itself.0) ∙ at in
        let one : its ≡ o = cc in
        subst (λ (y : Object). IsOfQuantum y b) one (subst (λ (y : Budget). IsOfQuantum its y) itself.1 quantum)
        )
    | inr other ↦ h.within n o b at other.1
  ];
}

quanta_last : Lasts AreWithin
quanta_last = record {
  more = λ os bs next made fresh h. more_within os bs next made fresh h;
  pays = λ os bs next sc ec cpu priority quantum b object there h.
      set_within os bs next (stamp_after (is_spent b) next) sc (Sc ec cpu priority quantum) (budget_after (is_spent b) quantum next b) object
      (spent_within quantum next b (h.within sc (Sc ec cpu priority quantum) b object there)) h;
}

root_within : (s : Scenario) → 1 ≤ s.root.quantum → (n : ℕ) (o : Object) (b : Budget) → slice_get (bare s.cpus s.ram s.consoles s.root).objects n ≡ Some o →
    budget_at (bare s.cpus s.ram s.consoles s.root) n ≡ Some b → IsOfQuantum o b
root_within s turns zero o b object is = absurd (cc)
root_within s turns (suc zero) o b object is = absurd (cc)
root_within s turns (suc (suc zero)) o b object is =
    let its : Sc 1 0 s.root.priority s.root.quantum ≡ o = cc in
    let same : record { left = s.root.quantum; stamp = 0; ticks = 0 } ≡ b = cc in
    let left : s.root.quantum ≡ b.left = ap (λ (x : Budget). x.left) same in
    subst (λ (y : Object). IsOfQuantum y b) its (record { least = omega arith; most = omega arith })
root_within s turns (suc (suc (suc n))) o b object is = absurd (cc)

run_within : (s : Scenario) (turns : List ℕ) → 1 ≤ s.root.quantum → AreWithin (run (boot s) turns).objects (run (boot s) turns).budgets (run (boot s) turns).next_stamp
run_within s turns whole = boot_run_holds AreWithin quanta_last s turns (record { lengths = refl; within = root_within s whole })

has_left : (k : KernelState) (n : ℕ) → AreWithin k.objects k.budgets k.next_stamp → (o : Object) → slice_get k.objects n ≡ Some o → HasTurnsLeft k n o
has_left k n h (Sc ec cpu priority quantum) object = by_budget (budget_at k n) refl
  where
    by_budget : (b : Option Budget) → budget_at k n ≡ b → IfSome b (λ x. (1 ≤ x.left) × (x.left ≤ quantum))
    by_budget None is = tt
    by_budget (Some b) is = let w = h.within n (Sc ec cpu priority quantum) b object is in (w.least, w.most)
has_left k n h Pd object = tt
has_left k n h (Ec pd cpu kind event) object = tt
has_left k n h (Pt ec mtd ip) object = tt
has_left k n h Sm object = tt

pub left_within : (s : Scenario) (turns : List ℕ) (n : ℕ) → 1 ≤ s.root.quantum →
    IfSome (slice_get (run (boot s) turns).objects n) (HasTurnsLeft (run (boot s) turns) n)
left_within s turns n whole = by_object (slice_get (run (boot s) turns).objects n) refl
  where
    by_object : (o : Option Object) → slice_get (run (boot s) turns).objects n ≡ o → IfSome o (HasTurnsLeft (run (boot s) turns) n)
    by_object None is = tt
    by_object (Some o) is = has_left (run (boot s) turns) n (run_within s turns whole) o is
