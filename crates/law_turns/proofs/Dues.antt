-- What is due is there: an alarm of the processor that goes on, or the deadline of an execution context there.
use Rattle.std.proofs.Common.{◌≡◌, ℕ, suc, ◌+◌, List, [], ◌∷◌, refl, ap, ◌∙◌, subst, arith}
use Rattle.std.specs.Prelude.{◌==◌, ◌&&◌, Bool, true, false, nat_le, cond, slice_get, Option, Some, None, IfSome, option_and_then, if◌then◌else◌}
use Rattle.std.specs.List.{AllByRecursion, find}
use Rattle.std.proofs.lemmas.Bool.{eqb-true}
use Rattle.nova_model.specs.State.{deadline_of, entry}
use Rattle.law_forest.proofs.Boots.{both_all}
use Rattle.law_turns.specs.Moments.{IsDueOn, IsEntry, IsEntryOf}
use Rattle.nova_model.specs.Times.{Entry, Times, alarm_entries, alarm_entry, before_rest, clock, deadline_entries, deadline_entry, due_on, entries, goes_on, if_due, next_entry}
use Rattle.nova_model.specs.declared.times.AlarmState.{AlarmState}
use Rattle.nova_model.specs.declared.times.Deadline.{Deadline}
use Rattle.nova_model.specs.declared.times.Due.{Due}
use Rattle.nova_model.specs.declared.times.Due.TheVariants as due

front_all : (P : Entry → Type 0) (o : Option Entry) (es : List Entry) → IfSome o P → AllByRecursion P es → AllByRecursion P (before_rest o es)
front_all P None es first others = others
front_all P (Some e) es first others = (first, others)

alarm_is : (t : Times) (cpu n : ℕ) (a : AlarmState) → slice_get t.alarms n ≡ Some a → IfSome (alarm_entry cpu n a) (IsEntryOf t cpu)
alarm_is t cpu n a there = by_test (a.alarm.cpu == cpu) refl (goes_on a) refl
  where
    by_test : (here : Bool) → (a.alarm.cpu == cpu) ≡ here → (more : Bool) → goes_on a ≡ more →
        IfSome (if here && more then Some (record { moment = a.next; what = due.Alarm n }) else None) (IsEntryOf t cpu)
    by_test true is true more = record { alarm = a; there = there; its = eqb-true a.alarm.cpu cpu is; more = more; next = refl }
    by_test true is false more = tt
    by_test false is more goes = tt

deadline_is : (t : Times) (cpu ec : ℕ) (o : Option Deadline) → deadline_of t ec ≡ o → IfSome (deadline_entry cpu ec o) (IsEntryOf t cpu)
deadline_is t cpu ec None there = tt
deadline_is t cpu ec (Some d) there = by_test (d.cpu == cpu) refl
  where
    by_test : (here : Bool) → (d.cpu == cpu) ≡ here → IfSome (if here then Some (record { moment = d.at; what = due.Deadline ec }) else None) (IsEntryOf t cpu)
    by_test true is = record { deadline = d; there = there; its = eqb-true d.cpu cpu is; at = refl }
    by_test false is = tt

-- those that are numbered from n on
abbrev IsRest : {T : Type 0} → List T → ℕ → List T → Type 0
IsRest {T} all n xs = (i : ℕ) → slice_get all (n + i) ≡ slice_get xs i

rest_first : {T : Type 0} (all : List T) (n : ℕ) (x : T) (xs : List T) → IsRest all n (x ∷ xs) → slice_get all n ≡ Some x
rest_first {T} all n x xs is = let same : n ≡ n + 0 = omega arith in ap (λ (m : ℕ). slice_get all m) same ∙ is 0

rest_next : {T : Type 0} (all : List T) (n : ℕ) (x : T) (xs : List T) → IsRest all n (x ∷ xs) → IsRest all (n + 1) xs
rest_next {T} all n x xs is i = let same : n + 1 + i ≡ n + suc i = omega arith in ap (λ (m : ℕ). slice_get all m) same ∙ is (suc i)

all_alarms : (t : Times) (cpu n : ℕ) (xs : List AlarmState) → IsRest t.alarms n xs → AllByRecursion (IsEntryOf t cpu) (alarm_entries cpu n xs)
all_alarms t cpu n [] is = tt
all_alarms t cpu n (a ∷ xs) is =
    front_all (IsEntryOf t cpu) (alarm_entry cpu n a) _ (alarm_is t cpu n a (rest_first t.alarms n a xs is)) (all_alarms t cpu (n + 1) xs (rest_next t.alarms n a xs is))

all_deadlines : (t : Times) (cpu n : ℕ) (xs : List (Option Deadline)) → IsRest t.deadlines n xs → AllByRecursion (IsEntryOf t cpu) (deadline_entries cpu n xs)
all_deadlines t cpu n [] is = tt
all_deadlines t cpu n (d ∷ xs) is =
    front_all (IsEntryOf t cpu) (deadline_entry cpu n d) _ (deadline_is t cpu n d (ap (λ (o : Option (Option Deadline)). entry o) (rest_first t.deadlines n d xs is)))
    (all_deadlines t cpu (n + 1) xs (rest_next t.deadlines n d xs is))

whole : {T : Type 0} (xs : List T) → IsRest xs 0 xs
whole {T} xs i = let same : 0 + i ≡ i = omega arith in ap (λ (n : ℕ). slice_get xs n) same

pub all_entries : (t : Times) (cpu : ℕ) → AllByRecursion (IsEntryOf t cpu) (entries t cpu)
all_entries t cpu =
    both_all (IsEntryOf t cpu) (alarm_entries cpu 0 t.alarms) (deadline_entries cpu 0 t.deadlines)
    (all_alarms t cpu 0 t.alarms (whole t.alarms)) (all_deadlines t cpu 0 t.deadlines (whole t.deadlines))

found : {T : Type 0} (P : T → Type 0) (p : T → Bool) (xs : List T) → AllByRecursion P xs → IfSome (find p xs) P
found P p [] h = tt
found {T} P p (x ∷ xs) h = by_test (p x) (found P p xs h.1)
  where
    by_test : (t : Bool) → IfSome (find p xs) P → IfSome (cond t (Some x) (find p xs)) P
    by_test true others = h.0
    by_test false others = others

pub next_is : (t : Times) (cpu : ℕ) → IfSome (next_entry t cpu) (IsEntryOf t cpu)
unfolding next_entry
next_is t cpu = found (IsEntryOf t cpu) _ (entries t cpu) (all_entries t cpu)

-- what is due
pub due_is : (t : Times) (cpu : ℕ) (what : Due) → due_on t cpu ≡ Some what → IsDueOn t cpu what
due_is t cpu what is = by_entry (next_entry t cpu) refl (next_is t cpu) is
  where
    by_test : (e : Entry) → next_entry t cpu ≡ Some e → IsEntryOf t cpu e → (test : Bool) → nat_le e.moment (clock t cpu) ≡ test → (if test then Some e.what else None) ≡ Some what → IsDueOn t cpu what
    by_test e next its true below same =
        let one : e.what ≡ what = cc in record { moment = e.moment; next = next ∙ ap (λ (w : Due). Some (record { moment = e.moment; what = w })) one; entry = subst (IsEntry t cpu e.moment) one its; due = grind (arith, below) }
    by_test e next its false below same = absurd cc

    by_entry : (o : Option Entry) → next_entry t cpu ≡ o → IfSome o (IsEntryOf t cpu) → option_and_then (if_due (clock t cpu)) o ≡ Some what → IsDueOn t cpu what
    by_entry None next its same = absurd cc
    by_entry (Some e) next its same = by_test e next its (nat_le e.moment (clock t cpu)) refl same
