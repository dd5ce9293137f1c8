-- The first of a processor's entries comes next.
use Rattle.std.proofs.Common.{◌≡◌, ℕ, zero, suc, ◌+◌, List, [], ◌∷◌, ◌++◌, refl, ap, sym, subst, ◌∙◌, inl, inr, arith}
use Rattle.std.specs.Prelude.{◌⊎◌, ◌==◌, ◌&&◌, Bool, true, false, not, cond, is_some, nat_le, slice_get, if◌then◌else◌, Option, Some, None, option_map, option_and_then}
use Rattle.std.specs.List.{find, list_all}
use Rattle.nova_model.specs.Times as model
use Rattle.nova_model.specs.Times.{Times, alarm_entries, alarm_entry, before_rest, clock, comes_before, deadline_entries, deadline_entry, due_on, entries, goes_on, if_due, is_before, next_entry, next_moment, until_due}
use Rattle.nova_model.specs.State.{deadline_of, entry}
use Rattle.nova_model.specs.declared.times.AlarmState.{AlarmState}
use Rattle.nova_model.specs.declared.times.Deadline.{Deadline}
use Rattle.nova_model.specs.declared.times.Due.{Due}
use Rattle.nova_model.specs.declared.times.Due.TheVariants as due
use Rattle.nova_range.specs.Members.{IsIn}
use Rattle.nova_times.specs.Entries.{comes_first, precedes}
use Rattle.nova_times.specs.Kept.{AreShown, alarm_leaf, alarm_leaves, deadline_leaf, deadline_leaves, seen}
use Rattle.nova_times.specs.Processors.{first_of, is_due_by, moment_of}
use Rattle.nova_times.specs.Trees.{leaf, least_of}
use Rattle.nova_times.specs.declared.entry.Entry.{Entry}
use Rattle.nova_times.proofs.Orders.{NoLater, equal, lesser_in, lesser_left, lesser_right}
use Rattle.nova_times.proofs.Trees.{IsLeaf, least_before, least_in}

-- LISTS

every : (T : Type 0) (p : T → Bool) (xs : List T) → ((x : T) → IsIn xs x → p x ≡ true) → list_all p xs ≡ true
every T p [] h = refl
every T p (x ∷ xs) h = let here = h x (inl refl) in let rest = every T p xs (λ y i. h y (inr i)) in rw (here, rest) refl

of_every : (T : Type 0) (p : T → Bool) (xs : List T) (x : T) → list_all p xs ≡ true → IsIn xs x → p x ≡ true
of_every T p [] x all i = absurd i
of_every T p (y ∷ ys) x all i = by_place (p y) refl all i (λ rest k. of_every T p ys x rest k)
  where
    by_place : (t : Bool) → p y ≡ t → (t && list_all p ys) ≡ true → (y ≡ x) ⊎ IsIn ys x → (list_all p ys ≡ true → IsIn ys x → p x ≡ true) → p x ≡ true
    by_place true h all (inl e) next = ap p (sym e) ∙ h
    by_place true h all (inr k) next = next all k
    by_place false h all k next = absurd (cc)

-- what alone passes is found
find_only : (T : Type 0) (p : T → Bool) (xs : List T) (x : T) → IsIn xs x → p x ≡ true → ((y : T) → IsIn xs y → p y ≡ true → y ≡ x) → find p xs ≡ Some x
find_only T p [] x i h only = absurd i
find_only T p (y ∷ ys) x i h only = by_pass (p y) refl i (λ k. find_only T p ys x k h (λ z j. only z (inr j)))
  where
    by_pass : (t : Bool) → p y ≡ t → (y ≡ x) ⊎ IsIn ys x → (IsIn ys x → find p ys ≡ Some x) → cond t (Some y) (find p ys) ≡ Some x
    by_pass true e k rest = ap Some (only y (inl refl) e)
    by_pass false e (inl same) rest = let on : p y ≡ true = ap p same ∙ h in absurd (cc)
    by_pass false e (inr k) rest = rest k

in_append_left : (T : Type 0) (xs ys : List T) (x : T) → IsIn xs x → IsIn (xs ++ ys) x
in_append_left T [] ys x i = absurd i
in_append_left T (y ∷ xs) ys x (inl e) = inl e
in_append_left T (y ∷ xs) ys x (inr i) = inr (in_append_left T xs ys x i)

in_append_right : (T : Type 0) (xs ys : List T) (x : T) → IsIn ys x → IsIn (xs ++ ys) x
in_append_right T [] ys x i = i
in_append_right T (y ∷ xs) ys x i = inr (in_append_right T xs ys x i)

in_append : (T : Type 0) (xs ys : List T) (x : T) → IsIn (xs ++ ys) x → IsIn xs x ⊎ IsIn ys x
in_append T [] ys x i = inr i
in_append T (y ∷ xs) ys x (inl e) = inl (inl e)
in_append T (y ∷ xs) ys x (inr i) = by_place (in_append T xs ys x i)
  where
    by_place : IsIn xs x ⊎ IsIn ys x → IsIn (y ∷ xs) x ⊎ IsIn ys x
    by_place (inl j) = inl (inr j)
    by_place (inr j) = inr j

front_in : (T : Type 0) (o : Option T) (xs : List T) (x : T) → o ≡ Some x → IsIn (before_rest o xs) x
front_in T None xs x h = absurd cc
front_in T (Some y) xs x h = let e : y ≡ x = cc in inl e

rest_in : (T : Type 0) (o : Option T) (xs : List T) (x : T) → IsIn xs x → IsIn (before_rest o xs) x
rest_in T None xs x i = i
rest_in T (Some y) xs x i = inr i

in_front : (T : Type 0) (o : Option T) (xs : List T) (x : T) → IsIn (before_rest o xs) x → (o ≡ Some x) ⊎ IsIn xs x
in_front T None xs x i = inr i
in_front T (Some y) xs x (inl e) = inl (ap Some e)
in_front T (Some y) xs x (inr i) = inr i

-- ENTRIES AS THE MODEL HAS THEM

alarm_seen : (cpu n : ℕ) (a : AlarmState) → option_map seen (alarm_leaf cpu n (Some a)) ≡ alarm_entry cpu n a
alarm_seen cpu n a = by_test ((a.alarm.cpu == cpu) && goes_on a)
  where
    by_test : (t : Bool) → option_map seen (if t then Some (record { at = a.next; due = due.Alarm n }) else None) ≡ (if t then Some (record { moment = a.next; what = due.Alarm n }) else None)
    by_test true = refl
    by_test false = refl

deadline_seen : (cpu ec : ℕ) (d : Option Deadline) → option_map seen (deadline_leaf cpu ec d) ≡ deadline_entry cpu ec d
deadline_seen cpu ec None = refl
deadline_seen cpu ec (Some d) = by_test (d.cpu == cpu)
  where
    by_test : (t : Bool) → option_map seen (if t then Some (record { at = d.at; due = due.Deadline ec }) else None) ≡ (if t then Some (record { moment = d.at; what = due.Deadline ec }) else None)
    by_test true = refl
    by_test false = refl

-- what stands at a number is among them

alarms_in : (cpu n i : ℕ) (alarms : List AlarmState) (e : Entry) → alarm_leaf cpu (n + i) (slice_get alarms i) ≡ Some e → IsIn (alarm_entries cpu n alarms) (seen e)
alarms_in cpu n i [] e h = absurd cc
alarms_in cpu n zero (a ∷ alarms) e h =
    let same : n + 0 ≡ n = omega arith in
    front_in model.Entry (alarm_entry cpu n a) (alarm_entries cpu (n + 1) alarms) (seen e) (sym (alarm_seen cpu n a) ∙ ap (λ (k : ℕ). option_map seen (alarm_leaf cpu k (Some a))) (sym same) ∙ ap (option_map seen) h)
alarms_in cpu n (suc i) (a ∷ alarms) e h =
    let same : n + 1 + i ≡ n + suc i = omega arith in
    rest_in model.Entry (alarm_entry cpu n a) (alarm_entries cpu (n + 1) alarms) (seen e) (alarms_in cpu (n + 1) i alarms e (ap (λ (k : ℕ). alarm_leaf cpu k (slice_get alarms i)) same ∙ h))

deadlines_in : (cpu n i : ℕ) (ds : List (Option Deadline)) (e : Entry) → deadline_leaf cpu (n + i) (entry (slice_get ds i)) ≡ Some e → IsIn (deadline_entries cpu n ds) (seen e)
deadlines_in cpu n i [] e h = absurd cc
deadlines_in cpu n zero (d ∷ ds) e h =
    let same : n + 0 ≡ n = omega arith in
    front_in model.Entry (deadline_entry cpu n d) (deadline_entries cpu (n + 1) ds) (seen e) (sym (deadline_seen cpu n d) ∙ ap (λ (k : ℕ). option_map seen (deadline_leaf cpu k d)) (sym same) ∙ ap (option_map seen) h)
deadlines_in cpu n (suc i) (d ∷ ds) e h =
    let same : n + 1 + i ≡ n + suc i = omega arith in
    rest_in model.Entry (deadline_entry cpu n d) (deadline_entries cpu (n + 1) ds) (seen e) (deadlines_in cpu (n + 1) i ds e (ap (λ (k : ℕ). deadline_leaf cpu k (entry (slice_get ds i))) same ∙ h))

-- and each of them stands at a number

record IsAt (leaf_at : ℕ → Option Entry) (x : model.Entry) : Type 0 where
  place : ℕ
  of : Entry
  there : leaf_at place ≡ Some of
  is : seen of ≡ x

seen_some : (leaf_at : ℕ → Option Entry) (place : ℕ) (x : model.Entry) → option_map seen (leaf_at place) ≡ Some x → IsAt leaf_at x
seen_some leaf_at place x h = by_there (leaf_at place) refl h
  where
    by_there : (o : Option Entry) → leaf_at place ≡ o → option_map seen o ≡ Some x → IsAt leaf_at x
    by_there None at k = absurd cc
    by_there (Some e) at k = record { place = place; of = e; there = at; is = cc }

alarms_at : (cpu n : ℕ) (alarms : List AlarmState) (x : model.Entry) → IsIn (alarm_entries cpu n alarms) x → IsAt (λ i. alarm_leaf cpu (n + i) (slice_get alarms i)) x
alarms_at cpu n [] x i = absurd i
alarms_at cpu n (a ∷ alarms) x i = by_place (in_front model.Entry (alarm_entry cpu n a) (alarm_entries cpu (n + 1) alarms) x i) (λ j. alarms_at cpu (n + 1) alarms x j)
  where
    later : IsAt (λ i. alarm_leaf cpu (n + 1 + i) (slice_get alarms i)) x → IsAt (λ i. alarm_leaf cpu (n + i) (slice_get (a ∷ alarms) i)) x
    later h = record {
      place = suc h.place;
      of = h.of;
      there = ap (λ (k : ℕ). alarm_leaf cpu k (slice_get alarms h.place)) (let e : n + suc h.place ≡ n + 1 + h.place = omega arith in e) ∙ h.there;
      is = h.is;
    }

    by_place : (alarm_entry cpu n a ≡ Some x) ⊎ IsIn (alarm_entries cpu (n + 1) alarms) x →
        (IsIn (alarm_entries cpu (n + 1) alarms) x → IsAt (λ i. alarm_leaf cpu (n + 1 + i) (slice_get alarms i)) x) → IsAt (λ i. alarm_leaf cpu (n + i) (slice_get (a ∷ alarms) i)) x
    by_place (inl e) rest =
        seen_some (λ i. alarm_leaf cpu (n + i) (slice_get (a ∷ alarms) i)) 0 x (ap (λ (k : ℕ). option_map seen (alarm_leaf cpu k (Some a))) (let same : n + 0 ≡ n = omega arith in same) ∙ alarm_seen cpu n a ∙ e)
    by_place (inr j) rest = later (rest j)

deadlines_at : (cpu n : ℕ) (ds : List (Option Deadline)) (x : model.Entry) → IsIn (deadline_entries cpu n ds) x → IsAt (λ i. deadline_leaf cpu (n + i) (entry (slice_get ds i))) x
deadlines_at cpu n [] x i = absurd i
deadlines_at cpu n (d ∷ ds) x i = by_place (in_front model.Entry (deadline_entry cpu n d) (deadline_entries cpu (n + 1) ds) x i) (λ j. deadlines_at cpu (n + 1) ds x j)
  where
    later : IsAt (λ i. deadline_leaf cpu (n + 1 + i) (entry (slice_get ds i))) x → IsAt (λ i. deadline_leaf cpu (n + i) (entry (slice_get (d ∷ ds) i))) x
    later h = record {
      place = suc h.place;
      of = h.of;
      there = ap (λ (k : ℕ). deadline_leaf cpu k (entry (slice_get ds h.place))) (let e : n + suc h.place ≡ n + 1 + h.place = omega arith in e) ∙ h.there;
      is = h.is;
    }

    by_place : (deadline_entry cpu n d ≡ Some x) ⊎ IsIn (deadline_entries cpu (n + 1) ds) x →
        (IsIn (deadline_entries cpu (n + 1) ds) x → IsAt (λ i. deadline_leaf cpu (n + 1 + i) (entry (slice_get ds i))) x) → IsAt (λ i. deadline_leaf cpu (n + i) (entry (slice_get (d ∷ ds) i))) x
    by_place (inl e) rest =
        seen_some (λ i. deadline_leaf cpu (n + i) (entry (slice_get (d ∷ ds) i))) 0 x (ap (λ (k : ℕ). option_map seen (deadline_leaf cpu k d)) (let same : n + 0 ≡ n = omega arith in same) ∙ deadline_seen cpu n d ∙ e)
    by_place (inr j) rest = later (rest j)

-- THE FIRST

same_before : (a b : Due) → is_before a b ≡ comes_first a b
same_before (due.Alarm a) (due.Alarm b) = grind arith
same_before (due.Alarm a) (due.Deadline b) = grind arith
same_before (due.Deadline a) (due.Alarm b) = grind arith
same_before (due.Deadline a) (due.Deadline b) = grind arith

seen_before : (a b : Entry) → comes_before (seen a) (seen b) ≡ precedes a b
seen_before a b = rw (same_before a.due b.due) refl

-- what is known of the first: it is an entry of the processor, and none of them precedes it
record IsFirst (t : Times) (cpu : ℕ) (r : Option Entry) : Type 0 where
  there : (e : Entry) → r ≡ Some e → IsIn (entries t cpu) (seen e)
  before : (x : model.Entry) → IsIn (entries t cpu) x → (e : Entry) × ((seen e ≡ x) × NoLater r e)

first_is_first : (t : Times) (cpu : ℕ) (xs ys : List (Option Entry)) → AreShown t cpu xs ys → IsFirst t cpu (first_of xs ys)
first_is_first t cpu xs ys are = record {
  there = λ e h. by_side e (lesser_in (least_of xs) (least_of ys) e h);
  before = λ x i. by_kind x (in_append model.Entry (alarm_entries cpu 0 t.alarms) (deadline_entries cpu 0 t.deadlines) x i);
}
  where
    of_alarm : (e : Entry) → IsLeaf xs e → IsIn (entries t cpu) (seen e)
    of_alarm e at =
        let same : 0 + at.place ≡ at.place = omega arith in
        in_append_left model.Entry (alarm_entries cpu 0 t.alarms) (deadline_entries cpu 0 t.deadlines) (seen e)
        (alarms_in cpu 0 at.place t.alarms e (ap (λ (k : ℕ). alarm_leaf cpu k (slice_get t.alarms at.place)) same ∙ sym (are.alarms at.place) ∙ at.is))

    of_deadline : (e : Entry) → IsLeaf ys e → IsIn (entries t cpu) (seen e)
    of_deadline e at =
        let same : 0 + at.place ≡ at.place = omega arith in
        in_append_right model.Entry (alarm_entries cpu 0 t.alarms) (deadline_entries cpu 0 t.deadlines) (seen e)
        (deadlines_in cpu 0 at.place t.deadlines e (ap (λ (k : ℕ). deadline_leaf cpu k (deadline_of t at.place)) same ∙ sym (are.deadlines at.place) ∙ at.is))

    by_side : (e : Entry) → (least_of xs ≡ Some e) ⊎ (least_of ys ≡ Some e) → IsIn (entries t cpu) (seen e)
    by_side e (inl h) = of_alarm e (least_in xs e h)
    by_side e (inr h) = of_deadline e (least_in ys e h)

    at_alarm : (x : model.Entry) → IsAt (λ i. alarm_leaf cpu (0 + i) (slice_get t.alarms i)) x → (e : Entry) × ((seen e ≡ x) × NoLater (first_of xs ys) e)
    at_alarm x at =
        let same : at.place ≡ 0 + at.place = omega arith in
        let is : leaf xs at.place ≡ Some at.of = are.alarms at.place ∙ ap (λ (k : ℕ). alarm_leaf cpu k (slice_get t.alarms at.place)) same ∙ at.there in
        (at.of, (at.is, lesser_left (least_of xs) (least_of ys) at.of (least_before xs at.place at.of is)))

    at_deadline : (x : model.Entry) → IsAt (λ i. deadline_leaf cpu (0 + i) (entry (slice_get t.deadlines i))) x → (e : Entry) × ((seen e ≡ x) × NoLater (first_of xs ys) e)
    at_deadline x at =
        let same : at.place ≡ 0 + at.place = omega arith in
        let is : leaf ys at.place ≡ Some at.of = are.deadlines at.place ∙ ap (λ (k : ℕ). deadline_leaf cpu k (deadline_of t at.place)) same ∙ at.there in
        (at.of, (at.is, lesser_right (least_of xs) (least_of ys) at.of (least_before ys at.place at.of is)))

    by_kind : (x : model.Entry) → IsIn (alarm_entries cpu 0 t.alarms) x ⊎ IsIn (deadline_entries cpu 0 t.deadlines) x → (e : Entry) × ((seen e ≡ x) × NoLater (first_of xs ys) e)
    by_kind x (inl j) = at_alarm x (alarms_at cpu 0 t.alarms x j)
    by_kind x (inr j) = at_deadline x (deadlines_at cpu 0 t.deadlines x j)

next_of : (t : Times) (cpu : ℕ) (r : Option Entry) → IsFirst t cpu r → option_map seen r ≡ next_entry t cpu
unfolding next_entry
next_of t cpu None first = sym (nothing (entries t cpu) refl)
  where
    none : (x : model.Entry) → IsIn (entries t cpu) x → ⊥
    none x i = (first.before x i).1.1

    nothing : (xs : List model.Entry) → entries t cpu ≡ xs → find (λ a. list_all (λ b. not (comes_before b a)) (entries t cpu)) xs ≡ None
    nothing [] is = refl
    nothing (x ∷ xs) is = absurd (none x (subst (λ (l : List model.Entry). IsIn l x) (sym is) (inl refl)))
next_of t cpu (Some e) first = sym found
  where
    none_before : (y : model.Entry) → IsIn (entries t cpu) y → not (comes_before y (seen e)) ≡ true
    none_before y i =
        let q = (first.before y i).0 in
        ap not (ap (λ (z : model.Entry). comes_before z (seen e)) (sym (first.before y i).1.0) ∙ seen_before q e ∙ (first.before y i).1.1)

    passes : (t : Bool) → not t ≡ true → t ≡ false
    passes true h = absurd cc
    passes false h = refl

    only : (y : model.Entry) → IsIn (entries t cpu) y → not (comes_before (seen e) y) ≡ true → y ≡ seen e
    only y i pass =
        let q = (first.before y i).0 in
        let is = (first.before y i).1.0 in
        let off : precedes e q ≡ false = sym (seen_before e q) ∙ ap (comes_before (seen e)) is ∙ passes (comes_before (seen e) y) pass in
        sym is ∙ ap seen (equal q e (first.before y i).1.1 off)

    found : find (λ a. list_all (λ b. not (comes_before b a)) (entries t cpu)) (entries t cpu) ≡ Some (seen e)
    found = find_only model.Entry (λ a. list_all (λ b. not (comes_before b a)) (entries t cpu)) (entries t cpu) (seen e) (first.there e refl)
        (every model.Entry (λ b. not (comes_before b (seen e))) (entries t cpu) (λ y i. none_before y i))
        (λ y i pass. only y i (of_every model.Entry (λ b. not (comes_before b y)) (entries t cpu) (seen e) pass (first.there e refl)))

pub next_is : (t : Times) (cpu : ℕ) (xs ys : List (Option Entry)) → AreShown t cpu xs ys → option_map seen (first_of xs ys) ≡ next_entry t cpu
next_is t cpu xs ys are = next_of t cpu (first_of xs ys) (first_is_first t cpu xs ys are)

-- a processor that isn't there: its entries are searched

alarm_leaves_at : (cpu n i : ℕ) (alarms : List AlarmState) → leaf (alarm_leaves cpu n alarms) i ≡ alarm_leaf cpu (n + i) (slice_get alarms i)
alarm_leaves_at cpu n i [] = refl
alarm_leaves_at cpu n zero (a ∷ alarms) = ap (λ (k : ℕ). alarm_leaf cpu k (Some a)) (let same : n ≡ n + 0 = omega arith in same)
alarm_leaves_at cpu n (suc i) (a ∷ alarms) = alarm_leaves_at cpu (n + 1) i alarms ∙ ap (λ (k : ℕ). alarm_leaf cpu k (slice_get alarms i)) (let same : n + 1 + i ≡ n + suc i = omega arith in same)

deadline_leaves_at : (cpu n i : ℕ) (ds : List (Option Deadline)) → leaf (deadline_leaves cpu n ds) i ≡ deadline_leaf cpu (n + i) (entry (slice_get ds i))
deadline_leaves_at cpu n i [] = refl
deadline_leaves_at cpu n zero (d ∷ ds) = ap (λ (k : ℕ). deadline_leaf cpu k d) (let same : n ≡ n + 0 = omega arith in same)
deadline_leaves_at cpu n (suc i) (d ∷ ds) = deadline_leaves_at cpu (n + 1) i ds ∙ ap (λ (k : ℕ). deadline_leaf cpu k (entry (slice_get ds i))) (let same : n + 1 + i ≡ n + suc i = omega arith in same)

pub shown_beyond : (t : Times) (cpu : ℕ) → AreShown t cpu (alarm_leaves cpu 0 t.alarms) (deadline_leaves cpu 0 t.deadlines)
shown_beyond t cpu = record {
  alarms = λ n. alarm_leaves_at cpu 0 n t.alarms ∙ ap (λ (k : ℕ). alarm_leaf cpu k (slice_get t.alarms n)) (let same : 0 + n ≡ n = omega arith in same);
  deadlines = λ n. deadline_leaves_at cpu 0 n t.deadlines ∙ ap (λ (k : ℕ). deadline_leaf cpu k (deadline_of t n)) (let same : 0 + n ≡ n = omega arith in same);
}

-- the least moment, and what is due

moment_seen : (o : Option Entry) → moment_of o ≡ option_map (λ (e : model.Entry). e.moment) (option_map seen o)
moment_seen None = refl
moment_seen (Some e) = refl

pub moment_is : (t : Times) (cpu : ℕ) (o : Option Entry) → option_map seen o ≡ next_entry t cpu → moment_of o ≡ next_moment t cpu
moment_is t cpu o is = moment_seen o ∙ ap (option_map (λ (e : model.Entry). e.moment)) is

due_some : (now : ℕ) (o : Option Entry) → is_due_by now (moment_of o) ≡ is_some (option_and_then (if_due now) (option_map seen o))
due_some now None = refl
due_some now (Some e) = by_test (nat_le e.at now)
  where
    by_test : (t : Bool) → t ≡ is_some (if t then Some e.due else None)
    by_test true = refl
    by_test false = refl

pub is_due_is : (t : Times) (cpu : ℕ) (o : Option Entry) → option_map seen o ≡ next_entry t cpu → is_due_by (clock t cpu) (moment_of o) ≡ is_some (due_on t cpu)
is_due_is t cpu o is = due_some (clock t cpu) o ∙ ap (λ (x : Option model.Entry). is_some (option_and_then (if_due (clock t cpu)) x)) is

pub due_is : (t : Times) (cpu : ℕ) (o : Option Entry) (e : Entry) → o ≡ Some e → option_map seen o ≡ next_entry t cpu → is_some (due_on t cpu) ≡ true → Some e.due ≡ due_on t cpu
due_is t cpu o e at is some = by_test (nat_le e.at (clock t cpu)) refl
  where
    due_of : due_on t cpu ≡ (if nat_le e.at (clock t cpu) then Some e.due else None)
    due_of = ap (option_and_then (if_due (clock t cpu))) (sym is ∙ ap (option_map seen) at)

    by_test : (b : Bool) → nat_le e.at (clock t cpu) ≡ b → Some e.due ≡ due_on t cpu
    by_test true h = sym (due_of ∙ ap (λ (b : Bool). if b then Some e.due else None) h)
    by_test false h =
        let none : due_on t cpu ≡ None = due_of ∙ ap (λ (b : Bool). if b then Some e.due else None) h in
        let off : is_some (due_on t cpu) ≡ false = ap is_some none in
        absurd (cc)

pub not_due : (o : Option Due) → is_some o ≡ false → None ≡ o
not_due None h = refl
not_due (Some d) h = absurd cc
