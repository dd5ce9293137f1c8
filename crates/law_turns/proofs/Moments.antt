-- The least moment of a processor: how many turns are left until something is due, by each alarm and each deadline.
use Rattle.law_turns.proofs.Setting.{index_itself}
use Rattle.std.proofs.Common.{◌≡◌, ℕ, zero, suc, ◌+◌, ◌-◌, ◌<◌, ◌≤◌, List, [], ◌∷◌, ◌++◌, length, refl, sym, ap, ◌∙◌, subst, inl, inr, arith}
use Rattle.std.specs.Prelude.{◌⊎◌, ◌↔◌, Contains, ◌==◌, ◌&&◌, ◌||◌, Bool, true, false, not, nat_le, nat_lt, cond, slice_get, slice_index, slice_set, Option, Some, None, IfSome, option_map, option_and_then, if◌then◌else◌}
use Rattle.std.specs.List.{AllByRecursion, find, list_all}
use Rattle.std.proofs.lemmas.Bool.{and_parts, eq-eqb}
use Rattle.nova_model.specs.State.{deadline_of, entry}
use Rattle.nova_model.specs.Times.{Entry, Times, alarm_entries, alarm_entry, before_rest, clock, comes_before, deadline_entries, deadline_entry, due_on, entries, goes_on, if_due, is_before, next_entry, until_due}
use Rattle.nova_model.specs.declared.times.AlarmState.{AlarmState}
use Rattle.nova_model.specs.declared.times.Deadline.{Deadline}
use Rattle.nova_model.specs.declared.times.Due.{Due}
use Rattle.nova_model.specs.declared.times.Due.TheVariants as due
use Rattle.law_turns.specs.Moments.{IsEarly, IsEntryOf, HasEntries, IsFirstEntry}
use Rattle.law_turns.proofs.Dues.{all_entries, next_is}

-- THE ORDER OF ENTRIES

due_self : (a : Due) → is_before a a ≡ false
due_self (due.Alarm n) = grind arith
due_self (due.Deadline n) = grind arith

due_through : (a b c : Due) → is_before a b ≡ true → is_before b c ≡ true → is_before a c ≡ true
due_through (due.Alarm a) (due.Alarm b) (due.Alarm c) h k = grind arith
due_through (due.Alarm a) (due.Alarm b) (due.Deadline c) h k = refl
due_through (due.Alarm a) (due.Deadline b) (due.Alarm c) h k = absurd cc
due_through (due.Alarm a) (due.Deadline b) (due.Deadline c) h k = refl
due_through (due.Deadline a) (due.Alarm b) c h k = absurd cc
due_through (due.Deadline a) (due.Deadline b) (due.Alarm c) h k = absurd cc
due_through (due.Deadline a) (due.Deadline b) (due.Deadline c) h k = grind arith

before_self : (a : Entry) → comes_before a a ≡ false
before_self a = grind (arith, due_self a.what)

moment_through : (m n o : ℕ) (x y z : Bool) → (x ≡ true → y ≡ true → z ≡ true) → (nat_lt m n || ((m == n) && x)) ≡ true → (nat_lt n o || ((n == o) && y)) ≡ true →
    (nat_lt m o || ((m == o) && z)) ≡ true
moment_through m n o true true true through h k = grind arith
moment_through m n o true true false through h k = absurd (let both = through refl refl in cc)
moment_through m n o true false z through h k = let less : n < o = grind arith in let least : m ≤ n = grind arith in let one : nat_lt m o ≡ true = grind arith in rw one refl
moment_through m n o false y z through h k = let less : m < n = grind arith in let least : n ≤ o = grind (arith, k) in let one : nat_lt m o ≡ true = grind arith in rw one refl

before_through : (a b c : Entry) → comes_before a b ≡ true → comes_before b c ≡ true → comes_before a c ≡ true
before_through a b c h k =
    moment_through a.moment b.moment c.moment (is_before a.what b.what) (is_before b.what c.what) (is_before a.what c.what) (due_through a.what b.what c.what) h k

-- THE FIRST OF THEM

-- none comes before it
abbrev is_first : List Entry → Entry → Bool
is_first es a = list_all (λ b. not (comes_before b a)) es

first_past : (c b : Entry) (es : List Entry) → comes_before c b ≡ true → is_first es b ≡ true → is_first es c ≡ true
first_past c b [] h all = refl
first_past c b (x ∷ es) h all = grind (arith, first_past c b es h, before_through x c b)

-- some one of them is the first
record HasFirst (es all : List Entry) : Type 0 where
  first : Entry
  found : (p : Entry → Bool) → find p all ≡ None → p first ≡ false
  least : is_first es first ≡ true

find_skips : (p : Entry → Bool) (x : Entry) (es : List Entry) → find p (x ∷ es) ≡ None → (p x ≡ false) × (find p es ≡ None)
find_skips p x es none = by_test (p x) refl none
  where
    by_test : (t : Bool) → p x ≡ t → cond t (Some x) (find p es) ≡ None → (p x ≡ false) × (find p es ≡ None)
    by_test true is h = absurd cc
    by_test false is h = (is, h)

has_first : (x : Entry) (es : List Entry) → HasFirst (x ∷ es) (x ∷ es)
has_first x [] = record { first = x; found = λ p none. (find_skips p x [] none).0; least = grind (arith, before_self x) }
has_first x (y ∷ es) = by_rest (has_first y es)
  where
    by_order : (h : HasFirst (y ∷ es) (y ∷ es)) (t : Bool) → comes_before x h.first ≡ t → HasFirst (x ∷ y ∷ es) (x ∷ y ∷ es)
    by_order h true is = record {
      first = x;
      found = λ p none. (find_skips p x (y ∷ es) none).0;
      least = let rest = first_past x h.first (y ∷ es) is h.least in grind (arith, rest, before_self x);
    }
    by_order h false is = record {
      first = h.first;
      found = λ p none. h.found p (find_skips p x (y ∷ es) none).1;
      least = let rest = h.least in grind (arith, rest, is);
    }

    by_rest : HasFirst (y ∷ es) (y ∷ es) → HasFirst (x ∷ y ∷ es) (x ∷ y ∷ es)
    by_rest h = by_order h (comes_before x h.first) refl

none_found : (es : List Entry) → find (is_first es) es ≡ None → es ≡ []
none_found [] none = refl
none_found (x ∷ es) none =
    let h = has_first x es in
    let fails = h.found (is_first (x ∷ es)) none in let passes = h.least in absurd (let both : true ≡ false = sym passes ∙ fails in cc)

found_passes : (p : Entry → Bool) (es : List Entry) → IfSome (find p es) (λ a. p a ≡ true)
found_passes p [] = tt
found_passes p (x ∷ es) = by_test (p x) refl (found_passes p es)
  where
    by_test : (t : Bool) → p x ≡ t → IfSome (find p es) (λ a. p a ≡ true) → IfSome (cond t (Some x) (find p es)) (λ a. p a ≡ true)
    by_test true is rest = is
    by_test false is rest = rest

least_moment : (a b : Entry) → not (comes_before b a) ≡ true → a.moment ≤ b.moment
least_moment a b h = grind arith

-- each is at least as far as the first
abbrev IsFar : ℕ → ℕ → Entry → Type 0
IsFar now n e = n ≤ e.moment - now

all_far : (now n : ℕ) (a : Entry) (es : List Entry) → list_all (λ b. not (comes_before b a)) es ≡ true → n ≤ a.moment - now → AllByRecursion (IsFar now n) es
all_far now n a [] all far = tt
all_far now n a (b ∷ es) all far =
    let parts = and_parts (not (comes_before b a)) (list_all (λ b. not (comes_before b a)) es) all in
    let least = least_moment a b parts.0 in
    (omega (arith, least, far), all_far now n a es parts.1 far)

far_entries : (t : Times) (cpu n : ℕ) → IsEarly t cpu n → AllByRecursion (IsFar (clock t cpu) n) (entries t cpu)
unfolding next_entry
far_entries t cpu n early = by_found (find (is_first (entries t cpu)) (entries t cpu)) refl (found_passes (is_first (entries t cpu)) (entries t cpu)) early
  where
    by_found : (o : Option Entry) → find (is_first (entries t cpu)) (entries t cpu) ≡ o → IfSome o (λ a. is_first (entries t cpu) a ≡ true) →
        IfSome (option_map (λ moment. moment - clock t cpu) (option_map (λ (e : Entry). e.moment) o)) (λ left. n ≤ left) → AllByRecursion (IsFar (clock t cpu) n) (entries t cpu)
    by_found None is first far = subst (AllByRecursion (IsFar (clock t cpu) n)) (sym (none_found (entries t cpu) is)) tt
    by_found (Some a) is first far = all_far (clock t cpu) n a (entries t cpu) first far

-- EACH ALARM AND EACH DEADLINE

front_far : (P : Entry → Type 0) (o : Option Entry) (es : List Entry) → AllByRecursion P (before_rest o es) → IfSome o P × AllByRecursion P es
front_far P None es all = (tt, all)
front_far P (Some e) es all = (all.0, all.1)

parts_far : (P : Entry → Type 0) (xs ys : List Entry) → AllByRecursion P (xs ++ ys) → AllByRecursion P xs × AllByRecursion P ys
parts_far P [] ys all = (tt, all)
parts_far P (x ∷ xs) ys all = let rest = parts_far P xs ys all.1 in ((all.0, rest.0), rest.1)

each_alarm : (now n cpu m : ℕ) (xs : List AlarmState) → AllByRecursion (IsFar now n) (alarm_entries cpu m xs) → (i : ℕ) (a : AlarmState) → slice_get xs i ≡ Some a →
    a.alarm.cpu ≡ cpu → goes_on a ≡ true → n ≤ a.next - now
each_alarm now n cpu m [] all i a is here more = absurd cc
each_alarm now n cpu m (x ∷ xs) all zero a is here more =
    let same : x ≡ a = cc in
    let first = (front_far (IsFar now n) (alarm_entry cpu m x) (alarm_entries cpu (m + 1) xs) all).0 in
    let its : alarm_entry cpu m a ≡ Some (record { moment = a.next; what = due.Alarm m }) = rw (here, eq-eqb cpu cpu refl, more) refl in
    subst (λ (o : Option Entry). IfSome o (IsFar now n)) (ap (alarm_entry cpu m) same ∙ its) first
each_alarm now n cpu m (x ∷ xs) all (suc i) a is here more =
    each_alarm now n cpu (m + 1) xs (front_far (IsFar now n) (alarm_entry cpu m x) (alarm_entries cpu (m + 1) xs) all).1 i a is here more

each_deadline : (now n cpu m : ℕ) (xs : List (Option Deadline)) → AllByRecursion (IsFar now n) (deadline_entries cpu m xs) → (i : ℕ) (d : Deadline) →
    entry (slice_get xs i) ≡ Some d → d.cpu ≡ cpu → n ≤ d.at - now
each_deadline now n cpu m [] all i d is here = absurd cc
each_deadline now n cpu m (x ∷ xs) all zero d is here =
    let first = (front_far (IsFar now n) (deadline_entry cpu m x) (deadline_entries cpu (m + 1) xs) all).0 in
    let its : deadline_entry cpu m (Some d) ≡ Some (record { moment = d.at; what = due.Deadline m }) = rw (here, eq-eqb cpu cpu refl) refl in
    subst (λ (o : Option Entry). IfSome o (IsFar now n)) (ap (deadline_entry cpu m) is ∙ its) first
each_deadline now n cpu m (x ∷ xs) all (suc i) d is here =
    each_deadline now n cpu (m + 1) xs (front_far (IsFar now n) (deadline_entry cpu m x) (deadline_entries cpu (m + 1) xs) all).1 i d is here

pub record AreFar (t : Times) (cpu n : ℕ) : Type 0 where
  pub alarms : (i : ℕ) (a : AlarmState) → slice_get t.alarms i ≡ Some a → a.alarm.cpu ≡ cpu → goes_on a ≡ true → n ≤ a.next - clock t cpu
  pub deadlines : (ec : ℕ) (d : Deadline) → deadline_of t ec ≡ Some d → d.cpu ≡ cpu → n ≤ d.at - clock t cpu

pub early_far : (t : Times) (cpu n : ℕ) → IsEarly t cpu n → AreFar t cpu n
early_far t cpu n early =
    let both = parts_far (IsFar (clock t cpu) n) (alarm_entries cpu 0 t.alarms) (deadline_entries cpu 0 t.deadlines) (far_entries t cpu n early) in record {
      alarms = each_alarm (clock t cpu) n cpu 0 t.alarms both.0;
      deadlines = each_deadline (clock t cpu) n cpu 0 t.deadlines both.1;
    }

pub far_early : (t : Times) (cpu n : ℕ) → AreFar t cpu n → IsEarly t cpu n
far_early t cpu n far = by_next (next_entry t cpu) (next_is t cpu)
  where
    by_what : (moment : ℕ) (what : Due) → IsEntryOf t cpu (record { moment = moment; what = what }) → n ≤ moment - clock t cpu
    by_what moment (due.Alarm i) its = subst (λ (m : ℕ). n ≤ m - clock t cpu) its.next (far.alarms i its.alarm its.there its.its its.more)
    by_what moment (due.Deadline ec) its = subst (λ (m : ℕ). n ≤ m - clock t cpu) its.at (far.deadlines ec its.deadline its.there its.its)

    by_next : (o : Option Entry) → IfSome o (IsEntryOf t cpu) → IfSome (option_map (λ moment. moment - clock t cpu) (option_map (λ (e : Entry). e.moment) o)) (λ left. n ≤ left)
    by_next None its = tt
    by_next (Some e) its = by_what e.moment e.what its

-- nothing is due where a turn is left
pub early_calm : (t : Times) (cpu n : ℕ) → IsEarly t cpu (suc n) → due_on t cpu ≡ None
early_calm t cpu n early = by_next (next_entry t cpu) early
  where
    by_test : (e : Entry) → suc n ≤ e.moment - clock t cpu → (test : Bool) → nat_le e.moment (clock t cpu) ≡ test → (if test then Some e.what else None) ≡ None
    by_test e far true due_now = absurd (grind (arith, far, due_now))
    by_test e far false due_now = refl

    by_next : (o : Option Entry) → IfSome (option_map (λ moment. moment - clock t cpu) (option_map (λ (e : Entry). e.moment) o)) (λ left. suc n ≤ left) →
        option_and_then (if_due (clock t cpu)) o ≡ None
    by_next None far = refl
    by_next (Some e) far = by_test e far (nat_le e.moment (clock t cpu)) refl

-- clocks alone change no entry
pub next_clocks : (t : Times) (clocks : List ℕ) (cpu : ℕ) → next_entry (record t { clocks = clocks }) cpu ≡ next_entry t cpu
unfolding next_entry
next_clocks t clocks cpu = refl

-- one turn of the processor later a turn less is left
pub early_next : (t : Times) (cpu n : ℕ) → cpu < length t.clocks → IsEarly t cpu (suc n) → IsEarly (record t { clocks = slice_set t.clocks cpu (slice_index t.clocks cpu + 1) }) cpu n
early_next t cpu n there early =
    subst (λ (o : Option Entry). IfSome (option_map (λ moment. moment - slice_index (slice_set t.clocks cpu (slice_index t.clocks cpu + 1)) cpu) (option_map (λ (e : Entry). e.moment) o)) (λ left. n ≤ left))
    (sym (next_clocks t (slice_set t.clocks cpu (slice_index t.clocks cpu + 1)) cpu)) (by_next (next_entry t cpu) early)
  where
    by_next : (o : Option Entry) → IfSome (option_map (λ moment. moment - clock t cpu) (option_map (λ (e : Entry). e.moment) o)) (λ left. suc n ≤ left) →
        IfSome (option_map (λ moment. moment - slice_index (slice_set t.clocks cpu (slice_index t.clocks cpu + 1)) cpu) (option_map (λ (e : Entry). e.moment) o)) (λ left. n ≤ left)
    by_next None far = tt
    by_next (Some e) far = let now = index_itself t.clocks cpu (slice_index t.clocks cpu + 1) there in omega (arith, now, far)

-- fewer turns are left where more are
pub early_fewer : (t : Times) (cpu m n : ℕ) → m ≤ n → IsEarly t cpu n → IsEarly t cpu m
early_fewer t cpu m n fewer early = by_next (until_due t cpu) early
  where
    by_next : (o : Option ℕ) → IfSome o (λ left. n ≤ left) → IfSome o (λ left. m ≤ left)
    by_next None far = tt
    by_next (Some left) far = omega (arith, far, fewer)

-- AS THE LAWS SAY IT

all_contained : (P : Entry → Type 0) (es : List Entry) → AllByRecursion P es → (e : Entry) → Contains es e → P e
all_contained P [] all e is = absurd (omega (arith, is.1))
all_contained P (x ∷ es) all e (zero, below, at) = let same : x ≡ e = at in subst P same all.0
all_contained P (x ∷ es) all e (suc n, below, at) = all_contained P es all.1 e (n, omega (arith, below), at)

pub each_entry : (t : Times) (cpu : ℕ) (e : Entry) → Contains (entries t cpu) e → IsEntryOf t cpu e
each_entry t cpu e is = all_contained (IsEntryOf t cpu) (entries t cpu) (all_entries t cpu) e is

-- what is in one of two lists
contained_first : (e x : Entry) (es : List Entry) → x ≡ e → Contains (x ∷ es) e
contained_first e x es same = (0, omega arith, same)

contained_later : (e x : Entry) (es : List Entry) → Contains es e → Contains (x ∷ es) e
contained_later e x es is = (suc is.0, (let below = is.1 in omega (arith, below)), is.2)

contained_rest : (e : Entry) (o : Option Entry) (es : List Entry) → Contains es e → Contains (before_rest o es) e
contained_rest e None es is = is
contained_rest e (Some x) es is = contained_later e x es is

contained_left : (e : Entry) (xs ys : List Entry) → Contains xs e → Contains (xs ++ ys) e
contained_left e [] ys is = absurd (omega (arith, is.1))
contained_left e (x ∷ xs) ys (zero, below, at) = contained_first e x (xs ++ ys) at
contained_left e (x ∷ xs) ys (suc n, below, at) = contained_later e x (xs ++ ys) (contained_left e xs ys (n, omega (arith, below), at))

contained_right : (e : Entry) (xs ys : List Entry) → Contains ys e → Contains (xs ++ ys) e
contained_right e [] ys is = is
contained_right e (x ∷ xs) ys is = contained_later e x (xs ++ ys) (contained_right e xs ys is)

alarm_contained : (cpu m : ℕ) (xs : List AlarmState) (i : ℕ) (a : AlarmState) → slice_get xs i ≡ Some a → a.alarm.cpu ≡ cpu → goes_on a ≡ true →
    Contains (alarm_entries cpu m xs) (record { moment = a.next; what = due.Alarm (m + i) })
alarm_contained cpu m [] i a is here more = absurd cc
alarm_contained cpu m (x ∷ xs) zero a is here more =
    let same : x ≡ a = cc in
    let number : m ≡ m + 0 = omega arith in
    let its : alarm_entry cpu m a ≡ Some (record { moment = a.next; what = due.Alarm m }) = rw (here, eq-eqb cpu cpu refl, more) refl in
    subst (λ (o : Option Entry). Contains (before_rest o (alarm_entries cpu (m + 1) xs)) (record { moment = a.next; what = due.Alarm (m + 0) })) (sym (ap (alarm_entry cpu m) same ∙ its))
    (contained_first (record { moment = a.next; what = due.Alarm (m + 0) }) (record { moment = a.next; what = due.Alarm m }) (alarm_entries cpu (m + 1) xs)
    (ap (λ (n : ℕ). record { moment = a.next; what = due.Alarm n }) number))
alarm_contained cpu m (x ∷ xs) (suc i) a is here more =
    let number : m + 1 + i ≡ m + suc i = omega arith in
    subst (λ (n : ℕ). Contains (alarm_entries cpu m (x ∷ xs)) (record { moment = a.next; what = due.Alarm n })) number
    (contained_rest (record { moment = a.next; what = due.Alarm (m + 1 + i) }) (alarm_entry cpu m x) (alarm_entries cpu (m + 1) xs) (alarm_contained cpu (m + 1) xs i a is here more))

deadline_contained : (cpu m : ℕ) (xs : List (Option Deadline)) (i : ℕ) (d : Deadline) → entry (slice_get xs i) ≡ Some d → d.cpu ≡ cpu →
    Contains (deadline_entries cpu m xs) (record { moment = d.at; what = due.Deadline (m + i) })
deadline_contained cpu m [] i d is here = absurd cc
deadline_contained cpu m (x ∷ xs) zero d is here =
    let number : m ≡ m + 0 = omega arith in
    let its : deadline_entry cpu m (Some d) ≡ Some (record { moment = d.at; what = due.Deadline m }) = rw (here, eq-eqb cpu cpu refl) refl in
    subst (λ (o : Option Entry). Contains (before_rest o (deadline_entries cpu (m + 1) xs)) (record { moment = d.at; what = due.Deadline (m + 0) })) (sym (ap (deadline_entry cpu m) is ∙ its))
    (contained_first (record { moment = d.at; what = due.Deadline (m + 0) }) (record { moment = d.at; what = due.Deadline m }) (deadline_entries cpu (m + 1) xs)
    (ap (λ (n : ℕ). record { moment = d.at; what = due.Deadline n }) number))
deadline_contained cpu m (x ∷ xs) (suc i) d is here =
    let number : m + 1 + i ≡ m + suc i = omega arith in
    subst (λ (n : ℕ). Contains (deadline_entries cpu m (x ∷ xs)) (record { moment = d.at; what = due.Deadline n })) number
    (contained_rest (record { moment = d.at; what = due.Deadline (m + 1 + i) }) (deadline_entry cpu m x) (deadline_entries cpu (m + 1) xs) (deadline_contained cpu (m + 1) xs i d is here))

pub has_entries : (t : Times) (cpu : ℕ) → HasEntries t cpu
has_entries t cpu = record {
  alarms = λ n a is here more.
      let number : 0 + n ≡ n = omega arith in
      contained_left (record { moment = a.next; what = due.Alarm n }) (alarm_entries cpu 0 t.alarms) (deadline_entries cpu 0 t.deadlines)
      (subst (λ (m : ℕ). Contains (alarm_entries cpu 0 t.alarms) (record { moment = a.next; what = due.Alarm m })) number (alarm_contained cpu 0 t.alarms n a is here more));
  deadlines = λ ec d is here.
      let number : 0 + ec ≡ ec = omega arith in
      contained_right (record { moment = d.at; what = due.Deadline ec }) (alarm_entries cpu 0 t.alarms) (deadline_entries cpu 0 t.deadlines)
      (subst (λ (m : ℕ). Contains (deadline_entries cpu 0 t.deadlines) (record { moment = d.at; what = due.Deadline m })) number (deadline_contained cpu 0 t.deadlines ec d is here));
}

-- the first
found_there : (p : Entry → Bool) (es : List Entry) → IfSome (find p es) (Contains es)
found_there p [] = tt
found_there p (x ∷ es) = by_test (p x) (find p es) (found_there p es)
  where
    by_rest : (o : Option Entry) → IfSome o (Contains es) → IfSome o (Contains (x ∷ es))
    by_rest None h = tt
    by_rest (Some e) h = contained_later e x es h

    by_test : (t : Bool) (o : Option Entry) → IfSome o (Contains es) → IfSome (cond t (Some x) o) (Contains (x ∷ es))
    by_test true o h = contained_first x x es refl
    by_test false o h = by_rest o h

all_passing : (p : Entry → Bool) (es : List Entry) → list_all p es ≡ true → (e : Entry) → Contains es e → p e ≡ true
all_passing p es all e is = all_contained (λ (x : Entry). p x ≡ true) es (by_list es all) e is
  where
    by_list : (xs : List Entry) → list_all p xs ≡ true → AllByRecursion (λ (x : Entry). p x ≡ true) xs
    by_list [] h = tt
    by_list (x ∷ xs) h = let parts = and_parts (p x) (list_all p xs) h in (parts.0, by_list xs parts.1)

not_before : (a b : Entry) → not (comes_before b a) ≡ true → (a.moment < b.moment) ⊎ ((a.moment ≡ b.moment) × (is_before b.what a.what ≡ false))
not_before a b h = by_moment (nat_lt a.moment b.moment) refl
  where
    by_moment : (t : Bool) → nat_lt a.moment b.moment ≡ t → (a.moment < b.moment) ⊎ ((a.moment ≡ b.moment) × (is_before b.what a.what ≡ false))
    by_moment true less = inl (grind (arith, less))
    by_moment false least = let same : a.moment ≡ b.moment = grind (arith, least, h) in inr (same, by_rank (is_before b.what a.what) refl same)
      where
        by_rank : (t : Bool) → is_before b.what a.what ≡ t → a.moment ≡ b.moment → t ≡ false
        by_rank true is same = absurd (grind (arith, is, same, h))
        by_rank false is same = refl

pub first_entry : (t : Times) (cpu : ℕ) → IfSome (next_entry t cpu) (IsFirstEntry (entries t cpu))
unfolding next_entry
first_entry t cpu = by_found (find (is_first (entries t cpu)) (entries t cpu)) (found_passes (is_first (entries t cpu)) (entries t cpu)) (found_there (is_first (entries t cpu)) (entries t cpu))
  where
    by_found : (o : Option Entry) → IfSome o (λ a. is_first (entries t cpu) a ≡ true) → IfSome o (Contains (entries t cpu)) → IfSome o (IsFirstEntry (entries t cpu))
    by_found None first there = tt
    by_found (Some e) first there = record { there = there; least = λ d is. not_before e d (all_passing (λ b. not (comes_before b e)) (entries t cpu) first d is) }

pub no_entry : (t : Times) (cpu : ℕ) → (next_entry t cpu ≡ None) ↔ (entries t cpu ≡ [])
unfolding next_entry
no_entry t cpu = (λ h. none_found (entries t cpu) h, λ h. ap (λ (es : List Entry). find (is_first es) es) h)
