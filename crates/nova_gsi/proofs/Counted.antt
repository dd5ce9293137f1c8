-- How many turns are due before a deadline, where an alarm rings, where a deadline goes and where a deadline is set.
use Rattle.std.proofs.Common.{◌≡◌, ℕ, zero, suc, ◌+◌, ◌-◌, ◌<◌, ◌≤◌, List, [], ◌∷◌, ◌++◌, length, refl, sym, ap, ◌∙◌, subst, arith}
use Rattle.std.specs.Prelude.{◌==◌, Bool, true, false, nat_le, nat_lt, cond, filter, slice_get, slice_set, if◌then◌else◌, Option, Some, None}
use Rattle.std.specs.List.{range_with_len}
use Rattle.std.proofs.lemmas.Bool.{eqb-true}
use Rattle.nova_model.specs.State.{entry}
use Rattle.nova_model.specs.Times.{Entry, before_rest, comes_before, deadline_entries, deadline_entry, goes_on, rung_in, rung_once}
use Rattle.nova_model.specs.declared.times.AlarmState.{AlarmState}
use Rattle.nova_model.specs.declared.times.Deadline.{Deadline}
use Rattle.nova_range.specs.declared.status.Status.{Status}
use Rattle.law_forest.specs.Effects.{clears_by, deadlines_with}
use Rattle.nova_gsi.specs.Deadlines.{all_rings_left, entry_of, rings_left}
use Rattle.nova_gsi.specs.Firings.{moment}

abbrev pub one_if : Bool → ℕ
one_if t = if t then 1 else 0

-- ALARMS

less_one : (a b : ℕ) → nat_lt a b ≡ true → b - a ≡ suc (b - (a + 1))
less_one a b less = let below : a < b = grind (arith, less) in omega (arith, below)

-- an alarm that rings has one moment less to come
ring_once : (at : ℕ) (a : AlarmState) → goes_on a ≡ true → rings_left at (rung_once a) + one_if (nat_le (moment a.alarm a.rings) at) ≡ rings_left at a
ring_once at a more =
    subst (λ (m : ℕ). rings_left at (rung_once a) + one_if (nat_le (moment a.alarm a.rings) at) ≡ length (filter (λ j. nat_le (moment a.alarm j) at) (range_with_len a.rings m)))
    (sym (less_one a.rings a.alarm.count more)) (by_test (nat_le (moment a.alarm a.rings) at))
  where
    others : List ℕ
    others = filter (λ j. nat_le (moment a.alarm j) at) (range_with_len (a.rings + 1) (a.alarm.count - (a.rings + 1)))

    by_test : (t : Bool) → length others + one_if t ≡ length (cond t (a.rings ∷ others) others)
    by_test true = omega arith
    by_test false = omega arith

abbrev pub rings_now : ℕ → ℕ → AlarmState → ℕ
rings_now cpu at a = if a.alarm.cpu == cpu then one_if (nat_le (moment a.alarm a.rings) at) else 0

all_once : (cpu at n : ℕ) (alarms : List AlarmState) (a : AlarmState) → slice_get alarms n ≡ Some a → goes_on a ≡ true →
    all_rings_left cpu at (slice_set alarms n (rung_once a)) + rings_now cpu at a ≡ all_rings_left cpu at alarms
all_once cpu at n [] a there more = absurd cc
all_once cpu at zero (x ∷ alarms) a there more =
    let same : x ≡ a = cc in
    subst (λ (y : AlarmState). all_rings_left cpu at (rung_once a ∷ alarms) + rings_now cpu at a ≡ all_rings_left cpu at (y ∷ alarms)) (sym same) (by_test (a.alarm.cpu == cpu))
  where
    by_test : (t : Bool) → (if t then rings_left at (rung_once a) else 0) + all_rings_left cpu at alarms + (if t then one_if (nat_le (moment a.alarm a.rings) at) else 0)
        ≡ (if t then rings_left at a else 0) + all_rings_left cpu at alarms
    by_test true = let once = ring_once at a more in omega (arith, once)
    by_test false = omega arith
all_once cpu at (suc n) (x ∷ alarms) a there more = let others = all_once cpu at n alarms a there more in omega (arith, others)

pub alarms_once : (cpu at n : ℕ) (alarms : List AlarmState) (o : Option AlarmState) (a : AlarmState) → slice_get alarms n ≡ o → o ≡ Some a → goes_on a ≡ true →
    all_rings_left cpu at (rung_in alarms n o) + rings_now cpu at a ≡ all_rings_left cpu at alarms
alarms_once cpu at n alarms None a there is more = absurd cc
alarms_once cpu at n alarms (Some x) a there is more =
    let same : x ≡ a = cc in
    subst (λ (y : AlarmState). all_rings_left cpu at (slice_set alarms n (rung_once y)) + rings_now cpu at a ≡ all_rings_left cpu at alarms) (sym same)
    (all_once cpu at n alarms a (there ∙ ap Some same) more)

-- DEADLINES

abbrev pub counted_one : (Entry → Bool) → Option Entry → ℕ
counted_one p None = 0
counted_one p (Some e) = one_if (p e)

abbrev pub counted : (Entry → Bool) → ℕ → ℕ → List (Option Deadline) → ℕ
counted p cpu n ds = length (filter p (deadline_entries cpu n ds))

count_front : (p : Entry → Bool) (o : Option Entry) (es : List Entry) → length (filter p (before_rest o es)) ≡ counted_one p o + length (filter p es)
count_front p None es = omega arith
count_front p (Some e) es = by_test (p e)
  where
    by_test : (t : Bool) → length (cond t (e ∷ filter p es) (filter p es)) ≡ one_if t + length (filter p es)
    by_test true = omega arith
    by_test false = omega arith

-- where a deadline is set that isn't counted, what stood there no longer is
pub set_counted : (p : Entry → Bool) (cpu n : ℕ) (ds : List (Option Deadline)) (i : ℕ) (x : Option Deadline) → counted_one p (deadline_entry cpu (n + i) x) ≡ 0 →
    counted p cpu n (slice_set ds i x) + counted_one p (deadline_entry cpu (n + i) (entry (slice_get ds i))) ≡ counted p cpu n ds
set_counted p cpu n [] i x none = refl
set_counted p cpu n (y ∷ ds) zero x none =
    let number : n + 0 ≡ n = omega arith in
    let old : counted p cpu n (y ∷ ds) ≡ counted_one p (deadline_entry cpu n y) + counted p cpu (n + 1) ds = count_front p (deadline_entry cpu n y) (deadline_entries cpu (n + 1) ds) in
    let new : counted p cpu n (x ∷ ds) ≡ counted_one p (deadline_entry cpu n x) + counted p cpu (n + 1) ds = count_front p (deadline_entry cpu n x) (deadline_entries cpu (n + 1) ds) in
    let nothing : counted_one p (deadline_entry cpu n x) ≡ 0 = ap (λ (m : ℕ). counted_one p (deadline_entry cpu m x)) (sym number) ∙ none in
    let same : counted_one p (deadline_entry cpu (n + 0) y) ≡ counted_one p (deadline_entry cpu n y) = ap (λ (m : ℕ). counted_one p (deadline_entry cpu m y)) number in
    omega (arith, old, new, nothing, same)
set_counted p cpu n (y ∷ ds) (suc i) x none =
    let number : n + suc i ≡ n + 1 + i = omega arith in
    let others = set_counted p cpu (n + 1) ds i x (ap (λ (m : ℕ). counted_one p (deadline_entry cpu m x)) (sym number) ∙ none) in
    let old : counted p cpu n (y ∷ ds) ≡ counted_one p (deadline_entry cpu n y) + counted p cpu (n + 1) ds = count_front p (deadline_entry cpu n y) (deadline_entries cpu (n + 1) ds) in
    let new : counted p cpu n (y ∷ slice_set ds i x) ≡ counted_one p (deadline_entry cpu n y) + counted p cpu (n + 1) (slice_set ds i x) =
    count_front p (deadline_entry cpu n y) (deadline_entries cpu (n + 1) (slice_set ds i x)) in
    let same : counted_one p (deadline_entry cpu (n + suc i) (entry (slice_get ds i))) ≡ counted_one p (deadline_entry cpu (n + 1 + i) (entry (slice_get ds i))) =
    ap (λ (m : ℕ). counted_one p (deadline_entry cpu m (entry (slice_get ds i)))) number in
    omega (arith, old, new, others, same)

-- a deadline that goes
pub cleared_counted : (p : Entry → Bool) (cpu : ℕ) (ds : List (Option Deadline)) (w : ℕ) →
    counted p cpu 0 (slice_set ds w None) + counted_one p (deadline_entry cpu w (entry (slice_get ds w))) ≡ counted p cpu 0 ds
cleared_counted p cpu ds w =
    let number : 0 + w ≡ w = omega arith in
    subst (λ (m : ℕ). counted p cpu 0 (slice_set ds w None) + counted_one p (deadline_entry cpu m (entry (slice_get ds w))) ≡ counted p cpu 0 ds) number
    (set_counted p cpu 0 ds w None refl)

pub cleared_fewer : (p : Entry → Bool) (cpu : ℕ) (ds : List (Option Deadline)) (w : ℕ) → counted p cpu 0 (slice_set ds w None) ≤ counted p cpu 0 ds
cleared_fewer p cpu ds w = let h = cleared_counted p cpu ds w in omega (arith, h)

pub ends_fewer : (p : Entry → Bool) (cpu : ℕ) (ds : List (Option Deadline)) (o : Option (ℕ × Status)) → counted p cpu 0 (deadlines_with ds (clears_by o)) ≤ counted p cpu 0 ds
ends_fewer p cpu ds None = omega arith
ends_fewer p cpu ds (Some (w, status)) = cleared_fewer p cpu ds w

-- a deadline that is set, of no processor but `cpu`, and later
pub later_uncounted : (cpu ec n : ℕ) (d x : Deadline) → (x.cpu ≡ cpu → d.at < x.at) → counted_one (λ e. comes_before e (entry_of ec d)) (deadline_entry cpu n (Some x)) ≡ 0
later_uncounted cpu ec n d x later = by_test (x.cpu == cpu) refl
  where
    by_test : (t : Bool) → (x.cpu == cpu) ≡ t → counted_one (λ e. comes_before e (entry_of ec d)) (if t then Some (entry_of n x) else None) ≡ 0
    by_test true is =
        let after_it : d.at < x.at = later (eqb-true x.cpu cpu is) in
        let less : nat_lt x.at d.at ≡ false = grind (arith, after_it) in
        let same : (x.at == d.at) ≡ false = grind (arith, after_it) in
        let none : comes_before (entry_of n x) (entry_of ec d) ≡ false = rw (less, same) refl in ap one_if none
    by_test false is = refl

pub set_fewer : (cpu ec : ℕ) (d : Deadline) (ds : List (Option Deadline)) (n : ℕ) (x : Deadline) → (x.cpu ≡ cpu → d.at < x.at) →
    counted (λ e. comes_before e (entry_of ec d)) cpu 0 (slice_set ds n (Some x)) ≤ counted (λ e. comes_before e (entry_of ec d)) cpu 0 ds
set_fewer cpu ec d ds n x later =
    let h = set_counted (λ e. comes_before e (entry_of ec d)) cpu 0 ds n (Some x) (later_uncounted cpu ec (0 + n) d x later) in omega (arith, h)

-- and none that joins
pub joined_entries : (cpu n : ℕ) (ds : List (Option Deadline)) → deadline_entries cpu n (ds ++ None ∷ []) ≡ deadline_entries cpu n ds
joined_entries cpu n [] = refl
joined_entries cpu n (d ∷ ds) = ap (λ (es : List Entry). before_rest (deadline_entry cpu n d) es) (joined_entries cpu (n + 1) ds)
