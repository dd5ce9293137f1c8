-- A deadline that stands after a turn stood before it, or was set in it; and where its moment has come, a turn of its processor is one of those that were due before it.
use Rattle.std.proofs.Common.{◌≡◌, ℕ, zero, suc, ◌+◌, ◌<◌, ◌≤◌, List, [], ◌∷◌, refl, sym, ap, ◌∙◌, subst, inl, inr, arith}
use Rattle.std.specs.Prelude.{◌≢◌, ◌⊎◌, ◌==◌, Bool, true, false, nat_le, nat_lt, filter, length, Contains, slice_get, slice_index, slice_set, if◌then◌else◌, Option, Some, None, IfSome, option_map}
use Rattle.std.proofs.lemmas.Bool.{eqb-true, eq-eqb}
use Rattle.nova_model.specs.Choice.{Candidate, next_to_act}
use Rattle.nova_model.specs.Deeds.{deed}
use Rattle.nova_model.specs.Runs.{after}
use Rattle.nova_model.specs.State.{KernelState, deadline_of, entry}
use Rattle.nova_model.specs.Times.{Entry, Times, clock, comes_before, deadline_entry, due_on, entries, is_before, next_entry}
use Rattle.nova_model.specs.declared.deed.Deed.{Deed}
use Rattle.nova_model.specs.declared.deed.Deed.TheVariants.{Blocks, Ups}
use Rattle.nova_model.specs.declared.event.Event.{Event}
use Rattle.nova_model.specs.declared.new_object.NewObject.{NewObject}
use Rattle.nova_model.specs.declared.times.AlarmState.{AlarmState}
use Rattle.nova_model.specs.declared.times.Deadline.{Deadline}
use Rattle.nova_model.specs.declared.times.Due.{Due}
use Rattle.nova_model.specs.declared.times.Due.TheVariants as due
use Rattle.law_forest.specs.Effects.{Falls, Passing, Ticks, alarms_with, clears_by, deadline_by, deadlines_with, joined, made_by, no_deadline, passing_ends, passing_rings}
use Rattle.law_forest.specs.Turns.{Acts, Idles, IsPassing, IsTurning, Passes, Takes, Turning, acting, passing, turned}
use Rattle.law_forest.proofs.Turning.{acts_chosen, comes}
use Rattle.law_forest.proofs.Walk.{IsDeadlineOf}
use Rattle.law_turns.specs.Moments.{HasAlarm, HasDeadline, IsDueOn, IsFirstEntry}
use Rattle.law_turns.proofs.Deadlines.{cleared}
use Rattle.law_turns.proofs.Dues.{due_is}
use Rattle.law_turns.proofs.Links.{place}
use Rattle.law_turns.proofs.Moments.{early_far, first_entry, has_entries}
use Rattle.law_turns.proofs.Referring.{Asks, deed_asks}
use Rattle.law_turns.proofs.Setting.{entry_set}
use Rattle.law_leases.proofs.Nearing.{ends_clear, joined_was}
use Rattle.law_turns.proofs.Alarms.{AreOnTime}
use Rattle.nova_gsi.specs.Deadlines.{all_rings_left, deadlines_before, entry_of, turns_before}
use Rattle.nova_gsi.specs.Firings.{moment}
use Rattle.nova_gsi.proofs.Counted.{alarms_once, cleared_counted, cleared_fewer, counted, counted_one, ends_fewer, joined_entries, one_if, rings_now, set_fewer}
use Rattle.nova_gsi.proofs.Places.{calm_early}

-- IT STOOD, OR IT WAS SET

-- a deed sets it, of the context that does it
pub record Sets (k : KernelState) (ec n : ℕ) (d : Deed) (x : Deadline) : Type 0 where
  pub itself : n ≡ ec
  pub sm : ℕ
  pub blocks : d ≡ Blocks sm (Some x)
  pub until : IsDeadlineOf k ec sm x

deed_sets : (k : KernelState) (ec n : ℕ) (d : Deed) (x : Deadline) → Asks k ec d → entry (slice_get (deadlines_with k.times.deadlines (deadline_by ec d)) n) ≡ Some x →
    (entry (slice_get k.times.deadlines n) ≡ Some x) ⊎ Sets k ec n d x
deed_sets k ec n (Ups sm None) x asks is = inl is
deed_sets k ec n (Ups sm (Some w)) x asks is = inl (cleared k.times.deadlines w n x is).1
deed_sets k ec n (Blocks sm None) x asks is = inl is
deed_sets k ec n (Blocks sm (Some d)) x asks is = elim (entry_set k.times.deadlines ec n d x is) [
  | inl itself ↦
      inr (record { itself = itself.0; sm = sm; blocks = ap (λ (y : Deadline). Blocks sm (Some y)) itself.1; until = subst (IsDeadlineOf k ec sm) itself.1 asks.2 })
  | inr other ↦ inl other.1
]
deed_sets k ec n other x asks is = inl is

-- in a turn
pub record IsSet (k : KernelState) (cpu ec : ℕ) (d : Deadline) : Type 0 where
  pub chosen : Candidate
  pub acts : next_to_act k cpu ≡ Some chosen
  pub sets : Sets k chosen.actor ec (deed k chosen.actor) d

turned_set : (k : KernelState) (cpu ec : ℕ) (d : Deadline) (t : Turning) (e : Event) → IsTurning k cpu t e → deadline_of (turned k cpu t).times ec ≡ Some d →
    (deadline_of k.times ec ≡ Some d) ⊎ IsSet k cpu ec d
turned_set k cpu ec d t e (Acts c chosen is event) there =
    let stands : deadline_of (turned k cpu (acting k c)).times ec ≡ Some d = ap (λ (u : Turning). deadline_of (turned k cpu u).times ec) (sym is) ∙ there in
    let was = joined_was (deadlines_with k.times.deadlines (deadline_by c.actor (deed k c.actor))) (made_by (deed k c.actor)) ec d stands in
    elim (deed_sets k c.actor ec (deed k c.actor) d (deed_asks k c.actor) was) [
      | inl old ↦ inl old
      | inr new ↦ inr (record { chosen = c; acts = chosen; sets = new })
    ]
turned_set k cpu ec d t e (Passes p comes is event) there =
    inl (ends_clear k.times.deadlines (passing_ends k p) ec d (ap (λ (u : Turning). deadline_of (turned k cpu u).times ec) (sym is) ∙ there))

pub was_or_set : (k : KernelState) (cpu ec : ℕ) (d : Deadline) → deadline_of (after k cpu).times ec ≡ Some d → (deadline_of k.times ec ≡ Some d) ⊎ IsSet k cpu ec d
was_or_set k cpu ec d there = elim (comes k cpu) [
  | Idles none moment same answer ↦ inl (ap (λ (l : KernelState). deadline_of l.times ec) (sym same) ∙ there)
  | Takes t e is state answer ↦ turned_set k cpu ec d t e is (ap (λ (l : KernelState). deadline_of l.times ec) (sym state) ∙ there)
]

-- a deadline whose moment has come stood
pub stood : (k : KernelState) (cpu ec : ℕ) (d : Deadline) → d.at ≤ clock k.times d.cpu → deadline_of (after k cpu).times ec ≡ Some d → deadline_of k.times ec ≡ Some d
stood k cpu ec d came there = elim (was_or_set k cpu ec d there) [
  | inl old ↦ old
  | inr new ↦
      let until = new.sets.until in
      let later : clock k.times d.cpu + 1 < d.at = subst (λ (c : ℕ). clock k.times c + 1 < d.at) (sym until.processor) until.later in
      absurd (omega (arith, later, came))
]

-- WHAT IS DUE

-- something is, where a moment has come
pub not_calm : (t : Times) (ec : ℕ) (d : Deadline) → deadline_of t ec ≡ Some d → d.at ≤ clock t d.cpu → due_on t d.cpu ≡ None → ⊥
not_calm t ec d there came calm = let far = (early_far t d.cpu 1 (calm_early t d.cpu calm)).deadlines ec d there refl in absurd (omega (arith, far, came))

pub least_of : (t : Times) (cpu : ℕ) (e its : Entry) → next_entry t cpu ≡ Some e → Contains (entries t cpu) its →
    (e.moment < its.moment) ⊎ ((e.moment ≡ its.moment) × (is_before its.what e.what ≡ false))
least_of t cpu e its next there =
    let first : IsFirstEntry (entries t cpu) e = subst (λ (o : Option Entry). IfSome o (IsFirstEntry (entries t cpu))) next (first_entry t cpu) in first.least its there

-- the first against a deadline of its processor
pub least_deadline : (t : Times) (cpu ec : ℕ) (d : Deadline) (what : Due) (h : IsDueOn t cpu what) → deadline_of t ec ≡ Some d → d.cpu ≡ cpu →
    (h.moment < d.at) ⊎ ((h.moment ≡ d.at) × (is_before (due.Deadline ec) what ≡ false))
least_deadline t cpu ec d what h there on = least_of t cpu (record { moment = h.moment; what = what }) (entry_of ec d) h.next ((has_entries t cpu).deadlines ec d there on)

no_later : (m at : ℕ) (a b : Due) → (m < at) ⊎ ((m ≡ at) × (is_before a b ≡ false)) → m ≤ at
no_later m at a b (inl less) = omega (arith, less)
no_later m at a b (inr same) = let equal = same.0 in omega (arith, equal)

-- another deadline that is due comes before it
pub other_before : (w ec m at : ℕ) → w ≢ ec → (m < at) ⊎ ((m ≡ at) × (is_before (due.Deadline ec) (due.Deadline w) ≡ false)) →
    comes_before (record { moment = m; what = due.Deadline w }) (record { moment = at; what = due.Deadline ec }) ≡ true
other_before w ec m at other (inl less) = let one : nat_lt m at ≡ true = grind (arith, less) in rw one refl
other_before w ec m at other (inr same) =
    let equal : m ≡ at = same.0 in
    let least = same.1 in
    let before : nat_lt w ec ≡ true = by_test (nat_lt w ec) refl least in
    grind (arith, equal, before)
  where
    by_test : (t : Bool) → nat_lt w ec ≡ t → nat_lt ec w ≡ false → t ≡ true
    by_test true is least = refl
    by_test false is least = absurd (let same : w ≡ ec = grind (arith, is, least) in other same)

-- EACH TURN

-- fewer are due before it, by one where the turn is of its processor
abbrev Fewer : KernelState → ℕ → ℕ → Deadline → List AlarmState → List (Option Deadline) → Type 0
Fewer k cpu ec d alarms deadlines =
    all_rings_left d.cpu d.at alarms + counted (λ e. comes_before e (entry_of ec d)) d.cpu 0 deadlines + one_if (cpu == d.cpu) ≤ turns_before k.times ec d

-- nothing is due on another processor alone
elsewhere : (k : KernelState) (cpu ec : ℕ) (d : Deadline) → deadline_of k.times ec ≡ Some d → d.at ≤ clock k.times d.cpu → due_on k.times cpu ≡ None → (cpu == d.cpu) ≡ false
elsewhere k cpu ec d there came calm = by_test (cpu == d.cpu) refl
  where
    by_test : (t : Bool) → (cpu == d.cpu) ≡ t → t ≡ false
    by_test true is = absurd (not_calm k.times ec d there came (ap (λ (c : ℕ). due_on k.times c) (sym (eqb-true cpu d.cpu is)) ∙ calm))
    by_test false is = refl

ring_fewer : (k : KernelState) (cpu ec n : ℕ) (d : Deadline) (deadlines : List (Option Deadline)) → IsPassing k cpu (Falls (due.Alarm n)) → AreOnTime k.times.alarms →
    deadline_of k.times ec ≡ Some d → counted (λ e. comes_before e (entry_of ec d)) d.cpu 0 deadlines ≤ deadlines_before k.times ec d →
    Fewer k cpu ec d (alarms_with k.times.alarms (Some n)) deadlines
ring_fewer k cpu ec n d deadlines comes times there fewer = by_test (cpu == d.cpu) refl
  where
    h : IsDueOn k.times cpu (due.Alarm n)
    h = due_is k.times cpu (due.Alarm n) comes

    its : HasAlarm k.times cpu n h.moment
    its = h.entry

    once : all_rings_left d.cpu d.at (alarms_with k.times.alarms (Some n)) + rings_now d.cpu d.at its.alarm ≡ all_rings_left d.cpu d.at k.times.alarms
    once = alarms_once d.cpu d.at n k.times.alarms (slice_get k.times.alarms n) its.alarm refl its.there its.more

    counts : cpu ≡ d.cpu → rings_now d.cpu d.at its.alarm ≡ 1
    counts same =
        let on : (its.alarm.alarm.cpu == d.cpu) ≡ true = eq-eqb its.alarm.alarm.cpu d.cpu (its.its ∙ same) in
        let at : h.moment ≤ d.at = no_later h.moment d.at (due.Deadline ec) (due.Alarm n) (least_deadline k.times cpu ec d (due.Alarm n) h there (sym same)) in
        let next : moment its.alarm.alarm its.alarm.rings ≡ h.moment = sym (times n its.alarm its.there).next ∙ its.next in
        let below : nat_le h.moment d.at ≡ true = grind (arith, at) in
        let now : nat_le (moment its.alarm.alarm its.alarm.rings) d.at ≡ true = subst (λ (m : ℕ). nat_le m d.at ≡ true) (sym next) below in
        rw (on, now) refl

    by_test : (t : Bool) → (cpu == d.cpu) ≡ t →
        all_rings_left d.cpu d.at (alarms_with k.times.alarms (Some n)) + counted (λ e. comes_before e (entry_of ec d)) d.cpu 0 deadlines + one_if t ≤ turns_before k.times ec d
    by_test true is = let one = counts (eqb-true cpu d.cpu is) in let rung = once in let few = fewer in omega (arith, one, rung, few)
    by_test false is = let rung = once in let few = fewer in omega (arith, rung, few)

late_fewer : (k : KernelState) (cpu ec w : ℕ) (d : Deadline) → IsPassing k cpu (Falls (due.Deadline w)) → deadline_of k.times ec ≡ Some d → w ≢ ec →
    Fewer k cpu ec d k.times.alarms (slice_set k.times.deadlines w None)
late_fewer k cpu ec w d comes there other = by_test (cpu == d.cpu) refl
  where
    h : IsDueOn k.times cpu (due.Deadline w)
    h = due_is k.times cpu (due.Deadline w) comes

    its : HasDeadline k.times cpu w h.moment
    its = h.entry

    less : counted (λ e. comes_before e (entry_of ec d)) d.cpu 0 (slice_set k.times.deadlines w None)
        + counted_one (λ e. comes_before e (entry_of ec d)) (deadline_entry d.cpu w (deadline_of k.times w)) ≡ deadlines_before k.times ec d
    less = cleared_counted (λ e. comes_before e (entry_of ec d)) d.cpu k.times.deadlines w

    counts : cpu ≡ d.cpu → counted_one (λ e. comes_before e (entry_of ec d)) (deadline_entry d.cpu w (deadline_of k.times w)) ≡ 1
    counts same =
        let on : (its.deadline.cpu == d.cpu) ≡ true = eq-eqb its.deadline.cpu d.cpu (its.its ∙ same) in
        let before : comes_before (entry_of w its.deadline) (entry_of ec d) ≡ true =
        subst (λ (m : ℕ). comes_before (record { moment = m; what = due.Deadline w }) (entry_of ec d) ≡ true) (sym its.at)
        (other_before w ec h.moment d.at other (least_deadline k.times cpu ec d (due.Deadline w) h there (sym same))) in
        ap (λ (o : Option Deadline). counted_one (λ e. comes_before e (entry_of ec d)) (deadline_entry d.cpu w o)) its.there
        ∙ ap (λ (t : Bool). counted_one (λ e. comes_before e (entry_of ec d)) (if t then Some (entry_of w its.deadline) else None)) on
        ∙ ap one_if before

    by_test : (t : Bool) → (cpu == d.cpu) ≡ t →
        all_rings_left d.cpu d.at k.times.alarms + counted (λ e. comes_before e (entry_of ec d)) d.cpu 0 (slice_set k.times.deadlines w None) + one_if t ≤ turns_before k.times ec d
    by_test true is = let one = counts (eqb-true cpu d.cpu is) in let few = less in omega (arith, one, few)
    by_test false is = let few = less in omega (arith, few)

passing_fewer : (k : KernelState) (cpu ec : ℕ) (d : Deadline) (p : Passing) → IsPassing k cpu p → AreOnTime k.times.alarms → d.at ≤ clock k.times d.cpu →
    deadline_of k.times ec ≡ Some d → deadline_of (turned k cpu (passing k p)).times ec ≡ Some d →
    Fewer k cpu ec d (alarms_with k.times.alarms (passing_rings p)) (deadlines_with k.times.deadlines (clears_by (passing_ends k p)))
passing_fewer k cpu ec d (Falls (due.Alarm n)) comes times came there stands =
    ring_fewer k cpu ec n d (deadlines_with k.times.deadlines (clears_by (passing_ends k (Falls (due.Alarm n))))) comes times there
    (ends_fewer (λ e. comes_before e (entry_of ec d)) d.cpu k.times.deadlines (passing_ends k (Falls (due.Alarm n))))
passing_fewer k cpu ec d (Falls (due.Deadline w)) comes times came there stands =
    late_fewer k cpu ec w d comes there (λ same. (cleared k.times.deadlines w ec d stands).0 (sym same))
passing_fewer k cpu ec d Ticks comes times came there stands =
    let other = elsewhere k cpu ec d there came comes.0 in
    subst (λ (t : Bool). turns_before k.times ec d + one_if t ≤ turns_before k.times ec d) (sym other) (omega arith)

-- a deed sets none that comes before it
deed_fewer : (k : KernelState) (a ec : ℕ) (d : Deadline) (x : Deed) → Asks k a x → d.at ≤ clock k.times d.cpu →
    counted (λ e. comes_before e (entry_of ec d)) d.cpu 0 (deadlines_with k.times.deadlines (deadline_by a x)) ≤ deadlines_before k.times ec d
deed_fewer k a ec d (Ups sm None) asks came = omega arith
deed_fewer k a ec d (Ups sm (Some w)) asks came = cleared_fewer (λ e. comes_before e (entry_of ec d)) d.cpu k.times.deadlines w
deed_fewer k a ec d (Blocks sm None) asks came = omega arith
deed_fewer k a ec d (Blocks sm (Some y)) asks came = set_fewer d.cpu ec d k.times.deadlines a y
    (λ same. let until = asks.2 in
    let later : clock k.times d.cpu + 1 < y.at = subst (λ (c : ℕ). clock k.times c + 1 < y.at) (sym until.processor ∙ same) until.later in omega (arith, later, came))
deed_fewer k a ec d other asks came = omega arith

joined_fewer : (p : Entry → Bool) (cpu : ℕ) (ds : List (Option Deadline)) (made : Option NewObject) → counted p cpu 0 (joined ds (option_map no_deadline made)) ≡ counted p cpu 0 ds
joined_fewer p cpu ds None = refl
joined_fewer p cpu ds (Some m) = ap (λ (es : List Entry). length (filter p es)) (joined_entries cpu 0 ds)

acting_fewer : (k : KernelState) (cpu ec : ℕ) (d : Deadline) (c : Candidate) → next_to_act k cpu ≡ Some c → d.at ≤ clock k.times d.cpu → deadline_of k.times ec ≡ Some d →
    Fewer k cpu ec d k.times.alarms (joined (deadlines_with k.times.deadlines (deadline_by c.actor (deed k c.actor))) (option_map no_deadline (made_by (deed k c.actor))))
acting_fewer k cpu ec d c chosen came there =
    let other = elsewhere k cpu ec d there came (acts_chosen k cpu c chosen).1 in
    let same = joined_fewer (λ e. comes_before e (entry_of ec d)) d.cpu (deadlines_with k.times.deadlines (deadline_by c.actor (deed k c.actor))) (made_by (deed k c.actor)) in
    let fewer = deed_fewer k c.actor ec d (deed k c.actor) (deed_asks k c.actor) came in
    subst (λ (t : Bool). all_rings_left d.cpu d.at k.times.alarms
    + counted (λ e. comes_before e (entry_of ec d)) d.cpu 0 (joined (deadlines_with k.times.deadlines (deadline_by c.actor (deed k c.actor))) (option_map no_deadline (made_by (deed k c.actor))))
    + one_if t ≤ turns_before k.times ec d) (sym other) (omega (arith, same, fewer))

-- the clock
pub clock_more : (xs : List ℕ) (by c : ℕ) → (slice_index xs c ≤ slice_index (slice_set xs by (slice_index xs by + 1)) c)
    × (slice_index (slice_set xs by (slice_index xs by + 1)) c ≤ slice_index xs c + one_if (by == c))
clock_more [] by c = (omega arith, omega arith)
clock_more (x ∷ xs) zero zero = (omega arith, omega arith)
clock_more (x ∷ xs) zero (suc c) = (omega arith, omega arith)
clock_more (x ∷ xs) (suc by) zero = (omega arith, omega arith)
clock_more (x ∷ xs) (suc by) (suc c) =
    let others = clock_more xs by c in
    let same : (suc by == suc c) ≡ (by == c) = grind arith in
    (others.0, subst (λ (t : Bool). slice_index (slice_set xs by (slice_index xs by + 1)) c ≤ slice_index xs c + one_if t) (sym same) others.1)

-- the clock goes on by no more than becomes fewer
pub record Nears (k l : KernelState) (ec : ℕ) (d : Deadline) : Type 0 where
  pub stood : deadline_of k.times ec ≡ Some d
  pub later : clock k.times d.cpu ≤ clock l.times d.cpu
  pub bound : clock l.times d.cpu + turns_before l.times ec d ≤ clock k.times d.cpu + turns_before k.times ec d

nears_by : (k : KernelState) (cpu ec : ℕ) (d : Deadline) (t : Turning) → deadline_of k.times ec ≡ Some d →
    turns_before (turned k cpu t).times ec d + one_if (cpu == d.cpu) ≤ turns_before k.times ec d → Nears k (turned k cpu t) ec d
nears_by k cpu ec d t there fewer =
    let time = clock_more k.times.clocks cpu d.cpu in
    let most = time.1 in record { stood = there; later = time.0; bound = omega (arith, most, fewer) }

turned_nears : (k : KernelState) (cpu ec : ℕ) (d : Deadline) (t : Turning) (e : Event) → IsTurning k cpu t e → AreOnTime k.times.alarms → d.at ≤ clock k.times d.cpu →
    deadline_of k.times ec ≡ Some d → deadline_of (turned k cpu t).times ec ≡ Some d → Nears k (turned k cpu t) ec d
turned_nears k cpu ec d t e (Acts c chosen is event) times came there stands =
    subst (λ (u : Turning). Nears k (turned k cpu u) ec d) (sym is) (nears_by k cpu ec d (acting k c) there (acting_fewer k cpu ec d c chosen came there))
turned_nears k cpu ec d t e (Passes p comes is event) times came there stands =
    subst (λ (u : Turning). Nears k (turned k cpu u) ec d) (sym is)
    (nears_by k cpu ec d (passing k p) there
    (passing_fewer k cpu ec d p comes times came there (ap (λ (u : Turning). deadline_of (turned k cpu u).times ec) (sym is) ∙ stands)))

pub turn_nears : (k : KernelState) (cpu ec : ℕ) (d : Deadline) → AreOnTime k.times.alarms → d.at ≤ clock k.times d.cpu → deadline_of (after k cpu).times ec ≡ Some d → Nears k (after k cpu) ec d
turn_nears k cpu ec d times came there = elim (comes k cpu) [
  | Idles none moment same answer ↦
      subst (λ (l : KernelState). Nears k l ec d) (sym same)
      (record { stood = ap (λ (l : KernelState). deadline_of l.times ec) (sym same) ∙ there; later = omega arith; bound = omega arith })
  | Takes t e is state answer ↦
      subst (λ (l : KernelState). Nears k l ec d) (sym state)
      (turned_nears k cpu ec d t e is times came (stood k cpu ec d came there) (ap (λ (l : KernelState). deadline_of l.times ec) (sym state) ∙ there))
]

-- what is due where its moment has come is itself, or one of those before it
some_fewer : (k : KernelState) (ec : ℕ) (d : Deadline) (a b : ℕ) → a + b + one_if (d.cpu == d.cpu) ≤ turns_before k.times ec d → 1 ≤ turns_before k.times ec d
some_fewer k ec d a b h = let one : one_if (d.cpu == d.cpu) ≡ 1 = ap one_if (eq-eqb d.cpu d.cpu refl) in omega (arith, one, h)

pub due_fewer : (k : KernelState) (ec : ℕ) (d : Deadline) (what : Due) → due_on k.times d.cpu ≡ Some what → AreOnTime k.times.alarms → deadline_of k.times ec ≡ Some d →
    (what ≡ due.Deadline ec) ⊎ (1 ≤ turns_before k.times ec d)
due_fewer k ec d (due.Alarm n) is times there =
    inr (some_fewer k ec d (all_rings_left d.cpu d.at (alarms_with k.times.alarms (Some n))) (deadlines_before k.times ec d)
    (ring_fewer k d.cpu ec n d k.times.deadlines is times there (omega arith)))
due_fewer k ec d (due.Deadline w) is times there = elim (place w ec) [
  | inl same ↦ inl (ap due.Deadline same)
  | inr other ↦
      inr (some_fewer k ec d (all_rings_left d.cpu d.at k.times.alarms) (counted (λ e. comes_before e (entry_of ec d)) d.cpu 0 (slice_set k.times.deadlines w None))
      (late_fewer k d.cpu ec w d is there other))
]
