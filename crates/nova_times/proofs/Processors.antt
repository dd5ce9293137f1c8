-- Processors by number: one of them changes, or has more room.
use Rattle.std.proofs.Common.{◌≡◌, ℕ, zero, suc, ◌<◌, ◌≤◌, ◌+◌, List, [], ◌∷◌, length, refl, ap, ap₂, sym, subst, ◌∙◌, arith}
use Rattle.std.specs.Prelude.{◌==◌, Bool, true, false, replicate, slice_get, slice_index, slice_index_or, slice_set, Option, Some, None}
use Rattle.nova_times.specs.Processors.{AreChanged, AreWider, HasPlaces, HavePlaces, IsWider, ProcessorState, clocks_of, first_of, moment_of, new_processor, processor_at}
use Rattle.nova_times.specs.Entries.{lesser}
use Rattle.nova_times.specs.Trees.{leaf}
use Rattle.nova_times.specs.declared.entry.Entry.{Entry}
use Rattle.nova_times.proofs.Trees.{least_same}

-- WHAT STANDS AT A PLACE

pub set_same : (ps : List ProcessorState) (cpu : ℕ) (p : ProcessorState) → cpu < length ps → processor_at (slice_set ps cpu p) cpu ≡ p
set_same [] cpu p lt = absurd (omega arith)
set_same (q ∷ ps) zero p lt = refl
set_same (q ∷ ps) (suc cpu) p lt = set_same ps cpu p (omega arith)

pub set_other : (ps : List ProcessorState) (cpu other : ℕ) (p : ProcessorState) → (other ≡ cpu → ⊥) → processor_at (slice_set ps cpu p) other ≡ processor_at ps other
set_other [] cpu other p h = refl
set_other (q ∷ ps) zero zero p h = absurd (h refl)
set_other (q ∷ ps) zero (suc other) p h = refl
set_other (q ∷ ps) (suc cpu) zero p h = refl
set_other (q ∷ ps) (suc cpu) (suc other) p h = set_other ps cpu other p (λ e. h (ap suc e))

pub length_set : (ps : List ProcessorState) (cpu : ℕ) (p : ProcessorState) → length (slice_set ps cpu p) ≡ length ps
length_set [] cpu p = refl
length_set (q ∷ ps) zero p = refl
length_set (q ∷ ps) (suc cpu) p = ap suc (length_set ps cpu p)

pub there_is : (ps : List ProcessorState) (cpu : ℕ) (p : ProcessorState) → cpu < length ps → p ≡ slice_index_or ps cpu p → processor_at ps cpu ≡ p
there_is [] cpu p lt is = absurd (omega arith)
there_is (q ∷ ps) zero p lt is = sym is
there_is (q ∷ ps) (suc cpu) p lt is = there_is ps cpu p (omega arith) is

pub is_below : (ps : List ProcessorState) (cpu : ℕ) (p : ProcessorState) → slice_get ps cpu ≡ Some p → cpu < length ps
is_below [] cpu p is = absurd cc
is_below (q ∷ ps) zero p is = omega arith
is_below (q ∷ ps) (suc cpu) p is = let rest = is_below ps cpu p is in omega arith

pub clock_at : (ps : List ProcessorState) (cpu : ℕ) → cpu < length ps → slice_index (clocks_of ps) cpu ≡ (processor_at ps cpu).clock
clock_at [] cpu lt = absurd (omega arith)
clock_at (q ∷ ps) zero lt = refl
clock_at (q ∷ ps) (suc cpu) lt = clock_at ps cpu (omega arith)

pub clocks_set : (ps : List ProcessorState) (cpu : ℕ) (p : ProcessorState) → clocks_of (slice_set ps cpu p) ≡ slice_set (clocks_of ps) cpu p.clock
clocks_set [] cpu p = refl
clocks_set (q ∷ ps) zero p = refl
clocks_set (q ∷ ps) (suc cpu) p = ap (λ l. q.clock ∷ l) (clocks_set ps cpu p)

pub clocks_same : (ps : List ProcessorState) (cpu : ℕ) (p : ProcessorState) → p.clock ≡ (processor_at ps cpu).clock → clocks_of (slice_set ps cpu p) ≡ clocks_of ps
clocks_same [] cpu p same = refl
clocks_same (q ∷ ps) zero p same = ap (λ n. n ∷ clocks_of ps) same
clocks_same (q ∷ ps) (suc cpu) p same = ap (λ l. q.clock ∷ l) (clocks_same ps cpu p same)

pub length_clocks : (ps : List ProcessorState) → length (clocks_of ps) ≡ length ps
length_clocks [] = refl
length_clocks (q ∷ ps) = ap suc (length_clocks ps)

pub clocks_new : (n : ℕ) → clocks_of (replicate n new_processor) ≡ replicate n 0
clocks_new zero = refl
clocks_new (suc n) = ap (λ l. 0 ∷ l) (clocks_new n)

pub same_or_not : (a b : ℕ) (P : Type 0) → (a ≡ b → P) → ((a ≡ b → ⊥) → P) → P
same_or_not a b P yes_it no_it = by_test (a == b) refl
  where
    by_test : (t : Bool) → (a == b) ≡ t → P
    by_test true h = yes_it (grind (arith, h))
    by_test false h = no_it (λ e. absurd (grind (arith, h, e)))

-- ONE CHANGES

pub changed_set : (ps : List ProcessorState) (cpu : ℕ) (p : ProcessorState) → p.clock ≡ (processor_at ps cpu).clock → AreChanged cpu p ps (slice_set ps cpu p)
changed_set ps cpu p same = record {
  count = length_set ps cpu p;
  clocks = clocks_same ps cpu p same;
  here = λ lt. set_same ps cpu p lt;
  others = λ other off. set_other ps cpu other p off;
}

-- MORE ROOM

pub first_same : (xs ys us vs : List (Option Entry)) → ((n : ℕ) → leaf us n ≡ leaf xs n) → ((n : ℕ) → leaf vs n ≡ leaf ys n) → moment_of (first_of us vs) ≡ moment_of (first_of xs ys)
first_same xs ys us vs h k = ap moment_of (ap₂ lesser (least_same xs us h) (least_same ys vs k))

pub wider_self : (p : ProcessorState) → IsWider p p
wider_self p = record { alarms = λ n. refl; deadlines = λ n. refl; alarm_room = omega arith; deadline_room = omega arith }

pub wider_through : (p q r : ProcessorState) → IsWider p q → IsWider q r → IsWider p r
wider_through p q r a b =
    let a1 = a.alarm_room in
    let a2 = a.deadline_room in
    let b1 = b.alarm_room in
    let b2 = b.deadline_room in record {
      alarms = λ n. b.alarms n ∙ a.alarms n;
      deadlines = λ n. b.deadlines n ∙ a.deadlines n;
      alarm_room = omega arith;
      deadline_room = omega arith;
    }

pub all_wider_self : (ps : List ProcessorState) → AreWider ps ps
all_wider_self ps = record { count = refl; each = λ cpu. wider_self (processor_at ps cpu) }

pub all_wider_set : (old ps : List ProcessorState) (cpu : ℕ) (p : ProcessorState) → AreWider old ps → cpu < length ps → IsWider (processor_at ps cpu) p → AreWider old (slice_set ps cpu p)
all_wider_set old ps cpu p are lt wider = record {
  count = length_set ps cpu p ∙ are.count;
  each = λ other. same_or_not other cpu (IsWider (processor_at old other) (processor_at (slice_set ps cpu p) other))
      (λ same. subst (λ (n : ℕ). IsWider (processor_at old n) (processor_at (slice_set ps cpu p) n)) (sym same)
      (subst (λ (q : ProcessorState). IsWider (processor_at old cpu) q) (sym (set_same ps cpu p lt)) (wider_through (processor_at old cpu) (processor_at ps cpu) p (are.each cpu) wider)))
      (λ off. subst (λ (q : ProcessorState). IsWider (processor_at old other) q) (sym (set_other ps cpu other p off)) (are.each other));
}

pub places_set : (alarms contexts cpu : ℕ) (ps : List ProcessorState) (p : ProcessorState) → cpu < length ps → HavePlaces alarms contexts cpu ps → HasPlaces alarms contexts p → HavePlaces alarms contexts (cpu + 1) (slice_set ps cpu p)
places_set alarms contexts cpu ps p lt are has = record {
  each = λ other low. same_or_not other cpu (HasPlaces alarms contexts (processor_at (slice_set ps cpu p) other))
      (λ same. subst (λ (n : ℕ). HasPlaces alarms contexts (processor_at (slice_set ps cpu p) n)) (sym same)
      (subst (HasPlaces alarms contexts) (sym (set_same ps cpu p lt)) has))
      (λ off. subst (HasPlaces alarms contexts) (sym (set_other ps cpu other p off)) (are.each other (omega (arith, low, off))));
}

-- PLACES STAY

pub places_wider : (alarms contexts : ℕ) (ps qs : List ProcessorState) → HavePlaces alarms contexts (length ps) ps → AreWider ps qs → HavePlaces alarms contexts (length qs) qs
places_wider alarms contexts ps qs have wider = record { each = λ cpu low. each cpu low }
  where
    each : (cpu : ℕ) → cpu < length qs → HasPlaces alarms contexts (processor_at qs cpu)
    each cpu low =
        let count = wider.count in
        let has = have.each cpu (omega arith) in
        let a = has.of_alarms in
        let d = has.of_deadlines in
        let more = wider.each cpu in
        let b = more.alarm_room in
        let e = more.deadline_room in
        record { of_alarms = omega arith; of_deadlines = omega arith }

pub places_changed : (alarms contexts : ℕ) (ps qs : List ProcessorState) (cpu : ℕ) (p : ProcessorState) → HavePlaces alarms contexts (length ps) ps → AreChanged cpu p ps qs →
    length p.alarms ≡ length (processor_at ps cpu).alarms → length p.deadlines ≡ length (processor_at ps cpu).deadlines → HavePlaces alarms contexts (length qs) qs
places_changed alarms contexts ps qs cpu p have changed same_alarms same_deadlines = record { each = λ other low. each other (subst (λ (n : ℕ). other < n) changed.count low) }
  where
    its : cpu < length ps → HasPlaces alarms contexts p
    its low =
        let has = have.each cpu low in
        let a = has.of_alarms in
        let d = has.of_deadlines in
        record { of_alarms = omega arith; of_deadlines = omega arith }

    each : (other : ℕ) → other < length ps → HasPlaces alarms contexts (processor_at qs other)
    each other low = same_or_not other cpu (HasPlaces alarms contexts (processor_at qs other))
        (λ same. let here = subst (λ (n : ℕ). n < length ps) same low in subst (λ (n : ℕ). HasPlaces alarms contexts (processor_at qs n)) (sym same) (subst (HasPlaces alarms contexts) (sym (changed.here here)) (its here)))
        (λ off. subst (HasPlaces alarms contexts) (sym (changed.others other off)) (have.each other low))

pub clock_beyond : (ps : List ProcessorState) (cpu : ℕ) → slice_get ps cpu ≡ None → slice_index (clocks_of ps) cpu ≡ 0
clock_beyond [] cpu h = refl
clock_beyond (q ∷ ps) zero h = absurd cc
clock_beyond (q ∷ ps) (suc cpu) h = clock_beyond ps cpu h

pub got : (ps : List ProcessorState) (cpu : ℕ) (p : ProcessorState) → cpu < length ps → p ≡ slice_index_or ps cpu p → slice_get ps cpu ≡ Some p
got [] cpu p lt is = absurd (omega arith)
got (q ∷ ps) zero p lt is = ap Some (sym is)
got (q ∷ ps) (suc cpu) p lt is = got ps cpu p (omega arith) is

pub nothing_at : (ps : List ProcessorState) (cpu : ℕ) → length ps ≤ cpu → slice_get ps cpu ≡ None
nothing_at [] cpu le = refl
nothing_at (q ∷ ps) zero le = absurd (omega arith)
nothing_at (q ∷ ps) (suc cpu) le = nothing_at ps cpu (omega arith)

pub wider_clock : (p : ProcessorState) (n : ℕ) → IsWider p (record p { clock = n })
wider_clock p n = record { alarms = λ k. refl; deadlines = λ k. refl; alarm_room = omega arith; deadline_room = omega arith }
