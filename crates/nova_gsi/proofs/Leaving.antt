-- A context that waits at a semaphore leaves in a turn only where its down ends with SUCCESS, as is counted, or where its deadline comes.
use Rattle.std.proofs.Common.{◌≡◌, ℕ, ◌-◌, List, [], ◌∷◌, ◌++◌, refl, sym, ap, ◌∙◌, subst, inl, inr, arith}
use Rattle.std.specs.Prelude.{◌≢◌, ◌⊎◌, Bool, true, false, not, ◌==◌, filter, if◌then◌else◌, slice_get, option_map, Option, Some, None, Result, Ok}
use Rattle.std.proofs.lemmas.Bool.{eqb-true}
use Rattle.nova_model.specs.Choice.{Candidate, next_to_act}
use Rattle.nova_model.specs.Creation.{count_of, idle_semaphore}
use Rattle.nova_model.specs.Deeds.{deed}
use Rattle.nova_model.specs.Runs.{after}
use Rattle.nova_model.specs.Semaphores.{Semaphores, changed, has, lowered, raised, semaphore_at, semaphore_in, waits, without_one, woken, woken_of}
use Rattle.nova_model.specs.State.{KernelState, Semaphore, deadline_of}
use Rattle.nova_model.specs.Times.{alarm_sm, deadline_sm, due_on}
use Rattle.nova_model.specs.Turn.{whom_of}
use Rattle.nova_model.specs.declared.deed.Deed.{Deed}
use Rattle.nova_model.specs.declared.deed.Deed.TheVariants.{Blocks, Downs, Ups}
use Rattle.nova_model.specs.declared.event.Event.{Event}
use Rattle.nova_model.specs.declared.semaphore.Overflow.{Overflow}
use Rattle.nova_model.specs.declared.times.Due.{Due}
use Rattle.nova_model.specs.declared.times.Due.TheVariants as due
use Rattle.law_forest.specs.Effects.{Falls, Passing, Ticks, alarm_up, joined, made_by, passing_semaphore, semaphore_by, semaphores_with}
use Rattle.law_forest.specs.Turns.{Acts, Idles, IsPassing, IsTurning, Passes, Takes, Turning, acting, turned}
use Rattle.law_forest.proofs.Turning.{acts_chosen, comes}
use Rattle.law_turns.proofs.Referring.{Asks, deed_asks}
use Rattle.law_turns.proofs.Setting.{entry_kept}
use Rattle.nova_gsi.specs.Counters.{Ends, ends_at, ends_by, ends_by_deed, no_ends, woken_ends}
use Rattle.nova_gsi.proofs.Counters.{changed_itself, changed_other, its_own, none_by}

-- it waits on, or its down ended, or its deadline is due
abbrev WaitsOn : Semaphores → ℕ → ℕ → Ends → Option Due → Type 0
WaitsOn all sm w e o = ((s : Semaphore) × (semaphore_at all sm ≡ Some s) × (has s.waiting w ≡ true)) ⊎ ((e.downs ≡ 1) ⊎ (o ≡ Some (due.Deadline w)))

has_more : (xs ys : List ℕ) (w : ℕ) → has xs w ≡ true → has (xs ++ ys) w ≡ true
has_more [] ys w is = absurd cc
has_more (x ∷ xs) ys w is = grind (arith, is, has_more xs ys w)

has_without : (xs : List ℕ) (ec w : ℕ) → w ≢ ec → has xs w ≡ true → has (filter (λ v. not (v == ec)) xs) w ≡ true
has_without [] ec w other is = absurd cc
has_without (x ∷ xs) ec w other is = grind (arith, is, has_without xs ec w other)

-- a semaphore that changes: it itself, as is told, or another
changes_on : (change : Semaphore → Semaphore) (all : Semaphores) (at sm w : ℕ) (s : Semaphore) (e : Ends) (o : Option Due) → semaphore_at all sm ≡ Some s → has s.waiting w ≡ true →
    (at ≡ sm → (has (change s).waiting w ≡ true) ⊎ ((e.downs ≡ 1) ⊎ (o ≡ Some (due.Deadline w)))) → WaitsOn (changed change all at) sm w (if at == sm then e else no_ends) o
changes_on change all at sm w s e o there waits told = by_test (at == sm) refl
  where
    by_test : (t : Bool) → (at == sm) ≡ t → WaitsOn (changed change all at) sm w (if t then e else no_ends) o
    by_test true is =
        let same : at ≡ sm = eqb-true at sm is in
        elim (told same) [
          | inl on ↦ inl (change s, ap (λ (n : ℕ). semaphore_at (changed change all n) sm) same ∙ changed_itself change all sm s there, on)
          | inr ends ↦ inr ends
        ]
    by_test false is =
        let differs : sm ≢ at = λ same. let e : (at == sm) ≡ true = rw same (grind arith) in absurd (cc) in
        inl (s, changed_other change all at sm differs ∙ there, waits)

woken_one : (count w : ℕ) (waiting : List ℕ) (up : Result (Option ℕ) Overflow) → has waiting w ≡ true → woken_of count waiting ≡ up → woken_ends (whom_of up) ≡ 1
woken_one count w [] up waits is = absurd cc
woken_one count w (v ∷ vs) up waits is = ap (λ (r : Result (Option ℕ) Overflow). woken_ends (whom_of r)) (sym is)

lowered_waits : (ec w : ℕ) (s : Semaphore) → has s.waiting w ≡ true → has (lowered ec s).waiting w ≡ true
lowered_waits ec w s waits = by_test (s.count == 0)
  where
    by_test : (t : Bool) → has (if t then record s { waiting = s.waiting ++ ec ∷ [] } else record s { count = s.count - 1 }).waiting w ≡ true
    by_test true = has_more s.waiting (ec ∷ []) w waits
    by_test false = waits

deed_on : (k : KernelState) (ec sm w : ℕ) (d : Deed) (s : Semaphore) (o : Option Due) → Asks k ec d → semaphore_at k.semaphores sm ≡ Some s → has s.waiting w ≡ true →
    WaitsOn (semaphores_with k.semaphores (semaphore_by ec d)) sm w (ends_by_deed sm d) o
deed_on k ec sm w (Ups at whom) s o asks there waits =
    changes_on raised k.semaphores at sm w s (record { ups = 1; downs = woken_ends whom; irqs = 0 }) o there waits
    (λ same. inr (inl (woken_one s.count w s.waiting (Ok whom) waits (ap woken (sym (its_own k.semaphores at sm s there same)) ∙ asks.1))))
deed_on k ec sm w (Downs at) s o asks there waits =
    changes_on (lowered ec) k.semaphores at sm w s (record { ups = 0; downs = 1; irqs = 0 }) o there waits (λ same. inl (lowered_waits ec w s waits))
deed_on k ec sm w (Blocks at until) s o asks there waits =
    subst (λ (e : Ends). WaitsOn (changed (lowered ec) k.semaphores at) sm w e o) (none_by (at == sm))
    (changes_on (lowered ec) k.semaphores at sm w s no_ends o there waits (λ same. inl (lowered_waits ec w s waits)))
deed_on k ec sm w other s o asks there waits = inl (s, there, waits)

late_on : (ec w : ℕ) (s : Semaphore) → has s.waiting w ≡ true → (has (without_one ec s).waiting w ≡ true) ⊎ (w ≡ ec)
late_on ec w s waits = by_test (w == ec) refl
  where
    by_test : (t : Bool) → (w == ec) ≡ t → (has (without_one ec s).waiting w ≡ true) ⊎ (w ≡ ec)
    by_test true is = inr (eqb-true w ec is)
    by_test false is =
        let differs : w ≢ ec = λ same. let e : (w == ec) ≡ true = rw same (grind arith) in absurd (cc) in inl (has_without s.waiting ec w differs waits)

passing_on : (k : KernelState) (cpu sm w : ℕ) (p : Passing) (s : Semaphore) → IsPassing k cpu p → semaphore_at k.semaphores sm ≡ Some s → has s.waiting w ≡ true →
    WaitsOn (semaphores_with k.semaphores (passing_semaphore k p)) sm w (ends_at k cpu sm) (due_on k.times cpu)
passing_on k cpu sm w (Falls (due.Alarm n)) s comes there waits =
    subst (λ (o : Option Due). WaitsOn (changed raised k.semaphores (alarm_sm (slice_get k.times.alarms n))) sm w (ends_by k sm o (next_to_act k cpu)) o) (sym comes)
    (changes_on raised k.semaphores (alarm_sm (slice_get k.times.alarms n)) sm w s _ (Some (due.Alarm n)) there waits
    (λ same. inr (inl (woken_one s.count w s.waiting (alarm_up k n) waits (ap woken (sym (its_own k.semaphores (alarm_sm (slice_get k.times.alarms n)) sm s there same)))))))
passing_on k cpu sm w (Falls (due.Deadline ec)) s comes there waits =
    subst (λ (o : Option Due). WaitsOn (changed (without_one ec) k.semaphores (deadline_sm (deadline_of k.times ec))) sm w (ends_by k sm o (next_to_act k cpu)) o) (sym comes)
    (subst (λ (e : Ends). WaitsOn (changed (without_one ec) k.semaphores (deadline_sm (deadline_of k.times ec))) sm w e (Some (due.Deadline ec))) (none_by (deadline_sm (deadline_of k.times ec) == sm))
    (changes_on (without_one ec) k.semaphores (deadline_sm (deadline_of k.times ec)) sm w s no_ends (Some (due.Deadline ec)) there waits
    (λ same. elim (late_on ec w s waits) [
      | inl on ↦ inl on
      | inr its ↦ inr (inr (ap (λ (v : ℕ). Some (due.Deadline v)) (sym its)))
    ])))
passing_on k cpu sm w Ticks s comes there waits = inl (s, there, waits)

grown_on : (all : Semaphores) (made : Option (Option Semaphore)) (sm w : ℕ) (e : Ends) (o : Option Due) → WaitsOn all sm w e o → WaitsOn (joined all made) sm w e o
grown_on all None sm w e o h = h
grown_on all (Some x) sm w e o (inl on) = inl (on.0, entry_kept all x sm on.0 on.1, on.2)
grown_on all (Some x) sm w e o (inr ends) = inr ends

turn_on : (k : KernelState) (cpu sm w : ℕ) (s : Semaphore) → semaphore_at k.semaphores sm ≡ Some s → has s.waiting w ≡ true → WaitsOn (after k cpu).semaphores sm w (ends_at k cpu sm) (due_on k.times cpu)
turn_on k cpu sm w s there at = elim (comes k cpu) [
  | Idles none moment same answer ↦ inl (s, ap (λ (l : KernelState). semaphore_at l.semaphores sm) same ∙ there, at)
  | Takes t e is state answer ↦ subst (λ (l : KernelState). WaitsOn l.semaphores sm w (ends_at k cpu sm) (due_on k.times cpu)) (sym state) (by_turning t e is)
]
  where
    by_turning : (t : Turning) (e : Event) → IsTurning k cpu t e → WaitsOn (turned k cpu t).semaphores sm w (ends_at k cpu sm) (due_on k.times cpu)
    by_turning t e (Acts c acts is event) =
        subst (λ (u : Turning). WaitsOn (turned k cpu u).semaphores sm w (ends_at k cpu sm) (due_on k.times cpu)) (sym is)
        (subst (λ (o : Option Due). WaitsOn (turned k cpu (acting k c)).semaphores sm w (ends_by k sm o (next_to_act k cpu)) o) (sym (acts_chosen k cpu c acts).1)
        (subst (λ (o : Option Candidate). WaitsOn (turned k cpu (acting k c)).semaphores sm w (ends_by k sm None o) None) (sym acts)
        (grown_on (semaphores_with k.semaphores (semaphore_by c.actor (deed k c.actor))) (option_map (λ m. option_map idle_semaphore (count_of m)) (made_by (deed k c.actor))) sm w (ends_by_deed sm (deed k c.actor)) None (deed_on k c.actor sm w (deed k c.actor) s None (deed_asks k c.actor) there at))))
    by_turning t e (Passes p came is event) =
        subst (λ (u : Turning). WaitsOn (turned k cpu u).semaphores sm w (ends_at k cpu sm) (due_on k.times cpu)) (sym is) (passing_on k cpu sm w p s came there at)

-- by whether it waits
pub leaves : (k : KernelState) (cpu sm w : ℕ) → waits k.semaphores sm w ≡ true → waits (after k cpu).semaphores sm w ≡ false →
    ((ends_at k cpu sm).downs ≡ 1) ⊎ (due_on k.times cpu ≡ Some (due.Deadline w))
leaves k cpu sm w before gone = by_entry (semaphore_at k.semaphores sm) refl before
  where
    by_on : WaitsOn (after k cpu).semaphores sm w (ends_at k cpu sm) (due_on k.times cpu) → ((ends_at k cpu sm).downs ≡ 1) ⊎ (due_on k.times cpu ≡ Some (due.Deadline w))
    by_on (inl on) =
        absurd (let still : waits (after k cpu).semaphores sm w ≡ true = ap (λ (o : Option Semaphore). has (semaphore_in o).waiting w) on.1 ∙ on.2 in
        let both : true ≡ false = sym still ∙ gone in cc)
    by_on (inr ends) = ends

    by_entry : (o : Option Semaphore) → semaphore_at k.semaphores sm ≡ o → has (semaphore_in o).waiting w ≡ true → ((ends_at k cpu sm).downs ≡ 1) ⊎ (due_on k.times cpu ≡ Some (due.Deadline w))
    by_entry None is waiting = absurd cc
    by_entry (Some s) is waiting = by_on (turn_on k cpu sm w s is waiting)
