-- What each turn makes of a semaphore's counter.
use Rattle.std.proofs.Common.{◌≡◌, ℕ, ◌+◌, ◌-◌, List, [], ◌∷◌, ◌++◌, refl, sym, ap, ◌∙◌, subst, arith}
use Rattle.std.specs.Prelude.{◌≢◌, Bool, true, false, ◌==◌, if◌then◌else◌, slice_get, IsSome, Option, Some, None, Result, Ok, Err}
use Rattle.std.proofs.lemmas.Bool.{eqb-true}
use Rattle.nova_model.specs.Choice.{Candidate, next_to_act}
use Rattle.nova_model.specs.Deeds.{deed}
use Rattle.nova_model.specs.Runs.{after, run}
use Rattle.nova_model.specs.Semaphores.{Semaphores, answer_of, changed, changed_by, greatest, lowered, raised, raised_with, semaphore, semaphore_at, semaphore_in, without_one, woken, woken_of}
use Rattle.nova_model.specs.State.{KernelState, Semaphore, deadline_of}
use Rattle.nova_model.specs.Times.{alarm_sm, deadline_sm}
use Rattle.nova_model.specs.Turn.{status_of, whom_of}
use Rattle.nova_model.specs.declared.deed.Deed.{Deed}
use Rattle.nova_model.specs.declared.deed.Deed.TheVariants.{Blocks, Downs, Ups}
use Rattle.nova_model.specs.declared.event.Event.{Event}
use Rattle.nova_model.specs.declared.semaphore.Down.TheVariants as down
use Rattle.nova_model.specs.declared.semaphore.Overflow.{Overflow}
use Rattle.nova_model.specs.declared.times.Due.{Due}
use Rattle.nova_model.specs.declared.times.Due.TheVariants as due
use Rattle.law_forest.specs.Effects.{Falls, Passing, Ticks, alarm_up, joined, passing_semaphore, semaphore_by, semaphores_with}
use Rattle.law_forest.specs.Turns.{Acts, Idles, IsPassing, IsTurning, Passes, Takes, Turning, acting, turned}
use Rattle.law_forest.proofs.Turning.{acts_chosen, comes, idle_none, nothing_due, passing_none}
use Rattle.law_turns.proofs.Referring.{Asks, deed_asks}
use Rattle.law_turns.proofs.Setting.{entry_itself, entry_kept, entry_other}
use Rattle.nova_sem.proofs.Waiting.{woken_if as full_or}
use Rattle.nova_gsi.specs.Counters.{Ends, IsBalanced, ends_at, ends_by, ends_by_deed, no_ends, woken_ends}

-- the semaphore is there after it, and its counter with the downs is what it was with the ups and the alarms
pub record IsCounted (all : Semaphores) (sm count : ℕ) (e : Ends) : Type 0 where
  pub now : Semaphore
  pub there : semaphore_at all sm ≡ Some now
  pub counts : now.count + e.downs ≡ count + e.ups + e.irqs

still : (all : Semaphores) (sm : ℕ) (s : Semaphore) → semaphore_at all sm ≡ Some s → IsCounted all sm s.count no_ends
still all sm s there = record { now = s; there = there; counts = omega arith }

-- A SEMAPHORE THAT CHANGES

pub changed_itself : (change : Semaphore → Semaphore) (all : Semaphores) (sm : ℕ) (s : Semaphore) → semaphore_at all sm ≡ Some s → semaphore_at (changed change all sm) sm ≡ Some (change s)
changed_itself change all sm s there =
    ap (λ (o : Option Semaphore). semaphore_at (changed_by change all sm o) sm) there
    ∙ entry_itself all sm (change s) (subst IsSome (sym there) refl)

pub changed_other : (change : Semaphore → Semaphore) (all : Semaphores) (at sm : ℕ) → sm ≢ at → semaphore_at (changed change all at) sm ≡ semaphore_at all sm
changed_other change all at sm other = by_entry (semaphore_at all at)
  where
    by_entry : (o : Option Semaphore) → semaphore_at (changed_by change all at o) sm ≡ semaphore_at all sm
    by_entry None = refl
    by_entry (Some x) = entry_other all at sm (change x) other

-- one of them changes: it itself, as is told, or another
changes : (change : Semaphore → Semaphore) (all : Semaphores) (at sm : ℕ) (s : Semaphore) (e : Ends) → semaphore_at all sm ≡ Some s →
    (at ≡ sm → (change s).count + e.downs ≡ s.count + e.ups + e.irqs) → IsCounted (changed change all at) sm s.count (if at == sm then e else no_ends)
changes change all at sm s e there counts = by_test (at == sm) refl
  where
    by_test : (t : Bool) → (at == sm) ≡ t → IsCounted (changed change all at) sm s.count (if t then e else no_ends)
    by_test true is =
        let same : at ≡ sm = eqb-true at sm is in record {
          now = change s;
          there = ap (λ (n : ℕ). semaphore_at (changed change all n) sm) same ∙ changed_itself change all sm s there;
          counts = counts same;
        }
    by_test false is =
        let differs : sm ≢ at = λ same. let e : (at == sm) ≡ true = rw same (grind arith) in absurd (cc) in
        still (changed change all at) sm s (changed_other change all at sm differs ∙ there)

up_counts : (count : ℕ) (waiting : List ℕ) (whom : Option ℕ) → woken_of count waiting ≡ Ok whom → (raised_with count waiting).count + woken_ends whom ≡ count + 1
up_counts count (w ∷ ws) whom is = let same : Some w ≡ whom = cc in ap (λ (o : Option ℕ). count + woken_ends o) (sym same)
up_counts count [] whom is = by_full (count == greatest) is
  where
    by_full : (t : Bool) → full_or t ≡ Ok whom → (if t then count else count + 1) + woken_ends whom ≡ count + 1
    by_full true is = absurd cc
    by_full false is = let same : None ≡ whom = cc in ap (λ (o : Option ℕ). count + 1 + woken_ends o) (sym same) ∙ omega arith

full_counts : (count : ℕ) (waiting : List ℕ) (full : Overflow) → woken_of count waiting ≡ Err full → (raised_with count waiting).count ≡ count
full_counts count (w ∷ ws) full is = absurd cc
full_counts count [] full is = by_full (count == greatest) is
  where
    by_full : (t : Bool) → full_or t ≡ Err full → (if t then count else count + 1) ≡ count
    by_full true is = refl
    by_full false is = absurd cc

done_counts : (ec : ℕ) (s : Semaphore) → answer_of s ≡ down.Done → (lowered ec s).count + 1 ≡ s.count
done_counts ec s is = by_test (s.count == 0) refl is
  where
    by_test : (t : Bool) → (s.count == 0) ≡ t → (if t then down.Blocked else down.Done) ≡ down.Done → (if t then record s { waiting = s.waiting ++ ec ∷ [] } else record s { count = s.count - 1 }).count + 1 ≡ s.count
    by_test true is done = absurd cc
    by_test false is done = grind (arith, is)

blocked_counts : (ec : ℕ) (s : Semaphore) → answer_of s ≡ down.Blocked → (lowered ec s).count ≡ s.count
blocked_counts ec s is = by_test (s.count == 0) is
  where
    by_test : (t : Bool) → (if t then down.Blocked else down.Done) ≡ down.Blocked → (if t then record s { waiting = s.waiting ++ ec ∷ [] } else record s { count = s.count - 1 }).count ≡ s.count
    by_test true is = refl
    by_test false is = absurd cc

pub its_own : (all : Semaphores) (at sm : ℕ) (s : Semaphore) → semaphore_at all sm ≡ Some s → at ≡ sm → semaphore all at ≡ s
its_own all at sm s there same = ap (λ (n : ℕ). semaphore all n) same ∙ ap semaphore_in there

-- A DEED

pub none_by : (t : Bool) → (if t then no_ends else no_ends) ≡ no_ends
none_by true = refl
none_by false = refl

deed_counts : (k : KernelState) (ec sm : ℕ) (d : Deed) (s : Semaphore) → Asks k ec d → semaphore_at k.semaphores sm ≡ Some s →
    IsCounted (semaphores_with k.semaphores (semaphore_by ec d)) sm s.count (ends_by_deed sm d)
deed_counts k ec sm (Ups at whom) s asks there =
    changes raised k.semaphores at sm s (record { ups = 1; downs = woken_ends whom; irqs = 0 }) there
    (λ same. up_counts s.count s.waiting whom (ap woken (sym (its_own k.semaphores at sm s there same)) ∙ asks.1) ∙ omega arith)
deed_counts k ec sm (Downs at) s asks there =
    changes (lowered ec) k.semaphores at sm s (record { ups = 0; downs = 1; irqs = 0 }) there
    (λ same. done_counts ec s (ap answer_of (sym (its_own k.semaphores at sm s there same)) ∙ asks.1) ∙ omega arith)
deed_counts k ec sm (Blocks at until) s asks there =
    subst (IsCounted (changed (lowered ec) k.semaphores at) sm s.count) (none_by (at == sm))
    (changes (lowered ec) k.semaphores at sm s no_ends there
    (λ same. let counts = blocked_counts ec s (ap answer_of (sym (its_own k.semaphores at sm s there same)) ∙ asks.1) in omega (arith, counts)))
deed_counts k ec sm other s asks there = still k.semaphores sm s there

-- WHAT COMES BY ITSELF

alarm_counts : (s : Semaphore) (up : Result (Option ℕ) Overflow) → woken s ≡ up →
    (raised s).count + woken_ends (whom_of up) ≡ s.count + 0 + (if status_of up == 0 then 1 else 0)
alarm_counts s (Ok whom) is = up_counts s.count s.waiting whom is ∙ omega arith
alarm_counts s (Err full) is = let same = full_counts s.count s.waiting full is in omega (arith, same)

passing_counts : (k : KernelState) (cpu sm : ℕ) (p : Passing) (s : Semaphore) → IsPassing k cpu p → semaphore_at k.semaphores sm ≡ Some s →
    IsCounted (semaphores_with k.semaphores (passing_semaphore k p)) sm s.count (ends_at k cpu sm)
passing_counts k cpu sm (Falls (due.Alarm n)) s comes there =
    subst (λ (o : Option Due). IsCounted (changed raised k.semaphores (alarm_sm (slice_get k.times.alarms n))) sm s.count (ends_by k sm o (next_to_act k cpu))) (sym comes)
    (changes raised k.semaphores (alarm_sm (slice_get k.times.alarms n)) sm s
    (record { ups = 0; downs = woken_ends (whom_of (alarm_up k n)); irqs = if status_of (alarm_up k n) == 0 then 1 else 0 }) there
    (λ same. alarm_counts s (alarm_up k n) (ap woken (sym (its_own k.semaphores (alarm_sm (slice_get k.times.alarms n)) sm s there same)))))
passing_counts k cpu sm (Falls (due.Deadline ec)) s comes there =
    subst (λ (o : Option Due). IsCounted (changed (without_one ec) k.semaphores (deadline_sm (deadline_of k.times ec))) sm s.count (ends_by k sm o (next_to_act k cpu))) (sym comes)
    (subst (IsCounted (changed (without_one ec) k.semaphores (deadline_sm (deadline_of k.times ec))) sm s.count) (none_by (deadline_sm (deadline_of k.times ec) == sm))
    (changes (without_one ec) k.semaphores (deadline_sm (deadline_of k.times ec)) sm s no_ends there (λ same. omega arith)))
passing_counts k cpu sm Ticks s comes there =
    subst (λ (o : Option Due). IsCounted k.semaphores sm s.count (ends_by k sm o (next_to_act k cpu))) (sym comes.0)
    (subst (λ (c : Option Candidate). IsCounted k.semaphores sm s.count (ends_by k sm None c)) (sym (passing_none k cpu Ticks comes)) (still k.semaphores sm s there))

-- A TURN

grown_counts : (all : Semaphores) (made : Option (Option Semaphore)) (sm count : ℕ) (e : Ends) → IsCounted all sm count e → IsCounted (joined all made) sm count e
grown_counts all None sm count e h = h
grown_counts all (Some o) sm count e h = record { now = h.now; there = entry_kept all o sm h.now h.there; counts = h.counts }

pub turn_counts : (k : KernelState) (cpu sm : ℕ) (s : Semaphore) → semaphore_at k.semaphores sm ≡ Some s → IsCounted (after k cpu).semaphores sm s.count (ends_at k cpu sm)
turn_counts k cpu sm s there = elim (comes k cpu) [
  | Idles none moment same answer ↦
      subst (λ (l : KernelState). IsCounted l.semaphores sm s.count (ends_at k cpu sm)) (sym same)
      (subst (λ (o : Option Due). IsCounted k.semaphores sm s.count (ends_by k sm o (next_to_act k cpu))) (sym (nothing_due k cpu moment))
      (subst (λ (c : Option Candidate). IsCounted k.semaphores sm s.count (ends_by k sm None c)) (sym (idle_none k cpu none)) (still k.semaphores sm s there)))
  | Takes t e is state answer ↦ subst (λ (l : KernelState). IsCounted l.semaphores sm s.count (ends_at k cpu sm)) (sym state) (by_turning t e is)
]
  where
    by_turning : (t : Turning) (e : Event) → IsTurning k cpu t e → IsCounted (turned k cpu t).semaphores sm s.count (ends_at k cpu sm)
    by_turning t e (Acts c acts is event) =
        subst (λ (u : Turning). IsCounted (turned k cpu u).semaphores sm s.count (ends_at k cpu sm)) (sym is)
        (subst (λ (o : Option Due). IsCounted (turned k cpu (acting k c)).semaphores sm s.count (ends_by k sm o (next_to_act k cpu))) (sym (acts_chosen k cpu c acts).1)
        (subst (λ (o : Option Candidate). IsCounted (turned k cpu (acting k c)).semaphores sm s.count (ends_by k sm None o)) (sym acts)
        (grown_counts _ _ sm s.count _ (deed_counts k c.actor sm (deed k c.actor) s (deed_asks k c.actor) there))))
    by_turning t e (Passes p comes is event) =
        subst (λ (u : Turning). IsCounted (turned k cpu u).semaphores sm s.count (ends_at k cpu sm)) (sym is) (passing_counts k cpu sm p s comes there)

-- TURNS

pub counts_on : (k : KernelState) (turns : List ℕ) (sm : ℕ) (s : Semaphore) → semaphore_at k.semaphores sm ≡ Some s →
    IsBalanced k turns (run k turns) sm s.count
counts_on k [] sm s there = let same : (semaphore k.semaphores sm).count ≡ s.count = ap (λ (o : Option Semaphore). (semaphore_in o).count) there in omega (arith, same)
counts_on k (cpu ∷ turns) sm s there =
    let first = turn_counts k cpu sm s there in
    let rest = counts_on (after k cpu) turns sm first.now first.there in
    let one = first.counts in omega (arith, rest, one)
