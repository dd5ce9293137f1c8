-- Alarms have status 0 as long as fewer turns were taken than a counter holds.
use Rattle.std.proofs.Common.{◌≡◌, ℕ, zero, suc, ◌+◌, ◌^◌, ◌<◌, ◌≤◌, List, [], ◌∷◌, ◌++◌, length, refl, sym, ap, ◌∙◌, subst, inl, inr, arith}
use Rattle.std.specs.Prelude.{Bool, true, false, ◌==◌, if◌then◌else◌, map, slice_get, Option, Some, None, Ok, Err, is_some, option_map}
use Rattle.std.proofs.lemmas.Bool.{eqb-true}
use Rattle.std.proofs.lemmas.List.{length-map}
use Rattle.nova_model.specs.Boot.{Scenario, bare, boot, with_images}
use Rattle.nova_model.specs.Choice.{Candidate, in_front, next_to_act}
use Rattle.nova_model.specs.Creation.{count_of, idle_semaphore}
use Rattle.nova_model.specs.Deeds.{deed, sign_of}
use Rattle.nova_model.specs.Runs.{after, run, trace}
use Rattle.nova_model.specs.Semaphores.{Semaphores, greatest, semaphore, semaphore_at, semaphore_in, woken, woken_of}
use Rattle.nova_model.specs.Sources.{Source, with_source}
use Rattle.nova_model.specs.State.{KernelState, Semaphore, entry}
use Rattle.nova_model.specs.Times.{Times, alarm_sm, due_on}
use Rattle.nova_model.specs.Turn.{status_of}
use Rattle.nova_model.specs.declared.deed.Deed.{Deed}
use Rattle.nova_model.specs.declared.deed.Deed.TheVariants.{Downs, Ups}
use Rattle.nova_model.specs.declared.event.Event.{Event}
use Rattle.nova_model.specs.declared.event.EventKind.{EventKind}
use Rattle.nova_model.specs.declared.event.EventKind.TheVariants.{Irq}
use Rattle.nova_model.specs.declared.new_object.NewObject.TheVariants as new
use Rattle.nova_model.specs.declared.times.Alarm.{Alarm}
use Rattle.nova_model.specs.declared.times.AlarmState.{AlarmState}
use Rattle.nova_model.specs.declared.times.Due.{Due}
use Rattle.nova_model.specs.declared.times.Due.TheVariants as due
use Rattle.law_forest.specs.Effects.{Falls, Passing, Ticks, alarm_up, joined, made_by, semaphore_by, semaphores_with}
use Rattle.law_forest.specs.Turns.{Acts, IsPassing, IsTurning, Passes, Turning, is_passing, passing_event}
use Rattle.law_forest.proofs.Boots.{sources_keep}
use Rattle.law_forest.proofs.Turning.{acting_kind, after_keeps, chosen_turn, event_at}
use Rattle.law_turns.proofs.Alarms.{turned_same}
use Rattle.law_turns.proofs.Dues.{due_is}
use Rattle.law_turns.proofs.Passes.{run_append}
use Rattle.law_turns.proofs.Setting.{entry_kept, get_joined, get_last}
use Rattle.law_turns.proofs.TablesFit.{TablesFit, boot_run_fits, image_fits, source_fits}
use Rattle.nova_gsi.specs.Counters.{Ends, IsBalanced, MakesSemaphore, ends_by, ends_by_deed}
use Rattle.nova_gsi.specs.Firings.{alarms_of, is_irq, unrung}
use Rattle.nova_gsi.proofs.Boots.{boot_alarms, get_map, images_alarms}
use Rattle.nova_gsi.proofs.Counters.{counts_on, turn_counts}
use Rattle.nova_gsi.proofs.Places.{of_turn}

-- a semaphore is there, with a counter of at most `most`
pub record IsWithin (all : Semaphores) (sm most : ℕ) : Type 0 where
  pub now : Semaphore
  pub there : semaphore_at all sm ≡ Some now
  pub within : now.count ≤ most

-- alarms are these, and the counters of their semaphores at most `most`
pub record AreWithin (alarms : List Alarm) (most : ℕ) (k : KernelState) : Type 0 where
  pub same : map (λ (a : AlarmState). a.alarm) k.times.alarms ≡ alarms
  pub counters : (n : ℕ) (s : Alarm) → slice_get alarms n ≡ Some s → IsWithin k.semaphores s.sm most

-- at most one up in a turn
few_if : (t : Bool) (e : Ends) → e.ups + e.irqs ≤ 1 → (if t then e else record { ups = 0; downs = 0; irqs = 0 }).ups + (if t then e else record { ups = 0; downs = 0; irqs = 0 }).irqs ≤ 1
few_if true e h = h
few_if false e h = omega arith

one_least : (t : Bool) → 0 + (if t then 1 else 0) ≤ 1
one_least true = omega arith
one_least false = omega arith

deed_few : (sm : ℕ) (d : Deed) → (ends_by_deed sm d).ups + (ends_by_deed sm d).irqs ≤ 1
deed_few sm (Ups at whom) = few_if (at == sm) _ (omega arith)
deed_few sm (Downs at) = few_if (at == sm) _ (omega arith)
deed_few sm other = omega arith

few : (k : KernelState) (sm : ℕ) (o : Option Due) (c : Option Candidate) → (ends_by k sm o c).ups + (ends_by k sm o c).irqs ≤ 1
few k sm (Some (due.Alarm n)) c = few_if (alarm_sm (slice_get k.times.alarms n) == sm) _ (one_least (status_of (alarm_up k n) == 0))
few k sm (Some (due.Deadline ec)) c = omega arith
few k sm None (Some c) = deed_few sm (deed k c.actor)
few k sm None None = omega arith

keeps : (alarms : List Alarm) (most : ℕ) (k : KernelState) (cpu : ℕ) → AreWithin alarms most k → AreWithin alarms (suc most) (after k cpu)
keeps alarms most k cpu h = record {
  same = after_keeps (λ (l : KernelState). map (λ (a : AlarmState). a.alarm) l.times.alarms ≡ map (λ (a : AlarmState). a.alarm) k.times.alarms) (turned_same k) k cpu refl ∙ h.same;
  counters = λ n s there.
      let old = h.counters n s there in
      let c = turn_counts k cpu s.sm old.now old.there in
      let counts = c.counts in
      let within = old.within in
      let ups = few k s.sm (due_on k.times cpu) (next_to_act k cpu) in
      record { now = c.now; there = c.there; within = omega (arith, counts, within, ups) };
}

-- the turn of a place of a trace, in its state, with how many turns went before
record IsTaken (alarms : List Alarm) (e : Event) (bound : ℕ) : Type 0 where
  kernel : KernelState
  cpu : ℕ
  most : ℕ
  below : most < bound
  within : AreWithin alarms most kernel
  event : event_at kernel cpu ≡ Some e

wider : (alarms : List Alarm) (e : Event) (a b : ℕ) → a ≡ b → IsTaken alarms e a → IsTaken alarms e b
wider alarms e a b same h = subst (IsTaken alarms e) same h

taken : (alarms : List Alarm) (most : ℕ) (k : KernelState) (turns : List ℕ) → AreWithin alarms most k → (place : ℕ) (e : Event) → slice_get (trace k turns) place ≡ Some e →
    IsTaken alarms e (most + length turns)
taken alarms most k [] h place e there = absurd cc
taken alarms most k (cpu ∷ turns) h place e there =
    by_event (λ place there. wider alarms e (suc most + length turns) (most + suc (length turns)) (omega arith) (taken alarms (suc most) (after k cpu) turns (keeps alarms most k cpu h) place e there))
    (event_at k cpu) refl place there
  where
    by_event : ((place : ℕ) → slice_get (trace (after k cpu) turns) place ≡ Some e → IsTaken alarms e (most + suc (length turns))) →
        (o : Option Event) → event_at k cpu ≡ o → (place : ℕ) → slice_get (in_front o (trace (after k cpu) turns)) place ≡ Some e → IsTaken alarms e (most + suc (length turns))
    by_event rest None is place there = rest place there
    by_event rest (Some f) is zero there = record { kernel = k; cpu = cpu; most = most; below = omega arith; within = h; event = is ∙ there }
    by_event rest (Some f) is (suc place) there = rest place there

-- and an up below the greatest counter
up_is : (count : ℕ) (waiting : List ℕ) → count < greatest → status_of (woken_of count waiting) ≡ 0
up_is count (w ∷ ws) below = refl
up_is count [] below = by_full (count == greatest) refl
  where
    by_full : (t : Bool) → (count == greatest) ≡ t → status_of (if t then Err (record {}) else Ok None) ≡ 0
    by_full true is = absurd (let same : count ≡ greatest = eqb-true count greatest is in omega (arith, same, below))
    by_full false is = refl

alarm_is : (alarms : List Alarm) (most n : ℕ) (k : KernelState) (a : AlarmState) → AreWithin alarms most k → most < greatest → slice_get k.times.alarms n ≡ Some a →
    status_of (alarm_up k n) ≡ 0
alarm_is alarms most n k a h below there =
    let at : slice_get alarms n ≡ Some a.alarm = ap (λ (xs : List Alarm). slice_get xs n) (sym h.same) ∙ get_map (λ (b : AlarmState). b.alarm) k.times.alarms n a there in
    let c = h.counters n a.alarm at in
    let its : semaphore k.semaphores (alarm_sm (slice_get k.times.alarms n)) ≡ c.now = ap (λ (o : Option AlarmState). semaphore k.semaphores (alarm_sm o)) there ∙ ap semaphore_in c.there in
    let within = c.within in
    ap (λ (s : Semaphore). status_of (woken s)) its ∙ up_is c.now.count c.now.waiting (omega (arith, within, below))

irq_other : (kind : EventKind) → is_passing kind ≡ false → is_irq kind ≡ false
irq_other Irq is = absurd cc
irq_other other is = refl

taken_is : (alarms : List Alarm) (e : Event) (bound : ℕ) → IsTaken alarms e bound → bound ≤ greatest → is_irq e.kind ≡ true → e.b ≡ 0
taken_is alarms e bound h within irq = of_turn (λ f. is_irq f.kind ≡ true → f.b ≡ 0) h.kernel h.cpu e h.event by_turning irq
  where
    by_passing : (p : Passing) → IsPassing h.kernel h.cpu p → is_irq (passing_event h.kernel h.cpu p).kind ≡ true → (passing_event h.kernel h.cpu p).b ≡ 0
    by_passing (Falls (due.Alarm n)) comes irq =
        let its = (due_is h.kernel.times h.cpu (due.Alarm n) comes).entry in
        let below = h.below in alarm_is alarms h.most n h.kernel its.alarm h.within (omega (arith, below, within)) its.there
    by_passing (Falls (due.Deadline ec)) comes irq = absurd cc
    by_passing Ticks comes irq = absurd cc

    by_turning : (t : Turning) (f : Event) → IsTurning h.kernel h.cpu t f → is_irq f.kind ≡ true → f.b ≡ 0
    by_turning t f (Acts c chosen is event) irq =
        absurd (let other = irq_other (sign_of (deed h.kernel c.actor)).0 (acting_kind (deed h.kernel c.actor)) in
        let both : true ≡ false = sym irq ∙ ap (λ (g : Event). is_irq g.kind) event ∙ other in cc)
    by_turning t f (Passes p comes is event) irq = ap (λ (g : Event). g.b) event ∙ by_passing p comes (ap (λ (g : Event). is_irq g.kind) (sym event) ∙ irq)

-- AT BOOT

-- the semaphore of each alarm is there, and none waits
pub record HasSemaphores (k : KernelState) : Type 0 where
  pub fits : TablesFit k
  pub idle : (n : ℕ) (a : AlarmState) → slice_get k.times.alarms n ≡ Some a → semaphore_at k.semaphores a.alarm.sm ≡ Some (idle_semaphore 0)

semaphores_length : (k : KernelState) → TablesFit k → length k.semaphores ≡ length k.objects
semaphores_length k h = sym (length-map k.semaphores is_some) ∙ ap length h.tables.semaphores ∙ length-map k.objects _

source_has : (k : KernelState) (s : Source) → HasSemaphores k → HasSemaphores (with_source k s)
source_has k s h = record {
  fits = source_fits k s h.fits;
  idle = λ n a there. elim (get_joined k.times.alarms _ n a there) [
    | inl old ↦ entry_kept k.semaphores (Some (idle_semaphore 0)) a.alarm.sm (idle_semaphore 0) (h.idle n a old)
    | inr new ↦
        let its : length k.semaphores ≡ a.alarm.sm = semaphores_length k h.fits ∙ ap (λ (b : AlarmState). b.alarm.sm) new.1 in
        ap (λ (sm : ℕ). semaphore_at (k.semaphores ++ Some (idle_semaphore 0) ∷ []) sm) (sym its)
        ∙ ap (λ (o : Option (Option Semaphore)). entry o) (get_last k.semaphores (Some (idle_semaphore 0)))
  ];
}

none_there : (t : Times) (n : ℕ) (a : AlarmState) → t.alarms ≡ [] → slice_get t.alarms n ≡ Some a → ⊥
none_there t n a none there = let both : None ≡ Some a = ap (λ (xs : List AlarmState). slice_get xs n) (sym none) ∙ there in cc

pub boot_has : (s : Scenario) → HasSemaphores (boot s)
boot_has s =
    let k = with_images (bare s.cpus s.ram s.consoles s.root) s.images in
    sources_keep HasSemaphores source_has k s.sources (record {
      fits = image_fits s;
      idle = λ n a there. absurd (none_there k.times n a (ap (λ (t : Times). t.alarms) (images_alarms (bare s.cpus s.ram s.consoles s.root) s.images)) there);
    })

unrung_alarms : (xs : List Alarm) → map (λ (a : AlarmState). a.alarm) (map unrung xs) ≡ xs
unrung_alarms [] = refl
unrung_alarms (x ∷ xs) = ap (λ (rest : List Alarm). x ∷ rest) (unrung_alarms xs)

pub boot_idle : (s : Scenario) (n : ℕ) (a : Alarm) → slice_get (alarms_of s) n ≡ Some a → semaphore_at (boot s).semaphores a.sm ≡ Some (idle_semaphore 0)
boot_idle s n a there =
    (boot_has s).idle n (unrung a) (ap (λ (xs : List AlarmState). slice_get xs n) (boot_alarms s) ∙ get_map unrung (alarms_of s) n a there)

boot_within : (s : Scenario) → AreWithin (alarms_of s) 0 (boot s)
boot_within s = record {
  same = ap (λ (xs : List AlarmState). map (λ (a : AlarmState). a.alarm) xs) (boot_alarms s) ∙ unrung_alarms (alarms_of s);
  counters = λ n a there. record { now = idle_semaphore 0; there = boot_idle s n a there; within = omega arith };
}

pub status_0 : (s : Scenario) (turns : List ℕ) (place : ℕ) (e : Event) → length turns < 2 ^ 32 → slice_get (trace (boot s) turns) place ≡ Some e → is_irq e.kind ≡ true → e.b ≡ 0
status_0 s turns place e few there irq =
    taken_is (alarms_of s) e (0 + length turns) (taken (alarms_of s) 0 (boot s) turns (boot_within s) place e there) (omega (arith, few)) irq

-- a semaphore that is made
pub born : (s : Scenario) (turns : List ℕ) (cpu sm count : ℕ) → MakesSemaphore (run (boot s) turns) cpu sm count →
    semaphore_at (after (run (boot s) turns) cpu).semaphores sm ≡ Some (idle_semaphore count)
born s turns cpu sm count made =
    let k = run (boot s) turns in
    let c = made.maker in
    ap (λ (l : KernelState). semaphore_at l.semaphores sm) (chosen_turn k cpu c made.acts)
    ∙ ap (λ (d : Deed). semaphore_at (joined (semaphores_with k.semaphores (semaphore_by c.actor d)) (option_map (λ m. option_map idle_semaphore (count_of m)) (made_by d))) sm) made.makes
    ∙ ap (λ (n : ℕ). semaphore_at (k.semaphores ++ Some (idle_semaphore count) ∷ []) n) (made.number ∙ sym (semaphores_length k (boot_run_fits s turns)))
    ∙ ap (λ (o : Option (Option Semaphore)). entry o) (get_last k.semaphores (Some (idle_semaphore count)))

pub made_on : (s : Scenario) (before later : List ℕ) (cpu sm count : ℕ) → MakesSemaphore (run (boot s) before) cpu sm count →
    IsBalanced (after (run (boot s) before) cpu) later (run (boot s) (before ++ cpu ∷ later)) sm count
made_on s before later cpu sm count made =
    let k = after (run (boot s) before) cpu in
    subst (λ (l : KernelState). IsBalanced k later l sm count) (sym (run_append (boot s) before (cpu ∷ later))) (counts_on k later sm (idle_semaphore count) (born s before cpu sm count made))
