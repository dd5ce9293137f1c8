-- A context that has a deadline is blocked at its semaphore, and of its processor: kept by each deed, and by what comes by itself.
use Rattle.std.proofs.Common.{◌≡◌, ℕ, List, [], ◌∷◌, ◌++◌, length, refl, sym, ap, ◌∙◌, subst, inl, inr}
use Rattle.std.specs.Prelude.{◌≢◌, true, IsSome, map, is_some, slice_get, slice_set, zero, suc, Option, Some, None, Ok, Err, Result, option_map, ◌+◌}
use Rattle.nova_range.specs.declared.status.Status.TheVariants.{Success}
use Rattle.nova_objects.specs.declared.object.Object.{Object}
use Rattle.nova_objects.specs.declared.object.Object.TheVariants.{Pd, Ec, Sc, Pt, Sm}
use Rattle.nova_model.specs.Creation.{context_of}
use Rattle.nova_model.specs.Edges.{cpu_in, state_in}
use Rattle.nova_model.specs.Semaphores.{Semaphores, semaphore, waits}
use Rattle.nova_model.specs.State.{Contexts, KernelState, context_at, deadline_of, ec_in, entry, processor_in, processor_of}
use Rattle.nova_model.specs.Times.{alarm_sm, deadline_sm}
use Rattle.nova_model.specs.Turn.{whom_of}
use Rattle.nova_model.specs.declared.context.EcState.{EcState}
use Rattle.nova_model.specs.declared.context.State.TheVariants.{Blocked}
use Rattle.nova_model.specs.declared.deed.Deed.{Deed}
use Rattle.nova_model.specs.declared.deed.Deed.TheVariants.{Ups, Downs, Blocks}
use Rattle.nova_model.specs.declared.new_object.NewObject.{NewObject}
use Rattle.nova_model.specs.declared.semaphore.Overflow.{Overflow}
use Rattle.nova_model.specs.declared.times.Deadline.{Deadline}
use Rattle.nova_model.specs.declared.times.Due.TheVariants as due
use Rattle.nova_sem.specs.Waiting.{AllWaitAsBefore, OthersWaitAsBefore}
use Rattle.nova_sem.proofs.Expiring.{only_the_late_goes}
use Rattle.nova_sem.proofs.Waiting.{only_the_blocked_comes, only_the_woken_goes}
use Rattle.law_forest.specs.Effects.{Falls, Passing, Ticks, alarm_up, clears_by, deadline_by, deadlines_with, joined, no_deadline, passing_ends, passing_semaphore, semaphore_by, semaphores_with, with_status}
use Rattle.law_forest.specs.Turns.{IsPassing}
use Rattle.law_turns.specs.Tables.{HasTables, tag, tag_of}
use Rattle.law_turns.specs.Waiting.{AreBlocked, AreDeadlines, IsAwaiting}
use Rattle.law_turns.specs.Links.{state_at}
use Rattle.law_turns.proofs.Blocking.{nobody_waits, none_waits, semaphore_there}
use Rattle.law_turns.proofs.Links.{more_other, place, past}
use Rattle.law_turns.proofs.Referring.{Asks}
use Rattle.law_turns.proofs.Serving.{IsActor, is_blocked}
use Rattle.law_turns.proofs.Setting.{entry_joined, entry_set}
use Rattle.law_turns.proofs.TablesKept.{tags_at}
use Rattle.law_turns.proofs.Tags.{get_map}

-- PROCESSORS

abbrev cpu_by : Option (Option (ℕ × ℕ)) → Option ℕ
cpu_by (Some (Some p)) = Some p.1
cpu_by other = None

cpu_tag : (o : Option (Option EcState)) → option_map (λ (x : EcState). x.cpu) (entry o) ≡ cpu_by (option_map tag o)
cpu_tag None = refl
cpu_tag (Some None) = refl
cpu_tag (Some (Some x)) = refl

cpu_same : (cs new : Contexts) (n : ℕ) → map tag new ≡ map tag cs → cpu_in new n ≡ cpu_in cs n
cpu_same cs new n same =
    cpu_tag (slice_get new n) ∙ ap cpu_by (sym (get_map tag new n)) ∙ ap (λ (l : List (Option (ℕ × ℕ))). cpu_by (slice_get l n)) same
    ∙ ap cpu_by (get_map tag cs n) ∙ sym (cpu_tag (slice_get cs n))

pub at_home : (k : KernelState) (ec : ℕ) → IsSome (context_at k ec) → HasTables k → cpu_in k.contexts ec ≡ Some (processor_of k ec)
at_home k ec there h = by_object (slice_get k.objects ec) (cpu_tag (slice_get k.contexts ec) ∙ ap cpu_by (tags_at k ec h)) (by_context (ec_in k.contexts ec) there)
  where
    by_context : (o : Option EcState) → IsSome o → IsSome (option_map (λ (x : EcState). x.cpu) o)
    by_context None is = absurd cc
    by_context (Some x) is = refl

    by_object : (o : Option Object) → cpu_in k.contexts ec ≡ cpu_by (option_map (tag_of (0 + ec)) o) → IsSome (cpu_in k.contexts ec) → cpu_in k.contexts ec ≡ Some (processor_in o)
    by_object (Some (Ec pd cpu kind event)) is some = is
    by_object (Some Pd) is some = absurd (let none : IsSome {T = ℕ} None = subst IsSome is some in cc)
    by_object (Some (Sc its cpu priority quantum)) is some = absurd (let none : IsSome {T = ℕ} None = subst IsSome is some in cc)
    by_object (Some (Pt its mtd ip)) is some = absurd (let none : IsSome {T = ℕ} None = subst IsSome is some in cc)
    by_object (Some Sm) is some = absurd (let none : IsSome {T = ℕ} None = subst IsSome is some in cc)
    by_object None is some = absurd (let none : IsSome {T = ℕ} None = subst IsSome is some in cc)

-- ONE DEADLINE

-- a change of contexts that leaves tags, after which the blocked wait
record Changes (k : KernelState) (cs : Contexts) (all : Semaphores) : Type 0 where
  tags : map tag cs ≡ map tag k.contexts
  blocked : AreBlocked cs all

-- a context that still waits is blocked still
still : (k : KernelState) (cs : Contexts) (all : Semaphores) (n : ℕ) (d : Deadline) → Changes k cs all → IsAwaiting k.contexts n d → waits all d.sm n ≡ true → IsAwaiting cs n d
still k cs all n d new was is = record { blocked = new.blocked.blocked d.sm n is; processor = cpu_same k.contexts cs n new.tags ∙ was.processor }

all_still : (k : KernelState) (cs : Contexts) (all : Semaphores) → Changes k cs all → AreBlocked k.contexts k.semaphores → AreDeadlines k.contexts k.times.deadlines →
    AllWaitAsBefore k.semaphores all → AreDeadlines cs k.times.deadlines
all_still k cs all new blocked late same n d is =
    let was = late n d is in still k cs all n d new was (same d.sm n ∙ blocked.waiting d.sm n was.blocked)

others_still : (k : KernelState) (cs : Contexts) (all : Semaphores) (ec n : ℕ) (d : Deadline) → Changes k cs all → AreBlocked k.contexts k.semaphores →
    AreDeadlines k.contexts k.times.deadlines → OthersWaitAsBefore k.semaphores ec all → n ≢ ec → entry (slice_get k.times.deadlines n) ≡ Some d → IsAwaiting cs n d
others_still k cs all ec n d new blocked late same other is =
    let was = late n d is in still k cs all n d new was (same d.sm n other ∙ blocked.waiting d.sm n was.blocked)

-- a deadline is cleared
pub cleared : (ds : List (Option Deadline)) (e n : ℕ) (d : Deadline) → entry (slice_get (slice_set ds e None) n) ≡ Some d → (n ≢ e) × (entry (slice_get ds n) ≡ Some d)
cleared [] e n d is = absurd cc
cleared (x ∷ ds) zero zero d is = absurd cc
cleared (x ∷ ds) zero (suc n) d is = (λ same. absurd cc, is)
cleared (x ∷ ds) (suc e) zero d is = (λ same. absurd cc, is)
cleared (x ∷ ds) (suc e) (suc n) d is = let rest = cleared ds e n d is in (λ same. absurd (let one : n ≡ e = cc in rest.0 one), rest.1)

-- A DEED

unblocked_apart : (k : KernelState) (ec n : ℕ) (d : Deadline) → IsActor k.contexts ec → AreDeadlines k.contexts k.times.deadlines → entry (slice_get k.times.deadlines n) ≡ Some d → n ≢ ec
unblocked_apart k ec n d actor late is same =
    let at = ap (λ (m : ℕ). is_blocked (state_in k.contexts m)) (sym same) ∙ ap is_blocked (late n d is).blocked in
    let none = actor.unblocked in absurd cc

pub deed_deadlines : (k : KernelState) (cs : Contexts) (ec : ℕ) (d : Deed) → IsActor k.contexts ec → Asks k ec d → HasTables k → map tag cs ≡ map tag k.contexts →
    AreBlocked k.contexts k.semaphores → AreDeadlines k.contexts k.times.deadlines → AreBlocked cs (semaphores_with k.semaphores (semaphore_by ec d)) →
    AreDeadlines cs (deadlines_with k.times.deadlines (deadline_by ec d))
deed_deadlines k cs ec (Ups sm None) actor asks tables tags blocked late now =
    let s = semaphore k.semaphores sm in
    all_still k cs _ (record { tags = tags; blocked = now }) blocked late (only_the_woken_goes.nobody k.semaphores sm (nobody_waits s.count s.waiting asks.1))
deed_deadlines k cs ec (Ups sm (Some w)) actor asks tables tags blocked late now = λ n x is.
    let old = cleared k.times.deadlines w n x is in
    others_still k cs _ w n x (record { tags = tags; blocked = now }) blocked late (only_the_woken_goes.up k.semaphores sm w asks.1) old.0 old.1
deed_deadlines k cs ec (Downs sm) actor asks tables tags blocked late now =
    all_still k cs _ (record { tags = tags; blocked = now }) blocked late (only_the_blocked_comes.done k.semaphores sm ec asks.1)
deed_deadlines k cs ec (Blocks sm None) actor asks tables tags blocked late now = λ n x is.
    others_still k cs _ ec n x (record { tags = tags; blocked = now }) blocked late (only_the_blocked_comes.down k.semaphores sm ec) (unblocked_apart k ec n x actor late is) is
deed_deadlines k cs ec (Blocks sm (Some d)) actor asks tables tags blocked late now = λ n x is. elim (entry_set k.times.deadlines ec n d x is) [
  | inl itself ↦
      let here = only_the_blocked_comes.blocked k.semaphores sm ec (semaphore_there k sm tables asks.0) asks.1 in
      subst (λ (m : ℕ). IsAwaiting cs m x) (sym itself.0)
      (subst (λ (y : Deadline). IsAwaiting cs ec y) itself.1 (record {
        blocked = now.blocked sm ec here ∙ ap (λ (m : ℕ). Some (Blocked m)) (sym asks.2.waits_at);
        processor = cpu_same k.contexts cs ec tags ∙ at_home k ec (ap is_some actor.there) tables ∙ ap Some (sym asks.2.processor);
      }))
  | inr other ↦ others_still k cs _ ec n x (record { tags = tags; blocked = now }) blocked late (only_the_blocked_comes.down k.semaphores sm ec) other.0 other.1
]
deed_deadlines k cs ec other actor asks tables tags blocked late now = all_still k cs _ (record { tags = tags; blocked = now }) blocked late (λ sm n. refl)

-- an object joins, which has none
pub joined_deadlines : (n : ℕ) (cs : Contexts) (ds : List (Option Deadline)) (made : Option NewObject) → AreDeadlines cs ds →
    AreDeadlines (joined cs (option_map (context_of n) made)) (joined ds (option_map no_deadline made))
joined_deadlines n cs ds None late = late
joined_deadlines n cs ds (Some made) late = λ e d is. elim (entry_joined ds None e d is) [
  | inl there ↦ kept e d (late e d there)
  | inr new ↦ absurd (let none = new.1 in cc)
]
  where
    kept : (e : ℕ) (d : Deadline) → IsAwaiting cs e d → IsAwaiting (cs ++ context_of n made ∷ []) e d
    kept e d was = elim (place e (length cs)) [
      | inl last ↦ absurd (let none : state_in cs e ≡ None = ap (state_in cs) last ∙ ap state_at (past cs) in let is = was.blocked in cc)
      | inr other ↦
          let same = more_other cs (context_of n made) e other in
          record { blocked = ap state_at same ∙ was.blocked; processor = ap (λ (o : Option EcState). option_map (λ (x : EcState). x.cpu) o) same ∙ was.processor }
    ]

-- WHAT COMES BY ITSELF

pub passing_deadlines : (k : KernelState) (cpu : ℕ) (cs : Contexts) (p : Passing) → IsPassing k cpu p → map tag cs ≡ map tag k.contexts →
    AreBlocked k.contexts k.semaphores → AreDeadlines k.contexts k.times.deadlines → AreBlocked cs (semaphores_with k.semaphores (passing_semaphore k p)) →
    AreDeadlines cs (deadlines_with k.times.deadlines (clears_by (passing_ends k p)))
passing_deadlines k cpu cs (Falls (due.Alarm alarm)) is tags blocked late now = by_up (alarm_up k alarm) refl
  where
    sm : ℕ
    sm = alarm_sm (slice_get k.times.alarms alarm)

    nobody : whom_of (alarm_up k alarm) ≡ None → AreDeadlines cs k.times.deadlines
    nobody none =
        let s = semaphore k.semaphores sm in
        all_still k cs _ (record { tags = tags; blocked = now }) blocked late (only_the_woken_goes.nobody k.semaphores sm (none_waits s.count s.waiting none))

    by_up : (o : Result (Option ℕ) Overflow) → alarm_up k alarm ≡ o → AreDeadlines cs (deadlines_with k.times.deadlines (clears_by (with_status Success (whom_of o))))
    by_up (Ok None) up = nobody (ap whom_of up)
    by_up (Err full) up = nobody (ap whom_of up)
    by_up (Ok (Some w)) up = λ n x at.
        let old = cleared k.times.deadlines w n x at in
        others_still k cs _ w n x (record { tags = tags; blocked = now }) blocked late (only_the_woken_goes.up k.semaphores sm w up) old.0 old.1
passing_deadlines k cpu cs (Falls (due.Deadline ec)) is tags blocked late now = λ n x at.
    let old = cleared k.times.deadlines ec n x at in
    others_still k cs _ ec n x (record { tags = tags; blocked = now }) blocked late (only_the_late_goes.others k.semaphores (deadline_sm (deadline_of k.times ec)) ec) old.0 old.1
passing_deadlines k cpu cs Ticks is tags blocked late now =
    all_still k cs _ (record { tags = tags; blocked = now }) blocked late (λ sm n. refl)
