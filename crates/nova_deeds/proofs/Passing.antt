-- Turns in which no execution context acts: what is counted stays bounded, and the queues are right but for marks in which the context that goes on
-- may act.
use Rattle.std.proofs.Common.{◌≡◌, ℕ, ◌+◌, ◌^◌, ◌<◌, List, [], ◌∷◌, length, refl, ap, sym, ◌∙◌, subst, arith, IsSome}
use Rattle.std.specs.Prelude.{Option, Some, None, IfSome, Ok, Err, Result, slice_get, slice_set}
use Rattle.std.proofs.lemmas.List.{length-set}
use Rattle.nova_range.specs.declared.status.Status.{Status}
use Rattle.nova_range.specs.declared.status.Status.TheVariants.{Success, Timeout}
use Rattle.nova_model.specs.Deeds.{answered, ended_wait, with_context, woken_in}
use Rattle.nova_model.specs.Edges.{AreEdges}
use Rattle.nova_model.specs.Forest.{IsForest}
use Rattle.nova_model.specs.Runs.{after}
use Rattle.nova_model.specs.Semaphores.{left, raised, semaphore, upped, without_one, woken}
use Rattle.nova_model.specs.State.{KernelState, Semaphore, context, context_at, deadline_of, entry, with_ec}
use Rattle.nova_model.specs.Times.{Times, alarm_sm, deadline_sm, due_on, rung}
use Rattle.nova_model.specs.Turn.{counted, expires, state_after, what_is_due, whom_of}
use Rattle.nova_model.specs.declared.budget.Budget.{Budget}
use Rattle.nova_model.specs.declared.semaphore.Overflow.{Overflow}
use Rattle.nova_model.specs.declared.times.Due.{Due}
use Rattle.nova_model.specs.declared.times.Due.TheVariants as due
use Rattle.law_turns.specs.Keeping.{IsKept}
use Rattle.law_turns.specs.Waiting.{AreBlocked}
use Rattle.nova_sched.specs.Queues.{Schedule}
use Rattle.nova_choice.specs.Schedules.{AreQueued, AreQueuedAfter, AreQueuedBut, AreQueuedBy}
use Rattle.nova_choice.proofs.Choosing.{turn_due}
use Rattle.nova_choice.proofs.Avoiding.{one_moved}
use Rattle.nova_choice.proofs.Waits.{KeepsQueued, cpu_of, moved, queued_kept, same_state}
use Rattle.nova_deeds.specs.Counted.{IsCounted, IsToBeCharged, IsToBeStirred, KeepsCounts}
use Rattle.nova_deeds.specs.Passing.{fallen}
use Rattle.nova_deeds.proofs.Bursts.{one_later}
use Rattle.nova_deeds.proofs.Counts.{AreTables-paid, IsCharged-kept, IsCharged-paid, IsNumbered-kept, IsNumbered-paid, children-kept, children-paid, items-paid}
use Rattle.nova_deeds.proofs.Keeps.{KeepsCounts-self, deadlines-keep, semaphores-keeps, semaphores-length, times-keep, with_context-keeps, woken-keeps}
use Rattle.nova_deeds.proofs.Moves.{aside}
use Rattle.nova_deeds.proofs.Served.{woken_there}

-- WHAT IS COUNTED

none_past : (bs : List (Option Budget)) → entry (slice_get bs (length bs)) ≡ None
none_past [] = refl
none_past (b ∷ bs) = none_past bs

to_be_counted : (k : KernelState) → IsToBeStirred k → IsToBeCharged k
to_be_counted k c = record {
  turns = c.turns;
  processors = c.processors;
  stamps = c.stamps;
  ticks = c.ticks;
  stirs = c.stirs;
  guests = λ g. one_later k.turns (entry (slice_get k.stirs.guests g)) (c.guests g);
}

-- what leaves all counts, and is counted as a turn
pub IsCounted-counted : (old mid : KernelState) (cpu : ℕ) → KeepsCounts old mid → mid.delegations ≡ old.delegations → old.turns < 2 ^ 31 → IsKept (counted mid cpu) → IsCounted old → IsCounted (counted mid cpu)
IsCounted-counted old mid cpu kept same few keeps c = record {
  charged = IsCharged-paid mid cpu (length mid.budgets) 0 None (none_past mid.budgets) (let h = kept.turns in omega arith) (to_be_counted mid (IsCharged-kept old mid kept c.charged));
  numbered = IsNumbered-paid mid cpu 0 0 None (IsNumbered-kept old mid kept c.numbered);
  tables = AreTables-paid mid cpu 0 0 None (kept.tables c.tables);
  children = children-paid mid cpu 0 0 (mid.turns + 1) None (children-kept old mid kept c.children);
  items = items-paid mid cpu 0 0 None (λ ec. kept.items ec (c.items ec));
  forest = subst IsForest (sym same) c.forest;
  kept = keeps;
}

ended_keeps : (k mid : KernelState) (ec : ℕ) (status : Status) → KeepsCounts k mid → KeepsCounts k (ended_wait mid ec status)
ended_keeps k mid ec status kept =
    deadlines-keep k (with_context mid ec (answered (context mid ec) status None)) (slice_set mid.times.deadlines ec None) (with_context-keeps k mid ec _ kept) (length-set mid.times.deadlines ec None)

pub fallen_keeps : (k : KernelState) (what : Due) → KeepsCounts k (fallen k what)
fallen_keeps k (due.Alarm alarm) =
    let sm = alarm_sm (slice_get k.times.alarms alarm) in
    woken-keeps k (record k { semaphores = upped k.semaphores sm; times = rung k.times alarm }) (whom_of (woken (semaphore k.semaphores sm)))
    (times-keep k (record k { semaphores = upped k.semaphores sm }) (rung k.times alarm) (semaphores-keeps k k (upped k.semaphores sm) (KeepsCounts-self k) (semaphores-length raised k.semaphores sm)) refl)
fallen_keeps k (due.Deadline ec) =
    let sm = deadline_sm (deadline_of k.times ec) in
    ended_keeps k (record k { semaphores = left k.semaphores sm ec }) ec Timeout
    (semaphores-keeps k k (left k.semaphores sm ec) (KeepsCounts-self k) (semaphores-length (without_one ec) k.semaphores sm))

woken_delegations : (k : KernelState) (whom : Option ℕ) → (woken_in k whom).delegations ≡ k.delegations
woken_delegations k None = refl
woken_delegations k (Some ec) = refl

pub fallen_delegations : (k : KernelState) (what : Due) → (fallen k what).delegations ≡ k.delegations
fallen_delegations k (due.Alarm alarm) =
    let sm = alarm_sm (slice_get k.times.alarms alarm) in
    woken_delegations (record k { semaphores = upped k.semaphores sm; times = rung k.times alarm }) (whom_of (woken (semaphore k.semaphores sm)))
fallen_delegations k (due.Deadline ec) = refl

woken_long : (k : KernelState) (whom : Option ℕ) → length (woken_in k whom).contexts ≡ length k.contexts
woken_long k None = refl
woken_long k (Some ec) = length-set k.contexts ec _

pub fallen_long : (k : KernelState) (what : Due) → length (fallen k what).contexts ≡ length k.contexts
fallen_long k (due.Alarm alarm) =
    let sm = alarm_sm (slice_get k.times.alarms alarm) in
    woken_long (record k { semaphores = upped k.semaphores sm; times = rung k.times alarm }) (whom_of (woken (semaphore k.semaphores sm)))
fallen_long k (due.Deadline ec) = length-set k.contexts ec _

-- THE TURN

due_kernel : (k : KernelState) (cpu : ℕ) (what : Due) → (what_is_due k cpu what).kernel ≡ counted (fallen k what) cpu
due_kernel k cpu (due.Alarm alarm) = refl
due_kernel k cpu (due.Deadline ec) = refl

pub after_due : (k : KernelState) (cpu : ℕ) (what : Due) → due_on k.times cpu ≡ Some what → after k cpu ≡ counted (fallen k what) cpu
after_due k cpu what is = ap (state_after k) (turn_due k cpu what is) ∙ due_kernel k cpu what

-- THE QUEUES

pub queued_counted : (k : KernelState) (cpu : ℕ) (s : Schedule) → AreQueued k s → AreQueued (counted k cpu) s
queued_counted k cpu s q = record { cpus = q.cpus; numbers = q.numbers; stamp = q.stamp; entries = q.entries; homes = q.homes; owners = q.owners }

-- the context that goes on may act from then on
pub queued_ended : (k new : KernelState) (ec : ℕ) (status : Status) (s : Schedule) → AreQueued k s → AreEdges k.contexts → IsSome (context_at k ec) →
    new.contexts ≡ with_ec k.contexts ec (answered (context k ec) status None) → new.objects ≡ k.objects → new.budgets ≡ k.budgets → new.next_stamp ≡ k.next_stamp → new.cpus ≡ k.cpus →
    AreQueuedBy ec ec new s
queued_ended k new ec status s queued edges there contexts objects budgets stamp cpus =
    let stale = Some (context k ec).cpu in
    let kept : KeepsQueued stale k new =
    aside stale k (with_context k ec (answered (context k ec) status None)) new (moved k ec (answered (context k ec) status None) edges there refl) contexts objects budgets stamp cpus in
    record {
      near = subst (λ (o : Option ℕ). AreQueuedBut o new s) (sym (kept.contexts.homes ec (context k ec).cpu (cpu_of k.contexts ec there))) (queued_kept stale k new s queued kept);
      others = one_moved k new s ec (answered (context k ec) status None) queued edges contexts objects budgets;
    }

pub queued_beside : (k new : KernelState) (s : Schedule) → AreQueued k s → new.contexts ≡ k.contexts → new.objects ≡ k.objects → new.budgets ≡ k.budgets → new.next_stamp ≡ k.next_stamp → new.cpus ≡ k.cpus → AreQueued new s
queued_beside k new s queued contexts objects budgets stamp cpus = queued_kept None k new s queued (aside None k k new (same_state k) contexts objects budgets stamp cpus)

-- after a wake, by the context that goes on
pub queued_woken : (k : KernelState) (times : Times) (all : List (Option Semaphore)) (whom : Option ℕ) (s : Schedule) → AreQueued k s → AreEdges k.contexts → IfSome whom (λ ec. IsSome (context_at k ec)) →
    AreQueuedAfter whom (woken_in (record k { semaphores = all; times = times }) whom) s
queued_woken k times all None s queued edges there = queued_beside k (record k { semaphores = all; times = times }) s queued refl refl refl refl refl
queued_woken k times all (Some ec) s queued edges there =
    queued_ended k (woken_in (record k { semaphores = all; times = times }) (Some ec)) ec Success s queued edges there refl refl refl refl refl

pub queued_expired : (k : KernelState) (ec sm : ℕ) (s : Schedule) → AreQueued k s → AreEdges k.contexts → IsSome (context_at k ec) → AreQueuedBy ec ec (expires k ec sm) s
queued_expired k ec sm s queued edges there = queued_ended k (expires k ec sm) ec Timeout s queued edges there refl refl refl refl refl

-- the woken context is there
pub whom_there : (k : KernelState) (sm : ℕ) → AreBlocked k.contexts k.semaphores → IfSome (whom_of (woken (semaphore k.semaphores sm))) (λ ec. IsSome (context_at k ec))
whom_there k sm blocked = by_up (woken (semaphore k.semaphores sm)) refl
  where
    by_up : (o : Result (Option ℕ) Overflow) → woken (semaphore k.semaphores sm) ≡ o → IfSome (whom_of o) (λ ec. IsSome (context_at k ec))
    by_up (Ok None) is = tt
    by_up (Ok (Some ec)) is = woken_there k.contexts k.semaphores sm ec blocked is
    by_up (Err full) is = tt
