-- By processor those that may run: what changes keep them so.
use Rattle.std.proofs.Common.{◌≡◌, ℕ, zero, suc, ◌+◌, ◌-◌, ◌<◌, ◌≤◌, List, [], ◌∷◌, ◌++◌, length, refl, ap, sym, subst, ◌∙◌, arith}
use Rattle.std.specs.Prelude.{◌==◌, Bool, true, false, max, replicate, map, slice_index, slice_index_or, slice_set, Option, Some, None, Result, OnOk, OnErr}
use Rattle.std.specs.declared.result.Result.TheVariants.{Ok, Err}
use Rattle.nova_sched.specs.Queues.{Schedule, padded, queued_at, runnable_of, runnables_from}
use Rattle.nova_sched.specs.Lists.{QueueState, AreQueues, entry_in, members_at, unroomed}
use Rattle.nova_sched.specs.Precedence.{AreStamped}
use Rattle.nova_sched.specs.Ready.{AreReady, IsAmong, IsReady, ReadyState, as_runnable, dropped, items_at, renewed, requeued, room_at, spare_at}
use Rattle.nova_sched.specs.declared.queued.Queued.{Queued}
use Rattle.nova_sched.specs.declared.queued.Runnable.{Runnable}
use Rattle.nova_sched.proofs.Others.{appended_other}
use Rattle.nova_sched.proofs.Placing.{dropped_among, length_dropped}
use Rattle.nova_sched.proofs.Readiness.{at_most, fewer, idle_of, length_front, other_of, ready_joins, ready_kept, ready_leaves, ready_same, runner_facts, runner_of}
use Rattle.nova_sched.proofs.Stamps.{appended_same, set_same, stamps_are_given_once}
use Rattle.nova_sched.proofs.Tables.{members_set_other, members_set_same, members_unroomed}

-- one processor's change, and the others stay
pub ready_changed : (queues : List QueueState) (readies after : List ReadyState) (s t : Schedule) (cpu : ℕ) → AreReady queues readies s → length after ≡ length readies →
    ((other : ℕ) → ¬ (other ≡ cpu) → items_at after other ≡ items_at readies other) → ((other : ℕ) → room_at after other ≡ room_at readies other) → IsReady cpu t.entries (items_at after cpu) →
    ((other : ℕ) → ¬ (other ≡ cpu) → (rs : List Runnable) → IsReady other s.entries rs → IsReady other t.entries rs) → AreStamped t → AreReady queues after t
ready_changed queues readies after s t cpu are cpus same rooms here others stamped = record {
  cpus = cpus ∙ are.cpus;
  ready = λ other. by_place other (other == cpu) refl;
  room = λ other. let less = are.room other in let room = rooms other in omega arith;
  stamped = stamped;
}
  where
    by_place : (other : ℕ) (u : Bool) → (other == cpu) ≡ u → IsReady other t.entries (items_at after other)
    by_place other true h = let e : other ≡ cpu = grind (arith, h) in subst (λ (k : ℕ). IsReady k t.entries (items_at after k)) (sym e) here
    by_place other false h =
        let off : ¬ (other ≡ cpu) = λ e. absurd (grind (arith, h, e)) in
        subst (λ (rs : List Runnable). IsReady other t.entries rs) (sym (same other off)) (others other off (items_at readies other) (are.ready other))

-- MARKED

stamp_alone : (s : Schedule) (sc cpu : ℕ) (x : Queued) (rs : List Runnable) → AreStamped s → IsReady cpu s.entries rs → queued_at s sc ≡ Some x → x.is_runnable ≡ false → (q : Runnable) → IsAmong rs q →
    q.stamp ≡ x.budget.stamp → ⊥
stamp_alone s sc cpu x rs are ready is off q i e =
    let f = runner_facts cpu q.sc (entry_in s.entries q.sc) q (ready.each q i) in
    let stamp : f.of.budget.stamp ≡ x.budget.stamp = sym (ap (λ (r : Runnable). r.stamp) f.r_is) ∙ e in
    let same = are.apart q.sc sc f.of x f.is is stamp in
    let both : Some f.of ≡ Some x = sym f.is ∙ ap (queued_at s) same ∙ is in
    let it : f.of ≡ x = cc in
    let on : x.is_runnable ≡ true = sym (ap (λ (y : Queued). y.is_runnable) it) ∙ f.on in
    absurd (cc)

pub ready_requeued : (s : Schedule) (rs : List Runnable) (sc : ℕ) (x : Queued) (b : Bool) → AreStamped s → IsReady x.cpu s.entries rs → queued_at s sc ≡ Some x →
    IsReady x.cpu (slice_set s.entries sc (Some (record x { is_runnable = b }))) (requeued x.is_runnable b (as_runnable sc x) rs)
ready_requeued s rs sc x b are ready is = by_tests x.is_runnable refl b
  where
    by_tests : (t : Bool) → x.is_runnable ≡ t → (u : Bool) → IsReady x.cpu (slice_set s.entries sc (Some (record x { is_runnable = u }))) (requeued t u (as_runnable sc x) rs)
    by_tests false h false = ready_kept x.cpu s.entries rs sc x (record x { is_runnable = false }) ready is (idle_of x.cpu sc (record x { is_runnable = false }) refl ∙ sym (idle_of x.cpu sc x h))
    by_tests false h true = ready_joins x.cpu s.entries rs sc x (record x { is_runnable = true }) ready is h refl refl (stamp_alone s sc x.cpu x rs are ready is h)
    by_tests true h false = ready_leaves x.cpu s.entries rs sc x (record x { is_runnable = false }) ready is refl h refl
    by_tests true h true = ready_kept x.cpu s.entries rs sc x (record x { is_runnable = true }) ready is (runner_of x.cpu sc (record x { is_runnable = true }) refl refl ∙ sym (runner_of x.cpu sc x refl h))

-- of another processor nothing changes
pub ready_elsewhere : (os : List (Option Queued)) (rs : List Runnable) (sc cpu : ℕ) (x y : Queued) → entry_in os sc ≡ Some x → y.cpu ≡ x.cpu → ¬ (cpu ≡ x.cpu) → IsReady cpu os rs → IsReady cpu (slice_set os sc (Some y)) rs
ready_elsewhere os rs sc cpu x y is same off ready =
    ready_kept cpu os rs sc x y ready is (other_of cpu sc y (λ e. off (sym e ∙ same)) ∙ sym (other_of cpu sc x (λ e. off (sym e))))

-- there is room for a scheduling context that may not run yet
pub room_for : (queues : List QueueState) (readies : List ReadyState) (s : Schedule) (sc : ℕ) (x : Queued) → AreQueues queues s.entries → AreReady queues readies s → queued_at s sc ≡ Some x → x.is_runnable ≡ false →
    length (items_at readies x.cpu) < room_at readies x.cpu
room_for queues readies s sc x queued are is off =
    let less = fewer s.entries sc x.cpu 0 x is refl off in
    let members = ap length (queued x.cpu) in
    let count = (are.ready x.cpu).count in
    let room = are.room x.cpu in
    omega arith

-- and for one that runs in another place of the order
pub room_again : (queues : List QueueState) (readies : List ReadyState) (s : Schedule) (sc : ℕ) (x : Queued) → AreQueues queues s.entries → AreReady queues readies s → queued_at s sc ≡ Some x → x.is_runnable ≡ true →
    length (dropped (as_runnable sc x) (items_at readies x.cpu)) < room_at readies x.cpu
room_again queues readies s sc x queued are is on =
    let ready = are.ready x.cpu in
    let there = ready.all sc (as_runnable sc x) (ap (runnable_of x.cpu sc) is ∙ runner_of x.cpu sc x refl on) in
    let less = length_dropped (as_runnable sc x) (items_at readies x.cpu) ready.order there in
    let most = at_most s.entries x.cpu 0 in
    let members = ap length (queued x.cpu) in
    let count = ready.count in
    let room = are.room x.cpu in
    omega arith

-- CHARGED

set_twice : (os : List (Option Queued)) (sc : ℕ) (a b : Option Queued) → slice_set (slice_set os sc a) sc b ≡ slice_set os sc b
set_twice [] sc a b = refl
set_twice (o ∷ os) zero a b = refl
set_twice (o ∷ os) (suc sc) a b = ap (λ l. o ∷ l) (set_twice os sc a b)

pub ready_renewed : (s : Schedule) (rs : List Runnable) (sc : ℕ) (x y : Queued) → AreStamped s → IsReady x.cpu s.entries rs → queued_at s sc ≡ Some x → y.cpu ≡ x.cpu → y.is_runnable ≡ x.is_runnable →
    y.budget.stamp ≡ s.next_stamp → IsReady x.cpu (slice_set s.entries sc (Some y)) (renewed x.is_runnable (as_runnable sc x) (as_runnable sc y) rs)
ready_renewed s rs sc x y are ready is at runs stamp = by_test x.is_runnable refl
  where
    idle : Queued
    idle = record x { is_runnable = false }

    by_test : (t : Bool) → x.is_runnable ≡ t → IsReady x.cpu (slice_set s.entries sc (Some y)) (renewed t (as_runnable sc x) (as_runnable sc y) rs)
    by_test false h = ready_kept x.cpu s.entries rs sc x y ready is (idle_of x.cpu sc y (runs ∙ h) ∙ sym (idle_of x.cpu sc x h))
    by_test true h =
        let out = ready_leaves x.cpu s.entries rs sc x (record x { is_runnable = false }) ready is refl h refl in
        let there = set_same s.entries sc x (record x { is_runnable = false }) is in
        subst (λ (os : List (Option Queued)). IsReady x.cpu os (renewed true (as_runnable sc x) (as_runnable sc y) rs)) (set_twice s.entries sc (Some (record x { is_runnable = false })) (Some y))
        (ready_joins x.cpu (slice_set s.entries sc (Some (record x { is_runnable = false }))) (dropped (as_runnable sc x) rs) sc (record x { is_runnable = false }) y out there refl at (runs ∙ h)
        (λ q i e. let f = runner_facts x.cpu q.sc (entry_in s.entries q.sc) q (ready.each q (dropped_among (as_runnable sc x) q rs i)) in
        let low = are.below q.sc f.of f.is in
        let same : q.stamp ≡ f.of.budget.stamp = ap (λ (r : Runnable). r.stamp) f.r_is in
        absurd (omega arith)))

pub ready_paid : (os : List (Option Queued)) (rs : List Runnable) (sc cpu : ℕ) (x y : Queued) → IsReady cpu os rs → entry_in os sc ≡ Some x → y.cpu ≡ x.cpu → y.is_runnable ≡ x.is_runnable → y.priority ≡ x.priority →
    y.budget.stamp ≡ x.budget.stamp → IsReady cpu (slice_set os sc (Some y)) rs
ready_paid os rs sc cpu x y ready is at runs priority stamp = ready_kept cpu os rs sc x y ready is (rw (at, runs, priority, stamp) refl)

-- ADDED

none_at : (os : List (Option Queued)) (sc : ℕ) → length os ≤ sc → entry_in os sc ≡ None
none_at [] zero h = refl
none_at [] (suc sc) h = refl
none_at (o ∷ os) zero h = absurd (omega arith)
none_at (o ∷ os) (suc sc) h = none_at os sc (omega arith)

count_nothing : (k cpu n : ℕ) (e : Queued) → e.is_runnable ≡ false → length (runnables_from cpu n (replicate k None ++ Some e ∷ [])) ≡ 0
count_nothing zero cpu n e off = rw (idle_of cpu n e off) refl
count_nothing (suc k) cpu n e off = count_nothing k cpu (n + 1) e off

count_added : (os : List (Option Queued)) (k cpu n : ℕ) (e : Queued) → e.is_runnable ≡ false → length (runnables_from cpu n ((os ++ replicate k None) ++ Some e ∷ [])) ≡ length (runnables_from cpu n os)
count_added [] k cpu n e off = count_nothing k cpu n e off
count_added (o ∷ os) k cpu n e off =
    let rest = count_added os k cpu (n + 1) e off in
    let new = length_front (runnable_of cpu n o) (runnables_from cpu (n + 1) ((os ++ replicate k None) ++ Some e ∷ [])) in
    let old = length_front (runnable_of cpu n o) (runnables_from cpu (n + 1) os) in
    omega arith

pub ready_added : (cpu : ℕ) (os : List (Option Queued)) (rs : List Runnable) (sc : ℕ) (e : Queued) → IsReady cpu os rs → e.is_runnable ≡ false → length os ≤ sc → IsReady cpu (padded sc os ++ Some e ∷ []) rs
ready_added cpu os rs sc e ready off le = ready_same cpu os (padded sc os ++ Some e ∷ []) rs ready (λ k. by_place k (k == sc) refl) (count_added os (sc - length os) cpu 0 e off)
  where
    here : entry_in (padded sc os ++ Some e ∷ []) sc ≡ Some e
    here = ap (entry_in (padded sc os ++ Some e ∷ [])) (let at : sc ≡ length os + (sc - length os) = omega arith in at) ∙ appended_same os (sc - length os) e

    by_place : (k : ℕ) (t : Bool) → (k == sc) ≡ t → runnable_of cpu k (entry_in (padded sc os ++ Some e ∷ []) k) ≡ runnable_of cpu k (entry_in os k)
    by_place k true h =
        let at : k ≡ sc = grind (arith, h) in
        subst (λ (j : ℕ). runnable_of cpu j (entry_in (padded sc os ++ Some e ∷ []) j) ≡ runnable_of cpu j (entry_in os j)) (sym at)
        (ap (runnable_of cpu sc) here ∙ idle_of cpu sc e off ∙ sym (ap (runnable_of cpu sc) (none_at os sc le)))
    by_place k false h = ap (runnable_of cpu k) (appended_other os (sc - length os) k e (λ at. absurd (grind (arith, h, at, le))))

-- ROOM

pub spare_set_same : (queues : List QueueState) (cpu : ℕ) (q : QueueState) → cpu < length queues → spare_at (slice_set queues cpu q) cpu ≡ q.spare
spare_set_same [] cpu q lt = absurd (omega arith)
spare_set_same (p ∷ queues) zero q lt = refl
spare_set_same (p ∷ queues) (suc cpu) q lt = spare_set_same queues cpu q (omega arith)

pub spare_set_other : (queues : List QueueState) (cpu : ℕ) (q : QueueState) (other : ℕ) → ¬ (other ≡ cpu) → spare_at (slice_set queues cpu q) other ≡ spare_at queues other
spare_set_other [] cpu q other h = refl
spare_set_other (p ∷ queues) zero q zero h = absurd (h refl)
spare_set_other (p ∷ queues) zero q (suc other) h = refl
spare_set_other (p ∷ queues) (suc cpu) q zero h = refl
spare_set_other (p ∷ queues) (suc cpu) q (suc other) h = spare_set_other queues cpu q other (λ same. h (ap suc same))

pub spare_is : (queues : List QueueState) (cpu : ℕ) (q : QueueState) → cpu < length queues → q ≡ slice_index_or queues cpu q → spare_at queues cpu ≡ q.spare
spare_is [] cpu q lt is = absurd (omega arith)
spare_is (p ∷ queues) zero q lt is = ap (λ (x : QueueState). x.spare) (sym is)
spare_is (p ∷ queues) (suc cpu) q lt is = spare_is queues cpu q (omega arith) is

length_set : (queues : List QueueState) (cpu : ℕ) (q : QueueState) → length (slice_set queues cpu q) ≡ length queues
length_set [] cpu q = refl
length_set (p ∷ queues) zero q = refl
length_set (p ∷ queues) (suc cpu) q = ap suc (length_set queues cpu q)

-- another queue of one processor
pub ready_queue : (queues : List QueueState) (readies after : List ReadyState) (s t : Schedule) (cpu : ℕ) (q : QueueState) → cpu < length queues → AreReady queues readies s → length after ≡ length readies →
    ((other : ℕ) → items_at after other ≡ items_at readies other) → ((other : ℕ) → ¬ (other ≡ cpu) → room_at readies other ≤ room_at after other) → length q.members + q.spare ≤ room_at after cpu →
    ((other : ℕ) (rs : List Runnable) → IsReady other s.entries rs → IsReady other t.entries rs) → AreStamped t → AreReady (slice_set queues cpu q) after t
ready_queue queues readies after s t cpu q lt are cpus items rooms room kept stamped = record {
  cpus = cpus ∙ are.cpus ∙ sym (length_set queues cpu q);
  ready = λ other. subst (λ (rs : List Runnable). IsReady other t.entries rs) (sym (items other)) (kept other (items_at readies other) (are.ready other));
  room = λ other. by_place other (other == cpu) refl;
  stamped = stamped;
}
  where
    by_place : (other : ℕ) (u : Bool) → (other == cpu) ≡ u → length (members_at (slice_set queues cpu q) other) + spare_at (slice_set queues cpu q) other ≤ room_at after other
    by_place other true h =
        let e : other ≡ cpu = grind (arith, h) in
        let members = ap length (members_set_same queues cpu q lt) in
        let spare = spare_set_same queues cpu q lt in
        subst (λ (k : ℕ). length (members_at (slice_set queues cpu q) k) + spare_at (slice_set queues cpu q) k ≤ room_at after k) (sym e) (omega arith)
    by_place other false h =
        let off : ¬ (other ≡ cpu) = λ e. absurd (grind (arith, h, e)) in
        let members = ap length (members_set_other queues cpu q other off) in
        let spare = spare_set_other queues cpu q other off in
        let less = are.room other in
        let more = rooms other off in
        omega arith

-- NONE, AND COPIES

abbrev pub no_queue : QueueState
no_queue = record { members = []; spare = 0 }

abbrev pub no_ready : ReadyState
no_ready = record { items = []; room = 0 }

lengths : (k : ℕ) → length (replicate k no_ready) ≡ length (replicate k no_queue)
lengths zero = refl
lengths (suc k) = ap suc (lengths k)

no_items : (k cpu : ℕ) → items_at (replicate k no_ready) cpu ≡ []
no_items zero zero = refl
no_items zero (suc cpu) = refl
no_items (suc k) zero = refl
no_items (suc k) (suc cpu) = no_items k cpu

no_members : (k cpu : ℕ) → members_at (replicate k no_queue) cpu ≡ []
no_members zero zero = refl
no_members zero (suc cpu) = refl
no_members (suc k) zero = refl
no_members (suc k) (suc cpu) = no_members k cpu

no_spare : (k cpu : ℕ) → spare_at (replicate k no_queue) cpu ≡ 0
no_spare zero zero = refl
no_spare zero (suc cpu) = refl
no_spare (suc k) zero = refl
no_spare (suc k) (suc cpu) = no_spare k cpu

none_of : (sc : ℕ) (r : Runnable) (cpu : ℕ) → runnable_of cpu sc (entry_in [] sc) ≡ Some r → ⊥
none_of zero r cpu h = absurd (cc)
none_of (suc sc) r cpu h = absurd (cc)

pub ready_none : (n cpus : ℕ) → AreReady (replicate n no_queue) (replicate n no_ready) (record { entries = []; next_stamp = 0; cpus = cpus })
ready_none n cpus = record {
  cpus = lengths n;
  ready = λ cpu. subst (λ (rs : List Runnable). IsReady cpu [] rs) (sym (no_items n cpu)) (record { each = λ r i. absurd i; all = λ sc r h. absurd (none_of sc r cpu h); order = tt; count = refl });
  room = λ cpu. let members = ap length (no_members n cpu) in let spare = no_spare n cpu in omega arith;
  stamped = stamps_are_given_once.none cpus;
}

spare_unroomed : (queues : List QueueState) (cpu : ℕ) → spare_at (unroomed queues) cpu ≡ 0
spare_unroomed [] zero = refl
spare_unroomed [] (suc cpu) = refl
spare_unroomed (q ∷ queues) zero = refl
spare_unroomed (q ∷ queues) (suc cpu) = spare_unroomed queues cpu

length_unroomed : (queues : List QueueState) → length (unroomed queues) ≡ length queues
length_unroomed [] = refl
length_unroomed (q ∷ queues) = ap suc (length_unroomed queues)

pub ready_copied : (queues : List QueueState) (readies : List ReadyState) (s : Schedule) → AreReady queues readies s → AreReady (unroomed queues) readies s
ready_copied queues readies s are = record {
  cpus = are.cpus ∙ sym (length_unroomed queues);
  ready = are.ready;
  room = λ cpu. let members = ap length (members_unroomed queues cpu) in let spare = spare_unroomed queues cpu in let less = are.room cpu in omega arith;
  stamped = are.stamped;
}

-- STAMPS AND ROOM

-- stamps know nothing of how many processors there are
pub stamped_cpus : (es : List (Option Queued)) (next a b : ℕ) → AreStamped (record { entries = es; next_stamp = next; cpus = a }) → AreStamped (record { entries = es; next_stamp = next; cpus = b })
stamped_cpus es next a b are = record { below = are.below; apart = are.apart }

pub ready_roomy : (queues : List QueueState) (readies after : List ReadyState) (s : Schedule) → AreReady queues readies s → length after ≡ length readies → ((other : ℕ) → items_at after other ≡ items_at readies other) →
    ((other : ℕ) → room_at readies other ≤ room_at after other) → AreReady queues after s
ready_roomy queues readies after s are cpus items rooms = record {
  cpus = cpus ∙ are.cpus;
  ready = λ other. subst (λ (rs : List Runnable). IsReady other s.entries rs) (sym (items other)) (are.ready other);
  room = λ other. let less = are.room other in let more = rooms other in omega arith;
  stamped = are.stamped;
}

pub room_all : (readies after : List ReadyState) (cpu : ℕ) → ((other : ℕ) → ¬ (other ≡ cpu) → room_at after other ≡ room_at readies other) → room_at readies cpu ≤ room_at after cpu → (other : ℕ) → room_at readies other ≤ room_at after other
room_all readies after cpu others here other = by_place (other == cpu) refl
  where
    by_place : (t : Bool) → (other == cpu) ≡ t → room_at readies other ≤ room_at after other
    by_place true h = let e : other ≡ cpu = grind (arith, h) in subst (λ (k : ℕ). room_at readies k ≤ room_at after k) (sym e) here
    by_place false h = let same = others other (λ e. absurd (grind (arith, h, e))) in omega arith

pub record IsRoomier (q before : QueueState) : Type 0 where
  pub members : q.members ≡ before.members
  pub most : q.spare ≤ max before.spare 1

pub roomier : {E : Type 0} (r : Result (Unit {0}) E) (q before : QueueState) → OnOk r (q ≡ record before { spare = max before.spare 1 }) → OnErr r (q ≡ before) → IsRoomier q before
roomier (Ok x) q before ok err = record { members = ap (λ (p : QueueState). p.members) ok; most = let spare : q.spare ≡ max before.spare 1 = ap (λ (p : QueueState). p.spare) ok in omega arith }
roomier (Err e) q before ok err = record { members = ap (λ (p : QueueState). p.members) err; most = let spare : q.spare ≡ before.spare = ap (λ (p : QueueState). p.spare) err in omega arith }

pub ready_cpus : (queues : List QueueState) (readies : List ReadyState) (es : List (Option Queued)) (next a b : ℕ) → AreReady queues readies (record { entries = es; next_stamp = next; cpus = a }) →
    AreReady queues readies (record { entries = es; next_stamp = next; cpus = b })
ready_cpus queues readies es next a b are = record { cpus = are.cpus; ready = are.ready; room = are.room; stamped = stamped_cpus es next a b are.stamped }

pub room_is : (queues : List QueueState) (cpu : ℕ) (q : QueueState) → cpu < length queues → q ≡ slice_index_or queues cpu q → slice_index (map (λ (x : QueueState). x.spare) queues) cpu ≡ q.spare
room_is [] cpu q lt is = absurd (omega arith)
room_is (p ∷ queues) zero q lt is = ap (λ (x : QueueState). x.spare) (sym is)
room_is (p ∷ queues) (suc cpu) q lt is = room_is queues cpu q (omega arith) is
