-- The table of scheduling contexts and the queues beside it: what is found through a queue, and what changes keep them together.
use Rattle.std.proofs.Common.{◌≡◌, ℕ, zero, suc, ◌+◌, ◌-◌, ◌<◌, ◌≤◌, List, [], ◌∷◌, ◌++◌, length, refl, ap, sym, subst, ◌∙◌, arith, append_assoc, length-append}
use Rattle.std.specs.Prelude.{◌==◌, ◌&&◌, Bool, true, false, replicate, slice_get, slice_index_or, slice_set, Option, Some, None, IsSome, if◌then◌else◌}
use Rattle.std.proofs.lemmas.List.{append-nil}
use Rattle.nova_model.specs.Choice.{in_front}
use Rattle.nova_sched.specs.Queues.{member_of, members_from, runnables_from, padded}
use Rattle.nova_sched.specs.Lists.{QueueState, members_at, AreQueues, entry_in, runnable_among, unroomed}
use Rattle.nova_sched.specs.declared.queued.Queued.{Queued}
use Rattle.nova_sched.specs.declared.queued.Runnable.{Runnable}

-- WHAT IS FOUND THROUGH A QUEUE

among_front : (all : List (Option Queued)) (n : ℕ) (e : Queued) (t : Bool) (ms : List ℕ) (rs : List Runnable) → entry_in all n ≡ Some e → runnable_among all ms ≡ rs →
    runnable_among all (in_front (if t then Some n else None) ms)
    ≡ in_front (if t && e.is_runnable then Some (record { sc = n; priority = e.priority; stamp = e.budget.stamp }) else None) rs
among_front all n e true ms rs is rest = rw (is, rest) refl
among_front all n e false ms rs is rest = rest

-- the runnable ones among the numbers of a processor's scheduling contexts are its runnable ones
among_from : (all os : List (Option Queued)) (cpu n : ℕ) → ((i : ℕ) → slice_get all (n + i) ≡ slice_get os i) →
    runnable_among all (members_from cpu n os) ≡ runnables_from cpu n os
among_from all [] cpu n at = refl
among_from all (None ∷ os) cpu n at =
    among_from all os cpu (n + 1) (λ i. ap (slice_get all) (let e : n + 1 + i ≡ n + suc i = omega arith in e) ∙ at (suc i))
among_from all (Some e ∷ os) cpu n at =
    let rest = among_from all os cpu (n + 1) (λ i. ap (slice_get all) (let same : n + 1 + i ≡ n + suc i = omega arith in same) ∙ at (suc i)) in
    let found : slice_get all n ≡ Some (Some e) = ap (slice_get all) (let same : n ≡ n + 0 = omega arith in same) ∙ at 0 in
    among_front all n e (e.cpu == cpu) (members_from cpu (n + 1) os) (runnables_from cpu (n + 1) os) (rw found refl) rest

pub among_members : (entries : List (Option Queued)) (cpu : ℕ) → runnable_among entries (members_from cpu 0 entries) ≡ runnables_from cpu 0 entries
among_members entries cpu = among_from entries entries cpu 0 (λ i. ap (slice_get entries) (let e : 0 + i ≡ i = omega arith in e))

-- WHAT STANDS AT A PLACE

pub entry_at : (os : List (Option Queued)) (sc : ℕ) (o : Option Queued) → IsSome (entry_in os sc) → o ≡ slice_index_or os sc o → entry_in os sc ≡ o
entry_at [] sc o there is = absurd cc
entry_at (p ∷ os) zero o there is = sym is
entry_at (p ∷ os) (suc sc) o there is = entry_at os sc o there is

pub queue_at : (queues : List QueueState) (cpu : ℕ) (q : QueueState) → cpu < length queues → q ≡ slice_index_or queues cpu q → members_at queues cpu ≡ q.members
queue_at [] cpu q lt is = absurd (omega arith)
queue_at (p ∷ queues) zero q lt is = ap (λ (x : QueueState). x.members) (sym is)
queue_at (p ∷ queues) (suc cpu) q lt is = queue_at queues cpu q (omega arith) is

-- ONE CHANGES

-- a changed one of the same processor leaves each queue
members_set : (os : List (Option Queued)) (sc : ℕ) (x y : Queued) (cpu n : ℕ) → entry_in os sc ≡ Some x → y.cpu ≡ x.cpu →
    members_from cpu n (slice_set os sc (Some y)) ≡ members_from cpu n os
members_set [] sc x y cpu n is same = refl
members_set (o ∷ os) zero x y cpu n is same =
    ap (λ (c : ℕ). in_front (if c == cpu then Some n else None) (members_from cpu (n + 1) os)) same
    ∙ sym (ap (λ (m : Option Queued). in_front (member_of cpu n m) (members_from cpu (n + 1) os)) is)
members_set (o ∷ os) (suc sc) x y cpu n is same = ap (in_front (member_of cpu n o)) (members_set os sc x y cpu (n + 1) is same)

pub queues_set : (queues : List QueueState) (os : List (Option Queued)) (sc : ℕ) (x y : Queued) → AreQueues queues os → entry_in os sc ≡ Some x → y.cpu ≡ x.cpu →
    AreQueues queues (slice_set os sc (Some y))
queues_set queues os sc x y are is same cpu = are cpu ∙ sym (members_set os sc x y cpu 0 is same)

-- A SCHEDULING CONTEXT JOINS

members_more : (os : List (Option Queued)) (o : Option Queued) (cpu n : ℕ) →
    members_from cpu n (os ++ o ∷ []) ≡ members_from cpu n os ++ in_front (member_of cpu (n + length os) o) []
members_more [] o cpu n = ap (λ (k : ℕ). in_front (member_of cpu k o) []) (let e : n ≡ n + 0 = omega arith in e)
members_more (None ∷ os) o cpu n =
    members_more os o cpu (n + 1)
    ∙ ap (λ (k : ℕ). members_from cpu (n + 1) os ++ in_front (member_of cpu k o) []) (let e : n + 1 + length os ≡ n + suc (length os) = omega arith in e)
members_more (Some e ∷ os) o cpu n =
    front (e.cpu == cpu) (members_from cpu (n + 1) (os ++ o ∷ [])) (members_from cpu (n + 1) os) (in_front (member_of cpu (n + suc (length os)) o) []) (members_more os o cpu (n + 1)
    ∙ ap (λ (k : ℕ). members_from cpu (n + 1) os ++ in_front (member_of cpu k o) []) (let same : n + 1 + length os ≡ n + suc (length os) = omega arith in same))
  where
    front : (t : Bool) (ms ns ls : List ℕ) → ms ≡ ns ++ ls → in_front (if t then Some n else None) ms ≡ in_front (if t then Some n else None) ns ++ ls
    front true ms ns ls h = ap (λ (l : List ℕ). n ∷ l) h
    front false ms ns ls h = h

members_nothing : (k cpu n : ℕ) → members_from cpu n (replicate k None) ≡ []
members_nothing zero cpu n = refl
members_nothing (suc k) cpu n = members_nothing k cpu (n + 1)

members_replicate : (os : List (Option Queued)) (k cpu n : ℕ) → members_from cpu n (os ++ replicate k None) ≡ members_from cpu n os
members_replicate [] k cpu n = members_nothing k cpu n
members_replicate (o ∷ os) k cpu n = ap (in_front (member_of cpu n o)) (members_replicate os k cpu (n + 1))

length_replicate : {T : Type 0} (k : ℕ) (x : T) → length (replicate k x) ≡ k
length_replicate zero x = refl
length_replicate (suc k) x = ap suc (length_replicate k x)

pub length_padded : (n : ℕ) (os : List (Option Queued)) → length os ≤ n → length (padded n os) ≡ n
length_padded n os le =
    let more : length (replicate (n - length os) None) ≡ n - length os = length_replicate {T = Option Queued} (n - length os) None in
    length-append os (replicate (n - length os) None) ∙ omega (arith, more, le)

-- nothing at the next number is part of what is put there
pub padded_more : (n : ℕ) (os : List (Option Queued)) → length os < n → padded n (os ++ None ∷ []) ≡ padded n os
padded_more n os lt =
    let longer : length (os ++ None ∷ []) ≡ length os + 1 = length-append os (None ∷ []) in
    let rest : n - length os ≡ suc (n - (length os + 1)) = omega arith in
    ap (λ (k : ℕ). (os ++ None ∷ []) ++ replicate (n - k) None) longer
    ∙ append_assoc os (None ∷ []) (replicate (n - (length os + 1)) None)
    ∙ sym (ap (λ (k : ℕ). os ++ replicate k None) rest)

pub members_set_same : (queues : List QueueState) (cpu : ℕ) (q : QueueState) → cpu < length queues → members_at (slice_set queues cpu q) cpu ≡ q.members
members_set_same [] cpu q lt = absurd (omega arith)
members_set_same (p ∷ queues) zero q lt = refl
members_set_same (p ∷ queues) (suc cpu) q lt = members_set_same queues cpu q (omega arith)

pub members_set_other : (queues : List QueueState) (cpu : ℕ) (q : QueueState) (other : ℕ) → ¬ (other ≡ cpu) → members_at (slice_set queues cpu q) other ≡ members_at queues other
members_set_other [] cpu q other h = refl
members_set_other (p ∷ queues) zero q zero h = absurd (h refl)
members_set_other (p ∷ queues) zero q (suc other) h = refl
members_set_other (p ∷ queues) (suc cpu) q zero h = refl
members_set_other (p ∷ queues) (suc cpu) q (suc other) h = members_set_other queues cpu q other (λ same. h (ap suc same))

-- one of the processor with the next number joins the processor's queue
queues_added : (queues : List QueueState) (os : List (Option Queued)) (sc : ℕ) (x : Queued) (q : QueueState) → AreQueues queues os → length os ≤ sc → x.cpu < length queues →
    q.members ≡ members_at queues x.cpu ++ sc ∷ [] → AreQueues (slice_set queues x.cpu q) (padded sc os ++ Some x ∷ [])
queues_added queues os sc x q are le lt is cpu = by_place (x.cpu == cpu) refl
  where
    all : members_from cpu 0 (padded sc os ++ Some x ∷ []) ≡ members_from cpu 0 os ++ in_front (member_of cpu sc (Some x)) []
    all =
        members_more (padded sc os) (Some x) cpu 0
        ∙ ap (λ (k : ℕ). members_from cpu 0 (padded sc os) ++ in_front (member_of cpu k (Some x)) []) (let e : 0 + length (padded sc os) ≡ sc = omega (arith, length_padded sc os le) in e)
        ∙ ap (λ (l : List ℕ). l ++ in_front (member_of cpu sc (Some x)) []) (members_replicate os (sc - length os) cpu 0)

    by_place : (t : Bool) → (x.cpu == cpu) ≡ t → members_at (slice_set queues x.cpu q) cpu ≡ members_from cpu 0 (padded sc os ++ Some x ∷ [])
    by_place true place =
        let same : x.cpu ≡ cpu = grind (arith, place) in
        ap (members_at (slice_set queues x.cpu q)) (sym same) ∙ members_set_same queues x.cpu q lt ∙ is
        ∙ ap (λ (c : ℕ). members_at queues c ++ sc ∷ []) same ∙ ap (λ (l : List ℕ). l ++ sc ∷ []) (are cpu)
        ∙ sym (all ∙ ap (λ (t : Bool). members_from cpu 0 os ++ in_front (if t then Some sc else None) []) place)
    by_place false place =
        members_set_other queues x.cpu q cpu (λ same. absurd (grind (arith, place, same))) ∙ are cpu ∙ sym (append-nil (members_from cpu 0 os))
        ∙ sym (all ∙ ap (λ (t : Bool). members_from cpu 0 os ++ in_front (if t then Some sc else None) []) place)

-- the same in two steps
pub queues_joined : (queues : List QueueState) (os padding all : List (Option Queued)) (sc cpu : ℕ) (x : Queued) (q : QueueState) → AreQueues queues os → length os ≤ sc → cpu < length queues →
    q.members ≡ members_at queues cpu ++ sc ∷ [] → padding ≡ padded sc os → all ≡ padding ++ Some x ∷ [] → x.cpu ≡ cpu → AreQueues (slice_set queues cpu q) all
queues_joined queues os padding all sc cpu x q are le lt joins pads pushed its_cpu =
    let is : all ≡ padded sc os ++ Some x ∷ [] = pushed ∙ ap (λ (l : List (Option Queued)). l ++ Some x ∷ []) pads in
    subst (λ (l : List (Option Queued)). AreQueues (slice_set queues cpu q) l) (sym is)
    (subst (λ (c : ℕ). AreQueues (slice_set queues c q) (padded sc os ++ Some x ∷ [])) its_cpu
    (queues_added queues os sc x q are le (subst (λ (c : ℕ). c < length queues) (sym its_cpu) lt) (subst (λ (c : ℕ). q.members ≡ members_at queues c ++ sc ∷ []) (sym its_cpu) joins)))

-- a queue with the same members
pub queues_kept : (queues : List QueueState) (os : List (Option Queued)) (cpu : ℕ) (q : QueueState) → AreQueues queues os → cpu < length queues →
    q.members ≡ members_at queues cpu → AreQueues (slice_set queues cpu q) os
queues_kept queues os at q are lt is cpu = by_place (cpu == at) refl
  where
    by_place : (t : Bool) → (cpu == at) ≡ t → members_at (slice_set queues at q) cpu ≡ members_from cpu 0 os
    by_place true place =
        let same : cpu ≡ at = grind (arith, place) in
        ap (members_at (slice_set queues at q)) same ∙ members_set_same queues at q lt ∙ is ∙ ap (members_at queues) (sym same) ∙ are cpu
    by_place false place = members_set_other queues at q cpu (λ same. absurd (grind (arith, place, same))) ∙ are cpu

-- NONE, AND COPIES

pub queues_none : (n : ℕ) → AreQueues (replicate n (record { members = []; spare = 0 })) []
queues_none zero cpu = refl
queues_none (suc n) zero = refl
queues_none (suc n) (suc cpu) = queues_none n cpu

pub members_unroomed : (queues : List QueueState) (cpu : ℕ) → members_at (unroomed queues) cpu ≡ members_at queues cpu
members_unroomed [] cpu = refl
members_unroomed (q ∷ queues) zero = refl
members_unroomed (q ∷ queues) (suc cpu) = members_unroomed queues cpu

pub queues_unroomed : (queues : List QueueState) (os : List (Option Queued)) → AreQueues queues os → AreQueues (unroomed queues) os
queues_unroomed queues os are cpu = members_unroomed queues cpu ∙ are cpu

replicate_suc : (n : ℕ) (q : QueueState) → replicate n q ++ q ∷ [] ≡ replicate (suc n) q
replicate_suc zero q = refl
replicate_suc (suc n) q = ap (λ (l : List QueueState). q ∷ l) (replicate_suc n q)

pub replicate_more : (n : ℕ) (q : QueueState) → replicate n q ++ q ∷ [] ≡ replicate (n + 1) q
replicate_more n q = replicate_suc n q ∙ ap (λ (k : ℕ). replicate k q) (let e : suc n ≡ n + 1 = omega arith in e)

-- where the end is reached, nothing is to be put there
pub padded_all : (n : ℕ) (os : List (Option Queued)) → n ≤ length os → padded n os ≡ os
padded_all n os le = ap (λ (k : ℕ). os ++ replicate k None) (let e : n - length os ≡ 0 = omega arith in e) ∙ append-nil os
