-- What a turn does to what stands before a stamp: a scheduling context that is charged before it takes one off.
use Rattle.std.proofs.Common.{◌≡◌, ℕ, zero, suc, ◌≤◌, ◌+◌, ◌-◌, List, [], ◌∷◌, ◌++◌, length, refl, ap, ap₂, ◌∙◌, arith}
use Rattle.std.specs.Prelude.{Bool, true, false, ◌==◌, ◌&&◌, nat_lt, if◌then◌else◌, slice_get, slice_set, Option, Some, None}
use Rattle.nova_objects.specs.declared.object.Object.{Object}
use Rattle.nova_objects.specs.declared.object.Object.TheVariants.{Sc}
use Rattle.nova_model.specs.Choice.{Candidate, next_to_act}
use Rattle.nova_model.specs.Creation.{budget_of, object_of}
use Rattle.nova_model.specs.Runs.{after}
use Rattle.nova_model.specs.State.{KernelState, entry}
use Rattle.nova_model.specs.Turn.{budget_after, is_spent}
use Rattle.nova_model.specs.declared.budget.Budget.{Budget}
use Rattle.nova_model.specs.declared.new_object.NewObject.{NewObject}
use Rattle.nova_model.specs.declared.new_object.NewObject.TheVariants as new
use Rattle.law_forest.proofs.Turning.{event_at}
use Rattle.law_turns.proofs.Paying.{Adds, AddsNone, AddsOne, Comes, Idles, IsTurn, Passes, Takes, comes}
use Rattle.law_turns.proofs.Stamps.{adds_rise}
use Rattle.law_turns.proofs.Ticks.{one_if}
use Rattle.law_response.specs.Waits.{ahead, ahead_in, is_peer, left_before, turns_left}

-- LISTS

abbrev pub part : ℕ → ℕ → ℕ → Object → Option Budget → ℕ
part cpu priority stamp o b = if is_peer cpu priority o then left_before stamp b else 0

more_ahead : (cpu priority stamp : ℕ) (os : List Object) (bs : List (Option Budget)) (o : Object) (b : Option Budget) → length bs ≡ length os →
    ahead_in cpu priority stamp (os ++ o ∷ []) (bs ++ b ∷ []) ≡ ahead_in cpu priority stamp os bs + part cpu priority stamp o b
more_ahead cpu priority stamp [] [] o b same = omega arith
more_ahead cpu priority stamp [] (c ∷ bs) o b same = absurd (omega arith)
more_ahead cpu priority stamp (x ∷ os) [] o b same = absurd (omega arith)
more_ahead cpu priority stamp (x ∷ os) (c ∷ bs) o b same = omega (arith, more_ahead cpu priority stamp os bs o b (omega arith))

set_ahead : (cpu priority stamp : ℕ) (os : List Object) (bs : List (Option Budget)) (sc : ℕ) (o : Object) (b x : Budget) → slice_get os sc ≡ Some o →
    entry (slice_get bs sc) ≡ Some b →
    ahead_in cpu priority stamp os (slice_set bs sc (Some x)) + part cpu priority stamp o (Some b) ≡ ahead_in cpu priority stamp os bs + part cpu priority stamp o (Some x)
set_ahead cpu priority stamp [] bs sc o b x at there = absurd (cc)
set_ahead cpu priority stamp (y ∷ os) [] sc o b x at there = absurd (cc)
set_ahead cpu priority stamp (y ∷ os) (None ∷ bs) zero o b x at there = absurd (cc)
set_ahead cpu priority stamp (y ∷ os) (Some c ∷ bs) zero o b x at there =
    let same : y ≡ o = cc in
    let its : c ≡ b = cc in
    let first : part cpu priority stamp y (Some c) ≡ part cpu priority stamp o (Some b) = ap₂ (λ (z : Object) (d : Budget). part cpu priority stamp z (Some d)) same its in
    let second : part cpu priority stamp y (Some x) ≡ part cpu priority stamp o (Some x) = ap (λ (z : Object). part cpu priority stamp z (Some x)) same in
    omega (arith, first, second)
set_ahead cpu priority stamp (y ∷ os) (c ∷ bs) (suc sc) o b x at there = omega (arith, set_ahead cpu priority stamp os bs sc o b x at there)

-- A SCHEDULING CONTEXT THAT IS CHARGED

less_before : (t : Bool) (stamp next quantum : ℕ) (b : Budget) → stamp ≤ next → (b.left - 1 == 0) ≡ t →
    left_before stamp (Some b) ≡ left_before stamp (Some (budget_after t quantum next b)) + one_if (nat_lt b.stamp stamp)
less_before true stamp next quantum b rises is =
    let none : nat_lt next stamp ≡ false = grind arith in
    let last : b.left - 1 ≡ 0 = grind arith in
    rw none (by_test (nat_lt b.stamp stamp) last)
  where
    by_test : (t : Bool) → b.left - 1 ≡ 0 → (if t then turns_left b else 0) ≡ 0 + one_if t
    by_test true last = omega arith
    by_test false last = refl
less_before false stamp next quantum b rises is = by_test (nat_lt b.stamp stamp) (grind arith)
  where
    by_test : (t : Bool) → 1 ≤ b.left - 1 → (if t then turns_left b else 0) ≡ (if t then b.left - 1 - 1 + 1 else 0) + one_if t
    by_test true more = omega arith
    by_test false more = refl

less_part : (cpu priority stamp next quantum : ℕ) (o : Object) (b : Budget) → stamp ≤ next →
    part cpu priority stamp o (Some b)
    ≡ part cpu priority stamp o (Some (budget_after (is_spent b) quantum next b)) + one_if (is_peer cpu priority o && nat_lt b.stamp stamp)
less_part cpu priority stamp next quantum o b rises = by_test (is_peer cpu priority o)
  where
    by_test : (t : Bool) → (if t then left_before stamp (Some b) else 0)
        ≡ (if t then left_before stamp (Some (budget_after (is_spent b) quantum next b)) else 0) + one_if (t && nat_lt b.stamp stamp)
    by_test true = less_before (is_spent b) stamp next quantum b rises refl
    by_test false = refl

-- a new one stands before none of those that are there
new_part : (cpu priority stamp next : ℕ) (made : NewObject) → stamp ≤ next → part cpu priority stamp (object_of made) (budget_of next made) ≡ 0
new_part cpu priority stamp next new.Pd rises = refl
new_part cpu priority stamp next (new.Ec pd its kind sp event) rises = refl
new_part cpu priority stamp next (new.Sc ec its priority' quantum) rises =
    let none : nat_lt next stamp ≡ false = grind arith in
    rw none (by_test ((its == cpu) && (priority' == priority)))
  where
    by_test : (t : Bool) → ◌≡◌ {A = ℕ} (if t then 0 else 0) 0
    by_test true = refl
    by_test false = refl
new_part cpu priority stamp next (new.Pt ec mtd ip) rises = refl
new_part cpu priority stamp next (new.Sm count) rises = refl

-- A TURN

-- a scheduling context of this processor and priority, that stands before the stamp, pays
abbrev pub is_peer_at : ℕ → ℕ → Option Object → Bool
is_peer_at cpu priority None = false
is_peer_at cpu priority (Some o) = is_peer cpu priority o

abbrev pub is_before : KernelState → ℕ → ℕ → ℕ → Option Candidate → Bool
is_before k cpu priority stamp None = false
is_before k cpu priority stamp (Some c) = is_peer_at cpu priority (slice_get k.objects c.sc) && nat_lt c.stamp stamp

adds_ahead : (k s : KernelState) (ec cpu priority stamp : ℕ) → Adds k s ec → length k.budgets ≡ length k.objects → stamp ≤ k.next_stamp →
    ahead s cpu priority stamp ≡ ahead k cpu priority stamp
adds_ahead k s ec cpu priority stamp (AddsNone objects budgets next) same rises = ap₂ (ahead_in cpu priority stamp) objects budgets
adds_ahead k s ec cpu priority stamp (AddsOne made bound objects budgets next) same rises =
    ap₂ (ahead_in cpu priority stamp) objects budgets
    ∙ omega (arith, more_ahead cpu priority stamp k.objects k.budgets (object_of made) (budget_of k.next_stamp made) same, new_part cpu priority stamp k.next_stamp made rises)

turn_ahead : (k s : KernelState) (by cpu priority stamp : ℕ) (c : Candidate) → IsTurn k s by c → length k.budgets ≡ length k.objects → stamp ≤ k.next_stamp →
    ahead s cpu priority stamp + one_if (is_before k cpu priority stamp (Some c)) ≡ ahead k cpu priority stamp
turn_ahead k s by cpu priority stamp c t same rises =
    let m = t.between in
    let b = t.its.budget in
    let o : Object = Sc t.its.ec by t.its.priority t.its.quantum in
    let x : Budget = budget_after (is_spent b) t.its.quantum m.next_stamp b in
    let up = (adds_rise k m c.actor t.adds).least in
    let test : is_before k cpu priority stamp (Some c) ≡ (is_peer cpu priority o && nat_lt b.stamp stamp) =
    ap₂ (λ (p : Option Object) (n : ℕ). is_peer_at cpu priority p && nat_lt n stamp) t.its.object t.its.stamp in
    let full_quantum = ap₂ (ahead_in cpu priority stamp) t.objects t.budgets in
    let set = set_ahead cpu priority stamp m.objects m.budgets c.sc o b x t.object t.there in
    let less = less_part cpu priority stamp m.next_stamp t.its.quantum o b (omega arith) in
    let adds = adds_ahead k m c.actor cpu priority stamp t.adds same rises in
    let once = ap one_if test in
    omega arith

pub after_ahead : (k : KernelState) (by cpu priority stamp : ℕ) → length k.budgets ≡ length k.objects → stamp ≤ k.next_stamp →
    ahead (after k by) cpu priority stamp + one_if (is_before k cpu priority stamp (next_to_act k by)) ≡ ahead k cpu priority stamp
after_ahead k by cpu priority stamp same rises = by_turn (after k by) (comes k by)
  where
    nobody : (s : KernelState) → next_to_act k by ≡ None → ahead s cpu priority stamp ≡ ahead k cpu priority stamp →
        ahead s cpu priority stamp + one_if (is_before k cpu priority stamp (next_to_act k by)) ≡ ahead k cpu priority stamp
    nobody s none kept = rw none (omega (arith, kept))

    by_turn : (s : KernelState) → Comes k s by (event_at k by) →
        ahead s cpu priority stamp + one_if (is_before k cpu priority stamp (next_to_act k by)) ≡ ahead k cpu priority stamp
    by_turn s (Idles none is no_event) = nobody s none (ap (λ (x : KernelState). ahead x cpu priority stamp) is)
    by_turn s (Passes p is none event) = nobody s none (ap (λ (x : KernelState). ahead x cpu priority stamp) is)
    by_turn s (Takes c chosen t event) = rw chosen (turn_ahead k s by cpu priority stamp c t same rises)
