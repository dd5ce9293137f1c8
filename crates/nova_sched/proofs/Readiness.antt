-- Those that may run stay the runnable ones of the processor, whatever changes.
use Rattle.std.proofs.Common.{◌≡◌, ℕ, zero, suc, ◌+◌, ◌<◌, ◌≤◌, List, [], ◌∷◌, length, refl, ap, sym, subst, ◌∙◌, inl, inr, arith}
use Rattle.std.specs.Prelude.{◌⊎◌, ◌==◌, ◌&&◌, Bool, true, false, slice_get, slice_set, if◌then◌else◌, Option, Some, None, MatchOption, IsSome, option_map}
use Rattle.nova_model.specs.Choice.{in_front}
use Rattle.nova_sched.specs.Queues.{Schedule, choose, member_of, members_from, runnable_of, runnables_from, runs_before}
use Rattle.nova_sched.specs.Lists.{QueueState, AreQueues, entry_in, members_at}
use Rattle.nova_sched.specs.Precedence.{AreStamped, IsForemost, NobodyMayRun}
use Rattle.nova_sched.specs.Ready.{IsAmong, IsBehind, IsReady, as_runnable, dropped, placed}
use Rattle.nova_sched.specs.declared.queued.Queued.{Queued}
use Rattle.nova_sched.specs.declared.queued.Runnable.{Runnable}
use Rattle.nova_sched.proofs.Chosen.{chosen_is_foremost, not_behind}
use Rattle.nova_sched.proofs.Others.{set_other}
use Rattle.nova_sched.proofs.Placing.{all_among, among_dropped, among_placed, dropped_among, gone, length_dropped, length_placed, not_itself, order_dropped, order_placed, placed_among}
use Rattle.nova_sched.proofs.Stamps.{foremost_is_alone, set_same}

-- WHICH ARE RUNNABLE

pub record IsRunner (cpu sc : ℕ) (o : Option Queued) (r : Runnable) : Type 0 where
  pub of : Queued
  pub is : o ≡ Some of
  pub its_cpu : of.cpu ≡ cpu
  pub on : of.is_runnable ≡ true
  pub r_is : r ≡ as_runnable sc of

pub runner_facts : (cpu sc : ℕ) (o : Option Queued) (r : Runnable) → runnable_of cpu sc o ≡ Some r → IsRunner cpu sc o r
runner_facts cpu sc None r h = absurd (cc)
runner_facts cpu sc (Some e) r h = by_tests (e.cpu == cpu) refl e.is_runnable refl h
  where
    by_tests : (t : Bool) → (e.cpu == cpu) ≡ t → (u : Bool) → e.is_runnable ≡ u → (if t && u then Some (as_runnable sc e) else None) ≡ Some r → IsRunner cpu sc (Some e) r
    by_tests true at true on h = record { of = e; is = refl; its_cpu = grind (arith, at); on = on; r_is = let same : as_runnable sc e ≡ r = cc in sym same }
    by_tests true at false on h = absurd (cc)
    by_tests false at u on h = absurd (cc)

pub runner_of : (cpu sc : ℕ) (e : Queued) → e.cpu ≡ cpu → e.is_runnable ≡ true → runnable_of cpu sc (Some e) ≡ Some (as_runnable sc e)
runner_of cpu sc e at on = let test : (e.cpu == cpu) ≡ true = grind (arith, at) in rw (test, on) refl

pub idle_of : (cpu sc : ℕ) (e : Queued) → e.is_runnable ≡ false → runnable_of cpu sc (Some e) ≡ None
idle_of cpu sc e off = by_test (e.cpu == cpu)
  where
    by_test : (t : Bool) → (if t && e.is_runnable then Some (as_runnable sc e) else None) ≡ None
    by_test true = rw off refl
    by_test false = refl

pub other_of : (cpu sc : ℕ) (e : Queued) → (e.cpu ≡ cpu → ⊥) → runnable_of cpu sc (Some e) ≡ None
other_of cpu sc e off = by_test (e.cpu == cpu) refl
  where
    by_test : (t : Bool) → (e.cpu == cpu) ≡ t → (if t && e.is_runnable then Some (as_runnable sc e) else None) ≡ None
    by_test true h = absurd (off (grind (arith, h)))
    by_test false h = refl

-- HOW MANY

abbrev weight : Option Runnable → ℕ
weight None = 0
weight (Some r) = 1

pub length_front : (o : Option Runnable) (rs : List Runnable) → length (in_front o rs) ≡ weight o + length rs
length_front None rs = omega arith
length_front (Some r) rs = omega arith

weight_same : (cpu n m : ℕ) (o : Option Queued) → weight (runnable_of cpu n o) ≡ weight (runnable_of cpu m o)
weight_same cpu n m None = refl
weight_same cpu n m (Some e) = by_test ((e.cpu == cpu) && e.is_runnable)
  where
    by_test : (t : Bool) → weight (if t then Some (as_runnable n e) else None) ≡ weight (if t then Some (as_runnable m e) else None)
    by_test true = refl
    by_test false = refl

count_set : (os : List (Option Queued)) (sc cpu n : ℕ) (x y : Queued) → entry_in os sc ≡ Some x →
    length (runnables_from cpu n (slice_set os sc (Some y))) + weight (runnable_of cpu 0 (Some x)) ≡ length (runnables_from cpu n os) + weight (runnable_of cpu 0 (Some y))
count_set [] sc cpu n x y is = absurd cc
count_set (o ∷ os) zero cpu n x y is =
    let new = length_front (runnable_of cpu n (Some y)) (runnables_from cpu (n + 1) os) in
    let old = length_front (runnable_of cpu n o) (runnables_from cpu (n + 1) os) in
    let same : weight (runnable_of cpu n o) ≡ weight (runnable_of cpu n (Some x)) = ap (λ (p : Option Queued). weight (runnable_of cpu n p)) is in
    let a = weight_same cpu n 0 (Some x) in
    let b = weight_same cpu n 0 (Some y) in
    omega arith
count_set (o ∷ os) (suc sc) cpu n x y is =
    let rest = count_set os sc cpu (n + 1) x y is in
    let new = length_front (runnable_of cpu n o) (runnables_from cpu (n + 1) (slice_set os sc (Some y))) in
    let old = length_front (runnable_of cpu n o) (runnables_from cpu (n + 1) os) in
    omega arith

length_member : (o : Option ℕ) (ms : List ℕ) → length ms ≤ length (in_front o ms)
length_member None ms = omega arith
length_member (Some m) ms = omega arith

-- no more than the processor has, and less where one of it may not run
pub at_most : (os : List (Option Queued)) (cpu n : ℕ) → length (runnables_from cpu n os) ≤ length (members_from cpu n os)
at_most [] cpu n = omega arith
at_most (None ∷ os) cpu n = at_most os cpu (n + 1)
at_most (Some e ∷ os) cpu n = by_tests (e.cpu == cpu) e.is_runnable (at_most os cpu (n + 1))
  where
    by_tests : (t u : Bool) → length (runnables_from cpu (n + 1) os) ≤ length (members_from cpu (n + 1) os) →
        length (in_front (if t && u then Some (as_runnable n e) else None) (runnables_from cpu (n + 1) os)) ≤ length (in_front (if t then Some n else None) (members_from cpu (n + 1) os))
    by_tests true true rest = omega arith
    by_tests true false rest = omega arith
    by_tests false u rest = rest

pub fewer : (os : List (Option Queued)) (sc cpu n : ℕ) (x : Queued) → entry_in os sc ≡ Some x → x.cpu ≡ cpu → x.is_runnable ≡ false → length (runnables_from cpu n os) < length (members_from cpu n os)
fewer [] sc cpu n x is at off = absurd cc
fewer (o ∷ os) zero cpu n x is at off =
    let rest = at_most os cpu (n + 1) in
    let here : runnable_of cpu n o ≡ None = ap (runnable_of cpu n) is ∙ idle_of cpu n x off in
    let test : (x.cpu == cpu) ≡ true = grind (arith, at) in
    let member : member_of cpu n o ≡ Some n = ap (member_of cpu n) is ∙ rw test refl in
    rw (here, member) (omega arith)
fewer (o ∷ os) (suc sc) cpu n x is at off =
    let rest = fewer os sc cpu (n + 1) x is at off in
    by_front (runnable_of cpu n o) refl (member_of cpu n o) refl rest
  where
    by_front : (a : Option Runnable) → runnable_of cpu n o ≡ a → (b : Option ℕ) → member_of cpu n o ≡ b → length (runnables_from cpu (n + 1) os) < length (members_from cpu (n + 1) os) →
        length (in_front a (runnables_from cpu (n + 1) os)) < length (in_front b (members_from cpu (n + 1) os))
    by_front None h b k rest = let more = length_member b (members_from cpu (n + 1) os) in omega arith
    by_front (Some r) h None k rest =
        let f = runner_facts cpu n o r h in
        let test : (f.of.cpu == cpu) ≡ true = let e = f.its_cpu in grind (arith, e) in
        let member : member_of cpu n o ≡ Some n = ap (member_of cpu n) f.is ∙ rw test refl in
        absurd (cc)
    by_front (Some r) h (Some m) k rest = omega arith

-- a processor with a scheduling context is there
some_member : (os : List (Option Queued)) (sc n : ℕ) (x : Queued) → entry_in os sc ≡ Some x → 0 < length (members_from x.cpu n os)
some_member [] sc n x is = absurd cc
some_member (o ∷ os) zero n x is =
    let test : (x.cpu == x.cpu) ≡ true = grind arith in
    let member : member_of x.cpu n o ≡ Some n = ap (member_of x.cpu n) is ∙ rw test refl in
    rw member (omega arith)
some_member (o ∷ os) (suc sc) n x is =
    let rest = some_member os sc (n + 1) x is in
    let more = length_member (member_of x.cpu n o) (members_from x.cpu (n + 1) os) in
    omega arith

queue_there : (queues : List QueueState) (cpu : ℕ) → 0 < length (members_at queues cpu) → cpu < length queues
queue_there [] zero h = absurd (omega arith)
queue_there [] (suc cpu) h = absurd (omega arith)
queue_there (q ∷ queues) zero h = omega arith
queue_there (q ∷ queues) (suc cpu) h = let rest = queue_there queues cpu h in omega arith

pub cpu_there : (queues : List QueueState) (os : List (Option Queued)) (sc : ℕ) (x : Queued) → AreQueues queues os → entry_in os sc ≡ Some x → x.cpu < length queues
cpu_there queues os sc x are is = queue_there queues x.cpu (let some = some_member os sc 0 x is in let same = are x.cpu in subst (λ (l : List ℕ). 0 < length l) (sym same) some)

-- WHAT CHANGES NOTHING

pub ready_same : (cpu : ℕ) (os ps : List (Option Queued)) (rs : List Runnable) → IsReady cpu os rs → ((sc : ℕ) → runnable_of cpu sc (entry_in ps sc) ≡ runnable_of cpu sc (entry_in os sc)) →
    length (runnables_from cpu 0 ps) ≡ length (runnables_from cpu 0 os) → IsReady cpu ps rs
ready_same cpu os ps rs ready same count = record {
  each = λ r i. same r.sc ∙ ready.each r i;
  all = λ sc r h. ready.all sc r (sym (same sc) ∙ h);
  order = ready.order;
  count = ready.count ∙ sym count;
}

-- an entry in the place of another that is as runnable
pub ready_kept : (cpu : ℕ) (os : List (Option Queued)) (rs : List Runnable) (sc : ℕ) (x y : Queued) → IsReady cpu os rs → entry_in os sc ≡ Some x →
    runnable_of cpu sc (Some y) ≡ runnable_of cpu sc (Some x) → IsReady cpu (slice_set os sc (Some y)) rs
ready_kept cpu os rs sc x y ready is same = ready_same cpu os (slice_set os sc (Some y)) rs ready (λ k. by_place k (k == sc) refl) counted
  where
    by_place : (k : ℕ) (t : Bool) → (k == sc) ≡ t → runnable_of cpu k (entry_in (slice_set os sc (Some y)) k) ≡ runnable_of cpu k (entry_in os k)
    by_place k true h =
        let e : k ≡ sc = grind (arith, h) in
        subst (λ (j : ℕ). runnable_of cpu j (entry_in (slice_set os sc (Some y)) j) ≡ runnable_of cpu j (entry_in os j)) (sym e)
        (ap (runnable_of cpu sc) (set_same os sc x y is) ∙ same ∙ sym (ap (runnable_of cpu sc) is))
    by_place k false h = ap (runnable_of cpu k) (set_other os sc k (Some y) (λ e. absurd (grind (arith, h, e))))

    counted : length (runnables_from cpu 0 (slice_set os sc (Some y))) ≡ length (runnables_from cpu 0 os)
    counted =
        let c = count_set os sc cpu 0 x y is in
        let a = weight_same cpu sc 0 (Some x) in
        let b = weight_same cpu sc 0 (Some y) in
        let w : weight (runnable_of cpu sc (Some y)) ≡ weight (runnable_of cpu sc (Some x)) = ap weight same in
        omega arith

-- A SCHEDULING CONTEXT IS RUNNABLE FROM NOW ON

pub ready_joins : (cpu : ℕ) (os : List (Option Queued)) (rs : List Runnable) (sc : ℕ) (x y : Queued) → IsReady cpu os rs → entry_in os sc ≡ Some x → x.is_runnable ≡ false → y.cpu ≡ cpu → y.is_runnable ≡ true →
    ((q : Runnable) → IsAmong rs q → q.stamp ≡ y.budget.stamp → ⊥) → IsReady cpu (slice_set os sc (Some y)) (placed (as_runnable sc y) rs)
ready_joins cpu os rs sc x y ready is off at on apart = record {
  each = λ r i. by_side r (placed_among (as_runnable sc y) r rs i);
  all = λ k r h. by_place k r (k == sc) refl h;
  order = order_placed (as_runnable sc y) rs ready.order apart;
  count = counted;
}
  where
    new : runnable_of cpu sc (entry_in (slice_set os sc (Some y)) sc) ≡ Some (as_runnable sc y)
    new = ap (runnable_of cpu sc) (set_same os sc x y is) ∙ runner_of cpu sc y at on

    other : (r : Runnable) → IsAmong rs r → r.sc ≡ sc → ⊥
    other r i e =
        let was : runnable_of cpu r.sc (entry_in os r.sc) ≡ Some r = ready.each r i in
        let none : runnable_of cpu r.sc (entry_in os r.sc) ≡ None = subst (λ (k : ℕ). runnable_of cpu k (entry_in os k) ≡ None) (sym e) (ap (runnable_of cpu sc) is ∙ idle_of cpu sc x off) in
        absurd (cc)

    by_side : (r : Runnable) → (as_runnable sc y ≡ r) ⊎ IsAmong rs r → runnable_of cpu r.sc (entry_in (slice_set os sc (Some y)) r.sc) ≡ Some r
    by_side r (inl e) = subst (λ (q : Runnable). runnable_of cpu q.sc (entry_in (slice_set os sc (Some y)) q.sc) ≡ Some q) e new
    by_side r (inr i) = ap (runnable_of cpu r.sc) (set_other os sc r.sc (Some y) (λ e. other r i e)) ∙ ready.each r i

    by_place : (k : ℕ) (r : Runnable) (t : Bool) → (k == sc) ≡ t → runnable_of cpu k (entry_in (slice_set os sc (Some y)) k) ≡ Some r → IsAmong (placed (as_runnable sc y) rs) r
    by_place k r true h g =
        let e : k ≡ sc = grind (arith, h) in
        let here : runnable_of cpu sc (entry_in (slice_set os sc (Some y)) sc) ≡ Some r = subst (λ (j : ℕ). runnable_of cpu j (entry_in (slice_set os sc (Some y)) j) ≡ Some r) e g in
        let both : Some (as_runnable sc y) ≡ Some r = sym new ∙ here in
        let same : as_runnable sc y ≡ r = cc in
        among_placed (as_runnable sc y) r rs (inl same)
    by_place k r false h g =
        among_placed (as_runnable sc y) r rs (inr (ready.all k r (sym (ap (runnable_of cpu k) (set_other os sc k (Some y) (λ e. absurd (grind (arith, h, e))))) ∙ g)))

    counted : length (placed (as_runnable sc y) rs) ≡ length (runnables_from cpu 0 (slice_set os sc (Some y)))
    counted =
        let more = length_placed (as_runnable sc y) rs in
        let before = ready.count in
        let c = count_set os sc cpu 0 x y is in
        let a : weight (runnable_of cpu 0 (Some x)) ≡ 0 = ap weight (idle_of cpu 0 x off) in
        let b : weight (runnable_of cpu 0 (Some y)) ≡ 1 = ap weight (runner_of cpu 0 y at on) in
        omega arith

-- A SCHEDULING CONTEXT IS NOT RUNNABLE ANY MORE

pub ready_leaves : (cpu : ℕ) (os : List (Option Queued)) (rs : List Runnable) (sc : ℕ) (x y : Queued) → IsReady cpu os rs → entry_in os sc ≡ Some x → x.cpu ≡ cpu → x.is_runnable ≡ true → y.is_runnable ≡ false →
    IsReady cpu (slice_set os sc (Some y)) (dropped (as_runnable sc x) rs)
ready_leaves cpu os rs sc x y ready is at on off = record {
  each = λ r i. ap (runnable_of cpu r.sc) (set_other os sc r.sc (Some y) (λ e. other r i e)) ∙ ready.each r (dropped_among (as_runnable sc x) r rs i);
  all = λ k r h. by_place k r (k == sc) refl h;
  order = order_dropped (as_runnable sc x) rs ready.order;
  count = counted;
}
  where
    old : runnable_of cpu sc (entry_in os sc) ≡ Some (as_runnable sc x)
    old = ap (runnable_of cpu sc) is ∙ runner_of cpu sc x at on

    there : IsAmong rs (as_runnable sc x)
    there = ready.all sc (as_runnable sc x) old

    other : (r : Runnable) → IsAmong (dropped (as_runnable sc x) rs) r → r.sc ≡ sc → ⊥
    other r i e =
        let was : runnable_of cpu sc (entry_in os sc) ≡ Some r = subst (λ (k : ℕ). runnable_of cpu k (entry_in os k) ≡ Some r) e (ready.each r (dropped_among (as_runnable sc x) r rs i)) in
        let both : Some r ≡ Some (as_runnable sc x) = sym was ∙ old in
        let same : r ≡ as_runnable sc x = cc in
        gone (as_runnable sc x) rs ready.order there (subst (IsAmong (dropped (as_runnable sc x) rs)) same i)

    by_place : (k : ℕ) (r : Runnable) (t : Bool) → (k == sc) ≡ t → runnable_of cpu k (entry_in (slice_set os sc (Some y)) k) ≡ Some r → IsAmong (dropped (as_runnable sc x) rs) r
    by_place k r true h g =
        let e : k ≡ sc = grind (arith, h) in
        let here : runnable_of cpu sc (entry_in (slice_set os sc (Some y)) sc) ≡ Some r = subst (λ (j : ℕ). runnable_of cpu j (entry_in (slice_set os sc (Some y)) j) ≡ Some r) e g in
        let none : runnable_of cpu sc (entry_in (slice_set os sc (Some y)) sc) ≡ None = ap (runnable_of cpu sc) (set_same os sc x y is) ∙ idle_of cpu sc y off in
        absurd (cc)
    by_place k r false h g =
        let was = sym (ap (runnable_of cpu k) (set_other os sc k (Some y) (λ e. absurd (grind (arith, h, e))))) ∙ g in
        among_dropped (as_runnable sc x) r rs ready.order there (ready.all k r was)
        (λ e. let f = runner_facts cpu k (entry_in os k) r was in let number : r.sc ≡ k = ap (λ (q : Runnable). q.sc) f.r_is in let its : r.sc ≡ sc = ap (λ (q : Runnable). q.sc) e in absurd (grind (arith, h, number, its)))

    counted : length (dropped (as_runnable sc x) rs) ≡ length (runnables_from cpu 0 (slice_set os sc (Some y)))
    counted =
        let less = length_dropped (as_runnable sc x) rs ready.order there in
        let before = ready.count in
        let c = count_set os sc cpu 0 x y is in
        let a : weight (runnable_of cpu 0 (Some x)) ≡ 1 = ap weight (runner_of cpu 0 x at on) in
        let b : weight (runnable_of cpu 0 (Some y)) ≡ 0 = ap weight (idle_of cpu 0 y off) in
        omega arith

-- WHICH IS FIRST

pub first_chosen : (s : Schedule) (cpu : ℕ) (rs : List Runnable) → IsReady cpu s.entries rs → AreStamped s → option_map (λ (r : Runnable). r.sc) (slice_get rs 0) ≡ choose s cpu
first_chosen s cpu rs ready are = by_choice (choose s cpu) (chosen_is_foremost s cpu) rs ready
  where
    by_choice : (o : Option ℕ) → MatchOption o (NobodyMayRun s cpu) (IsForemost s cpu) → (qs : List Runnable) → IsReady cpu s.entries qs → option_map (λ (r : Runnable). r.sc) (slice_get qs 0) ≡ o
    by_choice None nobody [] ready = refl
    by_choice None nobody (q ∷ qs) ready =
        let f = runner_facts cpu q.sc (entry_in s.entries q.sc) q (ready.each q (inl refl)) in
        absurd (nobody q.sc f.of f.is (record { its_cpu = f.its_cpu; runnable = f.on }))
    by_choice (Some sc) first [] ready = absurd (ready.all sc (as_runnable sc first.chosen) (ap (runnable_of cpu sc) first.there ∙ runner_of cpu sc first.chosen first.may_run.its_cpu first.may_run.runnable))
    by_choice (Some sc) first (q ∷ qs) ready = ap (λ (n : ℕ). Some n) (foremost_is_alone s cpu q.sc sc are foremost first)
      where
        f : IsRunner cpu q.sc (entry_in s.entries q.sc) q
        f = runner_facts cpu q.sc (entry_in s.entries q.sc) q (ready.each q (inl refl))

        behind : (o : Runnable) → IsAmong (q ∷ qs) o → runs_before o q ≡ false
        behind o (inl e) = ap (λ (r : Runnable). runs_before r q) (sym e) ∙ not_itself q
        behind o (inr i) = let on : runs_before q o ≡ true = all_among (IsBehind q) qs o ready.order.0 i in grind (arith, on)

        foremost : IsForemost s cpu q.sc
        foremost = record {
          chosen = f.of;
          there = f.is;
          may_run = record { its_cpu = f.its_cpu; runnable = f.on };
          first = λ other o there may.
              let among = ready.all other (as_runnable other o) (ap (runnable_of cpu other) there ∙ runner_of cpu other o may.its_cpu may.runnable) in
              let off : runs_before (as_runnable other o) (as_runnable q.sc f.of) ≡ false = subst (λ (r : Runnable). runs_before (as_runnable other o) r ≡ false) f.r_is (behind (as_runnable other o) among) in
              not_behind f.of o q.sc other (rw off refl);
        }

pub first_there : (os : List (Option Queued)) (cpu : ℕ) (rs : List Runnable) (r : Runnable) → IsReady cpu os rs → slice_get rs 0 ≡ Some r → IsSome (entry_in os r.sc)
first_there os cpu [] r ready is = absurd (cc)
first_there os cpu (q ∷ qs) r ready is =
    let same : q ≡ r = cc in
    let f = runner_facts cpu r.sc (entry_in os r.sc) r (ready.each r (inl same)) in
    subst IsSome (sym f.is) refl
