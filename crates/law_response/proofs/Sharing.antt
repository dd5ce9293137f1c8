-- Round and round: what the others of a priority may pay for between two stamps of a scheduling context that stays runnable.
use Rattle.std.proofs.Common.{◌≡◌, ℕ, suc, ◌≤◌, ◌+◌, List, [], ◌∷◌, ◌++◌, refl, sym, ap, ◌∙◌, subst, arith}
use Rattle.std.specs.Prelude.{Bool, true, false, not, ◌==◌, ◌&&◌, nat_lt, if◌then◌else◌, slice_get, Option, Some, None, IfSome}
use Rattle.std.proofs.Math.Nat.{suc-mul}
use Rattle.std.proofs.lemmas.Bool.{eqb-true}
use Rattle.nova_objects.specs.declared.object.Object.{Object}
use Rattle.nova_objects.specs.declared.object.Object.TheVariants.{Pd, Ec, Sc, Pt, Sm}
use Rattle.nova_model.specs.Boot.{Scenario, boot}
use Rattle.nova_model.specs.Choice.{next_to_act}
use Rattle.nova_model.specs.Creation.{object_of}
use Rattle.nova_model.specs.Runs.{after, run}
use Rattle.nova_model.specs.State.{KernelState, budget_at, entry}
use Rattle.nova_model.specs.declared.budget.Budget.{Budget}
use Rattle.law_forest.proofs.Turning.{event_at}
use Rattle.law_turns.specs.Scheduling.{HasTurnsLeft}
use Rattle.law_turns.proofs.Paying.{Adds, AddsNone, AddsOne, Comes, Idles, Passes, Takes, comes}
use Rattle.law_turns.proofs.Quanta.{left_within}
use Rattle.law_turns.proofs.Ticks.{one_if}
use Rattle.law_response.specs.Waits.{HasShared, IsSchedule, MayRun, StaysRunnable, ahead, ahead_in, is_above, is_due, is_paid_by, is_peer, others, others_in, turns_left, full_quantum, full_quantum_in}
use Rattle.law_response.proofs.Rings.{part}
use Rattle.law_response.proofs.Waiting.{HasGone, IsAfter, IsReached, Pays, Renews, Stays, after_schedule, one_turn, reached_after}

-- WHAT THE OTHERS HAVE

abbrev other_part : ℕ → ℕ → ℕ → ℕ → Object → ℕ
other_part cpu priority sc n o = if is_peer cpu priority o && not (n == sc) then full_quantum_in o else 0

-- of a list numbered from n on
abbrev Fits : ℕ → ℕ → ℕ → ℕ → ℕ → List Object → List (Option Budget) → Type 0
Fits cpu priority sc stamp n os bs =
    (i : ℕ) (o : Object) (b : Budget) → slice_get os i ≡ Some o → entry (slice_get bs i) ≡ Some b → part cpu priority stamp o (Some b) ≤ other_part cpu priority sc (n + i) o

none_part : (cpu priority stamp : ℕ) (o : Object) → part cpu priority stamp o None ≡ 0
none_part cpu priority stamp o = by_test (is_peer cpu priority o)
  where
    by_test : (t : Bool) → ◌≡◌ {A = ℕ} (if t then 0 else 0) 0
    by_test true = refl
    by_test false = refl

first_others : (cpu priority sc stamp n : ℕ) (o : Object) (os : List Object) (e : Option Budget) (bs : List (Option Budget)) →
    ((b : Budget) → e ≡ Some b → part cpu priority stamp o (Some b) ≤ other_part cpu priority sc (n + 0) o) → ahead_in cpu priority stamp os bs ≤ others_in cpu priority sc (n + 1) os →
    part cpu priority stamp o e + ahead_in cpu priority stamp os bs ≤ other_part cpu priority sc n o + others_in cpu priority sc (n + 1) os
first_others cpu priority sc stamp n o os None bs first rest = omega (arith, none_part cpu priority stamp o, rest)
first_others cpu priority sc stamp n o os (Some b) bs first rest =
    let at : n + 0 ≡ n = omega arith in
    let its = first b refl in
    let same = ap (λ (m : ℕ). other_part cpu priority sc m o) at in
    omega (arith, its, same, rest)

later_fits : (cpu priority sc stamp n : ℕ) (o : Object) (os : List Object) (c : Option Budget) (bs : List (Option Budget)) → Fits cpu priority sc stamp n (o ∷ os) (c ∷ bs) →
    Fits cpu priority sc stamp (n + 1) os bs
later_fits cpu priority sc stamp n o os c bs fits i x b object budget =
    let at : n + suc i ≡ n + 1 + i = omega arith in
    subst (λ (m : ℕ). part cpu priority stamp x (Some b) ≤ other_part cpu priority sc m x) at (fits (suc i) x b object budget)

ahead_others : (cpu priority sc stamp n : ℕ) (os : List Object) (bs : List (Option Budget)) → Fits cpu priority sc stamp n os bs →
    ahead_in cpu priority stamp os bs ≤ others_in cpu priority sc n os
ahead_others cpu priority sc stamp n [] bs fits = omega arith
ahead_others cpu priority sc stamp n (o ∷ os) [] fits = omega arith
ahead_others cpu priority sc stamp n (o ∷ os) (c ∷ bs) fits =
    first_others cpu priority sc stamp n o os c bs (λ b is. fits 0 o b refl is)
    (ahead_others cpu priority sc stamp (n + 1) os bs (later_fits cpu priority sc stamp n o os c bs fits))

-- a scheduling context that joins
more_others : (cpu priority sc n : ℕ) (os : List Object) (o : Object) → others_in cpu priority sc n os ≤ others_in cpu priority sc n (os ++ o ∷ [])
more_others cpu priority sc n [] o = omega arith
more_others cpu priority sc n (x ∷ os) o = let rest = more_others cpu priority sc (n + 1) os o in omega (arith, rest)

adds_others : (k s : KernelState) (ec cpu priority sc : ℕ) → Adds k s ec → others k cpu priority sc ≤ others s cpu priority sc
adds_others k s ec cpu priority sc (AddsNone objects budgets next) = let same = ap (others_in cpu priority sc 0) objects in omega (arith, same)
adds_others k s ec cpu priority sc (AddsOne made bound objects budgets next) =
    let same = ap (others_in cpu priority sc 0) objects in
    let more = more_others cpu priority sc 0 k.objects (object_of made) in omega (arith, same, more)

after_others : (k : KernelState) (by cpu priority sc : ℕ) → others k cpu priority sc ≤ others (after k by) cpu priority sc
after_others k by cpu priority sc = by_turn (after k by) (comes k by)
  where
    by_turn : (s : KernelState) → Comes k s by (event_at k by) → others k cpu priority sc ≤ others s cpu priority sc
    by_turn s (Idles none is event) = let same = ap (λ (x : KernelState). others x cpu priority sc) is in omega (arith, same)
    by_turn s (Passes p is none event) = let same = ap (λ (x : KernelState). others x cpu priority sc) is in omega (arith, same)
    by_turn s (Takes c chosen t event) =
        let same = ap (others_in cpu priority sc 0) t.objects in
        let adds = adds_others k t.between c.actor cpu priority sc t.adds in omega (arith, same, adds)

pub run_others : (k : KernelState) (turns : List ℕ) (cpu priority sc : ℕ) → others k cpu priority sc ≤ others (run k turns) cpu priority sc
run_others k [] cpu priority sc = omega arith
run_others k (by ∷ turns) cpu priority sc =
    let first = after_others k by cpu priority sc in let rest = run_others (after k by) turns cpu priority sc in omega (arith, first, rest)

-- WHAT STANDS BEFORE A SCHEDULING CONTEXT IS AT MOST WHAT THE OTHERS HAVE

left_most : (k : KernelState) (n : ℕ) (r : IsReached k) → 1 ≤ r.scenario.root.quantum → (ec cpu priority quantum : ℕ) (b : Budget) → slice_get k.objects n ≡ Some (Sc ec cpu priority quantum) →
    budget_at k n ≡ Some b → turns_left b ≤ full_quantum quantum
left_most k n r least ec cpu priority quantum b object budget =
    let has : IfSome (slice_get k.objects n) (HasTurnsLeft k n) =
    subst (λ (s : KernelState). IfSome (slice_get s.objects n) (HasTurnsLeft s n)) (sym r.is) (left_within r.scenario r.turns n least) in
    let its : IfSome (budget_at k n) (λ (x : Budget). (1 ≤ x.left) × (x.left ≤ quantum)) = subst (λ (o : Option Object). IfSome o (HasTurnsLeft k n)) object has in
    let both : (1 ≤ b.left) × (b.left ≤ quantum) = subst (λ (o : Option Budget). IfSome o (λ (x : Budget). (1 ≤ x.left) × (x.left ≤ quantum))) budget its in
    let most = both.1 in omega (arith, most)

part_most : (cpu priority stamp sc n : ℕ) (o : Object) (b : Budget) → ((ec its_cpu its_priority quantum : ℕ) → o ≡ Sc ec its_cpu its_priority quantum → turns_left b ≤ full_quantum quantum) →
    (n ≡ sc → nat_lt b.stamp stamp ≡ false) → part cpu priority stamp o (Some b) ≤ other_part cpu priority sc n o
part_most cpu priority stamp sc n Pd b most own = omega arith
part_most cpu priority stamp sc n (Ec pd its kind event) b most own = omega arith
part_most cpu priority stamp sc n (Pt ec mtd ip) b most own = omega arith
part_most cpu priority stamp sc n Sm b most own = omega arith
part_most cpu priority stamp sc n (Sc ec its_cpu its_priority quantum) b most own = by_test (is_peer cpu priority (Sc ec its_cpu its_priority quantum)) (n == sc) refl (nat_lt b.stamp stamp) refl
  where
    by_test : (peer itself : Bool) → (n == sc) ≡ itself → (less : Bool) → nat_lt b.stamp stamp ≡ less →
        (if peer then (if less then turns_left b else 0) else 0) ≤ (if peer && not itself then full_quantum quantum else 0)
    by_test false itself same less is = omega arith
    by_test true true same true is =
        let at : n ≡ sc = eqb-true n sc same in let none = own at in absurd (let both : true ≡ false = sym is ∙ none in cc)
    by_test true true same false is = omega arith
    by_test true false same true is = most ec its_cpu its_priority quantum refl
    by_test true false same false is = omega arith

pub before_others : (k : KernelState) (sc ec cpu priority quantum : ℕ) (b : Budget) (r : IsReached k) → 1 ≤ r.scenario.root.quantum → IsSchedule k sc ec cpu priority quantum b →
    ahead k cpu priority b.stamp ≤ others k cpu priority sc
before_others k sc ec cpu priority quantum b r least its =
    ahead_others cpu priority sc b.stamp 0 k.objects k.budgets fits
  where
    itself : (x : Budget) → budget_at k sc ≡ Some x → nat_lt x.stamp b.stamp ≡ false
    itself x at = let both : Some x ≡ Some b = sym at ∙ its.budget in let same : x ≡ b = cc in let stamps = ap (λ (y : Budget). y.stamp) same in grind arith

    fits : Fits cpu priority sc b.stamp 0 k.objects k.budgets
    fits i o x object budget =
        let at : 0 + i ≡ i = omega arith in
        subst (λ (m : ℕ). part cpu priority b.stamp o (Some x) ≤ other_part cpu priority sc m o) (sym at)
        (part_most cpu priority b.stamp sc i o x
        (λ e c p q is. left_most k i r least e c p q x (object ∙ ap (λ (y : Object). Some y) is) budget)
        (λ same. itself x (ap (budget_at k) (sym same) ∙ budget)))

-- ALL TURNS

shared_on : (k : KernelState) (by : ℕ) (turns : List ℕ) (sc ec cpu priority quantum : ℕ) (b : Budget) (r : IsReached k) → 1 ≤ r.scenario.root.quantum →
    IsSchedule k sc ec cpu priority quantum b → (by ≡ cpu → is_due k by ≡ false → MayRun k ec) → (a : IsAfter k by sc ec cpu priority quantum b) →
    HasShared (after k by) turns sc ec cpu priority quantum a.budget → HasShared k (by ∷ turns) sc ec cpu priority quantum b
shared_on k by turns sc ec cpu priority quantum b r least its may a rest = by_gone a.gone
  where
    first : one_if (by == cpu) + ahead (after k by) cpu priority b.stamp
        ≡ one_if ((by == cpu) && is_due k by)
        + (one_if ((by == cpu) && is_above priority (next_to_act k by)) + (one_if (is_paid_by sc (next_to_act k by)) + ahead k cpu priority b.stamp))
    first = one_turn k by sc ec cpu priority quantum b r its may

    further : (paid : Bool) → is_paid_by sc (next_to_act k by) ≡ paid → a.budget.stamp ≡ b.stamp → turns_left a.budget + one_if paid ≡ turns_left b →
        HasShared k (by ∷ turns) sc ec cpu priority quantum b
    further paid is stamp left =
        let once : one_if (is_paid_by sc (next_to_act k by)) ≡ one_if paid = ap one_if is in
        let at_start = ap (λ (n : ℕ). ahead (after k by) cpu priority n) stamp in
        record {
          renewals = rest.renewals;
          budget = rest.budget;
          still = rest.still;
          within = rest.within;
          paid = omega (arith, rest.paid, once, left);
          often = omega (arith, rest.often);
          count = omega (arith, rest.count, at_start, first);
        }

    renewed : is_paid_by sc (next_to_act k by) ≡ true → turns_left b ≡ 1 → turns_left a.budget ≡ full_quantum quantum → HasShared k (by ∷ turns) sc ec cpu priority quantum b
    renewed paid last full =
        let once : one_if (is_paid_by sc (next_to_act k by)) ≡ 1 = ap one_if paid in
        let n = rest.renewals in
        let all = others (run (after k by) turns) cpu priority sc in
        let more = suc-mul n (full_quantum quantum) in
        let round = suc-mul n all in
        let now = before_others (after k by) sc ec cpu priority quantum a.budget (reached_after k by r) least a.still in
        let later = run_others (after k by) turns cpu priority sc in
        record {
          renewals = suc n;
          budget = rest.budget;
          still = rest.still;
          within = rest.within;
          paid = omega (arith, rest.paid, once, last, full, more);
          often = omega (arith, rest.within, rest.paid, once, full, more);
          count = omega (arith, rest.count, first, once, now, later, round);
        }

    by_gone : HasGone k by sc quantum b a.budget → HasShared k (by ∷ turns) sc ec cpu priority quantum b
    by_gone (Stays none same) = further false none (ap (λ (x : Budget). x.stamp) same) (let e = ap turns_left same in omega (arith, e))
    by_gone (Pays paid more left stamp) = further true paid stamp left
    by_gone (Renews paid last full) = renewed paid last full

pub shared : (k : KernelState) (turns : List ℕ) (sc ec cpu priority quantum : ℕ) (b : Budget) (r : IsReached k) → 1 ≤ r.scenario.root.quantum → IsSchedule k sc ec cpu priority quantum b →
    StaysRunnable k cpu ec turns → HasShared k turns sc ec cpu priority quantum b
shared k [] sc ec cpu priority quantum b r least its stays = record {
  renewals = 0;
  budget = b;
  still = its;
  within = left_most k sc r least ec cpu priority quantum b its.object its.budget;
  paid = omega arith;
  often = omega arith;
  count = omega arith;
}
shared k (by ∷ turns) sc ec cpu priority quantum b r least its (may, stays) =
    let a = after_schedule k by sc ec cpu priority quantum b its in
    shared_on k by turns sc ec cpu priority quantum b r least its may a
    (shared (after k by) turns sc ec cpu priority quantum a.budget (reached_after k by r) least a.still stays)

pub reached_shared : (s : Scenario) (before turns : List ℕ) (sc ec cpu priority quantum : ℕ) (b : Budget) → 1 ≤ s.root.quantum → IsSchedule (run (boot s) before) sc ec cpu priority quantum b →
    StaysRunnable (run (boot s) before) cpu ec turns → HasShared (run (boot s) before) turns sc ec cpu priority quantum b
reached_shared s before turns sc ec cpu priority quantum b least its stays =
    shared (run (boot s) before) turns sc ec cpu priority quantum b (record { scenario = s; turns = before; is = refl }) least its stays

pub reached_before : (s : Scenario) (before : List ℕ) (sc ec cpu priority quantum : ℕ) (b : Budget) → 1 ≤ s.root.quantum → IsSchedule (run (boot s) before) sc ec cpu priority quantum b →
    ahead (run (boot s) before) cpu priority b.stamp ≤ others (run (boot s) before) cpu priority sc
reached_before s before sc ec cpu priority quantum b least its = before_others (run (boot s) before) sc ec cpu priority quantum b (record { scenario = s; turns = before; is = refl }) least its
