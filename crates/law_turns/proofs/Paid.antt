-- What the turn of the chosen candidate does to budgets and the next stamp.
use Rattle.law_forest.proofs.Boots.{sources_keep}
use Rattle.law_forest.specs.Turns.{is_passing, passing_event}
use Rattle.std.proofs.Common.{◌≡◌, length, ℕ, zero, suc, ◌≤◌, ◌-◌, ◌+◌, List, [], ◌∷◌, ◌++◌, inl, inr, refl, sym, ap, ◌∙◌, subst, arith}
use Rattle.std.specs.Prelude.{◌≢◌, Bool, true, false, ◌==◌, slice_get, slice_set, Option, Some, None, IsSome, option_map, ◌&&◌, not}
use Rattle.nova_objects.specs.declared.object.Object.{Object}
use Rattle.nova_model.specs.Boot.{Image, Scenario, bare, boot, with_image, with_images}
use Rattle.nova_model.specs.Hypercalls.{ticks_in}
use Rattle.std.proofs.lemmas.Bool.{eqb-true}
use Rattle.nova_model.specs.Choice.{Candidate, in_front}
use Rattle.nova_model.specs.Creation.{budget_of, object_of}
use Rattle.nova_model.specs.Deeds.{deed}
use Rattle.nova_model.specs.Runs.{after, run, trace}
use Rattle.nova_model.specs.State.{KernelState, budget_at, entry}
use Rattle.nova_model.specs.Turn.{answer_of, budget_after, event_of, is_spent, quantum_in, stamp_after, turn}
use Rattle.nova_model.specs.declared.budget.Budget.{Budget}
use Rattle.nova_model.specs.declared.event.Event.{Event}
use Rattle.nova_model.specs.declared.event.Turn.TheVariants.{Stepped}
use Rattle.nova_model.specs.declared.new_object.NewObject.{NewObject}
use Rattle.nova_model.specs.declared.new_object.NewObject.TheVariants as new
use Rattle.law_forest.proofs.Turning.{acting_kind, event_at, of_event, of_events, passing_kind}
use Rattle.law_turns.specs.Scheduling.{GoesOn, IsPaidBy, IsUsed, Renewed, is_on, turns_paid_by, IsUnpaid}
use Rattle.law_turns.proofs.TablesFit.{boot_run_fits}
use Rattle.law_turns.proofs.Paying.{Adds, AddsNone, AddsOne, Comes, Idles, IsTurn, Takes, comes, spent_ticks, still_budget, turn_is, Passes}
use Rattle.law_turns.proofs.Ticks.{both_false, both_true, front_passes, lengths, one_if}
use Rattle.law_turns.proofs.Setting.{entry_itself, entry_joined, entry_other, get_last, more_at}
use Rattle.law_turns.proofs.Stamps.{adds_rise, after_rises, new_stamp}

-- what is left, and the stamp
used : (quantum from next : ℕ) (b : Budget) → from ≤ next → IsUsed b (budget_after (is_spent b) quantum next b) quantum from (stamp_after (is_spent b) next)
used quantum from next b rises = by_test (is_spent b) refl
  where
    by_test : (t : Bool) → (b.left - 1 == 0) ≡ t → IsUsed b (budget_after t quantum next b) quantum from (stamp_after t next)
    by_test true is = Renewed (grind arith) refl rises refl
    by_test false is = GoesOn (grind arith) (grind arith) refl

-- a budget that a deed adds
fresh_budget : (next : ℕ) (made : NewObject) (b : Budget) → budget_of next made ≡ Some b → (b.ticks ≡ 0) × (b.stamp ≡ next)
fresh_budget next (new.Sc ec cpu priority quantum) b is = (sym (ap ticks_of is), (new_stamp next (new.Sc ec cpu priority quantum) b is).0)
  where
    ticks_of : Option Budget → ℕ
    ticks_of (Some x) = x.ticks
    ticks_of None = 0
fresh_budget next new.Pd b is = absurd (cc)
fresh_budget next (new.Ec pd cpu kind sp event) b is = absurd (cc)
fresh_budget next (new.Pt ec mtd ip) b is = absurd (cc)
fresh_budget next (new.Sm count) b is = absurd (cc)

added_fresh : (k s : KernelState) (ec n : ℕ) (b : Budget) → Adds k s ec → budget_at k n ≡ None → budget_at s n ≡ Some b → (b.ticks ≡ 0) × (b.stamp ≡ k.next_stamp)
added_fresh k s ec n b (AddsNone objects budgets next) none is =
    let same = ap (λ (bs : List (Option Budget)). entry (slice_get bs n)) budgets in absurd (cc)
added_fresh k s ec n b (AddsOne made bound objects budgets next) none is =
    let at : entry (slice_get (k.budgets ++ budget_of k.next_stamp made ∷ []) n) ≡ Some b =
    sym (ap (λ (bs : List (Option Budget)). entry (slice_get bs n)) budgets) ∙ is in
    elim (entry_joined k.budgets (budget_of k.next_stamp made) n b at) [
      | inl there ↦ absurd (cc)
      | inr last ↦ fresh_budget k.next_stamp made b last.1
    ]

still_there : (k s : KernelState) (ec n : ℕ) → Adds k s ec → IsSome (budget_at k n) → budget_at s n ≡ budget_at k n
still_there k s ec n adds there = by_budget (budget_at k n) refl there
  where
    by_budget : (o : Option Budget) → budget_at k n ≡ o → IsSome o → budget_at s n ≡ o
    by_budget None is h = absurd (cc)
    by_budget (Some b) is h = still_budget k s ec n b adds is

itself : (n : ℕ) → (n == n) ≡ true
itself n = grind arith

paid_by_chosen : (k s : KernelState) (cpu : ℕ) (c : Candidate) → IsTurn k s cpu c → IsPaidBy k s cpu c.sc
paid_by_chosen k s cpu c t =
    let m = t.between in
    let b = t.its.budget in
    let x = budget_after (is_spent b) t.its.quantum m.next_stamp b in
    let first = adds_rise k m c.actor t.adds in
    let second = after_rises m.next_stamp (is_spent b) in
    let next = t.next in
    let set : (n : ℕ) → budget_at s n ≡ entry (slice_get (slice_set m.budgets c.sc (Some x)) n) =
    λ n. ap (λ (bs : List (Option Budget)). entry (slice_get bs n)) t.budgets in
    let whole : t.its.quantum ≡ quantum_in (slice_get k.objects c.sc) = sym (ap quantum_in t.its.object) in
    record {
      before = b;
      after = x;
      its = ap (option_map (is_on cpu)) t.its.object ∙ ap (λ (y : Bool). Some y) (itself cpu);
      there = t.its.there;
      paid = set c.sc ∙ entry_itself m.budgets c.sc x (rw t.there refl);
      ticks = spent_ticks (is_spent b) t.its.quantum m.next_stamp b;
      used = rw (sym whole, t.next) (used t.its.quantum k.next_stamp m.next_stamp b first.least);
      others = λ n other there. set n ∙ entry_other m.budgets c.sc n x other ∙ still_there k m c.actor n t.adds there;
      fresh = λ n y none is. added_fresh k m c.actor n y t.adds none
          (sym (entry_other m.budgets c.sc n x (λ same. let its = t.its.there in let e = ap (budget_at k) same in absurd (cc))) ∙ sym (set n) ∙ is);
      rises = let l = first.least in let r = second.least in omega arith;
      by_two = let l = first.most in let r = second.most in omega arith;
    }

-- EACH HAS A TICK FOR EACH TURN THAT IT PAID

tick_more : (k s : KernelState) (cpu sc n : ℕ) → IsPaidBy k s cpu sc → ticks_in (budget_at s n) ≡ ticks_in (budget_at k n) + one_if (sc == n)
tick_more k s cpu sc n p = by_test (sc == n) refl
  where
    by_new : (o : Option Budget) → budget_at s n ≡ o → budget_at k n ≡ None → ticks_in o ≡ 0
    by_new None is none = refl
    by_new (Some b) is none = (p.fresh n b none is).0

    by_old : (o : Option Budget) → budget_at k n ≡ o → n ≢ sc → ticks_in (budget_at s n) ≡ ticks_in o + 0
    by_old None is other = by_new (budget_at s n) refl is
    by_old (Some b) is other =
        let none : b.ticks ≡ b.ticks + 0 = omega arith in
        ap ticks_in (p.others n other (rw is refl) ∙ is) ∙ none

    by_test : (t : Bool) → (sc == n) ≡ t → ticks_in (budget_at s n) ≡ ticks_in (budget_at k n) + one_if t
    by_test true is =
        let same : sc ≡ n = eqb-true sc n is in
        subst (λ (m : ℕ). ticks_in (budget_at s m) ≡ ticks_in (budget_at k m) + 1) same
        (ap ticks_in p.paid ∙ p.ticks ∙ ap (λ (o : Option Budget). ticks_in o + 1) (sym p.there))
    by_test false is =
        let differs : n ≢ sc = λ same. let e : (sc == n) ≡ true = rw same (itself sc) in absurd (cc) in
        by_old (budget_at k n) refl differs

after_ticks : (k : KernelState) (cpu n : ℕ) (es : List Event) →
    ticks_in (budget_at (after k cpu) n) + turns_paid_by n es ≡ ticks_in (budget_at k n) + turns_paid_by n (in_front (event_at k cpu) es)
after_ticks k cpu n es = by_turn (after k cpu) (comes k cpu)
  where
    by_turn : (s : KernelState) → Comes k s cpu (event_at k cpu) →
        ticks_in (budget_at s n) + turns_paid_by n es ≡ ticks_in (budget_at k n) + turns_paid_by n (in_front (event_at k cpu) es)
    by_turn s (Idles idle is none) = rw (is, none) refl
    by_turn s (Passes p is nobody one) =
        let e = passing_event k cpu p in
        let front = front_passes (λ (x : Event). (x.sc == n) && not (is_passing x.kind)) e es in
        let none = both_false (e.sc == n) (not (is_passing e.kind)) (ap not (passing_kind k cpu p)) in
        let same = ap (λ (x : KernelState). ticks_in (budget_at x n)) is in
        rw one (omega arith)
    by_turn s (Takes c chosen t one) =
        let e = event_of cpu c (deed k c.actor) in
        let front = front_passes (λ (x : Event). (x.sc == n) && not (is_passing x.kind)) e es in
        let paid = both_true (c.sc == n) (not (is_passing e.kind)) (ap not (acting_kind (deed k c.actor))) in
        let more = tick_more k s cpu c.sc n (paid_by_chosen k s cpu c t) in
        rw one (omega arith)

run_each : (k : KernelState) (turns : List ℕ) (n : ℕ) → ticks_in (budget_at (run k turns) n) ≡ ticks_in (budget_at k n) + turns_paid_by n (trace k turns)
run_each k [] n = omega arith
run_each k (cpu ∷ turns) n = run_each (after k cpu) turns n ∙ after_ticks k cpu n (trace (after k cpu) turns)

images_each : (k : KernelState) (images : List Image) (n : ℕ) → budget_at (with_images k images) n ≡ budget_at k n
images_each k [] n = refl
images_each k (image ∷ images) n = images_each (with_image k image) images n

root_each : (s : Scenario) (n : ℕ) → ticks_in (budget_at (bare s.cpus s.ram s.consoles s.root) n) ≡ 0
root_each s zero = refl
root_each s (suc zero) = refl
root_each s (suc (suc zero)) = refl
root_each s (suc (suc (suc n))) = refl

boot_each : (s : Scenario) (n : ℕ) → ticks_in (budget_at (boot s) n) ≡ 0
boot_each s =
    sources_keep (λ (k : KernelState). (n : ℕ) → ticks_in (budget_at k n) ≡ 0) (λ k source none n. more_at (λ (o : Option Budget). ticks_in o ≡ 0) k.budgets None n (none n) (λ old. old))
    (with_images (bare s.cpus s.ram s.consoles s.root) s.images) s.sources (λ n. ap ticks_in (images_each (bare s.cpus s.ram s.consoles s.root) s.images n) ∙ root_each s n)

pub each_paid : (s : Scenario) (turns : List ℕ) (n : ℕ) → ticks_in (budget_at (run (boot s) turns) n) ≡ turns_paid_by n (trace (boot s) turns)
each_paid s turns n =
    let none = boot_each s n in
    omega (arith, run_each (boot s) turns n)

-- A NEW SCHEDULING CONTEXT BEGINS WITH ITS WHOLE QUANTUM

whole_quantum : (next : ℕ) (made : NewObject) (b : Budget) → budget_of next made ≡ Some b → b.left ≡ quantum_in (Some (object_of made))
whole_quantum next (new.Sc ec cpu priority quantum) b is = sym (ap left_of is)
  where
    left_of : Option Budget → ℕ
    left_of (Some x) = x.left
    left_of None = 0
whole_quantum next new.Pd b is = absurd (cc)
whole_quantum next (new.Ec pd cpu kind sp event) b is = absurd (cc)
whole_quantum next (new.Pt ec mtd ip) b is = absurd (cc)
whole_quantum next (new.Sm count) b is = absurd (cc)

added_whole : (k s : KernelState) (ec n : ℕ) (b : Budget) → Adds k s ec → length k.budgets ≡ length k.objects → budget_at k n ≡ None → budget_at s n ≡ Some b →
    b.left ≡ quantum_in (slice_get s.objects n)
added_whole k s ec n b (AddsNone objects budgets next) same none is =
    let kept = ap (λ (bs : List (Option Budget)). entry (slice_get bs n)) budgets in absurd (cc)
added_whole k s ec n b (AddsOne made bound objects budgets next) same none is =
    let at : entry (slice_get (k.budgets ++ budget_of k.next_stamp made ∷ []) n) ≡ Some b =
    sym (ap (λ (bs : List (Option Budget)). entry (slice_get bs n)) budgets) ∙ is in
    elim (entry_joined k.budgets (budget_of k.next_stamp made) n b at) [
      | inl there ↦ absurd (cc)
      | inr last ↦ (
          let object : slice_get s.objects n ≡ Some (object_of made) =
          ap (λ (os : List Object). slice_get os n) objects
          ∙ ap (slice_get (k.objects ++ object_of made ∷ [])) (last.0 ∙ same) ∙ get_last k.objects (object_of made) in
          whole_quantum k.next_stamp made b last.1 ∙ sym (ap quantum_in object)
          )
    ]

after_whole : (k : KernelState) (cpu n : ℕ) (b : Budget) → length k.budgets ≡ length k.objects → budget_at k n ≡ None → budget_at (after k cpu) n ≡ Some b →
    b.left ≡ quantum_in (slice_get (after k cpu).objects n)
after_whole k cpu n b same none is = by_turn (after k cpu) (comes k cpu) is
  where
    by_turn : (s : KernelState) → Comes k s cpu (event_at k cpu) → budget_at s n ≡ Some b → b.left ≡ quantum_in (slice_get s.objects n)
    by_turn s (Idles idle kept no_event) at = let e = ap (λ (x : KernelState). budget_at x n) kept in absurd (cc)
    by_turn s (Passes p kept nobody event) at = let e = ap (λ (x : KernelState). budget_at x n) kept in absurd (cc)
    by_turn s (Takes c chosen t event) at =
        let other : n ≢ c.sc = λ equal. let its = t.its.there in let e = ap (budget_at k) equal in absurd (cc) in
        let x = budget_after (is_spent t.its.budget) t.its.quantum t.between.next_stamp t.its.budget in
        let there : budget_at t.between n ≡ Some b =
        sym (entry_other t.between.budgets c.sc n x other) ∙ sym (ap (λ (bs : List (Option Budget)). entry (slice_get bs n)) t.budgets) ∙ at in
        added_whole k t.between c.actor n b t.adds same none there ∙ sym (ap (λ (os : List Object). quantum_in (slice_get os n)) t.objects)

pub new_whole : (s : Scenario) (turns : List ℕ) (cpu n : ℕ) (b : Budget) → budget_at (run (boot s) turns) n ≡ None → budget_at (after (run (boot s) turns) cpu) n ≡ Some b →
    b.left ≡ quantum_in (slice_get (after (run (boot s) turns) cpu).objects n)
new_whole s turns cpu n b = after_whole (run (boot s) turns) cpu n b (lengths (run (boot s) turns) (boot_run_fits s turns))

-- THE EVENT OF A TURN NAMES WHAT PAYS

-- and a turn that none pays leaves all budgets
pub turn_free : (k : KernelState) (cpu : ℕ) (e : Event) → is_passing e.kind ≡ true → answer_of (turn k cpu) ≡ Stepped e → IsUnpaid k (after k cpu)
turn_free k cpu e passing steps =
    of_events (λ (f : Event). is_passing f.kind ≡ true → IsUnpaid k (after k cpu)) k cpu e steps
    (λ p comes state its. record { budgets = ap (λ (s : KernelState). s.budgets) state; next = ap (λ (s : KernelState). s.next_stamp) state })
    (λ c chosen state its. absurd (let both : true ≡ false = sym its ∙ acting_kind (deed k c.actor) in cc)) passing

pub turn_paid : (k : KernelState) (cpu : ℕ) (e : Event) → is_passing e.kind ≡ false → answer_of (turn k cpu) ≡ Stepped e → IsPaidBy k (after k cpu) cpu e.sc
turn_paid k cpu e acts steps =
    of_event (λ (f : Event). IsPaidBy k (after k cpu) cpu f.sc) k cpu e acts steps (λ c chosen state. paid_by_chosen k (after k cpu) cpu c (turn_is k cpu c chosen))
