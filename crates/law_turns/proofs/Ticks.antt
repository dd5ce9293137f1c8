-- The ticks of a processor's scheduling contexts, the events of its turns, and its count of turns.
use Rattle.nova_model.specs.Sources.{Source, with_source}
use Rattle.law_forest.proofs.Boots.{sources_keep}
use Rattle.std.proofs.Common.{◌≡◌, ℕ, zero, suc, ◌<◌, ◌+◌, List, [], ◌∷◌, ◌++◌, length, refl, sym, ap, ap₂, ◌∙◌, arith}
use Rattle.std.specs.Prelude.{◌≢◌, Bool, true, false, ◌==◌, cond, filter, is_some, replicate, sum, if◌then◌else◌, slice_get, slice_index, slice_set, Option, Some, None, ◌&&◌}
use Rattle.std.proofs.lemmas.Bool.{eqb-true}
use Rattle.std.proofs.lemmas.List.{length-map}
use Rattle.std.proofs.lemmas.List.Sums.{sum_by-cons}
use Rattle.nova_objects.specs.declared.object.Object.{Object}
use Rattle.nova_objects.specs.declared.object.Object.TheVariants.{Sc, Sm}
use Rattle.nova_model.specs.Boot.{Image, Scenario, bare, boot, with_image, with_images}
use Rattle.nova_model.specs.Choice.{Candidate, in_front}
use Rattle.nova_model.specs.Creation.{budget_of, object_of}
use Rattle.nova_model.specs.Deeds.{deed}
use Rattle.nova_model.specs.Hypercalls.{ticks_in}
use Rattle.nova_model.specs.Runs.{after, run, trace}
use Rattle.nova_model.specs.State.{KernelState, entry}
use Rattle.nova_model.specs.Turn.{budget_after, event_of, is_spent}
use Rattle.nova_model.specs.declared.event.Event.{Event}
use Rattle.nova_model.specs.Times.{clock}
use Rattle.nova_model.specs.declared.times.Due.TheVariants as due
use Rattle.law_forest.specs.Effects.{Falls, Passing, Ticks}
use Rattle.law_forest.specs.Turns.{is_passing, passing_event}
use Rattle.law_forest.proofs.Turning.{acting_kind, event_at, passing_kind}
use Rattle.nova_model.specs.declared.budget.Budget.{Budget}
use Rattle.nova_model.specs.declared.event.Event.{Event}
use Rattle.nova_model.specs.declared.new_object.NewObject.{NewObject}
use Rattle.nova_model.specs.declared.new_object.NewObject.TheVariants as new
use Rattle.law_turns.specs.Scheduling.{is_on, paid_on, ticks_on, turns_of, turns_passed}
use Rattle.law_turns.proofs.TablesFit.{TablesFit, after_fits, boot_fits, zeros_length, image_fits, source_fits}
use Rattle.law_turns.proofs.Paying.{Adds, AddsNone, AddsOne, Comes, Idles, IsTurn, Passes, Takes, comes, spent_ticks}
use Rattle.law_turns.proofs.Setting.{index_itself, index_other, set_length}

-- LISTS OF TICKS

abbrev pub one_if : Bool → ℕ
one_if t = if t then 1 else 0

sum-cons : (x : ℕ) (xs : List ℕ) → sum (x ∷ xs) ≡ x + sum xs
sum-cons x xs = sum_by-cons (λ n. n) x xs

-- one more of an object and its budget
more_ticks : (cpu : ℕ) (os : List Object) (bs : List (Option Budget)) (o : Object) (b : Option Budget) → length bs ≡ length os →
    sum (ticks_on cpu (os ++ o ∷ []) (bs ++ b ∷ [])) ≡ sum (ticks_on cpu os bs) + (if is_on cpu o then ticks_in b else 0)
more_ticks cpu [] [] o b same = omega (arith, sum-cons (if is_on cpu o then ticks_in b else 0) [])
more_ticks cpu [] (c ∷ bs) o b same = absurd (omega arith)
more_ticks cpu (x ∷ os) [] o b same = absurd (omega arith)
more_ticks cpu (x ∷ os) (c ∷ bs) o b same =
    let its : ℕ = if is_on cpu x then ticks_in c else 0 in
    omega (arith, more_ticks cpu os bs o b (omega arith), sum-cons its (ticks_on cpu (os ++ o ∷ []) (bs ++ b ∷ [])), sum-cons its (ticks_on cpu os bs))

-- one tick more of a scheduling context
if_more : (t : Bool) (n m : ℕ) → m ≡ n + 1 → (if t then m else 0) ≡ (if t then n else 0) + one_if t
if_more true n m h = h
if_more false n m h = refl

set_ticks : (cpu : ℕ) (os : List Object) (bs : List (Option Budget)) (sc : ℕ) (o : Object) (b x : Budget) → slice_get os sc ≡ Some o → entry (slice_get bs sc) ≡ Some b →
    x.ticks ≡ b.ticks + 1 → sum (ticks_on cpu os (slice_set bs sc (Some x))) ≡ sum (ticks_on cpu os bs) + one_if (is_on cpu o)
set_ticks cpu [] bs sc o b x at there more = absurd (cc)
set_ticks cpu (y ∷ os) [] sc o b x at there more = absurd (cc)
set_ticks cpu (y ∷ os) (None ∷ bs) zero o b x at there more = absurd (cc)
set_ticks cpu (y ∷ os) (Some c ∷ bs) zero o b x at there more =
    let same : y ≡ o = cc in
    let its : c ≡ b = cc in
    let ticks : x.ticks ≡ c.ticks + 1 = more ∙ ap (λ (z : Budget). z.ticks + 1) (sym its) in
    let this = if_more (is_on cpu y) c.ticks x.ticks ticks in
    let on = ap (λ (z : Object). one_if (is_on cpu z)) same in
    omega (arith, this, on, sum-cons (if is_on cpu y then x.ticks else 0) (ticks_on cpu os bs), sum-cons (if is_on cpu y then c.ticks else 0) (ticks_on cpu os bs))
set_ticks cpu (y ∷ os) (c ∷ bs) (suc sc) o b x at there more =
    let its : ℕ = if is_on cpu y then ticks_in c else 0 in
    omega (arith, set_ticks cpu os bs sc o b x at there more, sum-cons its (ticks_on cpu os (slice_set bs sc (Some x))), sum-cons its (ticks_on cpu os bs))

-- a new budget has none
new_ticks : (cpu stamp : ℕ) (made : NewObject) → (if is_on cpu (object_of made) then ticks_in (budget_of stamp made) else 0) ≡ 0
new_ticks cpu stamp new.Pd = refl
new_ticks cpu stamp (new.Ec pd its kind sp event) = refl
new_ticks cpu stamp (new.Sc ec its priority quantum) = by_test (its == cpu)
  where
    by_test : (t : Bool) → ◌≡◌ {A = ℕ} (if t then 0 else 0) 0
    by_test true = refl
    by_test false = refl
new_ticks cpu stamp (new.Pt ec mtd ip) = refl
new_ticks cpu stamp (new.Sm count) = refl

-- A TURN

pub lengths : (k : KernelState) → TablesFit k → length k.budgets ≡ length k.objects
lengths k h = sym (length-map k.budgets is_some) ∙ ap length h.tables.budgets ∙ length-map k.objects _

adds_ticks : (k s : KernelState) (ec cpu : ℕ) → Adds k s ec → length k.budgets ≡ length k.objects → paid_on s cpu ≡ paid_on k cpu
adds_ticks k s ec cpu (AddsNone objects budgets next) same = ap₂ (λ (os : List Object) (bs : List (Option Budget)). sum (ticks_on cpu os bs)) objects budgets
adds_ticks k s ec cpu (AddsOne made bound objects budgets next) same =
    ap₂ (λ (os : List Object) (bs : List (Option Budget)). sum (ticks_on cpu os bs)) objects budgets
    ∙ omega (arith, more_ticks cpu k.objects k.budgets (object_of made) (budget_of k.next_stamp made) same, new_ticks cpu k.next_stamp made)

turn_ticks : (k s : KernelState) (by cpu : ℕ) (c : Candidate) → IsTurn k s by c → length k.budgets ≡ length k.objects →
    paid_on s cpu ≡ paid_on k cpu + one_if (by == cpu)
turn_ticks k s by cpu c t same =
    let m = t.between in
    let b = t.its.budget in
    ap₂ (λ (os : List Object) (bs : List (Option Budget)). sum (ticks_on cpu os bs)) t.objects t.budgets
    ∙ set_ticks cpu m.objects m.budgets c.sc (Sc t.its.ec by t.its.priority t.its.quantum) b (budget_after (is_spent b) t.its.quantum m.next_stamp b) t.object t.there
    (spent_ticks (is_spent b) t.its.quantum m.next_stamp b)
    ∙ ap (λ (n : ℕ). n + one_if (by == cpu)) (adds_ticks k m c.actor cpu t.adds same)

-- how many events pass, with one more before them
pub front_passes : (p : Event → Bool) (e : Event) (es : List Event) → length (filter p (e ∷ es)) ≡ one_if (p e) + length (filter p es)
front_passes p e es = by_test (p e)
  where
    by_test : (t : Bool) → length (cond t (e ∷ filter p es) (filter p es)) ≡ one_if t + length (filter p es)
    by_test true = omega arith
    by_test false = omega arith

-- what one turn does to a sum, the events do after it
record IsCountedOn (k s : KernelState) (by cpu : ℕ) (es : List Event) : Type 0 where
  ticks : paid_on s cpu + (turns_of cpu es + turns_passed cpu (in_front (event_at k by) es)) ≡ paid_on k cpu + (turns_of cpu (in_front (event_at k by) es) + turns_passed cpu es)
  counts : cpu < length k.stirs.processors → slice_index s.stirs.processors cpu + turns_of cpu es ≡ slice_index k.stirs.processors cpu + turns_of cpu (in_front (event_at k by) es)
  clocks : cpu < length k.times.clocks → clock s.times cpu + turns_of cpu es ≡ clock k.times cpu + turns_of cpu (in_front (event_at k by) es)
  all : s.turns + length es ≡ k.turns + length (in_front (event_at k by) es)
  there : length s.stirs.processors ≡ length k.stirs.processors
  all_there : length s.times.clocks ≡ length k.times.clocks

index_more : (xs : List ℕ) (by cpu : ℕ) → cpu < length xs → slice_index (slice_set xs by (slice_index xs by + 1)) cpu ≡ slice_index xs cpu + one_if (by == cpu)
index_more xs by cpu there = by_test (by == cpu) refl
  where
    by_test : (t : Bool) → (by == cpu) ≡ t → slice_index (slice_set xs by (slice_index xs by + 1)) cpu ≡ slice_index xs cpu + one_if t
    by_test true is =
        let same : by ≡ cpu = eqb-true by cpu is in
        ap (λ (n : ℕ). slice_index (slice_set xs n (slice_index xs n + 1)) cpu) same ∙ index_itself xs cpu (slice_index xs cpu + 1) there
    by_test false is =
        let differs : cpu ≢ by = λ same. let e : (by == cpu) ≡ true = rw same (grind arith) in absurd (cc) in
        let none : slice_index xs cpu ≡ slice_index xs cpu + 0 = omega arith in
        index_other xs by cpu (slice_index xs by + 1) differs ∙ none

-- a turn of a deed is none that comes by itself, and one of these is
pub both_false : (a b : Bool) → b ≡ false → one_if (a && b) ≡ 0
both_false true b is = ap one_if is
both_false false b is = refl

pub both_true : (a b : Bool) → b ≡ true → one_if (a && b) ≡ one_if a
both_true true b is = ap one_if is
both_true false b is = refl

pub event_on : (k : KernelState) (by : ℕ) (p : Passing) → (passing_event k by p).cpu ≡ by
event_on k by (Falls (due.Alarm alarm)) = refl
event_on k by (Falls (due.Deadline ec)) = refl
event_on k by Ticks = refl

counted_on : (k : KernelState) (by cpu : ℕ) (es : List Event) → TablesFit k → IsCountedOn k (after k by) by cpu es
counted_on k by cpu es h = by_turn (after k by) (comes k by)
  where
    of_cpu : Event → Bool
    of_cpu x = x.cpu == cpu

    of_passed : Event → Bool
    of_passed x = (x.cpu == cpu) && is_passing x.kind

    by_turn : (s : KernelState) → Comes k s by (event_at k by) → IsCountedOn k s by cpu es
    by_turn s (Idles idle is none) = record {
      ticks = rw (is, none) refl;
      counts = λ below. rw (is, none) refl;
      clocks = λ below. rw (is, none) refl;
      all = rw (is, none) refl;
      there = rw is refl;
      all_there = rw is refl;
    }
    by_turn s (Passes p is nobody one) =
        let e = passing_event k by p in
        let on : (e.cpu == cpu) ≡ (by == cpu) = ap (λ (n : ℕ). n == cpu) (event_on k by p) in
        let front = front_passes (λ (x : Event). x.cpu == cpu) e es in
        let passed = front_passes (λ (x : Event). (x.cpu == cpu) && is_passing x.kind) e es in
        let both = both_true (e.cpu == cpu) (is_passing e.kind) (passing_kind k by p) in
        let same = ap one_if on in record {
          ticks = rw one (let still : paid_on s cpu ≡ paid_on k cpu = ap (λ (x : KernelState). paid_on x cpu) is in omega arith);
          counts = λ below. rw one (
              let more = ap (λ (x : KernelState). slice_index x.stirs.processors cpu) is ∙ index_more k.stirs.processors by cpu below in omega arith);
          clocks = λ below. rw one (let more = ap (λ (x : KernelState). slice_index x.times.clocks cpu) is ∙ index_more k.times.clocks by cpu below in omega arith);
          all = rw one (let more = ap (λ (x : KernelState). x.turns) is in omega arith);
          there = ap (λ (x : KernelState). length x.stirs.processors) is ∙ set_length k.stirs.processors by _;
          all_there = ap (λ (x : KernelState). length x.times.clocks) is ∙ set_length k.times.clocks by _;
        }
    by_turn s (Takes c chosen t one) =
        let e = event_of by c (deed k c.actor) in
        let front = front_passes (λ (x : Event). x.cpu == cpu) e es in
        let passed = front_passes (λ (x : Event). (x.cpu == cpu) && is_passing x.kind) e es in
        let none = both_false (by == cpu) (is_passing e.kind) (acting_kind (deed k c.actor)) in record {
          ticks = rw one (let more = turn_ticks k s by cpu c t (lengths k h) in omega arith);
          counts = λ below. rw one (
              let more = ap (λ (l : List ℕ). slice_index l cpu) t.processors ∙ index_more k.stirs.processors by cpu below in
              omega arith);
          clocks = λ below. rw one (let more = ap (λ (l : List ℕ). slice_index l cpu) t.clocks ∙ index_more k.times.clocks by cpu below in omega arith);
          all = rw one (let more = t.turns in omega arith);
          there = ap length t.processors ∙ set_length k.stirs.processors by _;
          all_there = ap length t.clocks ∙ set_length k.times.clocks by _;
        }

-- TURNS

run_ticks : (k : KernelState) (turns : List ℕ) (cpu : ℕ) → TablesFit k →
    paid_on (run k turns) cpu + turns_passed cpu (trace k turns) ≡ paid_on k cpu + turns_of cpu (trace k turns)
run_ticks k [] cpu h = omega arith
run_ticks k (by ∷ turns) cpu h =
    let rest = run_ticks (after k by) turns cpu (after_fits k by h) in
    let first = (counted_on k by cpu (trace (after k by) turns) h).ticks in omega arith

run_clocks : (k : KernelState) (turns : List ℕ) (cpu : ℕ) → TablesFit k → cpu < length k.times.clocks →
    clock (run k turns).times cpu ≡ clock k.times cpu + turns_of cpu (trace k turns)
run_clocks k [] cpu h below = omega arith
run_clocks k (by ∷ turns) cpu h below =
    let counts = counted_on k by cpu (trace (after k by) turns) h in
    run_clocks (after k by) turns cpu (after_fits k by h) (rw counts.all_there below) ∙ counts.clocks below

run_counts : (k : KernelState) (turns : List ℕ) (cpu : ℕ) → TablesFit k → cpu < length k.stirs.processors →
    slice_index (run k turns).stirs.processors cpu ≡ slice_index k.stirs.processors cpu + turns_of cpu (trace k turns)
run_counts k [] cpu h below = omega arith
run_counts k (by ∷ turns) cpu h below =
    let counts = counted_on k by cpu (trace (after k by) turns) h in
    run_counts (after k by) turns cpu (after_fits k by h) (rw counts.there below) ∙ counts.counts below

run_turns : (k : KernelState) (turns : List ℕ) → TablesFit k → (run k turns).turns ≡ k.turns + length (trace k turns)
run_turns k [] h = omega arith
run_turns k (by ∷ turns) h = run_turns (after k by) turns (after_fits k by h) ∙ (counted_on k by 0 (trace (after k by) turns) h).all

-- from a boot state on, where there are none
record IsAtRest (k : KernelState) (cpus : ℕ) : Type 0 where
  ticks : (cpu : ℕ) → paid_on k cpu ≡ 0
  processors : k.stirs.processors ≡ replicate cpus 0
  turns : k.turns ≡ 0
  clocks : k.times.clocks ≡ replicate cpus 0

images_rest : (k : KernelState) (cpus : ℕ) (images : List Image) → IsAtRest k cpus → IsAtRest (with_images k images) cpus
images_rest k cpus [] h = h
images_rest k cpus (image ∷ images) h =
    images_rest (with_image k image) cpus images (record { ticks = h.ticks; processors = h.processors; turns = h.turns; clocks = h.clocks })

root_ticks : (s : Scenario) (cpu : ℕ) → paid_on (bare s.cpus s.ram s.consoles s.root) cpu ≡ 0
root_ticks s cpu = by_test (0 == cpu)
  where
    by_test : (t : Bool) → sum (0 ∷ 0 ∷ (if t then 0 else 0) ∷ []) ≡ 0
    by_test true = refl
    by_test false = refl

image_rests : (s : Scenario) → IsAtRest (with_images (bare s.cpus s.ram s.consoles s.root) s.images) s.cpus
image_rests s = images_rest (bare s.cpus s.ram s.consoles s.root) s.cpus s.images (record { ticks = root_ticks s; processors = refl; turns = refl; clocks = refl })

zeros_index : (n i : ℕ) → i < n → slice_index (replicate n 0) i ≡ 0
zeros_index zero i h = absurd (omega arith)
zeros_index (suc n) zero h = refl
zeros_index (suc n) (suc i) h = zeros_index n i (omega arith)

source_rests : (cpus : ℕ) (k : KernelState) (s : Source) → IsAtRest k cpus × TablesFit k → IsAtRest (with_source k s) cpus × TablesFit (with_source k s)
source_rests cpus k s h = (
  record {
    ticks = λ cpu. let none = h.0.ticks cpu in let more = more_ticks cpu k.objects k.budgets Sm None (lengths k h.1) in omega (arith, none, more);
    processors = h.0.processors;
    turns = h.0.turns;
    clocks = h.0.clocks;
  },
  source_fits k s h.1,
)

boot_rests : (s : Scenario) → IsAtRest (boot s) s.cpus
boot_rests s =
    (sources_keep (λ (k : KernelState). IsAtRest k s.cpus × TablesFit k) (source_rests s.cpus) (with_images (bare s.cpus s.ram s.consoles s.root) s.images) s.sources (image_rests s, image_fits s)).0

pub ticks_are_turns : (s : Scenario) (turns : List ℕ) (cpu : ℕ) →
    paid_on (run (boot s) turns) cpu + turns_passed cpu (trace (boot s) turns) ≡ turns_of cpu (trace (boot s) turns)
ticks_are_turns s turns cpu = let none = (boot_rests s).ticks cpu in omega (arith, run_ticks (boot s) turns cpu (boot_fits s))

pub turns_are_counts : (s : Scenario) (turns : List ℕ) (cpu : ℕ) → cpu < s.cpus → turns_of cpu (trace (boot s) turns) ≡ slice_index (run (boot s) turns).stirs.processors cpu
turns_are_counts s turns cpu below =
    let rests = boot_rests s in
    let there : length (boot s).stirs.processors ≡ s.cpus = ap length rests.processors ∙ zeros_length s.cpus in
    let none : slice_index (boot s).stirs.processors cpu ≡ 0 = ap (λ (l : List ℕ). slice_index l cpu) rests.processors ∙ zeros_index s.cpus cpu below in
    sym (omega (arith, run_counts (boot s) turns cpu (boot_fits s) (rw there below)))

pub clocks_are_turns : (s : Scenario) (turns : List ℕ) (cpu : ℕ) → cpu < s.cpus → clock (run (boot s) turns).times cpu ≡ turns_of cpu (trace (boot s) turns)
clocks_are_turns s turns cpu below =
    let rests = boot_rests s in
    let there : length (boot s).times.clocks ≡ s.cpus = ap length rests.clocks ∙ zeros_length s.cpus in
    let none : slice_index (boot s).times.clocks cpu ≡ 0 = ap (λ (l : List ℕ). slice_index l cpu) rests.clocks ∙ zeros_index s.cpus cpu below in
    omega (arith, run_clocks (boot s) turns cpu (boot_fits s) (rw there below))

pub turns_are_counted : (s : Scenario) (turns : List ℕ) → (run (boot s) turns).turns ≡ length (trace (boot s) turns)
turns_are_counted s turns = let none = (boot_rests s).turns in omega (arith, run_turns (boot s) turns (boot_fits s))
