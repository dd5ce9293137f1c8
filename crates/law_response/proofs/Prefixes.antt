-- Lists of turns in two parts, what their clocks come to, and runs in which no object is made.
use Rattle.std.proofs.Common.{◌≡◌, ℕ, zero, suc, ◌≤◌, ◌+◌, List, [], ◌∷◌, ◌++◌, length, length-append, inl, inr, refl, sym, ap, ◌∙◌, arith}
use Rattle.std.specs.Prelude.{◌⊎◌, ◌&&◌, Bool, true, false, ◌==◌, slice_index, slice_set}
use Rattle.nova_objects.specs.declared.object.Object.{Object}
use Rattle.nova_model.specs.Boot.{boot}
use Rattle.nova_model.specs.Creation.{object_of}
use Rattle.nova_model.specs.Runs.{after, run}
use Rattle.nova_model.specs.State.{KernelState}
use Rattle.nova_model.specs.Times.{clock}
use Rattle.nova_model.specs.declared.budget.Budget.{Budget}
use Rattle.law_forest.proofs.Turning.{event_at}
use Rattle.law_turns.proofs.Passes.{run_append}
use Rattle.law_turns.proofs.Paying.{Adds, AddsNone, AddsOne, Comes, Idles, Passes, Takes, comes}
use Rattle.law_turns.proofs.Setting.{index_other}
use Rattle.law_turns.proofs.Ticks.{one_if}
use Rattle.std.proofs.lemmas.Bool.{eqb-false}
use Rattle.law_response.specs.Dues.{sets_in}
use Rattle.law_response.specs.Waits.{IsSchedule, StaysRunnable, due_in, is_due, paid_in, turns_at}
use Rattle.law_response.proofs.Waiting.{IsReached, after_schedule}

-- TWO PARTS

pub turns_append : (cpu : ℕ) (xs ys : List ℕ) → turns_at cpu (xs ++ ys) ≡ turns_at cpu xs + turns_at cpu ys
turns_append cpu [] ys = omega arith
turns_append cpu (x ∷ xs) ys = let rest = turns_append cpu xs ys in omega (arith, rest)

pub due_append : (k : KernelState) (cpu : ℕ) (xs ys : List ℕ) → due_in k cpu (xs ++ ys) ≡ due_in k cpu xs + due_in (run k xs) cpu ys
due_append k cpu [] ys = omega arith
due_append k cpu (x ∷ xs) ys = let rest = due_append (after k x) cpu xs ys in omega (arith, rest)

pub paid_append : (k : KernelState) (sc : ℕ) (xs ys : List ℕ) → paid_in k sc (xs ++ ys) ≡ paid_in k sc xs + paid_in (run k xs) sc ys
paid_append k sc [] ys = omega arith
paid_append k sc (x ∷ xs) ys = let rest = paid_append (after k x) sc xs ys in omega (arith, rest)

pub sets_fewer : (k : KernelState) (cpu : ℕ) (xs ys : List ℕ) → sets_in k cpu xs ≤ sets_in k cpu (xs ++ ys)
sets_fewer k cpu [] ys = omega arith
sets_fewer k cpu (x ∷ xs) ys = let rest = sets_fewer (after k x) cpu xs ys in omega (arith, rest)

pub stays_append : (k : KernelState) (cpu ec : ℕ) (xs ys : List ℕ) → StaysRunnable k cpu ec xs → StaysRunnable (run k xs) cpu ec ys → StaysRunnable k cpu ec (xs ++ ys)
stays_append k cpu ec [] ys first later = later
stays_append k cpu ec (x ∷ xs) ys (may, first) later = (may, stays_append (after k x) cpu ec xs ys first later)

abbrev pub reached_run : (k : KernelState) (xs : List ℕ) → IsReached k → IsReached (run k xs)
reached_run k xs r = record {
  scenario = r.scenario;
  turns = r.turns ++ xs;
  is = ap (λ (s : KernelState). run s xs) r.is ∙ sym (run_append (boot r.scenario) r.turns xs);
}

pub run_schedule : (k : KernelState) (xs : List ℕ) (sc ec cpu priority quantum : ℕ) (b : Budget) → IsSchedule k sc ec cpu priority quantum b →
    (c : Budget) × IsSchedule (run k xs) sc ec cpu priority quantum c
run_schedule k [] sc ec cpu priority quantum b its = (b, its)
run_schedule k (x ∷ xs) sc ec cpu priority quantum b its =
    let a = after_schedule k x sc ec cpu priority quantum b its in run_schedule (after k x) xs sc ec cpu priority quantum a.budget a.still

-- the first turns, with `n` of the processor's among them
pub record HasFirst (cpu n : ℕ) (turns : List ℕ) : Type 0 where
  pub part : List ℕ
  pub later : List ℕ
  pub whole : turns ≡ part ++ later
  pub count : turns_at cpu part ≡ n

first_with : (cpu by m n : ℕ) (turns : List ℕ) → one_if (by == cpu) + m ≡ n → HasFirst cpu m turns → HasFirst cpu n (by ∷ turns)
first_with cpu by m n turns count rest = record {
  part = by ∷ rest.part;
  later = rest.later;
  whole = ap (λ (l : List ℕ). by ∷ l) rest.whole;
  count = (let all = rest.count in omega (arith, all, count));
}

pub first_turns : (cpu n : ℕ) (turns : List ℕ) → n ≤ turns_at cpu turns → HasFirst cpu n turns
first_turns cpu zero turns within = record { part = []; later = turns; whole = refl; count = refl }
first_turns cpu (suc n) [] within = absurd (omega arith)
first_turns cpu (suc n) (by ∷ turns) within = by_test (by == cpu) refl (λ m least. first_turns cpu m turns least)
  where
    by_test : (t : Bool) → (by == cpu) ≡ t → ((m : ℕ) → m ≤ turns_at cpu turns → HasFirst cpu m turns) → HasFirst cpu (suc n) (by ∷ turns)
    by_test true is firsts =
        let one : one_if (by == cpu) ≡ 1 = ap one_if is in first_with cpu by n (suc n) turns (omega (arith, one)) (firsts n (omega (arith, within, one)))
    by_test false is firsts =
        let none : one_if (by == cpu) ≡ 0 = ap one_if is in first_with cpu by (suc n) (suc n) turns (omega (arith, none)) (firsts (suc n) (omega (arith, within, none)))

-- the turns that aren't due are no fewer in all than in the first part
one_of_both : (a b : Bool) → one_if (a && b) ≤ one_if a
one_of_both true true = omega arith
one_of_both true false = omega arith
one_of_both false b = omega arith

due_fewer : (k : KernelState) (cpu : ℕ) (xs : List ℕ) → due_in k cpu xs ≤ turns_at cpu xs
due_fewer k cpu [] = omega arith
due_fewer k cpu (x ∷ xs) = let rest = due_fewer (after k x) cpu xs in let first = one_of_both (x == cpu) (is_due k x) in omega (arith, rest, first)

pub others_fewer : (k : KernelState) (cpu : ℕ) (xs ys : List ℕ) → turns_at cpu xs + due_in k cpu (xs ++ ys) ≤ turns_at cpu (xs ++ ys) + due_in k cpu xs
others_fewer k cpu [] ys = let fewer = due_fewer k cpu ys in omega (arith, fewer)
others_fewer k cpu (x ∷ xs) ys = let rest = others_fewer (after k x) cpu xs ys in omega (arith, rest)

-- CLOCKS

one_most : (xs : List ℕ) (by cpu : ℕ) → slice_index (slice_set xs by (slice_index xs by + 1)) cpu ≤ slice_index xs cpu + 1
one_most [] by cpu = omega arith
one_most (x ∷ xs) zero zero = omega arith
one_most (x ∷ xs) zero (suc cpu) = omega arith
one_most (x ∷ xs) (suc by) zero = omega arith
one_most (x ∷ xs) (suc by) (suc cpu) = one_most xs by cpu

index_most : (xs : List ℕ) (by cpu : ℕ) → slice_index (slice_set xs by (slice_index xs by + 1)) cpu ≤ slice_index xs cpu + one_if (by == cpu)
index_most xs by cpu = by_test (by == cpu) refl
  where
    by_test : (t : Bool) → (by == cpu) ≡ t → slice_index (slice_set xs by (slice_index xs by + 1)) cpu ≤ slice_index xs cpu + one_if t
    by_test true is = one_most xs by cpu
    by_test false is = let same = index_other xs by cpu (slice_index xs by + 1) (λ equal. eqb-false by cpu is (sym equal)) in omega (arith, same)

clock_most : (k : KernelState) (by cpu : ℕ) → clock (after k by).times cpu ≤ clock k.times cpu + one_if (by == cpu)
clock_most k by cpu = by_turn (after k by) (comes k by)
  where
    by_turn : (s : KernelState) → Comes k s by (event_at k by) → clock s.times cpu ≤ clock k.times cpu + one_if (by == cpu)
    by_turn s (Idles none is event) = let e = ap (λ (x : KernelState). clock x.times cpu) is in omega (arith, e)
    by_turn s (Passes p is none event) = let e = ap (λ (x : KernelState). clock x.times cpu) is in let most = index_most k.times.clocks by cpu in omega (arith, e, most)
    by_turn s (Takes c chosen t event) = let e = ap (λ (xs : List ℕ). slice_index xs cpu) t.clocks in let most = index_most k.times.clocks by cpu in omega (arith, e, most)

-- a clock rises by no more than its processor's turns
pub clocks_most : (k : KernelState) (cpu : ℕ) (xs : List ℕ) → clock (run k xs).times cpu ≤ clock k.times cpu + turns_at cpu xs
clocks_most k cpu [] = omega arith
clocks_most k cpu (x ∷ xs) = let first = clock_most k x cpu in let rest = clocks_most (after k x) cpu xs in omega (arith, first, rest)

-- NO OBJECT IS MADE

one_more : (os : List Object) (o : Object) → length (os ++ o ∷ []) ≡ length os + 1
one_more os o = length-append os (o ∷ [])

-- a turn leaves the objects, or makes one
objects_after : (k : KernelState) (by : ℕ) → ((after k by).objects ≡ k.objects) ⊎ (length (after k by).objects ≡ length k.objects + 1)
objects_after k by = by_turn (after k by) (comes k by)
  where
    added : (s between : KernelState) (ec : ℕ) → s.objects ≡ between.objects → Adds k between ec → (s.objects ≡ k.objects) ⊎ (length s.objects ≡ length k.objects + 1)
    added s between ec same (AddsNone objects budgets next) = inl (same ∙ objects)
    added s between ec same (AddsOne made bound objects budgets next) = inr (ap length (same ∙ objects) ∙ one_more k.objects (object_of made))

    by_turn : (s : KernelState) → Comes k s by (event_at k by) → (s.objects ≡ k.objects) ⊎ (length s.objects ≡ length k.objects + 1)
    by_turn s (Idles none is event) = inl (ap (λ (x : KernelState). x.objects) is)
    by_turn s (Passes p is none event) = inl (ap (λ (x : KernelState). x.objects) is)
    by_turn s (Takes c chosen t event) = added s t.between c.actor t.objects t.adds

objects_more : (k : KernelState) (by : ℕ) → length k.objects ≤ length (after k by).objects
objects_more k by = elim (objects_after k by) [
  | inl same ↦ (let e = ap length same in omega (arith, e))
  | inr more ↦ omega (arith, more)
]

run_more : (k : KernelState) (xs : List ℕ) → length k.objects ≤ length (run k xs).objects
run_more k [] = omega arith
run_more k (x ∷ xs) = let first = objects_more k x in let rest = run_more (after k x) xs in omega (arith, first, rest)

-- where none is made in all turns, none is in the first, and none in the others
pub none_first : (k : KernelState) (by : ℕ) (xs : List ℕ) → (run (after k by) xs).objects ≡ k.objects → (after k by).objects ≡ k.objects
none_first k by xs ends = elim (objects_after k by) [
  | inl same ↦ same
  | inr more ↦ absurd (let later = run_more (after k by) xs in let e = ap length ends in omega (arith, more, later, e))
]

pub none_before : (k : KernelState) (xs ys : List ℕ) → (run k (xs ++ ys)).objects ≡ k.objects → (run k xs).objects ≡ k.objects
none_before k [] ys ends = refl
none_before k (x ∷ xs) ys ends = let first = none_first k x (xs ++ ys) ends in none_before (after k x) xs ys (ends ∙ sym first) ∙ first
