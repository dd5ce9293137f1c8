-- Runs one after another, and the orders of a round robin.
use Rattle.law_turns.proofs.Idleness.{turn_idle}
use Rattle.std.proofs.Common.{◌≡◌, ℕ, zero, suc, ◌+◌, ◌-◌, ◌≤◌, ◌<◌, List, [], ◌∷◌, ◌++◌, length, inl, inr, refl, ap, ◌∙◌, subst, arith}
use Rattle.std.specs.Prelude.{Bool, true, false, ◌&&◌, ◌⊎◌, Option, Some, None, is_some, nat_lt, if◌then◌else◌}
use Rattle.std.specs.List.{AllByRecursion, list_all, range_with_len}
use Rattle.std.proofs.lemmas.List.{length-append}
use Rattle.nova_model.specs.State.{KernelState}
use Rattle.nova_model.specs.Choice.{is_quiet, is_idle}
use Rattle.nova_model.specs.Turn.{Step, turn}
use Rattle.nova_model.specs.Runs.{IsFreeOfIdle, after, run, pass, passes, rounds}
use Rattle.law_turns.specs.Orders.{IsRunOut}
use Rattle.law_turns.proofs.Processors.{run_cpus}

pub run_append : (k : KernelState) (xs ys : List ℕ) → run k (xs ++ ys) ≡ run (run k xs) ys
run_append k [] ys = refl
run_append k (x ∷ xs) ys = run_append (after k x) xs ys

pub nothing : (xs : List ℕ) → length xs ≡ 0 → xs ≡ []
nothing [] h = refl
nothing (x ∷ xs) h = absurd (omega arith)

-- a pass that took no turn is followed by none
pub passes_none : (n : ℕ) (k : KernelState) (most : ℕ) → pass k 0 k.cpus most ≡ [] → passes n k most ≡ []
passes_none zero k most h = refl
passes_none (suc n) k most h =
    let same : most - 0 ≡ most = omega arith in
    ap (λ (p : List ℕ). p ++ passes n (run k p) (most - length p)) h ∙ ap (λ (m : ℕ). passes n k m) same ∙ passes_none n k most h

-- NO IDLE TURN

pub free_append : (k : KernelState) (xs ys : List ℕ) → IsFreeOfIdle k xs → IsFreeOfIdle (run k xs) ys → IsFreeOfIdle k (xs ++ ys)
free_append k [] ys first then_ = then_
free_append k (x ∷ xs) ys first then_ = (first.0, free_append (after k x) xs ys first.1 then_)

pass_free : (k : KernelState) (cpu count most : ℕ) → IsFreeOfIdle k (pass k cpu count most)
pass_free k cpu zero most = tt
pass_free k cpu (suc count) zero = tt
pass_free k cpu (suc count) (suc most) =
    by_test (is_some (turn k cpu)) refl (pass_free (after k cpu) (cpu + 1) count most) (pass_free k (cpu + 1) count (suc most))
  where
    by_test : (t : Bool) → is_some (turn k cpu) ≡ t → IsFreeOfIdle (after k cpu) (pass (after k cpu) (cpu + 1) count most) →
        IsFreeOfIdle k (pass k (cpu + 1) count (suc most)) →
        IsFreeOfIdle k (if t then cpu ∷ pass (after k cpu) (cpu + 1) count most else pass k (cpu + 1) count (suc most))
    by_test true is taken skipped = (is, taken)
    by_test false is taken skipped = skipped

passes_free : (n : ℕ) (k : KernelState) (most : ℕ) → IsFreeOfIdle k (passes n k most)
passes_free zero k most = tt
passes_free (suc n) k most =
    let p = pass k 0 k.cpus most in
    free_append k p (passes n (run k p) (most - length p)) (pass_free k 0 k.cpus most) (passes_free n (run k p) (most - length p))

-- PROCESSORS

all_append : {T : Type 0} (P : T → Type 0) (xs ys : List T) → AllByRecursion P xs → AllByRecursion P ys → AllByRecursion P (xs ++ ys)
all_append P [] ys first then_ = then_
all_append P (x ∷ xs) ys first then_ = (first.0, all_append P xs ys first.1 then_)

pass_there : (k : KernelState) (cpu count most cpus : ℕ) → cpu + count ≤ cpus → AllByRecursion (λ c. c < cpus) (pass k cpu count most)
pass_there k cpu zero most cpus h = tt
pass_there k cpu (suc count) zero cpus h = tt
pass_there k cpu (suc count) (suc most) cpus h =
    by_test (is_some (turn k cpu)) (pass_there (after k cpu) (cpu + 1) count most cpus (omega arith)) (pass_there k (cpu + 1) count (suc most) cpus (omega arith))
  where
    by_test : (t : Bool) → AllByRecursion (λ c. c < cpus) (pass (after k cpu) (cpu + 1) count most) →
        AllByRecursion (λ c. c < cpus) (pass k (cpu + 1) count (suc most)) →
        AllByRecursion (λ c. c < cpus) (if t then cpu ∷ pass (after k cpu) (cpu + 1) count most else pass k (cpu + 1) count (suc most))
    by_test true taken skipped = (omega arith, taken)
    by_test false taken skipped = skipped

passes_there : (n : ℕ) (k : KernelState) (most cpus : ℕ) → k.cpus ≡ cpus → AllByRecursion (λ c. c < cpus) (passes n k most)
passes_there zero k most cpus h = tt
passes_there (suc n) k most cpus h =
    let p = pass k 0 k.cpus most in
    all_append (λ c. c < cpus) p (passes n (run k p) (most - length p))
    (pass_there k 0 k.cpus most cpus (omega arith))
    (passes_there n (run k p) (most - length p) cpus (run_cpus k p ∙ h))

-- AT MOST `most` TURNS

pass_within : (k : KernelState) (cpu count most : ℕ) → length (pass k cpu count most) ≤ most
pass_within k cpu zero most = omega arith
pass_within k cpu (suc count) zero = omega arith
pass_within k cpu (suc count) (suc most) =
    by_test (is_some (turn k cpu)) (pass_within (after k cpu) (cpu + 1) count most) (pass_within k (cpu + 1) count (suc most))
  where
    by_test : (t : Bool) → length (pass (after k cpu) (cpu + 1) count most) ≤ most → length (pass k (cpu + 1) count (suc most)) ≤ suc most →
        length (if t then cpu ∷ pass (after k cpu) (cpu + 1) count most else pass k (cpu + 1) count (suc most)) ≤ suc most
    by_test true taken skipped = omega arith
    by_test false taken skipped = skipped

passes_within : (n : ℕ) (k : KernelState) (most : ℕ) → length (passes n k most) ≤ most
passes_within zero k most = omega arith
passes_within (suc n) k most =
    let p = pass k 0 k.cpus most in
    let first = pass_within k 0 k.cpus most in
    let then_ = passes_within n (run k p) (most - length p) in
    let both = length-append p (passes n (run k p) (most - length p)) in
    omega arith

-- THE END

-- a processor that has no turn is idle
idle : (k : KernelState) (cpu : ℕ) → is_some (turn k cpu) ≡ false → is_idle k cpu ≡ true
idle k cpu h = turn_idle k cpu (none_is (turn k cpu) h)
  where
    none_is : (o : Option Step) → is_some o ≡ false → o ≡ None
    none_is None none = refl
    none_is (Some s) none = absurd (cc)

-- a pass that may take a turn and takes none finds each processor idle
pass_idle : (k : KernelState) (cpu count most : ℕ) → pass k cpu count (suc most) ≡ [] →
    list_all (is_idle k) (range_with_len cpu count) ≡ true
pass_idle k cpu zero most h = refl
pass_idle k cpu (suc count) most h = by_test (is_some (turn k cpu)) refl h (λ g. pass_idle k (cpu + 1) count most g)
  where
    by_test : (t : Bool) → is_some (turn k cpu) ≡ t →
        (if t then cpu ∷ pass (after k cpu) (cpu + 1) count most else pass k (cpu + 1) count (suc most)) ≡ [] →
        (pass k (cpu + 1) count (suc most) ≡ [] → list_all (is_idle k) (range_with_len (cpu + 1) count) ≡ true) →
        (is_idle k cpu && list_all (is_idle k) (range_with_len (cpu + 1) count)) ≡ true
    by_test true is h others = absurd (cc)
    by_test false is h others = rw (idle k cpu is) (others h)

-- with a pass for each turn, what was not used up ends quiet
passes_quiet : (n : ℕ) (k : KernelState) (most : ℕ) → most ≤ n → length (passes n k most) < most → is_quiet (run k (passes n k most)) ≡ true
passes_quiet zero k most h less = absurd (omega arith)
passes_quiet (suc n) k most h less =
    by_length (length (pass k 0 k.cpus most)) refl
    (λ (s : KernelState) (m : ℕ) (a : m ≤ n) (b : length (passes n s m) < m). passes_quiet n s m a b)
  where
    by_length : (len : ℕ) → length (pass k 0 k.cpus most) ≡ len →
        ((s : KernelState) (m : ℕ) → m ≤ n → length (passes n s m) < m → is_quiet (run s (passes n s m)) ≡ true) →
        is_quiet (run k (passes (suc n) k most)) ≡ true
    by_length zero e others = by_most most refl
      where
        none : pass k 0 k.cpus most ≡ []
        none = nothing (pass k 0 k.cpus most) e

        by_most : (m : ℕ) → most ≡ m → is_quiet (run k (passes (suc n) k most)) ≡ true
        by_most zero is = absurd (omega arith)
        by_most (suc m) is =
            ap (λ (l : List ℕ). is_quiet (run k l)) (passes_none (suc n) k most none)
            ∙ pass_idle k 0 k.cpus m (subst (λ (x : ℕ). pass k 0 k.cpus x ≡ []) is none)
    by_length (suc len) e others =
        let p = pass k 0 k.cpus most in
        let fewer : length (passes n (run k p) (most - length p)) < most - length p =
        let both = length-append p (passes n (run k p) (most - length p)) in omega arith in
        ap is_quiet (run_append k p (passes n (run k p) (most - length p))) ∙ others (run k p) (most - length p) (omega arith) fewer

ended : (k : KernelState) (most : ℕ) → (is_quiet (run k (passes most k most)) ≡ true) ⊎ (length (passes most k most) ≡ most)
ended k most = by_test (nat_lt (length (passes most k most)) most) refl
  where
    by_test : (t : Bool) → nat_lt (length (passes most k most)) most ≡ t →
        (is_quiet (run k (passes most k most)) ≡ true) ⊎ (length (passes most k most) ≡ most)
    by_test true h = inl (passes_quiet most k most (omega arith) (grind arith))
    by_test false h = let within = passes_within most k most in inr (grind arith)

pub rounds_run_out : (k : KernelState) (most : ℕ) → IsRunOut k most (rounds k most)
unfolding rounds
rounds_run_out k most = record {
  no_idle = passes_free most k most;
  processors = passes_there most k most k.cpus refl;
  within = passes_within most k most;
  ended = ended k most;
}
