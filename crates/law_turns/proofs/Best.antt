-- The choice: one of the candidates before which none goes, wherever there are candidates.
use Rattle.std.proofs.Common.{◌≡◌, ℕ, zero, suc, ◌<◌, ◌≤◌, List, [], ◌∷◌, length, inl, inr, refl, ap, arith}
use Rattle.std.specs.Prelude.{Bool, true, false, not, cond, nat_lt, ◌⊎◌, ◌↔◌, Option, Some, None, IfSome, slice_index_or}
use Rattle.std.specs.List.{Contains, find, list_all}
use Rattle.nova_model.specs.Choice.{goes_before, foremost, choice, candidates}
use Rattle.nova_model.specs.State.{KernelState}
use Rattle.nova_model.specs.Choice.{Candidate}
use Rattle.law_turns.specs.Choices.{IsBest}

-- what is found is there and passes
record IsFound (p : Candidate → Bool) (cs : List Candidate) (c : Candidate) : Type 0 where
  there : Contains cs c
  passes : p c ≡ true

found : (p : Candidate → Bool) (cs : List Candidate) → IfSome (find p cs) (IsFound p cs)
found p [] = tt
found p (x ∷ xs) = by_test (p x) refl (find p xs) (found p xs)
  where
    by_rest : (o : Option Candidate) → IfSome o (IsFound p xs) → IfSome o (IsFound p (x ∷ xs))
    by_rest None h = tt
    by_rest (Some c) h = record { there = (suc h.there.0, (let lt = h.there.1 in omega arith), h.there.2); passes = h.passes }

    by_test : (t : Bool) → p x ≡ t → (o : Option Candidate) → IfSome o (IsFound p xs) → IfSome (cond t (Some x) o) (IsFound p (x ∷ xs))
    by_test true is o others = record { there = (0, omega arith, refl); passes = is }
    by_test false is o others = by_rest o others

-- a test that each passes, and a test that finds nothing
all_at : (p : Candidate → Bool) (cs : List Candidate) (d : Candidate) (n : ℕ) → n < length cs → slice_index_or cs n d ≡ d → list_all p cs ≡ true → p d ≡ true
all_at p [] d n lt is h = absurd (omega arith)
all_at p (x ∷ xs) d zero lt is h = grind arith
all_at p (x ∷ xs) d (suc n) lt is h = all_at p xs d n (omega arith) is (grind arith)

none_at : (p : Candidate → Bool) (cs : List Candidate) (d : Candidate) (n : ℕ) → n < length cs → slice_index_or cs n d ≡ d → find p cs ≡ None → p d ≡ false
none_at p [] d n lt is h = absurd (omega arith)
none_at p (x ∷ xs) d zero lt is h = grind arith
none_at p (x ∷ xs) d (suc n) lt is h = none_at p xs d n (omega arith) is (grind arith)

-- THE BEST

goes_before-self : (a : Candidate) → goes_before a a ≡ false
goes_before-self a = grind arith

goes_before-through : (a b c : Candidate) → goes_before a b ≡ true → goes_before b c ≡ true → goes_before a c ≡ true
goes_before-through a b c h k = grind arith

-- a candidate that goes before another has none before it where the other has none
none_past : (c b : Candidate) (xs : List Candidate) → goes_before c b ≡ true →
    list_all (λ x. not (goes_before x b)) xs ≡ true → list_all (λ x. not (goes_before x c)) xs ≡ true
none_past c b [] h all = refl
none_past c b (x ∷ xs) h all = grind (arith, none_past c b xs h, goes_before-through x c b)

record HasBest (cs : List Candidate) : Type 0 where
  best : Candidate
  there : Contains cs best
  none_before : list_all (λ x. not (goes_before x best)) cs ≡ true

has_best : (c : Candidate) (cs : List Candidate) → HasBest (c ∷ cs)
has_best c [] = record { best = c; there = (0, omega arith, refl); none_before = grind (arith, goes_before-self c) }
has_best c (d ∷ ds) = by_test (has_best d ds)
  where
    by_order : (h : HasBest (d ∷ ds)) (t : Bool) → goes_before c h.best ≡ t → HasBest (c ∷ d ∷ ds)
    by_order h true is = record {
      best = c;
      there = (0, omega arith, refl);
      none_before = let rest = none_past c h.best (d ∷ ds) is h.none_before in grind (arith, rest, goes_before-self c);
    }
    by_order h false is = record {
      best = h.best;
      there = (suc h.there.0, (let lt = h.there.1 in omega arith), h.there.2);
      none_before = let rest = h.none_before in grind (arith, rest, is);
    }

    by_test : HasBest (d ∷ ds) → HasBest (c ∷ d ∷ ds)
    by_test h = by_order h (goes_before c h.best) refl

foremost_none : (cs : List Candidate) → foremost cs ≡ None → cs ≡ []
foremost_none [] h = refl
foremost_none (c ∷ cs) h =
    let b = has_best c cs in
    let fails = none_at (λ a. list_all (λ x. not (goes_before x a)) (c ∷ cs)) (c ∷ cs) b.best b.there.0 b.there.1 b.there.2 h in
    let passes = b.none_before in
    absurd (cc)

pub choice_idle : (k : KernelState) (cpu : ℕ) → (choice k cpu ≡ None) ↔ (candidates k cpu ≡ [])
unfolding choice
choice_idle k cpu = (λ h. foremost_none (candidates k cpu) h, λ h. ap foremost h)

-- a candidate that another does not go before
not_before : (c d : Candidate) → not (goes_before d c) ≡ true → (d.priority < c.priority) ⊎ ((d.priority ≡ c.priority) × (c.stamp ≤ d.stamp))
not_before c d h = by_priority (nat_lt d.priority c.priority) refl
  where
    by_priority : (t : Bool) → nat_lt d.priority c.priority ≡ t → (d.priority < c.priority) ⊎ ((d.priority ≡ c.priority) × (c.stamp ≤ d.stamp))
    by_priority true is = inl (grind arith)
    by_priority false is = let same : d.priority ≡ c.priority = grind arith in inr (same, grind arith)

foremost_best : (cs : List Candidate) → IfSome (foremost cs) (IsBest cs)
foremost_best cs = by_found (foremost cs) (found (λ a. list_all (λ x. not (goes_before x a)) cs) cs)
  where
    by_found : (o : Option Candidate) → IfSome o (IsFound (λ a. list_all (λ x. not (goes_before x a)) cs) cs) → IfSome o (IsBest cs)
    by_found None h = tt
    by_found (Some c) h =
        record { there = h.there; greatest = λ d is. not_before c d (all_at (λ x. not (goes_before x c)) cs d is.0 is.1 is.2 h.passes) }

pub choice_best : (k : KernelState) (cpu : ℕ) → IfSome (choice k cpu) (IsBest (candidates k cpu))
unfolding choice
choice_best k cpu = foremost_best (candidates k cpu)
