-- A pass goes once round the processors, and passes go round.
use Rattle.std.proofs.Common.{◌≡◌, ◌<◌, ◌≤◌, ◌+◌, ◌-◌, ℕ, zero, suc, List, [], ◌∷◌, ◌++◌, length, inl, inr, refl, ap, ◌∙◌, subst, arith}
use Rattle.std.specs.Prelude.{Bool, true, false, if◌then◌else◌, is_some, nat_lt, Option, Some, None}
use Rattle.std.specs.List.{AllByRecursion, concat}
use Rattle.nova_model.specs.Forest.{ArePairs}
use Rattle.nova_model.specs.Runs.{IsFreeOfIdle, after, pass, passes, rounds, run}
use Rattle.nova_model.specs.State.{KernelState}
use Rattle.nova_model.specs.Turn.{Step, turn}
use Rattle.law_forest.proofs.Members.{IsIn, all_weaker, contains_from_in}
use Rattle.law_turns.specs.Rounds.{AreRounds, GoesRound, IsRound, below}

-- A PASS

-- of the processors from `cpu` on, before `last`
record IsPass (k : KernelState) (cpu last most : ℕ) (order : List ℕ) : Type 0 where
  within : length order ≤ most
  no_idle : IsFreeOfIdle k order
  from : AllByRecursion (λ c. cpu ≤ c) order
  there : AllByRecursion (λ c. c < last) order
  rising : ArePairs (λ one next. one < next) order

empty : (k : KernelState) (cpu last most : ℕ) → IsPass k cpu last most []
empty k cpu last most = record { within = omega arith; no_idle = tt; from = tt; there = tt; rising = tt }

lower : (cpu : ℕ) (order : List ℕ) → AllByRecursion (λ c. cpu + 1 ≤ c) order → AllByRecursion (λ c. cpu ≤ c) order
lower cpu order all = all_weaker (λ c. cpu + 1 ≤ c) (λ c. cpu ≤ c) order (λ c least. omega arith) all

takes : (k : KernelState) (cpu last most : ℕ) (order : List ℕ) → cpu < last → is_some (turn k cpu) ≡ true → IsPass (after k cpu) (cpu + 1) last most order →
    IsPass k cpu last (suc most) (cpu ∷ order)
takes k cpu last most order below is h = record {
  within = let fewer = h.within in omega arith;
  no_idle = (is, h.no_idle);
  from = (omega arith, lower cpu order h.from);
  there = (below, h.there);
  rising = (all_weaker (λ c. cpu + 1 ≤ c) (λ c. cpu < c) order (λ c least. omega arith) h.from, h.rising);
}

skips : (k : KernelState) (cpu last most : ℕ) (order : List ℕ) → IsPass k (cpu + 1) last most order → IsPass k cpu last most order
skips k cpu last most order h =
    record { within = h.within; no_idle = h.no_idle; from = lower cpu order h.from; there = h.there; rising = h.rising }

pass_is : (k : KernelState) (cpu count most last : ℕ) → cpu + count ≡ last → IsPass k cpu last most (pass k cpu count most)
pass_is k cpu zero most last ends = empty k cpu last most
pass_is k cpu (suc count) zero last ends = empty k cpu last 0
pass_is k cpu (suc count) (suc most) last ends =
    by_test (is_some (turn k cpu)) refl (pass_is (after k cpu) (cpu + 1) count most last (omega arith)) (pass_is k (cpu + 1) count (suc most) last (omega arith))
  where
    by_test : (t : Bool) → is_some (turn k cpu) ≡ t → IsPass (after k cpu) (cpu + 1) last most (pass (after k cpu) (cpu + 1) count most) →
        IsPass k (cpu + 1) last (suc most) (pass k (cpu + 1) count (suc most)) →
        IsPass k cpu last (suc most) (if t then cpu ∷ pass (after k cpu) (cpu + 1) count most else pass k (cpu + 1) count (suc most))
    by_test true is taken skipped = takes k cpu last most (pass (after k cpu) (cpu + 1) count most) (omega arith) is taken
    by_test false is taken skipped = skips k cpu last (suc most) (pass k (cpu + 1) count (suc most)) skipped

-- WHICH PROCESSORS ARE LEFT OUT

none_below : (cpu : ℕ) (order : List ℕ) → AllByRecursion (λ c. cpu + 1 ≤ c) order → below cpu order ≡ []
none_below cpu [] all = refl
none_below cpu (c ∷ order) all =
    let not_less : nat_lt c cpu ≡ false = let least = all.0 in grind arith in
    rw not_less (none_below cpu order all.1)

below_first : (cpu first : ℕ) (order : List ℕ) → first < cpu → below cpu (first ∷ order) ≡ first ∷ below cpu order
below_first cpu first order less = let is : nat_lt first cpu ≡ true = grind arith in rw is refl

no_step : (o : Option Step) → is_some o ≡ false → o ≡ None
no_step None h = refl
no_step (Some s) h = absurd (cc)

abbrev Idles : KernelState → ℕ → ℕ → List ℕ → Type 0
Idles k cpu most order = (IsIn order cpu → ⊥) → length (below cpu order) < most → turn (run k (below cpu order)) cpu ≡ None

idle_later : (k : KernelState) (first cpu most : ℕ) (order : List ℕ) → first < cpu → Idles (after k first) cpu most order → Idles k cpu (suc most) (first ∷ order)
idle_later k first cpu most order less h out fewer =
    let split = below_first cpu first order less in
    let shorter : length (below cpu order) < most = let same = ap length split in omega arith in
    ap (λ (l : List ℕ). turn (run k l) cpu) split ∙ h (λ i. out (inr i)) shorter

left_out : (k : KernelState) (first count most cpu : ℕ) → first ≤ cpu → cpu < first + count → Idles k cpu most (pass k first count most)
left_out k first zero most cpu least last = absurd (omega arith)
left_out k first (suc count) zero cpu least last = λ out fewer. absurd (omega arith)
left_out k first (suc count) (suc most) cpu least last =
    by_test (is_some (turn k first)) refl (cpu - first) refl
    (λ past. left_out (after k first) (first + 1) count most cpu (omega arith) (omega arith))
    (λ past. left_out k (first + 1) count (suc most) cpu (omega arith) (omega arith))
  where
    by_test : (t : Bool) → is_some (turn k first) ≡ t → (d : ℕ) → cpu - first ≡ d →
        (first < cpu → Idles (after k first) cpu most (pass (after k first) (first + 1) count most)) →
        (first < cpu → Idles k cpu (suc most) (pass k (first + 1) count (suc most))) →
        Idles k cpu (suc most) (if t then first ∷ pass (after k first) (first + 1) count most else pass k (first + 1) count (suc most))
    by_test true is zero at taken skipped = λ out fewer. absurd (out (inl (omega arith)))
    by_test true is (suc d) at taken skipped =
        let less : first < cpu = omega arith in
        idle_later k first cpu most (pass (after k first) (first + 1) count most) less (taken less)
    by_test false is zero at taken skipped = λ out fewer.
        let same : first ≡ cpu = omega arith in
        let order = pass k (first + 1) count (suc most) in
        subst (λ (c : ℕ). turn (run k (below c order)) c ≡ None) same
        (ap (λ (l : List ℕ). turn (run k l) first) (none_below first order (pass_is k (first + 1) count (suc most) (first + 1 + count) refl).from) ∙ no_step (turn k first) is)
    by_test false is (suc d) at taken skipped = skipped (omega arith)

pub pass_round : (k : KernelState) (most : ℕ) → IsRound k most (pass k 0 k.cpus most)
pass_round k most =
    let p = pass_is k 0 k.cpus most k.cpus (omega arith) in record {
      within = p.within;
      no_idle = p.no_idle;
      there = p.there;
      rising = p.rising;
      left_out = λ cpu there out fewer. left_out k 0 k.cpus most cpu (omega arith) (omega arith) (λ i. out (contains_from_in (pass k 0 k.cpus most) cpu i)) fewer;
    }

-- PASSES

abbrev round_list : ℕ → KernelState → ℕ → List (List ℕ)
round_list zero k most = []
round_list (suc n) k most =
    pass k 0 k.cpus most ∷ round_list n (run k (pass k 0 k.cpus most)) (most - length (pass k 0 k.cpus most))

are_rounds : (n : ℕ) (k : KernelState) (most : ℕ) → AreRounds k most (round_list n k most)
are_rounds zero k most = tt
are_rounds (suc n) k most = (pass_round k most, are_rounds n (run k (pass k 0 k.cpus most)) (most - length (pass k 0 k.cpus most)))

joined : (n : ℕ) (k : KernelState) (most : ℕ) → concat (round_list n k most) ≡ passes n k most
joined zero k most = refl
joined (suc n) k most =
    ap (λ (l : List ℕ). pass k 0 k.cpus most ++ l) (joined n (run k (pass k 0 k.cpus most)) (most - length (pass k 0 k.cpus most)))

pub rounds_go : (k : KernelState) (most : ℕ) → GoesRound k most (rounds k most)
unfolding rounds
rounds_go k most = record { rounds = round_list most k most; joined = joined most k most; each = are_rounds most k most }
