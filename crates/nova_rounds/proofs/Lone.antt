-- The passes of a round robin over one processor.
use Rattle.std.proofs.Common.{◌≡◌, ℕ, zero, suc, ◌-◌, ◌<◌, ◌≤◌, List, [], ◌∷◌, ◌++◌, length, replicate, ap, sym, ◌∙◌, subst, arith}
use Rattle.std.specs.Prelude.{Bool, true, false, is_some, if◌then◌else◌}
use Rattle.std.proofs.lemmas.List.{append-nil}
use Rattle.nova_model.specs.State.{KernelState}
use Rattle.nova_model.specs.Turn.{turn}
use Rattle.nova_model.specs.Runs.{IsFreeOfIdle, after, run, pass, rounds}
use Rattle.law_turns.proofs.Passes.{passes_none}
use Rattle.law_turns.proofs.Processors.{run_cpus}
use Rattle.nova_finished.specs.UnderWay.{IsGone, Passed, left}
use Rattle.nova_rounds.proofs.Passes.{pass-one, pass-zero, rounds_first}
use Rattle.nova_finished.specs.declared.finished.Finished.{Finished}

-- a pass is the turn of the only processor
pass_lone : (k : KernelState) (most : ℕ) (t : Bool) → k.cpus ≡ 1 → 0 < most → is_some (turn k 0) ≡ t → pass k 0 k.cpus most ≡ (if t then 0 ∷ [] else [])
pass_lone k most t one some is = ap (λ (c : ℕ). pass k 0 c most) one ∙ pass-one k 0 most some ∙ ap (λ (u : Bool). if u then 0 ∷ [] else []) is

-- where it is idle, or there may be none, there are no more turns
rounds_none : (k : KernelState) (most : ℕ) → k.cpus ≡ 1 → (0 < most → is_some (turn k 0) ≡ false) → rounds k most ≡ []
unfolding rounds
rounds_none k zero one idle = passes_none zero k zero (pass-zero k 0 k.cpus)
rounds_none k (suc most) one idle = passes_none (suc most) k (suc most) (pass_lone k (suc most) false one (omega arith) (idle (omega arith)))

-- turns that aren't idle are passes
rounds_lone : (n : ℕ) (k : KernelState) (most : ℕ) → k.cpus ≡ 1 → n ≤ most → IsFreeOfIdle k (replicate n 0) →
    rounds k most ≡ replicate n 0 ++ rounds (run k (replicate n 0)) (most - n)
rounds_lone zero k most one few free = let same : most ≡ most - 0 = omega arith in ap (λ (m : ℕ). rounds k m) same
rounds_lone (suc n) k most one few free =
    let first : pass k 0 k.cpus most ≡ 0 ∷ [] = pass_lone k most true one (omega (arith, few)) free.0 in
    let there : 0 < length (pass k 0 k.cpus most) = (let l = ap length first in omega (arith, l)) in
    let less : (most - 1) - n ≡ most - suc n = omega arith in
    rounds_first k most there
    ∙ ap (λ (l : List ℕ). l ++ rounds (run k l) (most - length l)) first
    ∙ ap (λ (l : List ℕ). 0 ∷ l) (rounds_lone n (after k 0) (most - 1) (run_cpus k (0 ∷ []) ∙ one) (omega (arith, few)) free.1)
    ∙ ap (λ (m : ℕ). 0 ∷ (replicate n 0 ++ rounds (run (after k 0) (replicate n 0)) m)) less

-- turns of the only processor, until it is idle or there are as many as there may be
module _ (a b : Finished) (may n : ℕ) (one : a.kernel.state.cpus ≡ 1) (all : may ≡ left a) (gone : IsGone a 0 may n b) (idle : n < may → is_some (turn b.kernel.state 0) ≡ false) where
  few : n ≤ left a
  few = let most = gone.few in omega (arith, most, all)

  rest : rounds (run a.kernel.state (replicate n 0)) (left a - n) ≡ []
  rest = rounds_none (run a.kernel.state (replicate n 0)) (left a - n) (run_cpus a.kernel.state (replicate n 0) ∙ one)
      (λ some. ap (λ (s : KernelState). is_some (turn s 0)) (sym gone.passed.kernel) ∙ idle (omega (arith, some, all)))

  pub Passed-lone : Passed a (rounds a.kernel.state (left a)) b
  Passed-lone = subst (λ (l : List ℕ). Passed a l b) (sym (
      rounds_lone n a.kernel.state (left a) one few gone.no_idle ∙ ap (λ (l : List ℕ). replicate n 0 ++ l) rest ∙ append-nil (replicate n 0)
      )) gone.passed
