-- The passes of a round robin.
use Rattle.std.proofs.Common.{◌≡◌, ℕ, zero, suc, ◌+◌, ◌-◌, ◌<◌, ◌≤◌, List, [], ◌∷◌, ◌++◌, length, refl, ap, ap₂, sym, ◌∙◌, subst, arith, append_assoc}
use Rattle.std.specs.Prelude.{Bool, true, false, is_some, if◌then◌else◌}
use Rattle.std.proofs.lemmas.List.{append-nil}
use Rattle.nova_kernel.specs.Views.{KernelView}
use Rattle.nova_model.specs.State.{KernelState}
use Rattle.nova_model.specs.Turn.{turn}
use Rattle.nova_model.specs.Runs.{after, run, pass, passes, rounds}
use Rattle.law_turns.proofs.Passes.{passes_none, nothing}
use Rattle.nova_order.specs.Blocks.{BlockList, turns, total}
use Rattle.nova_finished.specs.Finished.{IsFinished}
use Rattle.nova_finished.specs.UnderWay.{IsReady, Passed, left, taken}
use Rattle.nova_rounds.specs.UnderWay.{IsUnderWay}
use Rattle.nova_finished.specs.declared.finished.Finished.{Finished}
use Rattle.nova_finished.proofs.Passing.{Passed-through, Finished-on}

pub pass-zero : (k : KernelState) (cpu count : ℕ) → pass k cpu count 0 ≡ []
pass-zero k cpu zero = refl
pass-zero k cpu (suc count) = refl

-- the turn of one processor
pub pass-one : (k : KernelState) (cpu most : ℕ) → 0 < most → pass k cpu 1 most ≡ taken k cpu
pass-one k cpu zero some = absurd (omega arith)
pass-one k cpu (suc most) some = refl

-- the first processor of a pass, and then the others
pass-first : (k : KernelState) (cpu count most : ℕ) →
    pass k cpu (suc count) most ≡ pass k cpu 1 most ++ pass (run k (pass k cpu 1 most)) (cpu + 1) count (most - length (pass k cpu 1 most))
pass-first k cpu count zero = sym (pass-zero k (cpu + 1) count)
pass-first k cpu count (suc most) = by_test (is_some (turn k cpu))
  where
    less : (suc most - 1) ≡ most
    less = omega arith

    same : (suc most - 0) ≡ suc most
    same = omega arith

    by_test : (t : Bool) → (if t then cpu ∷ pass (after k cpu) (cpu + 1) count most else pass k (cpu + 1) count (suc most))
        ≡ (if t then cpu ∷ [] else []) ++ pass (run k (if t then cpu ∷ [] else [])) (cpu + 1) count (suc most - length (if t then cpu ∷ [] else []))
    by_test true = ap (λ (n : ℕ). cpu ∷ pass (after k cpu) (cpu + 1) count n) (sym less)
    by_test false = ap (λ (n : ℕ). pass k (cpu + 1) count n) (sym same)

-- what a part of a run leaves
pub left_by : (b c : Finished) (list : List ℕ) → Passed b list c → left c ≡ left b - length list
left_by b c list p = let e = p.count in let l = p.limit in omega arith

-- a processor's turn on the way of a pass
pub IsUnderWay-turn : (a b c : Finished) (cpu cpus : ℕ) (all : List ℕ) → cpu < cpus →
    IsUnderWay a b (pass b.kernel.state cpu (cpus - cpu) (left b)) all → Passed b (pass b.kernel.state cpu 1 (left b)) c →
    c.trace.capacity ≡ b.trace.capacity →
    IsUnderWay a c (pass c.kernel.state (cpu + 1) (cpus - (cpu + 1)) (left c)) all
IsUnderWay-turn a b c cpu cpus all h way turned places =
    let one = pass b.kernel.state cpu 1 (left b) in record {
      done = way.done ++ one;
      passed = Passed-through a b c way.done one way.passed turned;
      whole =
          let n : cpus - cpu ≡ suc (cpus - (cpu + 1)) = omega arith in
          append_assoc way.done one (pass c.kernel.state (cpu + 1) (cpus - (cpu + 1)) (left c))
          ∙ ap (λ (l : List ℕ). way.done ++ l)
          (ap₂ (λ (s : KernelState) (most : ℕ). one ++ pass s (cpu + 1) (cpus - (cpu + 1)) most) turned.kernel (left_by b c one turned)
          ∙ sym (pass-first b.kernel.state cpu (cpus - (cpu + 1)) (left b))
          ∙ ap (λ (count : ℕ). pass b.kernel.state cpu count (left b)) (sym n))
          ∙ way.whole;
      places = places ∙ way.places;
    }

-- a run of the same events, in a trace with other room
pub Passed-none : (a b : Finished) → IsReady a → b.opening ≡ a.opening → b.kernel ≡ a.kernel → b.order ≡ a.order → b.trace.items ≡ a.trace.items → b.limit ≡ a.limit → Passed a [] b
Passed-none a b ready opening kernel order items limit =
    let len : length b.trace.items ≡ length a.trace.items = ap length items in
    let state = ap (λ (v : KernelView). v.state) kernel in
    let room = ap (λ (v : KernelView). v.room) kernel in
    let turns_taken = ap (λ (s : KernelState). s.turns) state in
    let counted = ap (λ (l : BlockList). total l.blocks) order in
    record {
      opening = opening;
      kernel = state;
      order = ap (λ (l : BlockList). turns l.blocks) order ∙ sym (append-nil (turns a.order.blocks));
      trace = items ∙ sym (append-nil a.trace.items);
      count = omega arith;
      limit = limit;
      cpus = ap (λ (s : KernelState). s.cpus) state;
      ready = record {
        within = omega (arith, ready.within);
        room = omega (arith, ready.room);
        turns = omega (arith, ready.turns);
        order = counted ∙ ready.order ∙ sym len;
      };
    }

-- more passes than there may be turns take the same turns
passes_same : (n m : ℕ) (k : KernelState) (most : ℕ) → most ≤ n → most ≤ m → passes n k most ≡ passes m k most
passes_same zero m k zero h i = sym (passes_none m k 0 (pass-zero k 0 k.cpus))
passes_same zero m k (suc most) h i = absurd (omega arith)
passes_same (suc n) zero k zero h i = passes_none (suc n) k 0 (pass-zero k 0 k.cpus)
passes_same (suc n) zero k (suc most) h i = absurd (omega arith)
passes_same (suc n) (suc m) k most h i =
    let one = pass k 0 k.cpus most in
    by_turns one refl (λ some. passes_same n m (run k one) (most - length one) (omega (arith, some, h)) (omega (arith, some, i)))
  where
    by_turns : (list : List ℕ) → pass k 0 k.cpus most ≡ list →
        (0 < length (pass k 0 k.cpus most) → passes n (run k (pass k 0 k.cpus most)) (most - length (pass k 0 k.cpus most)) ≡ passes m (run k (pass k 0 k.cpus most)) (most - length (pass k 0 k.cpus most))) →
        passes (suc n) k most ≡ passes (suc m) k most
    by_turns [] is rest = passes_none (suc n) k most is ∙ sym (passes_none (suc m) k most is)
    by_turns (x ∷ xs) is rest =
        let len = ap length is in
        ap (λ (l : List ℕ). pass k 0 k.cpus most ++ l) (rest (omega arith))

-- the first pass of a round robin that takes a turn, and then the others
pub rounds_first : (k : KernelState) (most : ℕ) → 0 < length (pass k 0 k.cpus most) →
    rounds k most ≡ pass k 0 k.cpus most ++ rounds (run k (pass k 0 k.cpus most)) (most - length (pass k 0 k.cpus most))
unfolding rounds
rounds_first k zero some = let none = ap length (pass-zero k 0 k.cpus) in absurd (omega arith)
rounds_first k (suc most) some =
    let one = pass k 0 k.cpus (suc most) in
    let rest = suc most - length one in
    ap (λ (l : List ℕ). one ++ l) (passes_same most rest (run k one) rest (omega arith) (omega arith))

-- a round robin that begins
pub IsUnderWay-first : (a : Finished) → IsReady a → IsUnderWay a a (rounds a.kernel.state (left a)) (rounds a.kernel.state (left a))
IsUnderWay-first a ready = record {
  done = [];
  passed = Passed-none a a ready refl refl refl refl refl;
  whole = refl;
  places = refl;
}

module _ (a b c : Finished) (all : List ℕ) (turned : Passed b (pass b.kernel.state 0 b.kernel.state.cpus (left b)) c) where
  one : List ℕ
  one = pass b.kernel.state 0 b.kernel.state.cpus (left b)

  -- a pass on the way
  pub IsUnderWay-pass : IsUnderWay a b (rounds b.kernel.state (left b)) all → left c < left b →
      c.trace.capacity ≡ b.trace.capacity →
      IsUnderWay a c (rounds c.kernel.state (left c)) all
  unfolding one
  IsUnderWay-pass way fewer places = record {
    done = way.done ++ one;
    passed = Passed-through a b c way.done one way.passed turned;
    whole =
        let less = left_by b c one turned in
        append_assoc way.done one (rounds c.kernel.state (left c))
        ∙ ap (λ (l : List ℕ). way.done ++ l)
        (ap₂ (λ (s : KernelState) (rest : ℕ). one ++ rounds s rest) turned.kernel less
        ∙ sym (rounds_first b.kernel.state (left b) (omega (arith, less, fewer))))
        ∙ way.whole;
    places = places ∙ way.places;
  }

  -- a round robin that ends by a pass without a turn
  pub Passed-ended : IsUnderWay a b (rounds b.kernel.state (left b)) all → left c ≡ left b → Passed a all c
  unfolding one rounds
  Passed-ended way same =
      let none : one ≡ [] = nothing one (let e = turned.count in let r = turned.ready.within in let l = turned.limit in omega arith) in
      let rest : passes (left b) b.kernel.state (left b) ≡ [] = passes_none (left b) b.kernel.state (left b) none in
      subst (λ (l : List ℕ). Passed a l c) (ap (λ (l : List ℕ). way.done ++ l) (none ∙ sym rest) ∙ way.whole)
      (Passed-through a b c way.done one way.passed turned)

-- a round robin that ends with as many turns as there may be
pub Passed-all : (a b : Finished) (all : List ℕ) → IsUnderWay a b (rounds b.kernel.state (left b)) all → left b ≡ 0 → Passed a all b
unfolding rounds
Passed-all a b all way none =
    let rest : rounds b.kernel.state (left b) ≡ [] = ap (λ (m : ℕ). passes m b.kernel.state (left b)) none in
    subst (λ (l : List ℕ). Passed a l b) (sym (append-nil way.done) ∙ ap (λ (l : List ℕ). way.done ++ l) (sym rest) ∙ way.whole) way.passed

-- passes of a run for which places were made
pub Passed-rounds : (a b c : Finished) → Passed a [] b → Passed b (rounds b.kernel.state (left b)) c → Passed a (rounds a.kernel.state (left a)) c
Passed-rounds a b c none ran =
    let less = left_by a b [] none in
    let same : left b ≡ left a = omega arith in
    subst (λ (l : List ℕ). Passed a l c) (ap₂ (λ (s : KernelState) (m : ℕ). rounds s m) none.kernel same)
    (Passed-through a b c [] (rounds b.kernel.state (left b)) none ran)

-- a round robin from a state
pub Finished-rounds : (k : KernelState) (f g : Finished) (limit : ℕ) → IsFinished k [] limit f → Passed f (rounds f.kernel.state (left f)) g →
    IsFinished k (rounds k limit) limit g
Finished-rounds k f g limit begun ran =
    let most : left f ≡ limit = let l = begun.limit in let none = ap length begun.trace in omega arith in
    subst (λ (l : List ℕ). IsFinished k l limit g) (ap₂ (λ (s : KernelState) (m : ℕ). rounds s m) begun.kernel most)
    (Finished-on k [] (rounds f.kernel.state (left f)) limit f g begun ran)
