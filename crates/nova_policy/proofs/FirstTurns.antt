-- The first turns of an order.
use Rattle.std.proofs.Common.{◌≡◌, ℕ, zero, suc, ◌+◌, ◌-◌, ◌<◌, ◌≤◌, Bool, true, false, ◌&&◌, List, [], ◌∷◌, ◌++◌, get_or, length, replicate, take, min, nat_le, nat_lt, refl, ap, sym, subst, ◌∙◌, arith, append-nil}
use Rattle.std.specs.Prelude.{IsTrue}
use Rattle.std.specs.List.{AllByRecursion, list_all}
use Rattle.std.proofs.lemmas.List.{length-take, take-append-le, take_all}
use Rattle.std.proofs.Math.Seq.{take-append-add, take-suc}
use Rattle.nova_order.specs.Blocks.{is_within, total, turns}
use Rattle.nova_order.specs.declared.block.Block.{Block}
use Rattle.nova_order.proofs.BlockLemmas.{length_turns, turns_push}
use Rattle.nova_order.proofs.BoundLemmas.{both as parts}

-- the first of the same number again and again
first_same : (m n c : ℕ) → take m (replicate n c) ≡ replicate (min n m) c
first_same zero n c = ap (λ k. replicate k c) (let none : 0 ≡ min n 0 = omega arith in none)
first_same (suc m) zero c = ap (λ k. replicate k c) (let none : 0 ≡ min 0 (suc m) = omega arith in none)
first_same (suc m) (suc n) c =
    ap (λ ys. c ∷ ys) (first_same m n c) ∙ ap (λ k. replicate k c) (let more : suc (min n m) ≡ min (suc n) (suc m) = omega arith in more)

-- the first of two lists, by whether the first list has as many
split : (most : ℕ) (xs ys : List ℕ) (b : Bool) → nat_le (length xs) most ≡ b → take most (xs ++ ys) ≡ take most xs ++ take (most - length xs) ys
split most xs ys true is =
    let le : length xs ≤ most = grind arith in
    let sum : most ≡ length xs + (most - length xs) = omega arith in
    ap (λ n. take n (xs ++ ys)) sum ∙ take-append-add xs ys (most - length xs) ∙ ap (λ zs. zs ++ take (most - length xs) ys) (sym (take_all most xs le))
split most xs ys false is =
    let le : most ≤ length xs = grind arith in
    let over : most - length xs ≡ 0 = omega arith in
    take-append-le most xs ys le ∙ sym (append-nil (take most xs)) ∙ sym (ap (λ n. take most xs ++ take n ys) over)

-- first turns, with those of a block more as far as there may be more
pub one_more : (most n c : ℕ) (xs first next : List ℕ) → first ≡ take most xs → next ≡ first ++ replicate (min n (most - length first)) c → next ≡ take most (xs ++ replicate n c)
one_more most n c xs first next is more =
    let len : length first ≡ min most (length xs) = ap length is ∙ length-take most xs in
    let left : most - length first ≡ most - length xs = omega (arith, len) in
    more ∙ (λ i. is i ++ replicate (min n (left i)) c) ∙ ap (λ zs. take most xs ++ zs) (sym (first_same (most - length xs) n c))
    ∙ sym (split most xs (replicate n c) (nat_le (length xs) most) refl)

-- the blocks so far, and the next
pub with_block : (most : ℕ) (done : List Block) (b : Block) (first next : List Block) → turns first ≡ take most (turns done) → turns next ≡ turns first ++ replicate (min b.count (most - total first)) b.cpu
    → turns next ≡ take most (turns (done ++ b ∷ []))
with_block most done b first next is more =
    let len : length (turns first) ≡ total first = length_turns first in
    let added : turns next ≡ turns first ++ replicate (min b.count (most - length (turns first))) b.cpu = more ∙ ap (λ n. turns first ++ replicate (min b.count (most - n)) b.cpu) (sym len) in
    one_more most b.count b.cpu (turns done) (turns first) (turns next) is added ∙ sym (ap (take most) (turns_push done b))

-- the first turns of the blocks before one
pub record AreFirst (most : ℕ) (blocks : List Block) (i : ℕ) (first : List Block) : Type 0 where
  pub turns : turns first ≡ take most (turns (take i blocks))
  pub few : total first ≤ most

no_turns : (most : ℕ) → turns [] ≡ take most (turns [])
unfolding turns
no_turns zero = refl
no_turns (suc most) = refl

pub begun : (most : ℕ) (blocks : List Block) → AreFirst most blocks 0 []
begun most blocks = record { turns = no_turns most; few = omega arith }

pub next_block : (most i : ℕ) (blocks first next : List Block) (d : Block) → i < length blocks → AreFirst most blocks i first
    → turns next ≡ turns first ++ replicate (min (get_or blocks i d).count (most - total first)) (get_or blocks i d).cpu → total next ≤ most → AreFirst most blocks (i + 1) next
next_block most i blocks first next d more are is few =
    let after : i + 1 ≡ suc i = omega arith in
    record {
      turns = with_block most (take i blocks) (get_or blocks i d) first next are.turns is ∙ sym (ap (λ bs. take most (turns bs)) (take-suc blocks i d more))
          ∙ sym (ap (λ n. take most (turns (take n blocks))) after);
      few = few;
    }

pub all_blocks : (most i : ℕ) (blocks first : List Block) → length blocks ≤ i → AreFirst most blocks i first → turns first ≡ take most (turns blocks)
all_blocks most i blocks first over are = are.turns ∙ ap (λ bs. take most (turns bs)) (take_all i blocks over)

-- THEIR BOUNDS

all_first : (cpus n : ℕ) (xs : List ℕ) → IsTrue (list_all (λ cpu. nat_lt cpu cpus) xs) → IsTrue (list_all (λ cpu. nat_lt cpu cpus) (take n xs))
all_first cpus zero xs all = refl
all_first cpus (suc n) [] all = refl
all_first cpus (suc n) (x ∷ xs) all =
    let two = both (nat_lt x cpus) (list_all (λ cpu. nat_lt cpu cpus) xs) all in joined (nat_lt x cpus) (list_all (λ cpu. nat_lt cpu cpus) (take n xs)) two.0 (all_first cpus n xs two.1)
  where
    both : (a b : Bool) → IsTrue (a && b) → IsTrue a × IsTrue b
    both a b is = grind arith

    joined : (a b : Bool) → IsTrue a → IsTrue b → IsTrue (a && b)
    joined a b p q = grind arith

pub first_within : (cpus most at : ℕ) (blocks first : List Block)
    → is_within cpus most blocks ≡ (list_all (λ cpu. nat_lt cpu cpus) (turns blocks) && nat_le (length (turns blocks)) most)
    → is_within cpus at first ≡ (list_all (λ cpu. nat_lt cpu cpus) (turns first) && nat_le (length (turns first)) at)
    → turns first ≡ take at (turns blocks) → total first ≤ at → IsTrue (is_within cpus most blocks) → IsTrue (is_within cpus at first)
first_within cpus most at blocks first of_blocks of_first is few within =
    let two = both (list_all (λ cpu. nat_lt cpu cpus) (turns blocks)) (nat_le (length (turns blocks)) most) (subst IsTrue of_blocks within) in
    let all : IsTrue (list_all (λ cpu. nat_lt cpu cpus) (turns first)) = subst (λ ts. IsTrue (list_all (λ cpu. nat_lt cpu cpus) ts)) (sym is) (all_first cpus at (turns blocks) two.0) in
    let len : length (turns first) ≡ total first = length_turns first in
    let fits : IsTrue (nat_le (length (turns first)) at) = small (length (turns first)) (let le : length (turns first) ≤ at = omega (arith, len) in le) in
    subst IsTrue (sym of_first) (joined (list_all (λ cpu. nat_lt cpu cpus) (turns first)) (nat_le (length (turns first)) at) all fits)
  where
    both : (a b : Bool) → IsTrue (a && b) → IsTrue a × IsTrue b
    both a b is = grind arith

    joined : (a b : Bool) → IsTrue a → IsTrue b → IsTrue (a && b)
    joined a b p q = grind arith

    small : (n : ℕ) → n ≤ at → IsTrue (nat_le n at)
    small n le = grind arith

whole : (a b : Bool) → IsTrue a → IsTrue b → IsTrue (a && b)
whole a b p q = grind arith

all_below : (cpus : ℕ) (xs : List ℕ) → IsTrue (list_all (λ cpu. nat_lt cpu cpus) xs) → AllByRecursion (λ cpu. cpu < cpus) xs
all_below cpus [] all = tt
all_below cpus (x ∷ xs) all =
    let two = parts (nat_lt x cpus) (list_all (λ cpu. nat_lt cpu cpus) xs) all in
    let one : IsTrue (nat_lt x cpus) = two.0 in
    let less : x < cpus = grind arith in (less, all_below cpus xs two.1)

below_all : (cpus : ℕ) (xs : List ℕ) → AllByRecursion (λ cpu. cpu < cpus) xs → IsTrue (list_all (λ cpu. nat_lt cpu cpus) xs)
below_all cpus [] all = refl
below_all cpus (x ∷ xs) all =
    let less : x < cpus = all.0 in
    let one : IsTrue (nat_lt x cpus) = grind arith in whole (nat_lt x cpus) (list_all (λ cpu. nat_lt cpu cpus) xs) one (below_all cpus xs all.1)

at_most : (n most : ℕ) → IsTrue (nat_le n most) → n ≤ most
at_most n most is = grind arith

no_more : (n most : ℕ) → n ≤ most → IsTrue (nat_le n most)
no_more n most le = grind arith

module _ (cpus most : ℕ) (blocks : List Block)
    (bounds : is_within cpus most blocks ≡ (list_all (λ cpu. nat_lt cpu cpus) (turns blocks) && nat_le (length (turns blocks)) most)) where
  pub first_there : IsTrue (is_within cpus most blocks) → AllByRecursion (λ cpu. cpu < cpus) (turns blocks) × (length (turns blocks) ≤ most)
  first_there within =
      let two = parts (list_all (λ cpu. nat_lt cpu cpus) (turns blocks)) (nat_le (length (turns blocks)) most) (subst IsTrue bounds within) in
      (all_below cpus (turns blocks) two.0, at_most (length (turns blocks)) most two.1)

  pub within_there : AllByRecursion (λ cpu. cpu < cpus) (turns blocks) → length (turns blocks) ≤ most → IsTrue (is_within cpus most blocks)
  within_there there few =
      subst IsTrue (sym bounds)
      (whole (list_all (λ cpu. nat_lt cpu cpus) (turns blocks)) (nat_le (length (turns blocks)) most) (below_all cpus (turns blocks) there) (no_more (length (turns blocks)) most few))
