-- Orders that are free of idle turns, and those that are not.
use Rattle.std.proofs.Common.{◌≡◌, ℕ, suc, ◌+◌, ◌-◌, ◌<◌, List, [], ◌∷◌, ◌++◌, length, take, drop, replicate, ap, sym, ◌∙◌, subst, arith, slice_index_or}
use Rattle.std.specs.Prelude.{true, false, is_some}
use Rattle.std.proofs.lemmas.List.{append-nil, length-take, replicate-append-replicate}
use Rattle.nova_model.specs.State.{KernelState}
use Rattle.nova_model.specs.Turn.{turn}
use Rattle.nova_model.specs.Runs.{IsFreeOfIdle, after, run}
use Rattle.nova_order.specs.Blocks.{turns}
use Rattle.nova_order.specs.declared.block.Block.{Block}
use Rattle.nova_order.proofs.BoundLemmas.{turns_append}
use Rattle.nova_order.proofs.PlaceLemmas.{split_at}
use Rattle.nova_finished.specs.Finished.{IsIdleLine}

-- the later part of an order, from where the first part led
pub free_after : (k : KernelState) (xs ys : List ℕ) → IsFreeOfIdle k (xs ++ ys) → IsFreeOfIdle (run k xs) ys
free_after k [] ys free = free
free_after k (x ∷ xs) ys free = free_after (after k x) xs ys free.1

pub free_before : (k : KernelState) (xs ys : List ℕ) → IsFreeOfIdle k (xs ++ ys) → IsFreeOfIdle k xs
free_before k [] ys free = tt
free_before k (x ∷ xs) ys free = (free.0, free_before (after k x) xs ys free.1)

-- a turn that is idle is one of an order that isn't free of them
pub turn_idle : (k l : KernelState) (cpu n count : ℕ) → n < count → l ≡ run k (replicate n cpu) → is_some (turn l cpu) ≡ false → IsFreeOfIdle k (replicate count cpu) → ⊥
turn_idle k l cpu n count less leads idle free =
    let split : replicate count cpu ≡ replicate n cpu ++ cpu ∷ replicate (count - (n + 1)) cpu =
    (let e : count ≡ n + suc (count - (n + 1)) = omega arith in ap (λ (m : ℕ). replicate m cpu) e) ∙ sym (replicate-append-replicate n (suc (count - (n + 1))) cpu) in
    let rest = free_after k (replicate n cpu) (cpu ∷ replicate (count - (n + 1)) cpu) (subst (IsFreeOfIdle k) split free) in
    let there : is_some (turn (run k (replicate n cpu)) cpu) ≡ true = rest.0 in
    none (sym (ap (λ (s : KernelState). is_some (turn s cpu)) (sym leads) ∙ idle) ∙ there)
  where
    none : false ≡ true → ⊥
    none h = cc

-- a block with an idle turn, after those before it
block_idle : (k l : KernelState) (before : List Block) (block : Block) (rest blocks : List Block) (line : ℕ) → l ≡ run k (turns before) → IsFreeOfIdle k (turns before) →
    (IsFreeOfIdle l (replicate block.count block.cpu) → ⊥) → before ++ block ∷ rest ≡ blocks → line ≡ length before + 1 → IsIdleLine k blocks line
unfolding turns
block_idle k l before block rest blocks line leads free idle whole number = record {
  before = before;
  block = block;
  after = rest;
  whole = whole;
  number = number;
  free = free;
  idle = λ none. idle (subst (λ (s : KernelState). IsFreeOfIdle s (replicate block.count block.cpu)) (sym leads)
      (subst (IsFreeOfIdle (run k (turns before))) (append-nil (replicate block.count block.cpu)) none));
}

-- the block at a place of an order
pub line_idle : (blocks : List Block) (n : ℕ) (d : Block) → n < length blocks → (k l : KernelState) (line : ℕ) → l ≡ run k (turns (take n blocks)) → IsFreeOfIdle k (turns (take n blocks)) →
    (IsFreeOfIdle l (replicate (slice_index_or blocks n d).count (slice_index_or blocks n d).cpu) → ⊥) → line ≡ n + 1 → IsIdleLine k blocks line
line_idle blocks n d less k l line leads free idle number =
    let len : length (take n blocks) ≡ n = omega (arith, less, length-take n blocks) in
    block_idle k l (take n blocks) (slice_index_or blocks n d) (drop (n + 1) blocks) blocks line leads free idle (split_at blocks n d less) (omega (arith, len, number))

-- where no turn is idle, no line has an idle one
pub no_idle_line : (k : KernelState) (blocks : List Block) (line : ℕ) → IsFreeOfIdle k (turns blocks) → IsIdleLine k blocks line → ⊥
no_idle_line k blocks line free idle =
    let cut : turns blocks ≡ turns idle.before ++ (turns (idle.block ∷ []) ++ turns idle.after) =
    ap turns (sym idle.whole) ∙ turns_append idle.before (idle.block ∷ idle.after)
    ∙ ap (λ (l : List ℕ). turns idle.before ++ l) (turns_append (idle.block ∷ []) idle.after) in
    let rest = free_after k (turns idle.before) (turns (idle.block ∷ []) ++ turns idle.after) (subst (IsFreeOfIdle k) cut free) in
    idle.idle (free_before (run k (turns idle.before)) (turns (idle.block ∷ [])) (turns idle.after) rest)
