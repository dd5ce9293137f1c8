-- The turns of blocks that are within bounds.
use Rattle.std.proofs.Common.{◌≡◌, ℕ, zero, suc, ◌<◌, ◌≤◌, Bool, List, [], ◌∷◌, ◌++◌, length, replicate, arith, nat_lt, nat_le, ◌&&◌}
use Rattle.std.specs.Prelude.{IsTrue}
use Rattle.std.specs.List.{AllByRecursion, list_all}
use Rattle.std.proofs.lemmas.List.Concat.{flat_map-append}
use Rattle.nova_order.specs.Blocks.{turns, total, is_within}
use Rattle.nova_order.specs.declared.block.Block.{Block}
use Rattle.nova_order.proofs.BlockLemmas.{length_turns}

pub turns_append : (xs ys : List Block) → turns (xs ++ ys) ≡ turns xs ++ turns ys
unfolding turns
turns_append xs ys = flat_map-append (λ (b : Block). replicate b.count b.cpu) xs ys

pub all_append : (P : ℕ → Type 0) (xs ys : List ℕ) → AllByRecursion P xs → AllByRecursion P ys → AllByRecursion P (xs ++ ys)
all_append P [] ys first later = later
all_append P (x ∷ xs) ys first later = (first.0, all_append P xs ys first.1 later)

all_same : (P : ℕ → Type 0) (n x : ℕ) → P x → AllByRecursion P (replicate n x)
all_same P zero x is = tt
all_same P (suc n) x is = (is, all_same P n x is)

pub both : (a b : Bool) → IsTrue (a && b) → IsTrue a × IsTrue b
both a b is = grind arith

below : (a b : ℕ) → IsTrue (nat_lt a b) → a < b
below a b is = grind arith

no_more : (a b : ℕ) → IsTrue (nat_le a b) → a ≤ b
no_more a b is = grind arith

turns_there : (cpus : ℕ) (blocks : List Block) → IsTrue (list_all (λ block. nat_lt block.cpu cpus) blocks) → AllByRecursion (λ cpu. cpu < cpus) (turns blocks)
unfolding turns
turns_there cpus [] is = tt
turns_there cpus (b ∷ bs) is =
    let two = both (nat_lt b.cpu cpus) (list_all (λ block. nat_lt block.cpu cpus) bs) is in
    all_append (λ cpu. cpu < cpus) (replicate b.count b.cpu) (turns bs) (all_same (λ cpu. cpu < cpus) b.count b.cpu (below b.cpu cpus two.0)) (turns_there cpus bs two.1)

module _ (cpus most : ℕ) (blocks : List Block) (is : IsTrue (is_within cpus most blocks)) where
  -- each block is of a processor below their number, and together they have no more turns than may be
  pub cpus_within : IsTrue (list_all (λ block. nat_lt block.cpu cpus) blocks)
  cpus_within = (both (list_all (λ block. nat_lt block.cpu cpus) blocks) (nat_le (total blocks) most) is).0

  pub total_within : total blocks ≤ most
  total_within = no_more (total blocks) most (both (list_all (λ block. nat_lt block.cpu cpus) blocks) (nat_le (total blocks) most) is).1

  -- and so are their turns
  pub processors_of : AllByRecursion (λ cpu. cpu < cpus) (turns blocks)
  processors_of = turns_there cpus blocks cpus_within

  pub turns_within : length (turns blocks) ≤ most
  turns_within = let few = total_within in let same = length_turns blocks in omega arith
