-- The block at a place of an order, between those before it and those after it.
use Rattle.std.proofs.Common.{◌≡◌, ℕ, ◌+◌, ◌<◌, ◌≤◌, List, [], ◌∷◌, ◌++◌, length, take, drop, ap, sym, ◌∙◌, subst, arith, append_assoc, slice_index_or}
use Rattle.std.specs.Prelude.{IsTrue, nat_lt}
use Rattle.std.specs.List.{list_all}
use Rattle.std.proofs.lemmas.List.{take_more, take-append-drop}
use Rattle.std.proofs.lemmas.List.Folds.{list_all-append}
use Rattle.std.proofs.lemmas.List.Sums.{sum_by-append, sum_by-cons}
use Rattle.nova_order.specs.Blocks.{total}
use Rattle.nova_order.specs.declared.block.Block.{Block}

module _ (blocks : List Block) (n : ℕ) (d : Block) (less : n < length blocks) where
  abbrev block_at : Block
  block_at = slice_index_or blocks n d

  pub more_at : take (n + 1) blocks ≡ take n blocks ++ block_at ∷ []
  more_at = take_more blocks n d less

  pub split_at : take n blocks ++ block_at ∷ drop (n + 1) blocks ≡ blocks
  split_at =
      sym (append_assoc (take n blocks) (block_at ∷ []) (drop (n + 1) blocks))
      ∙ ap (λ (l : List Block). l ++ drop (n + 1) blocks) (sym more_at) ∙ take-append-drop (n + 1) blocks

  pub there_at : (cpus : ℕ) → IsTrue (list_all (λ block. nat_lt block.cpu cpus) blocks) → block_at.cpu < cpus
  there_at cpus within =
      let all = list_all-append (λ (b : Block). nat_lt b.cpu cpus) (take n blocks) (block_at ∷ drop (n + 1) blocks) in
      let whole : IsTrue (list_all (λ block. nat_lt block.cpu cpus) (take n blocks ++ block_at ∷ drop (n + 1) blocks)) =
      subst (λ (l : List Block). IsTrue (list_all (λ block. nat_lt block.cpu cpus) l)) (sym split_at) within in
      grind (arith, all, whole)

  pub fits_at : total (take n blocks) + block_at.count ≤ total blocks
  fits_at =
      let all = sum_by-append (λ (b : Block). b.count) (take n blocks) (block_at ∷ drop (n + 1) blocks) in
      let one = sum_by-cons (λ (b : Block). b.count) block_at (drop (n + 1) blocks) in
      let whole : total (take n blocks ++ block_at ∷ drop (n + 1) blocks) ≡ total blocks = ap total split_at in
      omega (arith, all, one, whole)
