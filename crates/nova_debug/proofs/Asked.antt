-- Orders that are read pair by pair.
use Rattle.std.proofs.Common.{◌≡◌, ℕ, ◌+◌, ◌≤◌, Bool, true, false, ◌&&◌, if◌then◌else◌, List, [], ◌∷◌, ◌++◌, replicate, nat_le, Option, Some, None, refl, ap, sym, ◌∙◌, arith, append_assoc, append-nil}
use Rattle.std.specs.List.{list_all}
use Rattle.std.specs.Option.{option_and_then}
use Rattle.std.proofs.lemmas.List.Sums.{sum_by-cons}
use Rattle.nova_order.specs.Blocks.{total, turns}
use Rattle.nova_order.specs.Text.{block_of_numbers}
use Rattle.nova_order.specs.declared.block.Block.{Block}
use Rattle.nova_order.proofs.TurnLemmas.{turns_first}
use Rattle.nova_debug.specs.Commands.{number_of}
use Rattle.nova_debug.specs.Orders.{blocks_of, has_turns, in_front, may_be_added, turns_asked, turns_within, IsAdded}

-- what comes of blocks that are left, after turns that were added
abbrev pub with_more : ℕ → ℕ → List ℕ → Option (List Block) → Option (List ℕ)
with_more most sum before None = None
with_more most sum before (Some blocks) = if list_all has_turns blocks && nat_le (sum + total blocks) most then Some (before ++ turns blocks) else None

-- what comes of an order with the words that are left
pub record IsLeft (most : ℕ) (blocks : List Block) (words all : List (List ℕ)) : Type 0 where
  pub few : total blocks ≤ most
  pub rest : with_more most (total blocks) (turns blocks) (blocks_of words) ≡ turns_asked most all

no_turns : turns [] ≡ []
unfolding turns
no_turns = refl

begun : (most : ℕ) (asked : Option (List Block)) (ts : List ℕ) → ts ≡ [] → with_more most 0 ts asked ≡ option_and_then (turns_within most) asked
begun most None ts none = refl
begun most (Some blocks) ts none =
    let sum : 0 + total blocks ≡ total blocks = omega arith in
    (λ i. if list_all has_turns blocks && nat_le (sum i) most then Some (none i ++ turns blocks) else None)

pub all_left : (most : ℕ) (words : List (List ℕ)) → IsLeft most [] words words
all_left most words = record { few = omega arith; rest = begun most (blocks_of words) (turns []) no_turns }

ended : (most sum : ℕ) (ts : List ℕ) → sum ≤ most → with_more most sum ts (Some []) ≡ Some ts
ended most sum ts few =
    let within : nat_le (sum + 0) most ≡ true = grind arith in
    let all : ts ++ turns [] ≡ ts = ap (λ (l : List ℕ). ts ++ l) no_turns ∙ append-nil ts in
    (λ i. if within i then Some (all i) else None)

pub none_left : (most : ℕ) (blocks : List Block) (words all : List (List ℕ)) → words ≡ [] → IsLeft most blocks words all → Some (turns blocks) ≡ turns_asked most all
none_left most blocks words all none left =
    sym (ended most (total blocks) (turns blocks) left.few) ∙ ap (λ ws. with_more most (total blocks) (turns blocks) (blocks_of ws)) (sym none) ∙ left.rest

pub one_left : (most : ℕ) (blocks : List Block) (cpu : List ℕ) (words all : List (List ℕ)) → words ≡ cpu ∷ [] → IsLeft most blocks words all → None ≡ turns_asked most all
one_left most blocks cpu words all one left = ap (λ ws. with_more most (total blocks) (turns blocks) (blocks_of ws)) (sym one) ∙ left.rest

-- the words of a block and those behind it
module _ (most : ℕ) (old : List Block) (cpu count : List ℕ) (rest words all : List (List ℕ)) (are : words ≡ cpu ∷ count ∷ rest) (left : IsLeft most old words all) where
  next : (block : Option Block) → block_of_numbers (number_of cpu) (number_of count) ≡ block
      → with_more most (total old) (turns old) (in_front block (blocks_of rest)) ≡ turns_asked most all
  next block is =
      ap (λ b. with_more most (total old) (turns old) (in_front b (blocks_of rest))) (sym is)
      ∙ ap (λ ws. with_more most (total old) (turns old) (blocks_of ws)) (sym are) ∙ left.rest

  pub no_block : block_of_numbers (number_of cpu) (number_of count) ≡ None → None ≡ turns_asked most all
  no_block none = next None none

  too_many : (b : Block) (asked : Option (List Block)) → may_be_added most old b ≡ false → None ≡ with_more most (total old) (turns old) (in_front (Some b) asked)
  too_many b None not_added = refl
  too_many b (Some bs) not_added =
      let sum = sum_by-cons (λ (block : Block). block.count) b bs in
      let none : (list_all has_turns (b ∷ bs) && nat_le (total old + total (b ∷ bs)) most) ≡ false = grind (arith, sum, not_added) in
      sym (λ i. if none i then Some (turns old ++ turns (b ∷ bs)) else None)

  pub refused : (b : Block) → block_of_numbers (number_of cpu) (number_of count) ≡ Some b → may_be_added most old b ≡ false → None ≡ turns_asked most all
  refused b is not_added = too_many b (blocks_of rest) not_added ∙ next (Some b) is

  one_more : (b : Block) (asked : Option (List Block)) → has_turns b ≡ true
      → with_more most (total old + b.count) (turns old ++ replicate b.count b.cpu) asked ≡ with_more most (total old) (turns old) (in_front (Some b) asked)
  one_more b None has = refl
  one_more b (Some bs) has =
      let sums = sum_by-cons (λ (block : Block). block.count) b bs in
      let sum : total old + b.count + total bs ≡ total old + total (b ∷ bs) = omega (arith, sums) in
      let same : (turns old ++ replicate b.count b.cpu) ++ turns bs ≡ turns old ++ turns (b ∷ bs) =
      append_assoc (turns old) (replicate b.count b.cpu) (turns bs) ∙ ap (λ (l : List ℕ). turns old ++ l) (sym (turns_first b bs)) in
      let has_all : list_all has_turns bs ≡ list_all has_turns (b ∷ bs) = ap (λ (h : Bool). h && list_all has_turns bs) (sym has) in
      (λ i. if has_all i && nat_le (sum i) most then Some (same i) else None)

  pub added : (b : Block) (new : List Block) → block_of_numbers (number_of cpu) (number_of count) ≡ Some b → IsAdded most old b true new → IsLeft most new rest all
  added b new is (may, more, sum) = record {
    few = grind (arith, may, sum);
    rest = (λ i. with_more most (sum i) (more i) (blocks_of rest)) ∙ one_more b (blocks_of rest) (grind (arith, may)) ∙ next (Some b) is;
  }
