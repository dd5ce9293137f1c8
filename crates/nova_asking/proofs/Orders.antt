-- An order that is made turn by turn.
use Rattle.std.proofs.Common.{◌≡◌, ◌∙◌, ℕ, ◌+◌, ◌<◌, List, [], ◌∷◌, ◌++◌, length, take, refl, ap, sym, arith}
use Rattle.std.specs.Prelude.{slice_index_or, replicate}
use Rattle.nova_order.specs.Blocks.{IsOrder, turns}
use Rattle.nova_order.specs.declared.block.Block.{Block}
use Rattle.std.proofs.lemmas.List.{take_more}

pub no_turns : turns [] ≡ []
unfolding turns
no_turns = refl

pub no_blocks : IsOrder []
no_blocks = record { counted = grind arith; merged = grind arith; fits = omega arith }

pub one_turn : (old new : List Block) (path : List ℕ) (i cpu : ℕ) → turns old ≡ take i path → i < length path → cpu ≡ slice_index_or path i 0 →
    turns new ≡ turns old ++ replicate 1 cpu → turns new ≡ take (i + 1) path
one_turn old new path i cpu so_far less is more =
    more ∙ ap (λ (l : List ℕ). l ++ cpu ∷ []) so_far ∙ ap (λ (c : ℕ). take i path ++ c ∷ []) is ∙ sym (take_more path i 0 less)
