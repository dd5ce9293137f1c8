-- What a finished run is, and where an order is idle first.
use Rattle.std.specs.Prelude.{◌≡◌, ℕ, ◌+◌, List, [], ◌∷◌, ◌++◌, length}
use Rattle.nova_model.specs.State.{KernelState}
use Rattle.nova_model.specs.Runs.{IsFreeOfIdle, run, trace}
use Rattle.nova_order.specs.Blocks.{turns}
use Rattle.nova_order.specs.declared.block.Block.{Block}
use Rattle.nova_finished.specs.declared.finished.Finished.{Finished}

-- a finished run from a state, of these turns
pub record IsFinished (k : KernelState) (list : List ℕ) (most : ℕ) (f : Finished) : Type 0 where
  pub opening : f.opening.state ≡ k
  pub kernel : f.kernel.state ≡ run k list
  pub order : turns f.order.blocks ≡ list
  pub trace : f.trace.items ≡ trace k list
  pub limit : f.limit ≡ most

-- the first idle turn of an order is one of the block of this line, counted from 1
pub record IsIdleLine (k : KernelState) (blocks : List Block) (line : ℕ) : Type 0 where
  pub before : List Block
  pub block : Block
  pub after : List Block
  pub whole : before ++ block ∷ after ≡ blocks
  pub number : line ≡ length before + 1
  pub free : IsFreeOfIdle k (turns before)
  pub idle : IsFreeOfIdle (run k (turns before)) (turns (block ∷ [])) → ⊥
