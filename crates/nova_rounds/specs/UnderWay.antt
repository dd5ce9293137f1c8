-- Parts of a run: of a round robin, and along an order.
use Rattle.std.specs.Prelude.{◌≡◌, ℕ, List, [], ◌++◌}
use Rattle.nova_model.specs.Runs.{IsFreeOfIdle}
use Rattle.nova_model.specs.State.{KernelState}
use Rattle.nova_order.specs.Blocks.{turns}
use Rattle.nova_order.specs.declared.block.Block.{Block}
use Rattle.nova_finished.specs.Finished.{IsFinished}
use Rattle.nova_finished.specs.UnderWay.{IsReady, Passed}
use Rattle.nova_finished.specs.declared.finished.Finished.{Finished}

-- turns of a part of a run: those that were taken, which with those that are left make all, in the places that there were for events
pub record IsUnderWay (old new : Finished) (rest all : List ℕ) : Type 0 where
  pub done : List ℕ
  pub passed : Passed old done new
  pub whole : done ++ rest ≡ all
  pub places : new.trace.capacity ≡ old.trace.capacity

-- a run from a state along these blocks, with no idle turn
pub record IsAlong (k : KernelState) (most : ℕ) (f : Finished) (blocks : List Block) : Type 0 where
  pub finished : IsFinished k (turns blocks) most f
  pub ready : IsReady f
  pub free : IsFreeOfIdle k (turns blocks)

-- a run that has taken no turn, from the state in which it is
pub record IsBegun (f : Finished) : Type 0 where
  pub finished : IsFinished f.kernel.state [] f.limit f
  pub ready : IsReady f
