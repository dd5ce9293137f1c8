-- What always holds of a run that is shared.
use Rattle.std.specs.Prelude.{◌≡◌}
use Rattle.nova_model.specs.Runs.{IsFreeOfIdle, run, trace}
use Rattle.nova_order.specs.Blocks.{turns}
use Rattle.nova_finished.specs.UnderWay.{IsReady, HasRoom}
use Rattle.nova_finished.specs.declared.finished.Finished.{Finished}

-- the kernel is the run of the opening over the order, none of whose turns is idle, and the trace is that run's; there is room for as many
-- turns as there may be
pub record IsSharedRun (f : Finished) : Type 0 where
  pub kernel : f.kernel.state ≡ run f.opening.state (turns f.order.blocks)
  pub trace : f.trace.items ≡ trace f.opening.state (turns f.order.blocks)
  pub no_idle : IsFreeOfIdle f.opening.state (turns f.order.blocks)
  pub ready : IsReady f
  pub room : HasRoom f
