-- The states that a kernel comes to.
use Rattle.std.specs.Prelude.{◌≡◌, ℕ, List}
use Rattle.nova_model.specs.Boot.{Scenario, boot}
use Rattle.nova_model.specs.Runs.{run}
use Rattle.nova_model.specs.State.{KernelState}

-- the state is what some turns, of whatever processors, make of the boot state of some scenario
pub record IsReachable (k : KernelState) : Type 0 where
  pub scenario : Scenario
  pub before : List ℕ
  pub is : k ≡ run (boot scenario) before
