use Rattle.std.proofs.Common.{ap}
use Rattle.nova_kernel.specs.Views.{KernelView}
use Rattle.nova_boot.specs.Boot.{scenario_of}
use Rattle.nova_asking.proofs.scenarios.opening.Goals as goal

pub begin-vertex-requires : goal.begin-vertex-requires
begin-vertex-requires c = record { scenario = scenario_of c.args.scenario.now; is = ap (λ (k : KernelView). k.state) c.in_ok-kernel.ensures }
