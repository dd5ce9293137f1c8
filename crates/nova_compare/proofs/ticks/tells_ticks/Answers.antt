use Rattle.std.proofs.Common.{refl}
use Rattle.law_alike.specs.Alike.{TellsNoTicks}
use Rattle.nova_compare.proofs.Places.{below_none, below_on}
use Rattle.nova_compare.proofs.ticks.tells_ticks.Goals as goal

pub loop-cpu-init : goal.loop-cpu-init
loop-cpu-init c = below_none _

pub loop-cpu-preserved : goal.loop-cpu-preserved
loop-cpu-preserved c = below_on (TellsNoTicks c.args.kernel.now.state) c.loop-cpu.cpu c.loop-cpu.invariant (c.if-tells_ticks_on.ensures refl)
