use Rattle.std.proofs.Common.{◌∙◌, rules}
use Rattle.nova_asking.specs.Stores.{stores_on, stores_to}
use Rattle.nova_asking.proofs.Ranges.{any_more}
use Rattle.nova_asking.proofs.stores.some_stores.Goals as goal

pub loop-cpu-preserved : goal.loop-cpu-preserved
loop-cpu-preserved c =
    any_more (stores_on c.args.kernel.now.state (stores_to c.args.frame c.args.first c.args.last)) c.loop-cpu.cpu c.args.kernel.now.state.cpus (search rules) (search rules)
    ∙ c.loop-cpu.invariant
