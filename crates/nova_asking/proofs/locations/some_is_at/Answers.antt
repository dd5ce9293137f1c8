use Rattle.std.proofs.Common.{◌∙◌, rules}
use Rattle.nova_asking.specs.Locations.{is_at}
use Rattle.nova_asking.proofs.Ranges.{any_more}
use Rattle.nova_asking.proofs.locations.some_is_at.Goals as goal

pub loop-cpu-preserved : goal.loop-cpu-preserved
loop-cpu-preserved c =
    any_more (is_at c.args.kernel.now.state c.args.location) c.loop-cpu.cpu c.args.kernel.now.state.cpus (search rules) (search rules)
    ∙ c.loop-cpu.invariant
