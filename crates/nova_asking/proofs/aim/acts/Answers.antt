use Rattle.std.proofs.Common.{◌∙◌, rules}
use Rattle.nova_asking.specs.Hangs.{acts_on}
use Rattle.nova_asking.proofs.Ranges.{any_more}
use Rattle.nova_asking.proofs.aim.acts.Goals as goal

pub loop-cpu-preserved : goal.loop-cpu-preserved
loop-cpu-preserved c =
    any_more (acts_on c.args.ec c.args.kernel.now.state) c.loop-cpu.cpu c.args.kernel.now.state.cpus (search rules) (search rules)
    ∙ c.loop-cpu.invariant
