use Rattle.std.proofs.Common.{◌∙◌, rules}
use Rattle.std.specs.Prelude.{ℕ, ◌&&◌}
use Rattle.nova_asking.specs.Locations.{another_is_at, is_at}
use Rattle.nova_asking.proofs.Ranges.{any_more}
use Rattle.nova_asking.proofs.locations.two_are_at.Goals as goal

pub loop-cpu-preserved : goal.loop-cpu-preserved
loop-cpu-preserved c =
    any_more (λ (cpu : ℕ). is_at c.args.kernel.now.state c.args.first cpu && another_is_at c.args.kernel.now.state c.args.second cpu) c.loop-cpu.cpu c.args.kernel.now.state.cpus (search rules) (search rules)
    ∙ c.loop-cpu.invariant
