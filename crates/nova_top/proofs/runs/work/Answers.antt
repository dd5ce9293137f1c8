use Rattle.std.proofs.Common.{◌≡◌, arith}
use Rattle.nova_top.proofs.runs.work.Goals as goal

pub run_workers-requires-clause-cpus : goal.run_workers-requires-clause-cpus
run_workers-requires-clause-cpus g c =
    let there : c.in_ok-kernel.kernel.state.cpus ≡ c.args.scenario.now.cpus = c.in_ok-kernel.ensures.cpus in
    let some = c.requires.sound.some_cpu in
    omega arith
