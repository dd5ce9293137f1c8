use Rattle.std.proofs.Common.{◌≡◌, ◌∙◌, ap, arith}
use Rattle.nova_kernel.specs.Views.{KernelView}
use Rattle.nova_boot.specs.Boot.{scenario_of}
use Rattle.nova_boot.proofs.Started.{boot_cpus, boot_turns}
use Rattle.nova_example.proofs.run.Goals as goal

pub tell-requires-clause-cpu : goal.tell-requires-clause-cpu
tell-requires-clause-cpu c =
    let there : c.in_ok-kernel.kernel.state.cpus ≡ c.args.scenario.now.cpus =
    ap (λ (k : KernelView). k.state.cpus) c.in_ok-kernel.ensures ∙ boot_cpus (scenario_of c.args.scenario.now) in
    let some = c.requires.some_cpu in
    omega arith

pub tell-requires-clause-turns : goal.tell-requires-clause-turns
tell-requires-clause-turns c =
    let none : c.in_ok-kernel.kernel.state.turns ≡ 0 =
    ap (λ (k : KernelView). k.state.turns) c.in_ok-kernel.ensures ∙ boot_turns (scenario_of c.args.scenario.now) in
    omega arith
