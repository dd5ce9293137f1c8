use Rattle.std.proofs.Common.{◌≡◌, ap, ◌∙◌, arith, rules}
use Rattle.nova_kernel.specs.Views.{KernelView}
use Rattle.nova_model.specs.Boot.{boot}
use Rattle.nova_boot.specs.Boot.{scenario_of}
use Rattle.nova_boot.proofs.Started.{boot_turns}
use Rattle.nova_policy.proofs.Ran.{by_rounds}
use Rattle.nova_policy.proofs.running.run_rounds.Goals as goal

pub round_robin-requires-clause-turns : goal.round_robin-requires-clause-turns
round_robin-requires-clause-turns c =
    let none : c.in_ok-kernel.kernel.state.turns ≡ 0 = ap (λ (k : KernelView). k.state.turns) c.in_ok-kernel.ensures ∙ boot_turns (scenario_of c.args.scenario.now) in
    let same : c.from-most.result ≡ c.args.at = search rules in
    let last = c.requires.last in
    omega arith

pub returns-clause-run : goal.returns-clause-run
returns-clause-run c =
    let s = scenario_of c.args.scenario.now in
    let begun : c.in_ok-kernel.kernel.state ≡ boot s = ap (λ (k : KernelView). k.state) c.in_ok-kernel.ensures in
    let same : c.from-most.result ≡ c.args.at = search rules in
    by_rounds s c.args.at c.from-most.result c.in_ok-kernel.kernel.state _ c.requires.last begun same c.in_ok-round_robin.ensures.finished (c.round_robin_runs_out.ensures (boot s) c.args.at)
