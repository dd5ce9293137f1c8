use Rattle.std.proofs.Common.{◌≡◌, ◌∙◌, ap, arith}
use Rattle.nova_model.specs.Runs.{rounds}
use Rattle.nova_kernel.specs.Views.{KernelView}
use Rattle.nova_boot.specs.Boot.{scenario_of}
use Rattle.nova_boot.proofs.Started.{boot_turns}
use Rattle.nova_debug.proofs.Made.{done_from}
use Rattle.nova_debug.proofs.making.run_rounds.Goals as goal

pub round_robin-requires-clause-turns : goal.round_robin-requires-clause-turns
round_robin-requires-clause-turns c =
    let none : c.in_ok-kernel.kernel.state.turns ≡ 0 =
    ap (λ (k : KernelView). k.state.turns) c.in_ok-kernel.ensures ∙ boot_turns (scenario_of c.args.scenario.now) in
    let most : c.from-most.result ≡ c.args.limit = c.from-most.ensures in
    let few = c.requires.limit in
    omega arith

pub new-requires : goal.new-requires
new-requires c =
    let k = c.in_ok-kernel.kernel.state in
    let none : k.turns ≡ 0 = ap (λ (v : KernelView). v.state.turns) c.in_ok-kernel.ensures ∙ boot_turns (scenario_of c.args.scenario.now) in
    let most : c.from-most.result ≡ c.args.limit = c.from-most.ensures in
    let few = c.requires.limit in
    let out = c.round_robin_runs_out.ensures k c.from-most.result in
    let within = out.within in
    done_from k _ (rounds k c.from-most.result) c.from-most.result c.in_ok-run.ensures.finished out.no_idle out.processors (omega arith)
