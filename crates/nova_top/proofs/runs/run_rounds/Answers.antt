use Rattle.std.proofs.Common.{◌≡◌, ap, rules}
use Rattle.nova_kernel.specs.Views.{KernelView}
use Rattle.nova_model.specs.Boot.{boot}
use Rattle.nova_boot.specs.Boot.{scenario_of}
use Rattle.nova_answers.proofs.Reports.{rounds_from, rounds_spent}
use Rattle.nova_top.proofs.runs.run_rounds.Goals as goal

pub returns-clause-report : goal.returns-clause-report
returns-clause-report c =
    let s = scenario_of c.args.scenario.now in
    let begun : c.in_ok-kernel.kernel.state ≡ boot s = ap (λ (k : KernelView). k.state) c.in_ok-kernel.ensures.kernel in
    let same : c.from-most.result ≡ c.args.limit = search rules in
    rounds_from s c.args.limit c.from-most.result c.in_ok-kernel.kernel.state c.in_ok-finished.finished c.in_ok-closed.field-0 begun same
    c.in_ok-finished.ensures.finished (c.round_robin_runs_out.ensures (boot s) c.args.limit) c.in_ok-closed.ensures.text c.in_ok-closed.ensures.quiet

pub returns-clause-spent : goal.returns-clause-spent
returns-clause-spent c =
    let s = scenario_of c.args.scenario.now in
    let begun : c.in_ok-kernel.kernel.state ≡ boot s = ap (λ (k : KernelView). k.state) c.in_ok-kernel.ensures.kernel in
    let same : c.from-most.result ≡ c.args.limit = search rules in
    rounds_spent s c.args.limit c.from-most.result c.in_ok-kernel.kernel.state c.in_ok-finished.finished c.in_ok-closed.field-0 begun same
    c.in_ok-finished.ensures.finished (c.round_robin_runs_out.ensures (boot s) c.args.limit) c.in_ok-closed.ensures.quiet
