use Rattle.std.proofs.Common.{◌≡◌, ap, sym, subst, IfErr, Result, rules}
use Rattle.std.proofs.lemmas.Result.{err_from_is_err_and}
use Rattle.nova_kernel.specs.Views.{KernelView}
use Rattle.nova_model.specs.Boot.{boot}
use Rattle.nova_model.specs.State.{KernelState}
use Rattle.nova_boot.specs.Boot.{scenario_of}
use Rattle.nova_answers.specs.Prepared.{IsIdleFault}
use Rattle.nova_answers.specs.declared.exit.Exit.{Exit}
use Rattle.nova_answers.specs.declared.outcome.Outcome.{Outcome}
use Rattle.nova_answers.proofs.Reports.{reported_from}
use Rattle.nova_top.proofs.runs.run_in_order.Goals as goal

pub returns-clause-report : goal.returns-clause-report
returns-clause-report c =
    let begun : c.in_ok-kernel.kernel.state ≡ boot (scenario_of c.args.scenario.now) = ap (λ (k : KernelView). k.state) c.in_ok-kernel.ensures.kernel in
    let same : c.from-most.result ≡ c.args.limit = search rules in
    reported_from (scenario_of c.args.scenario.now) c.args.limit c.from-most.result c.in_ok-kernel.kernel.state c.args.order.now.blocks c.in_ok-finished.finished c.in_ok-closed.field-0
    begun same c.in_ok-finished.ensures.finished c.in_ok-closed.ensures.text c.in_ok-closed.ensures.quiet c.in_ok-finished.ensures.no_idle c.requires.within

pub returns-in_err-closed-clause-idle : goal.returns-in_err-closed-clause-idle
returns-in_err-closed-clause-idle c =
    let k : KernelState = boot (scenario_of c.args.scenario.now) in
    let p = err_from_is_err_and c.from_residual-in_err-closed.result c.from_residual-in_err-closed.ensures.1 in
    subst (λ (r : Result Outcome Exit). IfErr r (IsIdleFault k c.args.order.now)) (sym p.1)
    (subst (λ (e : Exit). IsIdleFault k c.args.order.now e) (sym p.2) tt)
