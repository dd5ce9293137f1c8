use Rattle.std.proofs.Common.{◌≡◌, sym, subst, IfErr, Result, rules}
use Rattle.nova_model.specs.Boot.{boot}
use Rattle.nova_boot.specs.Boot.{scenario_of}
use Rattle.nova_order.specs.Blocks.{IsOrder}
use Rattle.std.proofs.lemmas.Result.{err_from_is_err_and}
use Rattle.nova_answers.specs.declared.exit.Exit.{Exit}
use Rattle.nova_answers.specs.declared.exit.Exit.TheVariants.{Memory}
use Rattle.nova_answers.specs.declared.outcome.Outcome.{Outcome}
use Rattle.nova_answers.proofs.Reports.{together_from}
use Rattle.nova_top.proofs.runs.run_together.Goals as goal

pub returns-clause-run : goal.returns-clause-run
returns-clause-run g c =
    let sound : IsOrder c.in_ok-finished.finished.order.blocks = search rules in
    together_from (boot (scenario_of c.args.scenario.now)) c.args.limit c.in_ok-finished.finished c.in_ok-recorded.field-0
    c.in_ok-finished.ensures.finished c.in_ok-finished.ensures.out c.in_ok-recorded.ensures.text c.in_ok-recorded.ensures.quiet
    sound c.in_ok-recorded.ensures.order

pub returns-in_err-recorded-clause-memory : goal.returns-in_err-recorded-clause-memory
returns-in_err-recorded-clause-memory g c =
    let p = err_from_is_err_and c.from_residual-in_err-recorded.result c.from_residual-in_err-recorded.ensures.1 in
    subst (λ (r : Result Outcome Exit). IfErr r (λ exit. exit ≡ Memory)) (sym p.1) p.2
