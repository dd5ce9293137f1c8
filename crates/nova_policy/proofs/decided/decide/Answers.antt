use Rattle.std.proofs.Common.{rules, ◌≡◌, Err, refl}
use Rattle.nova_boot.specs.Boot.{scenario_of}
use Rattle.nova_model.specs.Boot.{boot}
use Rattle.nova_policy.proofs.Ran.{decided_by, stops_by, taken_by}
use Rattle.nova_policy.proofs.decided.decide.Goals as goal

pub returns-in_err-run : goal.returns-in_err-run
returns-in_err-run c =
    let is : c.from_residual.result ≡ Err c.in_err-run.field-0.0 = search rules in
    stops_by (boot (scenario_of c.args.scenario.now)) c.args.order.now c.args.policy.now c.args.span c.args.flow c.in_err-run.field-0.0 _ is c.in_err-run.ensures.idle

pub told_with-told-requires-clause-run : goal.told_with-told-requires-clause-run
told_with-told-requires-clause-run c = taken_by (boot (scenario_of c.args.scenario.now)) _ c.in_ok-run.run' c.in_ok-run.ensures.run

pub returns : goal.returns
returns c =
    decided_by (boot (scenario_of c.args.scenario.now)) c.args.order.now c.args.policy.now c.args.span c.args.flow c.in_ok-run.run' c.args.span.from _ c.in_ok-run.ensures.run refl c.told_with-told.ensures
