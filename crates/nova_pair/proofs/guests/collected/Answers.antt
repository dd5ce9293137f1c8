use Rattle.std.proofs.Common.{◌≡◌, Result, Err, IfErr, ap, sym, subst, rules}
use Rattle.std.proofs.lemmas.Result.{err_from_is_err_and}
use Rattle.std.specs.Prelude.{Option}
use Rattle.nova_kernel.specs.Views.{KernelView}
use Rattle.nova_model.specs.Boot.{boot}
use Rattle.nova_boot.specs.Boot.{scenario_of}
use Rattle.nova_twin.specs.Sides.{IsBeginning}
use Rattle.nova_twin.specs.declared.side.Side.{Side}
use Rattle.nova_answers.specs.Prepared.{IsIdleFault}
use Rattle.nova_answers.specs.declared.exit.Exit.{Exit}
use Rattle.nova_pair.proofs.Twins.{begins_at, idle_from}
use Rattle.nova_pair.proofs.guests.collected.Goals as goal

pub collect-requires-clause-begins : goal.collect-requires-clause-begins
collect-requires-clause-begins c =
    let begun : c.in_ok-kernel.kernel.state ≡ boot (scenario_of c.args.scenario.now) = ap (λ (k : KernelView). k.state) c.in_ok-kernel.ensures.kernel in
    subst IsBeginning (sym begun) (begins_at c.args.scenario.now c.requires.sound)

pub returns-in_err-collect-clause-idle : goal.returns-in_err-collect-clause-idle
returns-in_err-collect-clause-idle c =
    let begun : c.in_ok-kernel.kernel.state ≡ boot (scenario_of c.args.scenario.now) = ap (λ (k : KernelView). k.state) c.in_ok-kernel.ensures.kernel in
    let is : c.collect.result ≡ Err c.in_err-collect.field-0.0 = search rules in
    let p = err_from_is_err_and c.from_residual-in_err-collect.result c.from_residual-in_err-collect.ensures.1 in
    subst (λ (r : Result (Option Side) Exit). IfErr r (IsIdleFault (boot (scenario_of c.args.scenario.now)) c.args.order.now)) (sym p.1)
    (subst (λ (e : Exit). IsIdleFault (boot (scenario_of c.args.scenario.now)) c.args.order.now e) (sym p.2)
    (idle_from (scenario_of c.args.scenario.now) c.in_ok-kernel.kernel.state c.args.order.now c.in_err-collect.field-0.0 c.collect.result begun is c.collect.ensures.idle))
