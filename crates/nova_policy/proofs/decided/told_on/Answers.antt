use Rattle.std.proofs.Common.{Option, subst}
use Rattle.nova_boot.specs.Boot.{scenario_of}
use Rattle.nova_judging.specs.declared.answer.Told.{Told}
use Rattle.nova_model.specs.Boot.{boot}
use Rattle.nova_order.specs.Blocks.{turns}
use Rattle.nova_policy.specs.Runs.{IsToldBefore}
use Rattle.nova_policy.proofs.Ran.{told_last}
use Rattle.nova_policy.proofs.decided.told_on.Goals as goal

pub returns-in_ok-told_of-in-None : goal.returns-in_ok-told_of-in-None
returns-in_ok-told_of-in-None c =
    told_last (boot (scenario_of c.args.scenario.now)) c.args.run.now.kernel.state (turns c.args.run.now.order.blocks) c.args.policy.now c.args.from c.requires.run.no_idle c.requires.run.state
    c.in_ok-told_of-in-None.field-0 c.in_ok-check_names.ensures
    (subst (λ (r : Option Told). IsToldBefore (boot (scenario_of c.args.scenario.now)) (turns c.args.run.now.order.blocks) c.args.policy.now c.args.from r) c.in-None.is c.in_ok-told.ensures)
    c.in_ok-told_of-in-None.ensures
