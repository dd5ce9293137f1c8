use Rattle.std.proofs.Common.{◌≡◌, ℕ, List, Err, rules, string_bytes, subst}
use Rattle.nova_boot.specs.Boot.{scenario_of}
use Rattle.nova_model.specs.Boot.{boot}
use Rattle.nova_order.specs.Blocks.{turns}
use Rattle.nova_policy.specs.Flows.{HasLines}
use Rattle.nova_policy.proofs.Flowing.{flowing, unflowing}
use Rattle.nova_policy.proofs.decided.told_flowing.Goals as goal

pub returns-in_err-told : goal.returns-in_err-told
returns-in_err-told c =
    let is : c.from_residual.result ≡ Err c.in_err-told.field-0.0 = search rules in
    unflowing (boot (scenario_of c.args.scenario.now)) (turns c.args.run.now.order.blocks) c.args.policy.now c.args.from c.args.lapses.now c.in_err-told.field-0.0 _ is c.in_err-told.ensures

pub returns : goal.returns
returns c =
    let same : c.deref.result.now ≡ string_bytes c.in_ok-lines.lines = search rules in
    flowing (boot (scenario_of c.args.scenario.now)) c.args.run.now.kernel.state (turns c.args.run.now.order.blocks) c.args.policy.now c.args.from c.args.lapses.now
    c.in_ok-told.told c.in_ok-with_lines.field-0 _ c.requires.run.state c.in_ok-told.ensures c.in_ok-lines.ensures
    (subst (λ (l : List ℕ). HasLines c.in_ok-told.told l c.in_ok-with_lines.field-0) same c.in_ok-with_lines.ensures)
