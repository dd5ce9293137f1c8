use Rattle.std.proofs.Common.{arith}
use Rattle.nova_boot.specs.Boot.{scenario_of}
use Rattle.nova_model.specs.Boot.{boot}
use Rattle.nova_order.specs.Blocks.{turns}
use Rattle.nova_policy.proofs.Ran.{none_late}
use Rattle.nova_policy.proofs.decided.told_before.Goals as goal

pub returns-then-sum-from : goal.returns-then-sum-from
returns-then-sum-from c =
    let sum = c.sum.ensures.turns in
    let over = c.if-sum-from.true in
    none_late c.args.policy.now c.args.from (boot (scenario_of c.args.scenario.now)) 0 (turns c.args.order.now.blocks) (omega (arith, sum, over))
