use Rattle.std.proofs.Common.{◌≡◌, ℕ, Bool, rules, sym, subst}
use Rattle.nova_boot.specs.Boot.{scenario_of}
use Rattle.nova_model.specs.Boot.{boot}
use Rattle.nova_order.specs.Blocks.{turns}
use Rattle.nova_policy.specs.Runs.{IsAnsweredOn, IsDecidedOn}
use Rattle.nova_policy.proofs.Ran.{without_flows}
use Rattle.nova_policy.proofs.decided.told_with.Goals as goal

pub returns-else-flow : goal.returns-else-flow
returns-else-flow c =
    let k = boot (scenario_of c.args.scenario.now) in
    let list = turns c.args.run.now.order.blocks in
    let same : c.from.result ≡ c.args.from = search rules in
    subst (λ (flow : Bool). IsAnsweredOn k list c.args.policy.now c.args.from flow c.told_on.result) (sym c.if-flow.false)
    (without_flows k list c.args.policy.now c.args.from c.told_on.result (subst (λ (n : ℕ). IsDecidedOn k list c.args.policy.now n c.told_on.result) same c.told_on.ensures))
