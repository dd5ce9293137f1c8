use Rattle.std.proofs.Common.{◌≡◌, ◌≤◌, rules, take}
use Rattle.nova_model.specs.Boot.{boot}
use Rattle.nova_boot.specs.Boot.{scenario_of}
use Rattle.nova_order.specs.Blocks.{IsOrder, total, turns}
use Rattle.nova_policy.proofs.FirstTurns.{first_within}
use Rattle.nova_policy.proofs.Ran.{ran_by, stopped_by}
use Rattle.nova_policy.proofs.running.run_along.Goals as goal

pub run_first-requires-clause-within : goal.run_first-requires-clause-within
run_first-requires-clause-within c =
    let whole : IsOrder c.args.order.now.blocks = search rules in
    let part : IsOrder c.in_ok-first.first.blocks = search rules in
    let is : turns c.in_ok-first.first.blocks ≡ take c.args.at (turns c.args.order.now.blocks) = search rules in
    let few : total c.in_ok-first.first.blocks ≤ c.args.at = search rules in
    first_within c.args.scenario.now.cpus 10000000 c.args.at c.args.order.now.blocks c.in_ok-first.first.blocks
    (c.bounds_are_of_turns.ensures c.args.scenario.now.cpus 10000000 c.args.order.now.blocks whole)
    (c.bounds_are_of_turns.ensures c.args.scenario.now.cpus c.args.at c.in_ok-first.first.blocks part) is few c.requires.within

pub returns-clause-run : goal.returns-clause-run
returns-clause-run c =
    let is : turns c.in_ok-first.first.blocks ≡ take c.args.at (turns c.args.order.now.blocks) = search rules in
    ran_by (boot (scenario_of c.args.scenario.now)) c.args.order.now c.in_ok-first.first.blocks c.args.at _ is c.run_first.ensures.run

pub returns-clause-idle : goal.returns-clause-idle
returns-clause-idle c =
    let part : IsOrder c.in_ok-first.first.blocks = search rules in
    let is : turns c.in_ok-first.first.blocks ≡ take c.args.at (turns c.args.order.now.blocks) = search rules in
    stopped_by (boot (scenario_of c.args.scenario.now)) c.args.order.now c.in_ok-first.first.blocks c.args.at _ part is c.run_first.ensures.idle
