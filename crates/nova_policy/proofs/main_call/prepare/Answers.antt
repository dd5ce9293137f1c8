use Rattle.std.proofs.Common.{◌≡◌, Err, rules}
use Rattle.nova_io.specs.Outside.{depots}
use Rattle.nova_policy.specs.Exit.{of_scenario}
use Rattle.nova_policy.proofs.Answering.{decided, order_unread, policy_unread, scenario_came, scenario_unread}
use Rattle.nova_policy.proofs.main_call.prepare.Goals as goal

pub returns-in_err-scenario : goal.returns-in_err-scenario
returns-in_err-scenario g c =
    let is : c.from_residual.result ≡ Err (of_scenario c.in_err-scenario.field-0.0) = search rules in
    scenario_unread (depots g.D.Depot.files g.D.Depot.gave g.D.Depot.fetch_failed g.D.Depot.fetch_faults g.D.Depot.took g.D.Depot.append_failed g.D.Depot.append_faults) c.args.request.now c.args.depot.now c.load_scenario.new.depot c.as_str.result.now c.in_err-scenario.field-0.0 _ c.as_str.ensures is
    c.in_err-scenario.ensures.loaded

pub returns-in_err-order : goal.returns-in_err-order
returns-in_err-order g c =
    let is : c.from_residual-in_err-order.result ≡ Err c.in_err-order.field-0.0 = search rules in
    order_unread (depots g.D.Depot.files g.D.Depot.gave g.D.Depot.fetch_failed g.D.Depot.fetch_faults g.D.Depot.took g.D.Depot.append_failed g.D.Depot.append_faults) c.args.request.now c.args.depot.now c.load_scenario.new.depot c.fetch_order_if_named.new.depot c.in_ok-scenario.scenario c.in_err-order.field-0.0 _ is
    (scenario_came (depots g.D.Depot.files g.D.Depot.gave g.D.Depot.fetch_failed g.D.Depot.fetch_faults g.D.Depot.took g.D.Depot.append_failed g.D.Depot.append_faults) c.args.request.now c.args.depot.now c.load_scenario.new.depot c.as_str.result.now c.in_ok-scenario.scenario c.as_str.ensures c.in_ok-scenario.ensures.loaded) c.in_err-order.ensures.read

pub returns-in_err-policy : goal.returns-in_err-policy
returns-in_err-policy g c =
    let is : c.from_residual-in_err-policy.result ≡ Err c.in_err-policy.field-0.0 = search rules in
    policy_unread (depots g.D.Depot.files g.D.Depot.gave g.D.Depot.fetch_failed g.D.Depot.fetch_faults g.D.Depot.took g.D.Depot.append_failed g.D.Depot.append_faults) c.args.request.now c.args.depot.now c.load_scenario.new.depot c.fetch_order_if_named.new.depot c.fetch_policy_if_named.new.depot c.in_ok-scenario.scenario c.in_ok-order.order c.in_err-policy.field-0.0 _ is
    (scenario_came (depots g.D.Depot.files g.D.Depot.gave g.D.Depot.fetch_failed g.D.Depot.fetch_faults g.D.Depot.took g.D.Depot.append_failed g.D.Depot.append_faults) c.args.request.now c.args.depot.now c.load_scenario.new.depot c.as_str.result.now c.in_ok-scenario.scenario c.as_str.ensures c.in_ok-scenario.ensures.loaded) c.in_ok-order.ensures.read c.in_err-policy.ensures.read

pub returns : goal.returns
returns g c =
    decided (depots g.D.Depot.files g.D.Depot.gave g.D.Depot.fetch_failed g.D.Depot.fetch_faults g.D.Depot.took g.D.Depot.append_failed g.D.Depot.append_faults) c.args.request.now c.args.depot.now c.load_scenario.new.depot c.fetch_order_if_named.new.depot c.fetch_policy_if_named.new.depot c.in_ok-scenario.scenario c.in_ok-order.order c.in_ok-policy.policy c.decide.result
    (scenario_came (depots g.D.Depot.files g.D.Depot.gave g.D.Depot.fetch_failed g.D.Depot.fetch_faults g.D.Depot.took g.D.Depot.append_failed g.D.Depot.append_faults) c.args.request.now c.args.depot.now c.load_scenario.new.depot c.as_str.result.now c.in_ok-scenario.scenario c.as_str.ensures c.in_ok-scenario.ensures.loaded) c.in_ok-order.ensures.read c.in_ok-policy.ensures.read c.decide.ensures
