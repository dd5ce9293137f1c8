use Rattle.std.proofs.Common.{◌≡◌, Err, rules}
use Rattle.nova_io.specs.Outside.{depots}
use Rattle.nova_explore.specs.Exit.{of_scenario}
use Rattle.nova_explore.proofs.Answering.{explored, unread}
use Rattle.nova_explore.proofs.main_call.prepare.Goals as goal

pub returns-in_err-scenario-clause-prepared : goal.returns-in_err-scenario-clause-prepared
returns-in_err-scenario-clause-prepared g c =
    let is : c.from_residual.result ≡ Err (of_scenario c.in_err-scenario.field-0.0) = search rules in
    unread (depots g.D.Depot.files g.D.Depot.gave g.D.Depot.fetch_failed g.D.Depot.fetch_faults g.D.Depot.took g.D.Depot.append_failed g.D.Depot.append_faults) c.args.request.now c.args.depot.now c.load_scenario.new.depot c.as_str.result.now c.in_err-scenario.field-0.0 _ c.as_str.ensures is c.in_err-scenario.ensures.loaded

pub returns-clause-prepared : goal.returns-clause-prepared
returns-clause-prepared g c =
    explored (depots g.D.Depot.files g.D.Depot.gave g.D.Depot.fetch_failed g.D.Depot.fetch_faults g.D.Depot.took g.D.Depot.append_failed g.D.Depot.append_faults) c.args.request.now c.args.depot.now c.load_scenario.new.depot c.as_str.result.now c.in_ok-scenario.scenario c.tell.result
    c.as_str.ensures c.in_ok-scenario.ensures.loaded c.tell.ensures
