use Rattle.std.proofs.Common.{◌≡◌, rules}
use Rattle.nova_io.specs.Outside.{depots}
use Rattle.nova_policy.specs.Exit.{of_order}
use Rattle.nova_policy.proofs.Loaded.{order_read, order_unread}
use Rattle.nova_policy.proofs.fetched.fetch_order.Goals as goal

pub returns-in-Ok-clause-read : goal.returns-in-Ok-clause-read
returns-in-Ok-clause-read g c = order_read (depots g.D.Depot.files g.D.Depot.gave g.D.Depot.fetch_failed g.D.Depot.fetch_faults g.D.Depot.took g.D.Depot.append_failed g.D.Depot.append_faults) c.args.name.now c.args.cpus c.args.depot.now c.load_order.new.depot c.as_str.result.now c.in-Ok.order.blocks c.as_str.ensures c.in-Ok.ensures.loaded

pub returns-in-Err-clause-read : goal.returns-in-Err-clause-read
returns-in-Err-clause-read g c =
    let is : c.from.result ≡ of_order c.in-Err.unread = search rules in
    order_unread (depots g.D.Depot.files g.D.Depot.gave g.D.Depot.fetch_failed g.D.Depot.fetch_faults g.D.Depot.took g.D.Depot.append_failed g.D.Depot.append_faults) c.args.name.now c.args.cpus c.args.depot.now c.load_order.new.depot c.as_str.result.now c.in-Err.unread c.from.result c.as_str.ensures is c.in-Err.ensures.loaded
