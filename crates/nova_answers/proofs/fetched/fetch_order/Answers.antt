use Rattle.std.proofs.Common.{◌≡◌, rules, false}
use Rattle.nova_io.specs.Outside.{depots}
use Rattle.nova_loading.specs.Came.{most_of_order}
use Rattle.nova_answers.specs.Exit.{of_order}
use Rattle.nova_answers.proofs.Loaded.{fetched, order_read, order_tried, order_unread}
use Rattle.nova_answers.proofs.fetched.fetch_order.Goals as goal

pub returns-in-Ok-clause-read : goal.returns-in-Ok-clause-read
returns-in-Ok-clause-read g c = order_read (depots g.D.Depot.files g.D.Depot.gave g.D.Depot.fetch_failed g.D.Depot.fetch_faults g.D.Depot.took g.D.Depot.append_failed g.D.Depot.append_faults) c.args.name.now c.args.depot.now c.load_order.new.depot c.as_str.result.now c.args.cpus c.args.most c.in-Ok.order.blocks c.as_str.ensures c.in-Ok.ensures.loaded

pub returns-in-Ok-clause-fetches : goal.returns-in-Ok-clause-fetches
returns-in-Ok-clause-fetches g c = fetched (depots g.D.Depot.files g.D.Depot.gave g.D.Depot.fetch_failed g.D.Depot.fetch_faults g.D.Depot.took g.D.Depot.append_failed g.D.Depot.append_faults) c.args.name.now c.args.depot.now c.load_order.new.depot c.as_str.result.now most_of_order false c.as_str.ensures c.in-Ok.ensures.fetches

pub returns-in-Err-clause-read : goal.returns-in-Err-clause-read
returns-in-Err-clause-read g c =
    let is : c.from.result ≡ of_order c.in-Err.unread = search rules in
    order_unread (depots g.D.Depot.files g.D.Depot.gave g.D.Depot.fetch_failed g.D.Depot.fetch_faults g.D.Depot.took g.D.Depot.append_failed g.D.Depot.append_faults) c.args.name.now c.args.depot.now c.load_order.new.depot c.as_str.result.now c.args.cpus c.args.most c.in-Err.unread c.from.result c.as_str.ensures is c.in-Err.ensures.loaded

pub returns-in-Err-clause-fetches : goal.returns-in-Err-clause-fetches
returns-in-Err-clause-fetches g c =
    let is : c.from.result ≡ of_order c.in-Err.unread = search rules in
    order_tried (depots g.D.Depot.files g.D.Depot.gave g.D.Depot.fetch_failed g.D.Depot.fetch_faults g.D.Depot.took g.D.Depot.append_failed g.D.Depot.append_faults) c.args.name.now c.args.depot.now c.load_order.new.depot c.as_str.result.now most_of_order c.in-Err.unread c.from.result c.as_str.ensures is c.in-Err.ensures.fetches
