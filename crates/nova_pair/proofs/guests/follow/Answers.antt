use Rattle.std.proofs.Common.{◌≡◌, ℕ, subst, Err, rules}
use Rattle.nova_io.specs.Outside.{depots}
use Rattle.nova_loading.specs.Came.{OrderCame}
use Rattle.nova_answers.specs.Prepared.{IsOrderReadBy}
use Rattle.nova_pair.proofs.Twins.{unread_by, followed_by}
use Rattle.nova_pair.proofs.guests.follow.Goals as goal

pub returns-in_err-order-clause-followed : goal.returns-in_err-order-clause-followed
returns-in_err-order-clause-followed g c =
    let same : c.from.result ≡ c.args.limit = search rules in
    let is : c.from_residual-in_err-order.result ≡ Err c.in_err-order.field-0.0 = search rules in
    unread_by (depots g.D.Depot.files g.D.Depot.gave g.D.Depot.fetch_failed g.D.Depot.fetch_faults g.D.Depot.took g.D.Depot.append_failed g.D.Depot.append_faults) c.args.subject.now c.in_ok-scenario.scenario c.args.limit c.args.depot.now c.fetch_scenario.new.depot c.fetch_order.new.depot
    c.in_err-order.field-0.0 c.from_residual-in_err-order.result is c.in_ok-scenario.ensures.read c.in_ok-scenario.ensures.counts c.in_err-order.ensures.counts
    (subst (λ (n : ℕ). IsOrderReadBy (depots g.D.Depot.files g.D.Depot.gave g.D.Depot.fetch_failed g.D.Depot.fetch_faults g.D.Depot.took g.D.Depot.append_failed g.D.Depot.append_faults) c.args.subject.now.order c.in_ok-scenario.scenario.cpus n c.fetch_scenario.new.depot c.fetch_order.new.depot (Err c.in_err-order.field-0.0))
    same c.in_err-order.ensures.read)

pub returns-clause-followed : goal.returns-clause-followed
returns-clause-followed g c =
    let same : c.from.result ≡ c.args.limit = search rules in
    followed_by (depots g.D.Depot.files g.D.Depot.gave g.D.Depot.fetch_failed g.D.Depot.fetch_faults g.D.Depot.took g.D.Depot.append_failed g.D.Depot.append_faults) c.args.subject.now c.args.limit c.args.depot.now c.fetch_scenario.new.depot c.fetch_order.new.depot c.in_ok-scenario.scenario c.in_ok-order.order c.found.result
    c.in_ok-scenario.ensures.read
    (subst (λ (n : ℕ). OrderCame (depots g.D.Depot.files g.D.Depot.gave g.D.Depot.fetch_failed g.D.Depot.fetch_faults g.D.Depot.took g.D.Depot.append_failed g.D.Depot.append_faults) c.args.subject.now.order c.in_ok-scenario.scenario.cpus n c.fetch_scenario.new.depot c.in_ok-order.order.blocks c.fetch_order.new.depot)
    same c.in_ok-order.ensures.read)
    c.found.ensures.found c.found.ensures.alone c.found.ensures.no_idle c.found.ensures.idle
