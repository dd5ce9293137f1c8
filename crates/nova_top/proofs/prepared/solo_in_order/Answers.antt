use Rattle.std.proofs.Common.{◌≡◌, ℕ, subst, Err, rules}
use Rattle.nova_io.specs.Outside.{depots}
use Rattle.nova_loading.specs.Came.{OrderCame}
use Rattle.nova_answers.specs.Prepared.{IsOrderReadBy}
use Rattle.nova_answers.proofs.Made.{unread_by, order_by}
use Rattle.nova_top.proofs.prepared.solo_in_order.Goals as goal

pub returns-in_err-order-clause-prepared : goal.returns-in_err-order-clause-prepared
returns-in_err-order-clause-prepared g c =
    let same : c.from.result ≡ c.args.limit = search rules in
    let is : c.from_residual-in_err-order.result ≡ Err c.in_err-order.field-0.0 = search rules in
    unread_by (depots g.D.Depot.files g.D.Depot.gave g.D.Depot.fetch_failed g.D.Depot.fetch_faults g.D.Depot.took g.D.Depot.append_failed g.D.Depot.append_faults) c.args.scenario.now c.args.order.now c.in_ok-scenario.scenario c.args.limit c.args.depot.now c.fetch_scenario.new.depot c.fetch_order.new.depot
    c.in_err-order.field-0.0 c.from_residual-in_err-order.result is c.in_ok-scenario.ensures.read c.in_ok-scenario.ensures.counts c.in_err-order.ensures.counts
    (subst (λ (n : ℕ). IsOrderReadBy (depots g.D.Depot.files g.D.Depot.gave g.D.Depot.fetch_failed g.D.Depot.fetch_faults g.D.Depot.took g.D.Depot.append_failed g.D.Depot.append_faults) c.args.order.now c.in_ok-scenario.scenario.cpus n c.fetch_scenario.new.depot c.fetch_order.new.depot (Err c.in_err-order.field-0.0))
    same c.in_err-order.ensures.read)

pub returns-clause-prepared : goal.returns-clause-prepared
returns-clause-prepared g c =
    let same : c.from.result ≡ c.args.limit = search rules in
    order_by (depots g.D.Depot.files g.D.Depot.gave g.D.Depot.fetch_failed g.D.Depot.fetch_faults g.D.Depot.took g.D.Depot.append_failed g.D.Depot.append_faults) c.args.scenario.now c.args.order.now c.args.limit c.args.depot.now c.fetch_scenario.new.depot c.fetch_order.new.depot c.in_ok-scenario.scenario c.in_ok-order.order
    c.run_in_order.result c.in_ok-scenario.ensures.read
    (subst (λ (n : ℕ). OrderCame (depots g.D.Depot.files g.D.Depot.gave g.D.Depot.fetch_failed g.D.Depot.fetch_faults g.D.Depot.took g.D.Depot.append_failed g.D.Depot.append_faults) c.args.order.now c.in_ok-scenario.scenario.cpus n c.fetch_scenario.new.depot c.in_ok-order.order.blocks c.fetch_order.new.depot)
    same c.in_ok-order.ensures.read)
    c.run_in_order.ensures.report c.run_in_order.ensures.idle c.run_in_order.ensures.order
    (record {
      few = c.requires.limit.1;
      forests = c.delegations_stay_a_forest.ensures;
      revokes = c.a_returned_revoke_left_nothing.ensures.called;
      guests = c.virtual_cpus_are_guests_alone_from_their_birth.ensures;
      rights = c.turns_change_by_right.ensures.turn;
      inputs = c.inputs_are_by_right.ensures.right;
      sources = record {
        alarms = c.sources_are_alarms.ensures;
        moments = c.firings_are_of_their_moments.ensures.moments;
        until = c.firings_are_of_their_moments.ensures.until;
        quiet = c.firings_are_of_their_moments.ensures.quiet;
        statuses = c.alarms_have_room.ensures;
        counters = c.counters_tell_what_ended.ensures.counts;
        made = c.counters_tell_what_ended.ensures.made;
      };
    })
