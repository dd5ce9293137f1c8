use Rattle.nova_io.specs.Outside.{depots}
use Rattle.nova_answers.proofs.Made.{made_bench}
use Rattle.nova_top.proofs.prepared.bench.Goals as goal

pub returns : goal.returns
returns g c =
    made_bench (depots g.D.Depot.files g.D.Depot.gave g.D.Depot.fetch_failed g.D.Depot.fetch_faults g.D.Depot.took g.D.Depot.append_failed g.D.Depot.append_faults) c.args.number c.args.limit c.args.depot.now c.in_ok-scenario.scenario c.in_ok-finished.finished c.in_ok-summed_up.field-0
    c.in_ok-scenario.ensures.valid c.in_ok-finished.ensures.finished c.in_ok-finished.ensures.out
    c.in_ok-summed_up.ensures.text c.in_ok-summed_up.ensures.quiet c.in_ok-summed_up.ensures.order
    c.round_robin_serves_the_highest_priority.ensures
    (record {
      few = c.requires.limit.1;
      forests = c.delegations_stay_a_forest.ensures;
      revokes = c.a_returned_revoke_left_nothing.ensures.called;
      guests = c.virtual_cpus_are_guests_alone_from_their_birth.ensures;
      rights = c.turns_change_by_right.ensures.turn;
      inputs = c.inputs_are_by_right.ensures.right;
      sources = record {
        alarms = c.sources_are_alarms.ensures;
        moments = c.firings_are_of_their_moments.ensures.moments;
        until = c.firings_are_of_their_moments.ensures.until;
        quiet = c.firings_are_of_their_moments.ensures.quiet;
        statuses = c.alarms_have_room.ensures;
        counters = c.counters_tell_what_ended.ensures.counts;
        made = c.counters_tell_what_ended.ensures.made;
      };
    })
