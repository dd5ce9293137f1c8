use Rattle.nova_io.specs.Outside.{depots}
use Rattle.nova_answers.proofs.Replays.{taken, same}
use Rattle.nova_answers.proofs.replay.a_written_order_gives_the_same_report.Goals as goal

pub returns-clause-taken : goal.returns-clause-taken
returns-clause-taken g c = taken (depots g.D.Depot.files g.D.Depot.gave g.D.Depot.fetch_failed g.D.Depot.fetch_faults g.D.Depot.took g.D.Depot.append_failed g.D.Depot.append_faults)

pub returns-clause-same : goal.returns-clause-same
returns-clause-same g c = same (depots g.D.Depot.files g.D.Depot.gave g.D.Depot.fetch_failed g.D.Depot.fetch_faults g.D.Depot.took g.D.Depot.append_failed g.D.Depot.append_faults)
