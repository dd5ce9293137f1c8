use Rattle.nova_io.specs.Outside.{depots, sinks}
use Rattle.nova_answers.proofs.Repeated.{short, repeated_all, repeated_from_files}
use Rattle.nova_answers.proofs.replay.one_thread_repeats_a_run.Goals as goal

pub returns-clause-short : goal.returns-clause-short
returns-clause-short g c = short (depots g.D.Depot.files g.D.Depot.gave g.D.Depot.fetch_failed g.D.Depot.fetch_faults g.D.Depot.took g.D.Depot.append_failed g.D.Depot.append_faults)

pub returns-clause-repeats : goal.returns-clause-repeats
returns-clause-repeats g c = repeated_all (depots g.D.Depot.files g.D.Depot.gave g.D.Depot.fetch_failed g.D.Depot.fetch_faults g.D.Depot.took g.D.Depot.append_failed g.D.Depot.append_faults) (sinks g.O.Sink.written g.O.Sink.took g.O.Sink.write_failed g.O.Sink.faults)

pub returns-clause-files : goal.returns-clause-files
returns-clause-files g c = repeated_from_files (depots g.D.Depot.files g.D.Depot.gave g.D.Depot.fetch_failed g.D.Depot.fetch_faults g.D.Depot.took g.D.Depot.append_failed g.D.Depot.append_faults) (sinks g.O.Sink.written g.O.Sink.took g.O.Sink.write_failed g.O.Sink.faults)
