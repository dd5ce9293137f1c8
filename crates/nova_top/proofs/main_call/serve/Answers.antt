use Rattle.nova_io.specs.Outside.{depots, sinks}
use Rattle.nova_answers.proofs.Complete.{completes_unless_made}
use Rattle.nova_answers.proofs.Answered.{answered, completed, written, all_calls, all_files, all_counts, others_of, others_after}
use Rattle.nova_answers.proofs.Unread.{files_stay, without_appends}
use Rattle.nova_top.proofs.main_call.serve.Goals as goal

pub returns-in-Err-clause-complete : goal.returns-in-Err-clause-complete
returns-in-Err-clause-complete g c =
    completes_unless_made (depots g.D.Depot.files g.D.Depot.gave g.D.Depot.fetch_failed g.D.Depot.fetch_faults g.D.Depot.took g.D.Depot.append_failed g.D.Depot.append_faults) (sinks g.O.Sink.written g.O.Sink.took g.O.Sink.write_failed g.O.Sink.faults) c.args.depot.now c.prepare.new.depot c.args.out.now c.args.out.now c.args.command.now c.in-Err.exit c.in-Err.ensures.prepared

pub returns-in-Err-clause-calls : goal.returns-in-Err-clause-calls
returns-in-Err-clause-calls g c = without_appends (depots g.D.Depot.files g.D.Depot.gave g.D.Depot.fetch_failed g.D.Depot.fetch_faults g.D.Depot.took g.D.Depot.append_failed g.D.Depot.append_faults) c.args.command.now c.in-Err.exit c.args.depot.now c.prepare.new.depot c.in-Err.ensures.fetches

pub returns-in-Err-clause-files : goal.returns-in-Err-clause-files
returns-in-Err-clause-files g c = files_stay (depots g.D.Depot.files g.D.Depot.gave g.D.Depot.fetch_failed g.D.Depot.fetch_faults g.D.Depot.took g.D.Depot.append_failed g.D.Depot.append_faults) c.args.command.now c.in-Err.exit c.args.depot.now c.prepare.new.depot c.in-Err.ensures.files

pub returns-in-Ok-clause-answer : goal.returns-in-Ok-clause-answer
returns-in-Ok-clause-answer g c = answered (depots g.D.Depot.files g.D.Depot.gave g.D.Depot.fetch_failed g.D.Depot.fetch_faults g.D.Depot.took g.D.Depot.append_failed g.D.Depot.append_faults) (sinks g.O.Sink.written g.O.Sink.took g.O.Sink.write_failed g.O.Sink.faults) c.args.command.now c.in-Ok.outcome c.args.depot.now c.prepare.new.depot c.send.new.depot c.args.out.now c.send.new.out c.send.result c.in-Ok.ensures.prepared c.in-Ok.ensures.appends c.send.ensures.sent

pub returns-in-Ok-clause-complete : goal.returns-in-Ok-clause-complete
returns-in-Ok-clause-complete g c = completed (depots g.D.Depot.files g.D.Depot.gave g.D.Depot.fetch_failed g.D.Depot.fetch_faults g.D.Depot.took g.D.Depot.append_failed g.D.Depot.append_faults) (sinks g.O.Sink.written g.O.Sink.took g.O.Sink.write_failed g.O.Sink.faults) c.args.command.now c.in-Ok.outcome c.args.depot.now c.prepare.new.depot c.send.new.depot c.args.out.now c.send.new.out c.send.result c.in-Ok.ensures.appends c.send.ensures.sent

pub returns-in-Ok-clause-unwritten : goal.returns-in-Ok-clause-unwritten
returns-in-Ok-clause-unwritten g c = written (depots g.D.Depot.files g.D.Depot.gave g.D.Depot.fetch_failed g.D.Depot.fetch_faults g.D.Depot.took g.D.Depot.append_failed g.D.Depot.append_faults) (sinks g.O.Sink.written g.O.Sink.took g.O.Sink.write_failed g.O.Sink.faults) c.args.command.now c.in-Ok.outcome c.args.depot.now c.prepare.new.depot c.send.new.depot c.args.out.now c.send.new.out c.send.result c.send.ensures.sent

pub returns-in-Ok-clause-calls : goal.returns-in-Ok-clause-calls
returns-in-Ok-clause-calls g c = all_calls (depots g.D.Depot.files g.D.Depot.gave g.D.Depot.fetch_failed g.D.Depot.fetch_faults g.D.Depot.took g.D.Depot.append_failed g.D.Depot.append_faults) (sinks g.O.Sink.written g.O.Sink.took g.O.Sink.write_failed g.O.Sink.faults) c.args.command.now c.in-Ok.outcome c.args.depot.now c.prepare.new.depot c.send.new.depot c.args.out.now c.send.new.out c.send.result c.send.ensures.sent c.in-Ok.ensures.fetches

pub returns-in-Ok-clause-files : goal.returns-in-Ok-clause-files
returns-in-Ok-clause-files g c = all_files (depots g.D.Depot.files g.D.Depot.gave g.D.Depot.fetch_failed g.D.Depot.fetch_faults g.D.Depot.took g.D.Depot.append_failed g.D.Depot.append_faults) (sinks g.O.Sink.written g.O.Sink.took g.O.Sink.write_failed g.O.Sink.faults) c.args.command.now c.in-Ok.outcome c.args.depot.now c.prepare.new.depot c.send.new.depot c.args.out.now c.send.new.out c.send.result c.send.ensures.sent c.in-Ok.ensures.files

pub returns-in-Ok-clause-appends : goal.returns-in-Ok-clause-appends
returns-in-Ok-clause-appends g c = all_counts (depots g.D.Depot.files g.D.Depot.gave g.D.Depot.fetch_failed g.D.Depot.fetch_faults g.D.Depot.took g.D.Depot.append_failed g.D.Depot.append_faults) (sinks g.O.Sink.written g.O.Sink.took g.O.Sink.write_failed g.O.Sink.faults) c.args.command.now c.in-Ok.outcome c.args.depot.now c.prepare.new.depot c.send.new.depot c.args.out.now c.send.new.out c.send.result c.send.ensures.sent c.in-Ok.ensures.appends c.send.ensures.others

pub returns-in-Ok-clause-others : goal.returns-in-Ok-clause-others
returns-in-Ok-clause-others g c = others_after (depots g.D.Depot.files g.D.Depot.gave g.D.Depot.fetch_failed g.D.Depot.fetch_faults g.D.Depot.took g.D.Depot.append_failed g.D.Depot.append_faults) c.args.command.now _ c.args.depot.now c.prepare.new.depot c.send.new.depot c.in-Ok.ensures.fetches c.send.ensures.fetches

pub returns-in-Err-clause-others : goal.returns-in-Err-clause-others
returns-in-Err-clause-others g c = others_of (depots g.D.Depot.files g.D.Depot.gave g.D.Depot.fetch_failed g.D.Depot.fetch_faults g.D.Depot.took g.D.Depot.append_failed g.D.Depot.append_faults) c.args.command.now _ c.args.depot.now c.prepare.new.depot c.in-Err.ensures.fetches
