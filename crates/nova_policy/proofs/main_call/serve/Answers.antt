use Rattle.nova_io.specs.Outside.{depots, sinks}
use Rattle.nova_policy.proofs.Answering.{faulty, sent}
use Rattle.nova_policy.proofs.main_call.serve.Goals as goal

pub returns-in-Err-clause-answer : goal.returns-in-Err-clause-answer
returns-in-Err-clause-answer g c = faulty (depots g.D.Depot.files g.D.Depot.gave g.D.Depot.fetch_failed g.D.Depot.fetch_faults g.D.Depot.took g.D.Depot.append_failed g.D.Depot.append_faults) (sinks g.O.Sink.written g.O.Sink.took g.O.Sink.write_failed g.O.Sink.faults) c.args.request.now c.args.depot.now c.prepare.new.depot c.args.out.now c.args.out.now c.in-Err.exit c.in-Err.ensures

pub returns-in-Ok-clause-answer : goal.returns-in-Ok-clause-answer
returns-in-Ok-clause-answer g c = sent (depots g.D.Depot.files g.D.Depot.gave g.D.Depot.fetch_failed g.D.Depot.fetch_faults g.D.Depot.took g.D.Depot.append_failed g.D.Depot.append_faults) (sinks g.O.Sink.written g.O.Sink.took g.O.Sink.write_failed g.O.Sink.faults) c.args.request.now c.args.depot.now c.prepare.new.depot c.args.out.now c.send.new.out c.in-Ok.told c.send.result c.in-Ok.ensures c.send.ensures.sent
