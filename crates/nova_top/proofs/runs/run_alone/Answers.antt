use Rattle.nova_answers.proofs.Reports.{alone_finished, alone_out}
use Rattle.nova_top.proofs.runs.run_alone.Goals as goal

pub returns-clause-finished : goal.returns-clause-finished
returns-clause-finished g c = alone_finished c.args.scenario.now c.args.limit c.work.result c.requires.alone c.work.ensures.finished c.work.ensures.out

pub returns-clause-out : goal.returns-clause-out
returns-clause-out g c = alone_out c.args.scenario.now c.args.limit c.work.result c.requires.alone c.work.ensures.out

pub returns-clause-memory : goal.returns-clause-memory
returns-clause-memory g c = c.work.ensures.memory
