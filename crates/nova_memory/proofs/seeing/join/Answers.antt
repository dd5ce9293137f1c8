use Rattle.nova_memory.proofs.Seen.{none_joins, one_joins}
use Rattle.nova_memory.proofs.seeing.join.Goals as goal

pub returns-then-reaches : goal.returns-then-reaches
returns-then-reaches c =
    one_joins c.args.viewers.now c.add.new.self c.args.frame c.args.d.now c.reaches.result c.add.result c.reaches.ensures c.if-reaches.true c.add.ensures

pub returns-else-reaches : goal.returns-else-reaches
returns-else-reaches c = λ pd. none_joins c.args.viewers.now pd c.args.frame c.args.d.now c.reaches.result c.reaches.ensures c.if-reaches.false
