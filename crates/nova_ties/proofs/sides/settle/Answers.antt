use Rattle.nova_ties.specs.Ties.{AreRespected, IsStuck, label_in}
use Rattle.nova_ties.proofs.Settling.{none_if, settles_as, some_if}
use Rattle.nova_ties.proofs.sides.settle.Goals as goal

pub returns-clause-respected : goal.returns-clause-respected
returns-clause-respected c =
    none_if c.settle_each.result (AreRespected (label_in c.settle_each.new.labels) c.args.ties.now)
    (settles_as c.args.ties.now c.args.labels.now c.settle_each.new.labels c.settle_each.result c.settle_each.ensures.labels c.settle_each.ensures.stuck).respected

pub returns-clause-trusted : goal.returns-clause-trusted
returns-clause-trusted c =
    (settles_as c.args.ties.now c.args.labels.now c.settle_each.new.labels c.settle_each.result c.settle_each.ensures.labels c.settle_each.ensures.stuck).zero

pub returns-clause-joined : goal.returns-clause-joined
returns-clause-joined c =
    (settles_as c.args.ties.now c.args.labels.now c.settle_each.new.labels c.settle_each.result c.settle_each.ensures.labels c.settle_each.ensures.stuck).joined

pub returns-clause-finest : goal.returns-clause-finest
returns-clause-finest c =
    (settles_as c.args.ties.now c.args.labels.now c.settle_each.new.labels c.settle_each.result c.settle_each.ensures.labels c.settle_each.ensures.stuck).finest

pub returns-clause-stuck : goal.returns-clause-stuck
returns-clause-stuck c =
    some_if c.settle_each.result (λ t. IsStuck c.args.ties.now (label_in c.args.labels.now) t)
    (settles_as c.args.ties.now c.args.labels.now c.settle_each.new.labels c.settle_each.result c.settle_each.ensures.labels c.settle_each.ensures.stuck).stuck

pub returns-clause-least : goal.returns-clause-least
returns-clause-least c =
    (settles_as c.args.ties.now c.args.labels.now c.settle_each.new.labels c.settle_each.result c.settle_each.ensures.labels c.settle_each.ensures.stuck).least
