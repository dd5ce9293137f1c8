use Rattle.std.proofs.Common.{◌<◌, length, map, arith}
use Rattle.nova_ties.specs.Ties.{renamed}
use Rattle.nova_ties.proofs.Settling.{renamed_more}
use Rattle.nova_ties.proofs.sides.rename.Goals as goal

pub loop-i-preserved : goal.loop-i-preserved
loop-i-preserved c =
    let below : c.loop-i.i < length c.loop-i.labels = omega arith in
    renamed_more (renamed c.args.old c.args.new) c.loop-i.labels (map (renamed c.args.old c.args.new) c.args.labels.now) c.loop-i.i c.renamed.result below c.renamed.ensures c.loop-i.invariant
