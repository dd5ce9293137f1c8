use Rattle.std.proofs.Common.{◌≡◌, drop}
use Rattle.nova_ties.specs.Ties.{settled}
use Rattle.nova_ties.proofs.sides.settle_each.Given as goal

abbrev pub invariant-loop-tie : goal.invariant-loop-tie
invariant-loop-tie l = settled (drop l.tie-index l.ties) l.labels ≡ settled l.ties l.initial.labels
