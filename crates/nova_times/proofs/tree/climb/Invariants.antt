use Rattle.std.proofs.Common.{◌<◌, length}
use Rattle.nova_times.specs.Trees.{IsTreeBut}
use Rattle.nova_times.proofs.tree.climb.Given as goal

abbrev pub invariant-loop-i : goal.invariant-loop-i
invariant-loop-i l = record {
  low : l.i < length l.inner.items;
  tree : IsTreeBut l.i l.inner.items l.leaves;
}

abbrev pub decreases-loop-i : goal.decreases-loop-i
decreases-loop-i l = l.i
