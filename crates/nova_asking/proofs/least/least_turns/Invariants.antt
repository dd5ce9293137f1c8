use Rattle.std.proofs.Common.{◌≤◌, length}
use Rattle.nova_search.specs.Searches.{states_of}
use Rattle.nova_asking.specs.Least.{AreLeast}
use Rattle.nova_asking.proofs.least.least_turns.Given as goal

-- the edges so far, the last first
abbrev pub invariant-loop-left : goal.invariant-loop-left
invariant-loop-left g l = record {
  most : l.left ≤ length l.edges;
  least : AreLeast (g.G.Goal.met l.goal) (states_of l.found) l.edges l.left l.least.items;
}

abbrev pub decreases-loop-left : goal.decreases-loop-left
decreases-loop-left g l = l.left
