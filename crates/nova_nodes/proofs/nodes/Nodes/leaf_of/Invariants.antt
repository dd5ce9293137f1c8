use Rattle.std.proofs.Common.{◌-◌}
use Rattle.law_forest.proofs.Members.{IsIn}
use Rattle.nova_nodes.specs.Trails.{IsOnWay}
use Rattle.nova_nodes.proofs.nodes.Nodes.leaf_of.Given as goal

abbrev pub invariant-loop-child : goal.invariant-loop-child
invariant-loop-child g l = record {
  at : IsOnWay l.self.delegations.list l.fn.from l.at;
  at_there : IsIn l.self.delegations.list l.at;
}

-- ids rise, and stay below the next
abbrev pub decreases-loop-child : goal.decreases-loop-child
decreases-loop-child g l = l.self.delegations.next - l.at.id
