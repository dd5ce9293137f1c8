use Rattle.std.proofs.Common.{◌≡◌, length}
use Rattle.nova_model.specs.Edges.{met, chase}
use Rattle.nova_ec.proofs.ecs.Ecs.end_of_chase.Given as goal

abbrev pub invariant-loop-at : goal.invariant-loop-at
invariant-loop-at l = chase l.self.items l.at ≡ chase l.self.items l.ec

abbrev pub decreases-loop-at : goal.decreases-loop-at
decreases-loop-at l = length (met l.self.items l.at)
