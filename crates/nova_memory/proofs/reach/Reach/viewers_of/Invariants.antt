use Rattle.std.proofs.Common.{filter, length}
use Rattle.nova_model.specs.Delegations.{is_from}
use Rattle.nova_memory.proofs.Seen.{IsLeft}
use Rattle.nova_memory.proofs.reach.Reach.viewers_of.Given as goal

-- the domains up to now, and those of the derivations that are left
abbrev pub invariant-loop-d : goal.invariant-loop-d
invariant-loop-d l = IsLeft l.self.nodes.delegations.list (filter (is_from l.id) l.self.nodes.delegations.list) l.frame l.viewers

abbrev pub decreases-loop-d : goal.decreases-loop-d
decreases-loop-d l = length (filter (is_from l.id) l.self.nodes.delegations.list)
