use Rattle.std.proofs.Common.{◌≡◌, ◌++◌, ◌≤◌, filter, length}
use Rattle.std.specs.List.{All}
use Rattle.nova_model.specs.Views.{maps_of}
use Rattle.nova_memory.proofs.Views.{ends_after}
use Rattle.nova_memory.proofs.reach.Reach.maps.Given as goal

-- the maps up to now, and those of the derivations that are left
abbrev pub invariant-loop-derivation : goal.invariant-loop-derivation
invariant-loop-derivation l =
    (l.maps.items ++ filter (ends_after l.place) (maps_of l.pd l.self.nodes.delegations.list) ≡ maps_of l.pd l.self.nodes.delegations.list)
    × All (λ m. m.order ≤ 20) l.maps.items

abbrev pub decreases-loop-derivation : goal.decreases-loop-derivation
decreases-loop-derivation l = length (filter (ends_after l.place) (maps_of l.pd l.self.nodes.delegations.list))
