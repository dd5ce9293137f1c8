use Rattle.std.proofs.Common.{◌≡◌, drop}
use Rattle.law_renaming.specs.Forced.{maps_pairs}
use Rattle.law_renaming.specs.Walks.{joined}
use Rattle.nova_twin.proofs.alike.join_maps.Given as goal

-- the maps that are left join the pairs that are met as all join those of the beginning
abbrev pub invariant-loop-i : goal.invariant-loop-i
invariant-loop-i l =
    joined l.u l.v l.met.items (maps_pairs (drop l.i l.u.maps) (drop l.i l.v.maps)) ≡ joined l.u l.v l.fn.met.items (maps_pairs l.u.maps l.v.maps)
