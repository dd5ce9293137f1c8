use Rattle.std.proofs.Common.{◌≡◌}
use Rattle.std.specs.Prelude.{drop, slice_get}
use Rattle.nova_nodes.specs.Stores.{nodes_at}
use Rattle.nova_nodes.proofs.store.first_node.Given as goal

abbrev pub invariant-loop-place : goal.invariant-loop-place
invariant-loop-place l = slice_get (nodes_at l.slab (drop l.place-index l.places)) 0 ≡ slice_get (nodes_at l.slab l.places) 0
