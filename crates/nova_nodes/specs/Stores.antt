-- Nodes in a slab, and the places of their ids: a node that is taken away leaves its place behind for a while.
use Rattle.std.specs.Prelude.{◌<◌, ◌==◌, ℕ, Bool, nat_le, List, if◌then◌else◌, Option, Some, None}
use Rattle.std.specs.List.{filter_map}
use Rattle.slab.specs.Slab.{Slab, get}
use Rattle.nova_model.specs.Forest.{ArePairs}
use Rattle.nova_nodes.specs.declared.node.Entry.{Entry}
use Rattle.nova_nodes.specs.declared.node.Node.{Node}
use Rattle.nova_nodes.specs.declared.node.Place.{Place}

-- nodes by rising id, and for how many more there is room
pub record StoreState : Type 0 where
  pub nodes : List Node
  pub spare : ℕ

abbrev pub node_id : Node → ℕ
node_id n = n.derivation.id

abbrev pub place_id : Place → ℕ
place_id p = p.id

abbrev pub node_of : Entry → Node
node_of e = e.node

-- what has an id, and what has one at or after it
abbrev pub is_number : {T : Type 0} → (T → ℕ) → ℕ → T → Bool
is_number number id x = number x == id

abbrev pub is_after : {T : Type 0} → (T → ℕ) → ℕ → T → Bool
is_after number id x = nat_le id (number x)

-- a node, if it has the id
abbrev pub of_id : ℕ → Option Node → Option Node
of_id id None = None
of_id id (Some n) = if is_number node_id id n then Some n else None

-- the node at a place: none where it was taken away, also if its key is that of another node since
abbrev pub node_at : Slab Node → Place → Option Node
node_at slab p = of_id p.id (get slab p.key)

abbrev pub nodes_at : Slab Node → List Place → List Node
nodes_at slab places = filter_map (node_at slab) places

-- ids rise, also those of nodes that are gone
abbrev pub AreInOrder : List Place → Type 0
AreInOrder places = ArePairs (λ a b. a.id < b.id) places

abbrev pub AreRising : List Node → Type 0
AreRising nodes = ArePairs (λ a b. a.derivation.id < b.derivation.id) nodes

-- a node in the place of the node of its id
abbrev pub put : Node → Node → Node
put node n = if n.derivation.id == node.derivation.id then node else n
