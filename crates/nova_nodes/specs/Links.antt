-- Links between derivations: what the flat list says of children.
use Rattle.std.specs.Prelude.{◌≡◌, ◌≤◌, ◌==◌, ◌&&◌, ℕ, Bool, false, nat_lt, map, filter, List, if◌then◌else◌, Option, Some, None, option_map, option_and_then}
use Rattle.std.specs.List.{AllByRecursion}
use Rattle.nova_model.specs.Delegations.{id_of, is_id, is_child_of, least_by, newest_child, older_child}
use Rattle.nova_model.specs.declared.delegation.Derivation.{Derivation}
use Rattle.nova_nodes.specs.declared.node.Node.{Node}

-- derivations by rising id, and for how many more there is room
pub record LinkedState : Type 0 where
  pub list : List Derivation
  pub spare : ℕ

-- of the children of a derivation's parent the oldest that is younger
abbrev pub is_younger_child : ℕ → ℕ → Derivation → Bool
is_younger_child parent id d = is_child_of parent d && nat_lt id d.id

abbrev pub younger_child : List Derivation → Derivation → Option Derivation
younger_child list d = option_and_then (λ parent. least_by id_of (filter (is_younger_child parent d.id) list)) d.parent

-- the node of a derivation, as the list says
abbrev pub link : List Derivation → Derivation → Node
link list d = record {
  derivation = d;
  newest = option_map id_of (newest_child list d.id);
  older = option_map id_of (older_child list d);
  younger = option_map id_of (younger_child list d);
}

abbrev pub derivation_of : Node → Derivation
derivation_of n = n.derivation

abbrev pub derivations : List Node → List Derivation
derivations nodes = map derivation_of nodes

-- all links are what the list says
abbrev pub AreLinked : List Node → Type 0
AreLinked nodes = AllByRecursion (λ n. n ≡ link (derivations nodes) n.derivation) nodes

-- a link that does not lead to the node that goes, but past it
abbrev pub past : ℕ → Option ℕ → Option ℕ → Option ℕ
past gone next None = None
past gone next (Some id) = if id == gone then next else Some id

-- a node without the node that goes
abbrev pub left : Node → Node → Node
left gone n = record {
  derivation = n.derivation;
  newest = past gone.derivation.id gone.older n.newest;
  older = past gone.derivation.id gone.older n.older;
  younger = past gone.derivation.id gone.younger n.younger;
}

-- both are children of one
abbrev pub is_child_in : Option ℕ → Derivation → Bool
is_child_in None d = false
is_child_in (Some parent) d = is_child_of parent d

abbrev pub or_else : Option ℕ → ℕ → Option ℕ
or_else None id = Some id
or_else (Some other) id = Some other

-- a node with one more derivation, of the greatest id
abbrev pub joined : Derivation → Node → Node
joined x n = record {
  derivation = n.derivation;
  newest = (if is_child_of n.derivation.id x then Some x.id else n.newest);
  older = n.older;
  younger = (if is_child_in x.parent n.derivation then or_else n.younger x.id else n.younger);
}

-- a change of the node of an id
abbrev pub changed_at : (Node → Node) → Option ℕ → Node → Node
changed_at change to n = if is_id n.derivation.id to then change n else n

-- the derivation of a node passes, if there is one
abbrev pub passes_in : (Derivation → Bool) → Option Node → Bool
passes_in p None = false
passes_in p (Some n) = p n.derivation

-- the derivation of a node has an order that derivations have, if there is one
abbrev pub IsSmall : Option Node → Type 0
IsSmall None = Unit {0}
IsSmall (Some n) = n.derivation.order ≤ 20
