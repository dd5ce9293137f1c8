-- The way from a derivation from newest child to newest child, and how far it was gone.
use Rattle.std.specs.Prelude.{◌≡◌, ◌≤◌, ◌==◌, ℕ, List, Option, Some, None, if◌then◌else◌}
use Rattle.nova_model.specs.Delegations.{Delegations, newest_child, with_id}
use Rattle.nova_model.specs.declared.delegation.Derivation.{Derivation}
use Rattle.nova_nodes.specs.declared.node.Trail.{Trail}

pub data IsOnWay (list : List Derivation) : Derivation → Derivation → Type 0 where
  Here : (d : Derivation) → IsOnWay list d d
  On : (d c a : Derivation) → newest_child list d.id ≡ Some c → IsOnWay list c a → IsOnWay list d a

-- where no derivation has joined since, and both ends are there, the way came so far
pub record IsTrail (f : Delegations) (t : Trail) : Type 0 where
  pub old : t.next ≤ f.next
  pub way : t.next ≡ f.next → (d a : Derivation) → with_id f.list t.from ≡ Some d → with_id f.list t.at ≡ Some a → IsOnWay f.list d a

-- the id before the end of a way: of the parent, or of the beginning where that is the end
abbrev pub or_id : ℕ → Option ℕ → ℕ
or_id id None = id
or_id id (Some other) = other

abbrev pub step_back : Derivation → Derivation → ℕ
step_back from leaf = if leaf.id == from.id then from.id else or_id from.id leaf.parent
