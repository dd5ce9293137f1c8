-- Where the way to a leaf begins, and what is found at its end.
use Rattle.std.proofs.Common.{◌≡◌, ℕ, List, [], sym}
use Rattle.std.specs.Prelude.{◌↔◌, Contains, Option, None, Some, IfSome}
use Rattle.nova_model.specs.Delegations.{Delegations}
use Rattle.nova_model.specs.Forest.{IsForest}
use Rattle.nova_model.specs.Revokes.{Revocation, newest_in, next_leaf, scope}
use Rattle.nova_model.specs.declared.delegation.Derivation.{Derivation}
use Rattle.law_forest.specs.Courses.{IsLeaf}
use Rattle.law_forest.proofs.Leaves.{leaf_facts, leaf_or_none, newest_in_is}
use Rattle.law_forest.proofs.Members.{contains_from_in}

-- the newest child in the scope is there
pub newest_there : (r : Revocation) (list : List Derivation) (id : ℕ) (c : Derivation) → newest_in r list id ≡ Some c → Contains list c
newest_there r list id c is = contains_from_in list c (newest_in_is r list id c is).0

-- a leaf that is found is one of the scope, and none is found exactly where that is empty
pub leaf_found : (r : Revocation) (f : Delegations) → IsForest f → (o : Option Derivation) → o ≡ next_leaf r f → IfSome o (IsLeaf r f)
leaf_found r f forest None is = tt
leaf_found r f forest (Some d) is = leaf_facts r f d forest (sym is)

pub leaf_ended : (r : Revocation) (f : Delegations) → IsForest f → (o : Option Derivation) → o ≡ next_leaf r f → (o ≡ None) ↔ (scope r f.list ≡ [])
leaf_ended r f forest o is = rw is (leaf_or_none r f forest)
