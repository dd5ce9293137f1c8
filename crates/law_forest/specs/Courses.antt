-- A revoke from its beginning on, with what others do in between.
use Rattle.std.specs.Prelude.{◌≡◌, ℕ, ◌+◌, ◌≤◌, ◌==◌, true, false, not, length, filter, Contains, List, [], ◌∷◌, Option, Some, None}
use Rattle.nova_model.specs.Delegations.{Delegations, added, without}
use Rattle.nova_model.specs.Forest.{IsForest, IsFitting, IsChildless}
use Rattle.nova_model.specs.Revokes.{Revocation, in_scope, scope, busy, next_leaf, revoked}
use Rattle.nova_model.specs.declared.delegation.Derivation.{Derivation}

-- a leaf of the scope: in it, and without children
pub record IsLeaf (r : Revocation) (f : Delegations) (d : Derivation) : Type 0 where
  pub there : Contains f.list d
  pub taken : in_scope r f.list d ≡ true
  pub childless : IsChildless f.list d.id

-- the derivation of this id is left out
abbrev pub lacking : ℕ → List Derivation → List Derivation
lacking id list = filter (λ d. not (d.id == id)) list

-- a step: a derivation joins, one goes, or the revoke takes a part
pub data Step : Type 0 where
  Joins : Derivation → Step
  Goes : ℕ → Step
  Part : Step

abbrev pub stepped : Revocation → Delegations → Step → Delegations
stepped r f (Joins x) = added f x
stepped r f (Goes id) = without f id
stepped r f Part = revoked r f

-- what joins fits the forest and is not busy; what goes has no child
abbrev pub IsAllowed : Revocation → Delegations → Step → Type 0
IsAllowed r f (Joins x) = IsFitting f x × (busy r f.list x ≡ false)
IsAllowed r f (Goes id) = IsChildless f.list id
IsAllowed r f Part = Unit {0}

abbrev pub AreAllowed : Revocation → Delegations → List Step → Type 0
AreAllowed r f [] = Unit {0}
AreAllowed r f (s ∷ steps) = IsAllowed r f s × AreAllowed r (stepped r f s) steps

abbrev pub after : Revocation → Delegations → List Step → Delegations
after r f [] = f
after r f (s ∷ steps) = after r (stepped r f s) steps

-- how many of its parts took a leaf
abbrev pub one_if : Option Derivation → ℕ
one_if None = 0
one_if (Some d) = 1

abbrev pub taken_by : Revocation → Delegations → Step → ℕ
taken_by r f (Joins x) = 0
taken_by r f (Goes id) = 0
taken_by r f Part = one_if (next_leaf r f)

abbrev pub taken : Revocation → Delegations → List Step → ℕ
taken r f [] = 0
taken r f (s ∷ steps) = taken_by r f s + taken r (stepped r f s) steps

-- the forest holds; what is in the scope was in it at the start; and with the leaves that were taken it is at most as much
pub record IsKept (r : Revocation) (start now : Delegations) (leaves : ℕ) : Type 0 where
  pub forest : IsForest now
  pub among : (d : Derivation) → Contains (scope r now.list) d → Contains (scope r start.list) d
  pub fewer : leaves + length (scope r now.list) ≤ length (scope r start.list)

-- at most one step, which is allowed, leads from one to the other, with as many leaves taken by its parts
pub record IsCourse (r : Revocation) (start now : Delegations) (leaves : ℕ) : Type 0 where
  pub steps : List Step
  pub short : length steps ≤ 1
  pub allowed : AreAllowed r start steps
  pub ends : now ≡ after r start steps
  pub parts : taken r start steps ≡ leaves
