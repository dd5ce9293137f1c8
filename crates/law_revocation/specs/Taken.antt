-- What a revoke takes away, in places and targets: by parents alone, with no list of the scope and no test.
use Rattle.std.specs.Prelude.{◌≡◌, ℕ, ◌+◌, true, List, Contains, Some}
use Rattle.nova_range.specs.Ranges.{HasPlace, IsWithin}
use Rattle.nova_model.specs.Delegations.{range_of}
use Rattle.nova_model.specs.Revokes.{Revocation}
use Rattle.nova_model.specs.declared.delegation.Derivation.{Derivation}
use Rattle.law_forest.specs.Within.{LeadsTo}

-- LINES

-- the parent of a derivation, which is there
pub record IsParent (list : List Derivation) (parent d : Derivation) : Type 0 where
  pub there : Contains list parent
  pub named : d.parent ≡ Some parent.id

-- a derivation is on its own line, and what is on its parent's line is on its line
pub data IsOnLine (list : List Derivation) : Derivation → Derivation → Type 0 where
  Itself : (d : Derivation) → IsOnLine list d d
  Above : (a parent d : Derivation) → IsParent list parent d → IsOnLine list a parent → IsOnLine list a d

-- an ancestor: on the line of the parent
pub record IsAncestor (list : List Derivation) (a d : Derivation) : Type 0 where
  pub parent : Derivation
  pub is_parent : IsParent list parent d
  pub on_line : IsOnLine list a parent

-- PLACES AND TARGETS

-- the derivation lies in the space of the range, in the revoker's domain
pub record IsRevokers (r : Revocation) (a : Derivation) : Type 0 where
  pub domain : a.pd ≡ r.pd
  pub kind : a.kind ≡ r.range.kind

-- the revoker reaches this target by a place of the range, through this derivation of its own
pub record IsRevokersTarget (r : Revocation) (a : Derivation) (target : ℕ) : Type 0 where
  pub revokers : IsRevokers r a
  pub place : ℕ
  pub its : HasPlace (range_of a) place
  pub revoked : HasPlace r.range place
  pub leads : target + a.base ≡ a.target + place

-- a child of a derivation of the revoker's that leads to a target which the revoker reaches so
pub record IsGivenOfRange (r : Revocation) (list : List Derivation) (c : Derivation) : Type 0 where
  pub source : Derivation
  pub is_parent : IsParent list source c
  pub target : ℕ
  pub reached : IsRevokersTarget r source target
  pub leads : LeadsTo c target

-- where the revoker's own go too: one of them, with all its places in the range
pub record IsOwn (r : Revocation) (a : Derivation) : Type 0 where
  pub own : r.own ≡ true
  pub revokers : IsRevokers r a
  pub inside : IsWithin (range_of a) r.range

-- WHAT IS TAKEN AWAY

-- some derivation of its line is such a child, or such a one of the revoker's own
pub data IsRemoved (r : Revocation) (list : List Derivation) (d : Derivation) : Type 0 where
  Given : (c : Derivation) → IsOnLine list c d → IsGivenOfRange r list c → IsRemoved r list d
  Own : (a : Derivation) → IsOnLine list a d → IsOwn r a → IsRemoved r list d

-- nothing of it is left: nothing that comes from the range still leads to a target that the revoker reached by a place of it; and where the revoker's
-- own go too, it holds nothing that lies in the range
pub record IsClear (r : Revocation) (list : List Derivation) : Type 0 where
  pub given : (d a : Derivation) (target : ℕ) → Contains list d → IsAncestor list a d → IsRevokersTarget r a target → LeadsTo d target → ⊥
  pub own : (a : Derivation) → Contains list a → IsOwn r a → ⊥
