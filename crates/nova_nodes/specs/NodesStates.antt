-- Derivations that are kept, and for how many more there is room.
use Rattle.std.specs.Prelude.{◌≤◌, ℕ, ◌+◌, ◌^◌, List, slice_get, Option, Some, None, IfSome, IsSome}
use Rattle.std.specs.List.{All}
use Rattle.nova_range.specs.Ranges.{IsRange}
use Rattle.nova_range.specs.Rights.{IsRights}
use Rattle.nova_model.specs.Delegations.{Delegations, range_of}
use Rattle.nova_model.specs.Forest.{IsForest}
use Rattle.nova_model.specs.declared.delegation.Derivation.{Derivation}

-- the derivations, and for each protection domain that has spaces for how many more of it there is room
pub record NodesState : Type 0 where
  pub delegations : Delegations
  pub rooms : List (Option ℕ)

abbrev pub or_none : Option (Option ℕ) → ℕ
or_none None = 0
or_none (Some None) = 0
or_none (Some (Some n)) = n

-- for how many more derivations of a protection domain there is room: for none where it has no spaces
abbrev pub room : NodesState → ℕ → ℕ
room n pd = or_none (slice_get n.rooms pd)

-- the protection domain has spaces
abbrev pub HasSpaces : NodesState → ℕ → Type 0
HasSpaces n pd = IfSome (slice_get n.rooms pd) IsSome

-- a derivation of places that there are, which leads to numbers of 32 bits, with rights of five bits
pub record IsPlaced (d : Derivation) : Type 0 where
  pub range : IsRange (range_of d)
  pub targets : d.target + 2 ^ d.order ≤ 2 ^ 32
  pub rights : IsRights d.rights

pub record IsSound (f : Delegations) : Type 0 where
  pub forest : IsForest f
  pub placed : All IsPlaced f.list
