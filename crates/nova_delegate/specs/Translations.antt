-- A derivation through which another's places are seen.
use Rattle.std.specs.Prelude.{◌≡◌, ◌≤◌, ◌+◌, ◌^◌}
use Rattle.nova_range.specs.Ranges.{IsRange, end_of}
use Rattle.nova_range.specs.declared.range.Range.{Range}
use Rattle.nova_model.specs.Delegations.{range_of}
use Rattle.nova_model.specs.Forest.{IsAligned}
use Rattle.nova_model.specs.declared.delegation.Derivation.{Derivation}
use Rattle.nova_nodes.specs.NodesStates.{IsPlaced}

-- the places are `d`'s, and what `d` leads to is among what `a` leads to
pub record IsSeen (a d : Derivation) (o : Range) : Type 0 where
  pub places : IsRange o
  pub order : o.order ≤ d.order
  pub from : d.base ≤ o.base
  pub to : end_of o ≤ end_of (range_of d)
  pub kind : d.kind ≡ a.kind
  pub first : a.target ≤ d.target
  pub last : d.target + 2 ^ d.order ≤ a.target + 2 ^ a.order
  pub aligned : IsAligned a
  pub also : IsAligned d
  pub placed : IsPlaced a
