-- What a derivation may be used for, against what those may that it comes from.
use Rattle.std.specs.Prelude.{◌≡◌, ℕ, ◌+◌, ◌^◌, ◌<◌, ◌≤◌, true, List, [], ◌∷◌, is_some, Option, Some, None}
use Rattle.nova_model.specs.Delegations.{parent_of}
use Rattle.nova_range.specs.Rights.{allows}
use Rattle.nova_model.specs.Lines.{line}
use Rattle.nova_model.specs.declared.delegation.Derivation.{Derivation}

-- it leads to this frame or object
pub record LeadsTo (d : Derivation) (target : ℕ) : Type 0 where
  pub first : d.target ≤ target
  pub last : target < d.target + 2 ^ d.order

-- each target of the first is one of the second, of the same kind, and each of its rights is one of the second's
pub record StaysWithin (d ancestor : Derivation) : Type 0 where
  pub kind : d.kind ≡ ancestor.kind
  pub targets : (target : ℕ) → LeadsTo d target → LeadsTo ancestor target
  pub rights : (right : ℕ) → allows d.rights right ≡ true → allows ancestor.rights right ≡ true

-- the line of a derivation, or of none
abbrev pub line_from : List Derivation → Option Derivation → List Derivation
line_from list None = []
line_from list (Some d) = line list d

-- its line is whole: itself and then its parent's line, and a parent that it names is found
pub record HasWholeLine (list : List Derivation) (d : Derivation) : Type 0 where
  pub parent : is_some (parent_of list d) ≡ is_some d.parent
  pub goes_on : line list d ≡ d ∷ line_from list (parent_of list d)
