-- Revokes: what one takes away, what may not join while it runs, and which derivation goes next. (NOVA specification, revoke; that it goes
-- leaf by leaf, and what is busy, are this project's own rules.)
use Rattle.std.specs.Prelude.{◌≡◌, ℕ, zero, suc, ◌+◌, ◌-◌, ◌^◌, ◌==◌, ◌&&◌, ◌||◌, Bool, true, false, nat_lt, min, max, List, [], ◌∷◌, ◌++◌, filter, Option, Some, None, option_map}
use Rattle.std.specs.List.{list_any}
use Rattle.nova_model.specs.Numbers.{PdId, DerivationId}
use Rattle.nova_range.specs.Ranges.{end_of, is_inside}
use Rattle.nova_range.specs.declared.range.Range.{Range}
use Rattle.nova_model.specs.Delegations.{Delegations, range_of, meets, parent_of, is_child_of, newest_child, id_of, base_of, least_by, greatest_by, without}
use Rattle.nova_model.specs.Lines.{line}
use Rattle.nova_model.specs.declared.delegation.Derivation.{Derivation}

-- a revoke: the revoker, the range, and whether derivations of the revoker's own go too
pub record Revocation : Type 0 where
  pub pd : PdId
  pub range : Range
  pub own : Bool

-- THE SCOPE

-- the derivation is the revoker's, in the space of the range, and shares a place with it
abbrev pub is_met : Revocation → Derivation → Bool
is_met r d = meets r.pd r.range d

-- the targets of these shared places: the first, and the first after them
abbrev pub first_target : Revocation → Derivation → ℕ
first_target r d = d.target + (max d.base r.range.base - d.base)

abbrev pub end_target : Revocation → Derivation → ℕ
end_target r d = d.target + (min (end_of (range_of d)) (end_of r.range) - d.base)

-- what is made of the derivation with these targets leads to one of those
abbrev pub leads_into : Revocation → Derivation → ℕ → ℕ → Bool
leads_into r d target order = is_met r d && (nat_lt target (end_target r d) && nat_lt (first_target r d) (target + 2 ^ order))

abbrev pub is_made_of : Revocation → Derivation → Option Derivation → Bool
is_made_of r child None = false
is_made_of r child (Some parent) = leads_into r parent child.target child.order

-- it is the revoker's own, inside the range, and these go too
abbrev pub is_own : Revocation → Derivation → Bool
is_own r d = r.own && (is_met r d && is_inside (range_of d) r.range)

-- where the scope begins: with what is made of the revoker's places in the range, and with what is own
abbrev pub is_top : Revocation → List Derivation → Derivation → Bool
is_top r list d = is_made_of r d (parent_of list d) || is_own r d

-- in the scope: one of these, or a descendant of one
abbrev pub in_scope : Revocation → List Derivation → Derivation → Bool
in_scope r list d = list_any (is_top r list) (line list d)

abbrev pub scope : Revocation → List Derivation → List Derivation
scope r list = filter (in_scope r list) list

-- the same in words: a top is in the scope, and so is what has its parent in it
pub data IsInScope (r : Revocation) (list : List Derivation) : Derivation → Type 0 where
  Top : (d : Derivation) → is_top r list d ≡ true → IsInScope r list d
  Below : (d parent : Derivation) → parent_of list d ≡ Some parent → IsInScope r list parent → IsInScope r list d

-- a new derivation may not join while the revoke runs: it would be in the scope, or the revoker's with a place of the range
abbrev pub busy : Revocation → List Derivation → Derivation → Bool
busy r list x = in_scope r (list ++ x ∷ []) x || is_met r x

-- THE NEXT LEAF

-- the newest child that is in the scope
abbrev pub is_child_in : Revocation → List Derivation → DerivationId → Derivation → Bool
is_child_in r list id d = is_child_of id d && in_scope r list d

abbrev pub newest_in : Revocation → List Derivation → DerivationId → Option Derivation
newest_in r list id = greatest_by id_of (filter (is_child_in r list id) list)

-- the way begins at the revoker's derivation of least base that is in the scope or has a child in it
abbrev pub is_entry : Revocation → List Derivation → Derivation → Bool
is_entry r list d = d.pd == r.pd && (in_scope r list d || list_any (is_child_in r list d.id) list)

abbrev pub scope_entry : Revocation → List Derivation → Option Derivation
scope_entry r list = least_by base_of (filter (is_entry r list) list)

-- it goes on with a child, or ends where there is none
abbrev pub onward : (Derivation → Derivation) → Derivation → Option Derivation → Derivation
onward next d None = d
onward next d (Some child) = next child

-- from newest child to newest child, at most `most` times
abbrev pub leaf_by : ℕ → List Derivation → Derivation → Derivation
leaf_by zero list d = d
leaf_by (suc most) list d = onward (leaf_by most list) d (newest_child list d.id)

-- first to the newest child in the scope; ids rise along the way, so that it has less steps than there are ids
abbrev pub leaf_from : Revocation → Delegations → Derivation → Derivation
leaf_from r f d = onward (leaf_by f.next f.list) d (newest_in r f.list d.id)

abbrev pub next_leaf : Revocation → Delegations → Option Derivation
next_leaf r f = option_map (leaf_from r f) (scope_entry r f.list)

-- one part: the next leaf goes, and nothing where there is none
abbrev pub taken_away : Delegations → Option Derivation → Delegations
taken_away f None = f
taken_away f (Some d) = without f d.id

abbrev pub revoked : Revocation → Delegations → Delegations
revoked r f = taken_away f (next_leaf r f)
