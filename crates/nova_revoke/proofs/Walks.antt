-- From a derivation to its parents, and whether a new derivation is busy by its parent.
use Rattle.std.proofs.Common.{◌≡◌, ℕ, ◌<◌, List, ap, sym, ◌∙◌, refl}
use Rattle.std.specs.Prelude.{Bool, false, ◌==◌, ◌&&◌, ◌||◌, Contains, Option, Some, None}
use Rattle.nova_range.specs.Ranges.{overlaps}
use Rattle.nova_range.specs.declared.range.Range.{Range}
use Rattle.nova_range.specs.declared.rights.Rights.{Rights}
use Rattle.nova_model.specs.Delegations.{Delegations, with_id, parent_of, derived, is_same_kind}
use Rattle.nova_model.specs.Forest.{IsForest}
use Rattle.nova_model.specs.Revokes.{Revocation, leads_into, is_made_of, is_own, is_top, in_scope, busy}
use Rattle.nova_model.specs.declared.delegation.Derivation.{Derivation}
use Rattle.law_forest.proofs.Busy.{busy_child}
use Rattle.law_forest.proofs.Lines.{parent_facts}
use Rattle.law_forest.proofs.Members.{IsIn, in_from_contains, contains_from_in, found_in}
use Rattle.law_forest.proofs.Scopes.{child_in_scope, root_in_scope}
use Rattle.nova_nodes.specs.NodesStates.{IsPlaced}

-- one of the line, which is in the scope where the derivation is
pub record IsOnWay (r : Revocation) (list : List Derivation) (d at : Derivation) : Type 0 where
  pub there : IsIn list at
  pub placed : IsPlaced at
  pub same : in_scope r list at ≡ in_scope r list d

pub at_start : (r : Revocation) (list : List Derivation) (d : Derivation) → Contains list d → IsPlaced d → IsOnWay r list d d
at_start r list d there placed = record { there = in_from_contains list d there; placed = placed; same = refl }

-- whether the scope begins at it, by its parent as it was looked up
top_is : (r : Revocation) (list : List Derivation) (at : Derivation) (up : Option Derivation) (b : Bool) → up ≡ parent_of list at → (is_made_of r at up || is_own r at) ≡ b → is_top r list at ≡ b
top_is r list at up b is h = ap (λ (o : Option Derivation). is_made_of r at o || is_own r at) (sym is) ∙ h

pub at_root : (r : Revocation) (list : List Derivation) (d at : Derivation) → IsOnWay r list d at → None ≡ parent_of list at →
    (is_made_of r at None || is_own r at) ≡ false → false ≡ in_scope r list d
at_root r list d at way is top =
    sym (root_in_scope r list at (sym is) ∙ ap (λ (b : Bool). b || false) (top_is r list at None false is top)) ∙ way.same

pub upward : (r : Revocation) (f : Delegations) (d at p : Derivation) → IsForest f → IsOnWay r f.list d at → Some p ≡ parent_of f.list at →
    (is_made_of r at (Some p) || is_own r at) ≡ false → IsPlaced p → IsOnWay r f.list d p
upward r f d at p forest way is top placed = record {
  there = (parent_facts f at p forest way.there (sym is)).there;
  placed = placed;
  same = sym (child_in_scope r f forest at p way.there (sym is) ∙ ap (λ (b : Bool). b || in_scope r f.list p) (top_is r f.list at (Some p) false is top)) ∙ way.same;
}

pub falls : (r : Revocation) (f : Delegations) (d at p : Derivation) → IsForest f → IsOnWay r f.list d at → Some p ≡ parent_of f.list at → p.id < at.id
falls r f d at p forest way is = (parent_facts f at p forest way.there (sym is)).within.older

-- a derivation that was looked up is there
pub found_there : (list : List Derivation) (id : ℕ) (d : Derivation) → Some d ≡ with_id list id → Contains list d
found_there list id d found = contains_from_in list d (found_in (λ (a : Derivation). a.id == id) list d (sym found)).0

-- a new derivation with a parent
pub busy_is : (r : Revocation) (f : Delegations) (id pd : ℕ) (range : Range) (rights : Rights) (target : ℕ) (p : Derivation) → IsForest f → Some p ≡ with_id f.list id →
    busy r f.list (derived f.next (Some id) pd range rights target) ≡
    ((leads_into r p target range.order || in_scope r f.list p) || (is_same_kind r.range.kind range.kind && (pd == r.pd && overlaps range r.range)))
busy_is r f id pd range rights target p forest found = busy_child r f forest (derived f.next (Some id) pd range rights target) p refl (sym found)
