-- Whether a new derivation is busy, by its parent alone.
use Rattle.std.proofs.Common.{◌≡◌, ℕ, suc, ◌<◌, List, [], ◌∷◌, ◌++◌, ap, sym, ◌∙◌, subst, refl, arith}
use Rattle.std.specs.Prelude.{Bool, true, false, ◌==◌, ◌&&◌, ◌||◌, Option, Some, None, IfSome, IsSome, option_and_then}
use Rattle.std.specs.List.{list_any}
use Rattle.std.proofs.lemmas.Bool.{ne_eqb}
use Rattle.nova_range.specs.Ranges.{is_inside}
use Rattle.nova_range.specs.declared.rights.Rights.{Rights}
use Rattle.nova_model.specs.Delegations.{Delegations, range_of, parent_of, with_id}
use Rattle.nova_model.specs.Forest.{IsForest, IsChildless}
use Rattle.nova_model.specs.Lines.{line_by}
use Rattle.nova_model.specs.Revokes.{Revocation, is_met, is_made_of, is_own, is_top, in_scope, busy}
use Rattle.nova_model.specs.declared.delegation.Derivation.{Derivation}
use Rattle.law_forest.proofs.Members.{IsIn, all_at}
use Rattle.law_forest.proofs.Lines.{line_enough}
use Rattle.law_forest.proofs.Scopes.{parent_found, find_more, more_keeps, next_childless, same_tops, root_in_scope}

absorbed : (made own met inside more : Bool) → (((made || (own && (met && inside))) || more) || met) ≡ ((made || more) || met)
absorbed true own met inside more = refl
absorbed false true true true true = refl
absorbed false true true true false = refl
absorbed false true true false true = refl
absorbed false true true false false = refl
absorbed false true false inside more = refl
absorbed false false met inside more = refl

-- a new derivation with a parent
pub busy_child : (r : Revocation) (f : Delegations) → IsForest f → (x p : Derivation) → x.id ≡ f.next → parent_of f.list x ≡ Some p →
    busy r f.list x ≡ ((is_made_of r x (Some p) || in_scope r f.list p) || is_met r x)
busy_child r f forest x p id is =
    ap (λ (b : Bool). b || is_met r x) whole ∙ absorbed (is_made_of r x (Some p)) r.own (is_met r x) (is_inside (range_of x) r.range) (in_scope r f.list p)
  where
    found : IsIn f.list p × (x.parent ≡ Some p.id)
    found = parent_found f.list x p is

    below : p.id < x.id
    below = let h = all_at (λ b. b.id < f.next) f.list p forest.numbered found.0 in omega arith

    -- the parent is found in the longer list too
    up : parent_of (f.list ++ x ∷ []) x ≡ Some p
    up =
        ap (option_and_then (with_id (f.list ++ x ∷ []))) found.1 ∙
        find_more (λ (a : Derivation). a.id == p.id) f.list x (ne_eqb x.id p.id (λ e. let h = below in omega arith)) ∙
        ap (option_and_then (with_id f.list)) (sym found.1) ∙ is

    rest : list_any (is_top r (f.list ++ x ∷ [])) (line_by x.id (f.list ++ x ∷ []) (Some p)) ≡ in_scope r f.list p
    rest =
        same_tops r f.list (f.list ++ x ∷ []) (more_keeps f.list x (subst (IsChildless f.list) (sym id) (next_childless f forest))) x.id p found.0 ∙
        ap (list_any (is_top r f.list)) (line_enough f forest x.id (suc p.id) p found.0 below (omega arith))

    whole : in_scope r (f.list ++ x ∷ []) x ≡ ((is_made_of r x (Some p) || is_own r x) || in_scope r f.list p)
    whole =
        ap (λ (o : Option Derivation). (is_made_of r x o || is_own r x) || list_any (is_top r (f.list ++ x ∷ [])) (line_by x.id (f.list ++ x ∷ []) o)) up ∙
        ap (λ (b : Bool). (is_made_of r x (Some p) || is_own r x) || b) rest

-- one without a parent
pub busy_root : (r : Revocation) (list : List Derivation) (x : Derivation) → x.parent ≡ None → busy r list x ≡ is_met r x
busy_root r list x none =
    ap (λ (b : Bool). b || is_met r x) whole ∙ absorbed false r.own (is_met r x) (is_inside (range_of x) r.range) false
  where
    up : parent_of (list ++ x ∷ []) x ≡ None
    up = ap (option_and_then (with_id (list ++ x ∷ []))) none

    whole : in_scope r (list ++ x ∷ []) x ≡ ((false || is_own r x) || false)
    whole = root_in_scope r (list ++ x ∷ []) x up ∙ ap (λ (o : Option Derivation). (is_made_of r x o || is_own r x) || false) up

-- rights don't matter
pub busy_whatever_rights : (r : Revocation) (f : Delegations) (x : Derivation) (rights : Rights) → IsForest f → x.id ≡ f.next → IfSome x.parent (λ id. IsSome (with_id f.list id)) →
    busy r f.list (record x { rights = rights }) ≡ busy r f.list x
busy_whatever_rights r f x rights forest id there = by_parent x.parent refl there
  where
    by_found : (parent : ℕ) → x.parent ≡ Some parent → (o : Option Derivation) → with_id f.list parent ≡ o → IsSome o → busy r f.list (record x { rights = rights }) ≡ busy r f.list x
    by_found parent is None found some = absurd (cc)
    by_found parent is (Some p) found some =
        let up : parent_of f.list x ≡ Some p = ap (option_and_then (with_id f.list)) is ∙ found in
        busy_child r f forest (record x { rights = rights }) p id up ∙ sym (busy_child r f forest x p id up)

    by_parent : (o : Option ℕ) → x.parent ≡ o → IfSome o (λ parent. IsSome (with_id f.list parent)) → busy r f.list (record x { rights = rights }) ≡ busy r f.list x
    by_parent None is there = busy_root r f.list (record x { rights = rights }) is ∙ sym (busy_root r f.list x is)
    by_parent (Some parent) is there = by_found parent is (with_id f.list parent) refl there
