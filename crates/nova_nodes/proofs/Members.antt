-- Of a sound forest: parents are there, and no derivation has the next id.
use Rattle.std.proofs.Common.{◌≡◌, ℕ, ◌<◌, ap, sym, ◌∙◌, refl, arith, subst}
use Rattle.std.specs.Prelude.{Bool, true, false, ◌==◌, Option, Some, None, IfSome, IsSome, option_map}
use Rattle.std.specs.List.{find}
use Rattle.nova_model.specs.Delegations.{Delegations, id_of, is_child_of, is_id, newest_child, with_id}
use Rattle.nova_model.specs.Forest.{HasParentIn, IsChildless, IsForest}
use Rattle.nova_model.specs.declared.delegation.Derivation.{Derivation}
use Rattle.law_forest.proofs.Extremes.{none_kept}
use Rattle.law_forest.proofs.Members.{IsIn, all_at, all_from, contains_from_in, found_in, in_from_contains}
use Rattle.nova_nodes.specs.NodesStates.{IsPlaced, IsSound}
use Rattle.nova_nodes.proofs.Found.{with_its_id}

-- a child's parent is found
parent_found : (f : Delegations) (d : Derivation) (id : ℕ) → IsForest f → IsIn f.list d → is_child_of id d ≡ true → IsSome (with_id f.list id)
parent_found f d id forest i child = by_parent d.parent (all_at (λ a. HasParentIn f.list a a.parent) f.list d forest.parents i) child
  where
    by_parent : (o : Option ℕ) → HasParentIn f.list d o → is_id id o ≡ true → IsSome (with_id f.list id)
    by_parent None h child = absurd (cc)
    by_parent (Some other) h child =
        let found = with_its_id f.list h.0 forest.rising (in_from_contains f.list h.0 h.1) in
        let same : h.0.id ≡ id = let named = h.2 in grind (arith, named, child) in
        subst IsSome (sym (ap (with_id f.list) (sym same) ∙ found)) refl

-- so that what isn't there has no child
absent_childless : (f : Delegations) (id : ℕ) → IsForest f → with_id f.list id ≡ None → (d : Derivation) → IsIn f.list d → is_child_of id d ≡ false
absent_childless f id forest none d i = by_test (is_child_of id d) refl
  where
    by_test : (t : Bool) → is_child_of id d ≡ t → t ≡ false
    by_test false h = refl
    by_test true h = let some = subst IsSome none (parent_found f d id forest i h) in absurd (cc)

pub absent_newest : (f : Delegations) (id : ℕ) → IsForest f → with_id f.list id ≡ None → option_map id_of (newest_child f.list id) ≡ None
absent_newest f id forest none = rw (none_kept (is_child_of id) f.list (absent_childless f id forest none)) refl

next_absent : (f : Delegations) → IsForest f → with_id f.list f.next ≡ None
next_absent f forest = by_found (with_id f.list f.next) refl
  where
    by_found : (o : Option Derivation) → with_id f.list f.next ≡ o → o ≡ None
    by_found None is = refl
    by_found (Some d) is =
        let k = found_in (λ (a : Derivation). a.id == f.next) f.list d is in
        let low = all_at (λ a. a.id < f.next) f.list d forest.numbered k.0 in
        let id = k.1 in
        absurd (grind (arith, low, id))

pub next_childless : (f : Delegations) → IsForest f → IsChildless f.list f.next
next_childless f forest = all_from (λ d. is_child_of f.next d ≡ false) f.list (absent_childless f f.next forest (next_absent f forest))

pub parent_there : (f : Delegations) (d : Derivation) (o : Option ℕ) → IsForest f → HasParentIn f.list d o → IfSome o (λ p. IsSome (with_id f.list p))
parent_there f d None forest h = tt
parent_there f d (Some id) forest h =
    let found = with_its_id f.list h.0 forest.rising (in_from_contains f.list h.0 h.1) in
    subst IsSome (sym (ap (with_id f.list) (sym h.2) ∙ found)) refl

-- what is found is placed
pub found_placed : (p : Derivation → Bool) (f : Delegations) (o : Option Derivation) → IsSound f → o ≡ find p f.list → IfSome o IsPlaced
found_placed p f None sound is = tt
found_placed p f (Some d) sound is = let c = contains_from_in f.list d (found_in p f.list d (sym is)).0 in subst IsPlaced c.2 (sound.placed c.0 d c.1)

-- the newest child of what may be there
pub newest_whole : (f : Delegations) (id : ℕ) (o : Option ℕ) → IsForest f → (IsSome (with_id f.list id) → o ≡ option_map id_of (newest_child f.list id)) → (with_id f.list id ≡ None → o ≡ None) →
    o ≡ option_map id_of (newest_child f.list id)
newest_whole f id o forest some none = by_found (with_id f.list id) refl
  where
    by_found : (d : Option Derivation) → with_id f.list id ≡ d → o ≡ option_map id_of (newest_child f.list id)
    by_found None is = none is ∙ sym (absent_newest f id forest is)
    by_found (Some d) is = some (subst IsSome (sym is) refl)
