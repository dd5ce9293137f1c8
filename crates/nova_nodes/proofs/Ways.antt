-- The way from newest child to newest child: what is known of it stays so, and where it ends.
use Rattle.std.proofs.Common.{◌≡◌, ℕ, zero, suc, ◌<◌, ◌≤◌, ◌+◌, List, ap, sym, ◌∙◌, refl, inl, inr, arith, subst}
use Rattle.std.specs.Prelude.{Bool, true, false, ◌⊎◌, ◌==◌, not, if◌then◌else◌, Option, Some, None, option_map}
use Rattle.std.proofs.lemmas.Bool.{eqb-true}
use Rattle.nova_model.specs.Delegations.{Delegations, id_of, is_child_of, is_id, newest_child, with_id, without}
use Rattle.nova_model.specs.Forest.{IsChildless, IsForest}
use Rattle.nova_model.specs.Revokes.{leaf_by, onward}
use Rattle.nova_model.specs.declared.delegation.Derivation.{Derivation}
use Rattle.law_forest.proofs.Leaves.{child_of_newest}
use Rattle.law_forest.proofs.Lines.{parent_facts}
use Rattle.law_forest.proofs.Members.{IsIn, all_at, filtered_in, found_in}
use Rattle.law_forest.proofs.Scopes.{child_found}
use Rattle.nova_nodes.specs.Links.{past}
use Rattle.nova_nodes.specs.Trails.{Here, IsOnWay, IsTrail, On, or_id, step_back}
use Rattle.nova_nodes.specs.declared.node.Trail.{Trail}
use Rattle.nova_nodes.proofs.Found.{same_id, with_its_id}
use Rattle.nova_nodes.proofs.Most.{AreRising, Below, IsMostOf, most_passes, newest_facts, newest_from, others, rising_others}

-- ONE STEP

pub record IsStep (f : Delegations) (d c : Derivation) : Type 0 where
  pub there : IsIn f.list c
  pub later : d.id < c.id

pub step : (f : Delegations) → IsForest f → (d c : Derivation) → IsIn f.list d → newest_child f.list d.id ≡ Some c → IsStep f d c
step f forest d c i is =
    let k = child_of_newest f.list d.id c is in
    record { there = k.0; later = (parent_facts f c d forest k.0 (child_found f forest d c i k.1)).within.older }

pub below_next : (f : Delegations) → IsForest f → (d : Derivation) → IsIn f.list d → d.id < f.next
below_next f forest d i = all_at (λ b. b.id < f.next) f.list d forest.numbered i

leaf_enough : (f : Delegations) → IsForest f → (n m : ℕ) (d : Derivation) → IsIn f.list d → f.next ≤ n + d.id → f.next ≤ m + d.id → leaf_by n f.list d ≡ leaf_by m f.list d
leaf_enough f forest zero m d i a b = let mine = below_next f forest d i in absurd (omega arith)
leaf_enough f forest (suc n) zero d i a b = let mine = below_next f forest d i in absurd (omega arith)
leaf_enough f forest (suc n) (suc m) d i a b = by_child (λ c j k l. leaf_enough f forest n m c j k l) (newest_child f.list d.id) refl
  where
    by_child : ((c : Derivation) → IsIn f.list c → f.next ≤ n + c.id → f.next ≤ m + c.id → leaf_by n f.list c ≡ leaf_by m f.list c) →
        (o : Option Derivation) → newest_child f.list d.id ≡ o → onward (leaf_by n f.list) d o ≡ onward (leaf_by m f.list) d o
    by_child rest None is = refl
    by_child rest (Some c) is = let s = step f forest d c i is in let l = s.later in rest c s.there (omega arith) (omega arith)

leaf_on : (f : Delegations) → IsForest f → (d c : Derivation) → IsIn f.list d → newest_child f.list d.id ≡ Some c → leaf_by f.next f.list d ≡ leaf_by f.next f.list c
leaf_on f forest d c i is = by_next f.next refl
  where
    by_next : (n : ℕ) → f.next ≡ n → leaf_by n f.list d ≡ leaf_by n f.list c
    by_next zero e = let mine = below_next f forest d i in absurd (omega arith)
    by_next (suc n) e =
        let s = step f forest d c i is in
        let l = s.later in
        ap (onward (leaf_by n f.list) d) is ∙ leaf_enough f forest n (suc n) c s.there (omega arith) (omega arith)

leaf_here : (f : Delegations) (d : Derivation) → newest_child f.list d.id ≡ None → (n : ℕ) → leaf_by n f.list d ≡ d
leaf_here f d is zero = refl
leaf_here f d is (suc n) = ap (onward (leaf_by n f.list) d) is

-- THE WAY

pub way_on : (list : List Derivation) (d a c : Derivation) → IsOnWay list d a → newest_child list a.id ≡ Some c → IsOnWay list d c
way_on list d a c (Here _) is = On d c c is (Here c)
way_on list d a c (On _ e _ first rest) is = On d e c first (way_on list e a c rest is)

pub way_there : (f : Delegations) → IsForest f → (d a : Derivation) → IsIn f.list d → IsOnWay f.list d a → IsIn f.list a
way_there f forest d a i (Here _) = i
way_there f forest d a i (On _ c _ is rest) = way_there f forest c a (step f forest d c i is).there rest

pub way_through : (list : List Derivation) (d a b : Derivation) → IsOnWay list d a → IsOnWay list a b → IsOnWay list d b
way_through list d a b (Here _) rest = rest
way_through list d a b (On _ c _ is first) rest = On d c b is (way_through list c a b first rest)

way_leaf : (f : Delegations) → IsForest f → (d a : Derivation) → IsIn f.list d → IsOnWay f.list d a → leaf_by f.next f.list d ≡ leaf_by f.next f.list a
way_leaf f forest d a i (Here _) = refl
way_leaf f forest d a i (On _ c _ is rest) = leaf_on f forest d c i is ∙ way_leaf f forest c a (step f forest d c i is).there rest

-- its end
pub way_ends : (f : Delegations) → IsForest f → (d a : Derivation) → IsIn f.list d → IsOnWay f.list d a → newest_child f.list a.id ≡ None → a ≡ leaf_by f.next f.list d
way_ends f forest d a i way last = sym (way_leaf f forest d a i way ∙ leaf_here f a last f.next)

-- WHAT IS KNOWN STAYS

pub trail_more : (next : ℕ) (list after : List Derivation) (t : Trail) → IsTrail (record { list = list; next = next }) t → IsTrail (record { list = after; next = next + 1 }) t
trail_more next list after t trail = let old = trail.old in record { old = omega arith; way = λ same d a is of. absurd (omega arith) }

newest_left : (list : List Derivation) (id gone : ℕ) (c : Derivation) → AreRising list → newest_child list id ≡ Some c → (c.id ≡ gone → ⊥) → newest_child (others gone list) id ≡ Some c
newest_left list id gone c rising is off =
    let before = subst (IsMostOf Below (is_child_of id) list) (ap (option_map id_of) is) (newest_facts (is_child_of id) list) in
    let passed = most_passes Below (is_child_of id) (λ d. false) list gone (Some c.id) None (λ e. absurd (off (let same : c.id ≡ gone = cc in same))) before (λ d i. refl) in
    by_test (c.id == gone) refl passed
  where
    by_found : (o : Option Derivation) → newest_child (others gone list) id ≡ o → Some c.id ≡ option_map id_of o → newest_child (others gone list) id ≡ Some c
    by_found None found e = absurd (cc)
    by_found (Some d) found e =
        let there = (filtered_in (λ (a : Derivation). not (a.id == gone)) list d (child_of_newest (others gone list) id d found).0).0 in
        let mine = (child_of_newest list id c is).0 in
        let ids : c.id ≡ d.id = cc in
        found ∙ ap (λ x. Some x) (same_id list d c rising there mine (sym ids))

    by_test : (t : Bool) → (c.id == gone) ≡ t → IsMostOf Below (is_child_of id) (others gone list) (past gone None (Some c.id)) → newest_child (others gone list) id ≡ Some c
    by_test true h passed = absurd (off (eqb-true c.id gone h))
    by_test false h passed =
        let kept : past gone None (Some c.id) ≡ Some c.id = rw h refl in
        by_found (newest_child (others gone list) id) refl
        (newest_from (is_child_of id) (others gone list) (Some c.id) (rising_others gone list rising) (subst (IsMostOf Below (is_child_of id) (others gone list)) kept passed))

-- what goes has no child, so that the way ends there
stops : (list : List Derivation) (gone : ℕ) (c a : Derivation) → IsChildless list gone → IsOnWay list c a → (a.id ≡ gone → ⊥) → c.id ≡ gone → ⊥
stops list gone c a childless (Here _) off e = off e
stops list gone c a childless (On _ b _ first later) off e =
    let k = child_of_newest list c.id b first in
    let none : is_child_of gone b ≡ false = all_at (λ x. is_child_of gone x ≡ false) list b childless k.0 in
    let some : is_child_of gone b ≡ true = subst (λ (n : ℕ). is_child_of n b ≡ true) e k.1 in
    absurd (cc)

way_left : (list : List Derivation) (gone : ℕ) (d a : Derivation) → AreRising list → IsChildless list gone → IsOnWay list d a → (a.id ≡ gone → ⊥) → IsOnWay (others gone list) d a
way_left list gone d a rising childless (Here _) off = Here d
way_left list gone d a rising childless (On _ c _ is rest) off =
    On d c a (newest_left list d.id gone c rising is (λ e. stops list gone c a childless rest off e)) (way_left list gone c a rising childless rest off)

-- what is found among the others was found among all
found_before : (list : List Derivation) (gone id : ℕ) (d : Derivation) → AreRising list → with_id (others gone list) id ≡ Some d → with_id list id ≡ Some d
found_before list gone id d rising is =
    let k = found_in (λ (a : Derivation). a.id == id) (others gone list) d is in
    let there = (filtered_in (λ (a : Derivation). not (a.id == gone)) list d k.0).0 in
    ap (with_id list) (sym (eqb-true d.id id k.1)) ∙ with_its_id list d rising there

not_gone : (list : List Derivation) (gone id : ℕ) (d : Derivation) → with_id (others gone list) id ≡ Some d → d.id ≡ gone → ⊥
not_gone list gone id d is e =
    let k = found_in (λ (a : Derivation). a.id == id) (others gone list) d is in
    let other = (filtered_in (λ (a : Derivation). not (a.id == gone)) list d k.0).1 in
    absurd (grind (arith, other, e))

pub trail_less : (f : Delegations) (gone : ℕ) (t : Trail) → IsForest f → IsChildless f.list gone → IsTrail f t → IsTrail (without f gone) t
trail_less f gone t forest childless trail = record {
  old = trail.old;
  way = λ same d a is of. way_left f.list gone d a forest.rising childless (trail.way same d a (found_before f.list gone t.from d forest.rising is) (found_before f.list gone t.at a forest.rising of)) (not_gone f.list gone t.at a of);
}

-- the derivation before the end of a way
back : (list : List Derivation) (d a : Derivation) → IsOnWay list d a → (a ≡ d) ⊎ ((b : Derivation) × IsOnWay list d b × (newest_child list b.id ≡ Some a))
back list d a (Here _) = inl refl
back list d a (On _ c _ is rest) = by_rest (back list c a rest)
  where
    by_rest : (a ≡ c) ⊎ ((b : Derivation) × IsOnWay list c b × (newest_child list b.id ≡ Some a)) → (a ≡ d) ⊎ ((b : Derivation) × IsOnWay list d b × (newest_child list b.id ≡ Some a))
    by_rest (inl e) = inr (d, Here d, subst (λ (x : Derivation). newest_child list d.id ≡ Some x) (sym e) is)
    by_rest (inr h) = inr (h.0, On d c h.0 is h.1, h.2)

-- a trail that was just gone
pub trail_gone : (f : Delegations) (from leaf : Derivation) → IsForest f → IsIn f.list from → IsOnWay f.list from leaf → IsTrail f (record { from = from.id; at = step_back from leaf; next = f.next })
trail_gone f from leaf forest i way = record { old = omega arith; way = λ same d a is of. begins d a is (by_end (leaf.id == from.id) refl a of) }
  where
    begins : (d a : Derivation) → with_id f.list from.id ≡ Some d → IsOnWay f.list from a → IsOnWay f.list d a
    begins d a is h =
        let first : Some from ≡ Some d = sym (with_its_id f.list from forest.rising i) ∙ is in
        let e : from ≡ d = cc in
        subst (λ (x : Derivation). IsOnWay f.list x a) e h

    at_start : (a : Derivation) → with_id f.list from.id ≡ Some a → IsOnWay f.list from a
    at_start a of =
        let both : Some from ≡ Some a = sym (with_its_id f.list from forest.rising i) ∙ of in
        let e : from ≡ a = cc in
        subst (IsOnWay f.list from) e (Here from)

    named : (id : ℕ) (o : Option ℕ) → is_id id o ≡ true → o ≡ Some id
    named id None h = absurd (cc)
    named id (Some other) h = ap (λ n. Some n) (eqb-true other id h)

    at_parent : (p : ℕ) (a : Derivation) → leaf.parent ≡ Some p → with_id f.list p ≡ Some a → (leaf ≡ from → ⊥) → (leaf ≡ from) ⊎ ((b : Derivation) × IsOnWay f.list from b × (newest_child f.list b.id ≡ Some leaf)) → IsOnWay f.list from a
    at_parent p a parent of off (inl e) = absurd (off e)
    at_parent p a parent of off (inr h) =
        let child = (child_of_newest f.list h.0.id leaf h.2).1 in
        let ids : Some p ≡ Some h.0.id = sym parent ∙ named h.0.id leaf.parent child in
        let same : p ≡ h.0.id = cc in
        let both : Some h.0 ≡ Some a = sym (with_its_id f.list h.0 forest.rising (way_there f forest from h.0 i h.1)) ∙ ap (with_id f.list) (sym same) ∙ of in
        let e : h.0 ≡ a = cc in
        subst (IsOnWay f.list from) e h.1

    by_parent : (o : Option ℕ) → leaf.parent ≡ o → (leaf ≡ from → ⊥) → (a : Derivation) → with_id f.list (or_id from.id o) ≡ Some a → IsOnWay f.list from a
    by_parent None parent off a of = at_start a of
    by_parent (Some p) parent off a of = at_parent p a parent of off (back f.list from leaf way)

    by_end : (t : Bool) → (leaf.id == from.id) ≡ t → (a : Derivation) → with_id f.list (if t then from.id else or_id from.id leaf.parent) ≡ Some a → IsOnWay f.list from a
    by_end true h a of = at_start a of
    by_end false h a of = by_parent leaf.parent refl (λ e. let same : leaf.id ≡ from.id = ap id_of e in absurd (grind (arith, h, same))) a of

-- A LOOK AT THE NEWEST CHILD

pub record IsLooked (f : Delegations) (at : Derivation) (id : ℕ) : Type 0 where
  pub child : Derivation
  pub newest : newest_child f.list at.id ≡ Some child
  pub found : with_id f.list id ≡ Some child
  pub step : IsStep f at child

pub looked : (f : Delegations) → IsForest f → (at : Derivation) → IsIn f.list at → (id : ℕ) → Some id ≡ option_map id_of (newest_child f.list at.id) → IsLooked f at id
looked f forest at i id is = by_child (newest_child f.list at.id) refl is
  where
    by_child : (p : Option Derivation) → newest_child f.list at.id ≡ p → Some id ≡ option_map id_of p → IsLooked f at id
    by_child None e g = absurd (cc)
    by_child (Some c) e g =
        let s = step f forest at c i e in
        let ids : id ≡ c.id = cc in
        record { child = c; newest = e; found = ap (with_id f.list) ids ∙ with_its_id f.list c forest.rising s.there; step = s }
