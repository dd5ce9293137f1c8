-- The leaf that a part of a revoke takes.
use Rattle.std.proofs.Common.{◌≡◌, ℕ, zero, suc, ◌<◌, ◌≤◌, ◌+◌, List, [], ◌∷◌, ap, sym, ◌∙◌, subst, inl, inr, refl, arith}
use Rattle.std.specs.Prelude.{Bool, true, false, ◌⊎◌, ◌↔◌, ◌==◌, ◌&&◌, not, nat_le, filter, length, Option, Some, None, option_map}
use Rattle.std.specs.List.{AllByRecursion, list_any}
use Rattle.std.proofs.lemmas.Bool.{and_parts, and_from, or_cases, or_left, or_right, false_from_ne_true, eq-eqb, ne_eqb}
use Rattle.nova_model.specs.Delegations.{Delegations, parent_of, is_id, is_child_of, newest_child, greatest_by, id_of, base_of}
use Rattle.nova_model.specs.Forest.{ArePairs, IsForest}
use Rattle.nova_model.specs.Lines.{line_by}
use Rattle.nova_model.specs.Revokes.{Revocation, is_met, is_made_of, is_own, is_top, in_scope, scope, is_child_in, newest_in, is_entry, scope_entry, onward, leaf_by, leaf_from, next_leaf, taken_away, revoked}
use Rattle.nova_model.specs.declared.delegation.Derivation.{Derivation}
use Rattle.law_forest.specs.Courses.{IsLeaf, lacking}
use Rattle.law_forest.proofs.Members.{IsIn, all_at, all_from, filtered_in, in_from_contains, contains_from_in}
use Rattle.law_forest.proofs.Lines.{parent_facts, line_none}
use Rattle.law_forest.proofs.Extremes.{any_in, any_from, none_passes, none_kept, before_facts, none_before, least, greatest}
use Rattle.law_forest.proofs.Scopes.{parent_found, child_found, child_in_scope}

-- THE NEWEST OF A TEST, AND THE ENTRY

-- the newest is there and passes, and there is none only where none passes
newest_of : (p : Derivation → Bool) (list : List Derivation) (d : Derivation) → greatest_by id_of (filter p list) ≡ Some d → IsIn list d × (p d ≡ true)
newest_of p list d is = filtered_in p list d (before_facts (λ a b. nat_le b.id a.id) (filter p list) d is).there

no_newest : (p : Derivation → Bool) (list : List Derivation) → greatest_by id_of (filter p list) ≡ None → (a : Derivation) → IsIn list a → p a ≡ false
no_newest p list none a i = none_passes p list (none_before (λ a b. nat_le b.id a.id) (greatest id_of) (filter p list) none) a i

pub child_of_newest : (list : List Derivation) (id : ℕ) (c : Derivation) → newest_child list id ≡ Some c → IsIn list c × (is_child_of id c ≡ true)
child_of_newest list id c is = newest_of (is_child_of id) list c is

pub newest_in_is : (r : Revocation) (list : List Derivation) (id : ℕ) (c : Derivation) → newest_in r list id ≡ Some c → IsIn list c × (is_child_in r list id c ≡ true)
newest_in_is r list id c is = newest_of (is_child_in r list id) list c is

pub no_newest_in : (r : Revocation) (list : List Derivation) (id : ℕ) → newest_in r list id ≡ None → (a : Derivation) → IsIn list a → is_child_in r list id a ≡ false
no_newest_in r list id none a i = no_newest (is_child_in r list id) list none a i

pub entry_is : (r : Revocation) (list : List Derivation) (e : Derivation) → scope_entry r list ≡ Some e → IsIn list e × (is_entry r list e ≡ true)
entry_is r list e is = filtered_in (is_entry r list) list e (before_facts (λ a b. nat_le a.base b.base) (filter (is_entry r list) list) e is).there

pub no_entry_is : (r : Revocation) (list : List Derivation) → scope_entry r list ≡ None → (a : Derivation) → IsIn list a → is_entry r list a ≡ false
no_entry_is r list none a i = none_passes (is_entry r list) list (none_before (λ a b. nat_le a.base b.base) (least base_of) (filter (is_entry r list) list) none) a i

-- THE WAY

child_later : (f : Delegations) → IsForest f → (d c : Derivation) → IsIn f.list d → IsIn f.list c → is_child_of d.id c ≡ true → d.id < c.id
child_later f forest d c i j child = (parent_facts f c d forest j (child_found f forest d c i child)).within.older

pub child_joins : (r : Revocation) (f : Delegations) → IsForest f → (d c : Derivation) → IsIn f.list d → IsIn f.list c → is_child_of d.id c ≡ true →
    in_scope r f.list d ≡ true → in_scope r f.list c ≡ true
child_joins r f forest d c i j child h =
    child_in_scope r f forest c d j (child_found f forest d c i child) ∙ or_right (is_top r f.list c) (in_scope r f.list d) h

way_ends : (r : Revocation) (f : Delegations) → IsForest f → (n : ℕ) (d : Derivation) → IsIn f.list d → f.next ≤ n + d.id → in_scope r f.list d ≡ true → IsLeaf r f (leaf_by n f.list d)
way_ends r f forest zero d i most h = let mine = all_at (λ b. b.id < f.next) f.list d forest.numbered i in absurd (omega arith)
way_ends r f forest (suc n) d i most h = by_child (λ c j m g. way_ends r f forest n c j m g) (newest_child f.list d.id) refl
  where
    by_child : ((c : Derivation) → IsIn f.list c → f.next ≤ n + c.id → in_scope r f.list c ≡ true → IsLeaf r f (leaf_by n f.list c)) →
        (o : Option Derivation) → newest_child f.list d.id ≡ o → IsLeaf r f (onward (leaf_by n f.list) d o)
    by_child rest None is = record {
      there = contains_from_in f.list d i;
      taken = h;
      childless = all_from (λ a. is_child_of d.id a ≡ false) f.list (λ a j. no_newest (is_child_of d.id) f.list is a j);
    }
    by_child rest (Some c) is =
        let k = child_of_newest f.list d.id c is in
        let later = child_later f forest d c i k.0 k.1 in
        rest c k.0 (omega arith) (child_joins r f forest d c i k.0 k.1 h)

-- WHERE IT BEGINS

top_taken : (r : Revocation) (list : List Derivation) (t : Derivation) → is_top r list t ≡ true → in_scope r list t ≡ true
top_taken r list t h = or_left (is_top r list t) (list_any (is_top r list) (line_by t.id list (parent_of list t))) h

-- a derivation that is met is of the revoker
met_pd : (r : Revocation) (d : Derivation) → is_met r d ≡ true → (d.pd == r.pd) ≡ true
met_pd r d h = (and_parts (d.pd == r.pd) _ (and_parts _ (d.pd == r.pd && _) h).1).0

abbrev HasEntry : Revocation → List Derivation → Type 0
HasEntry r list = (e : Derivation) × IsIn list e × (is_entry r list e ≡ true)

top_entry : (r : Revocation) (list : List Derivation) (t : Derivation) → IsIn list t → is_top r list t ≡ true → HasEntry r list
top_entry r list t i h = by_case (or_cases (is_made_of r t (parent_of list t)) (is_own r t) h)
  where
    by_parent : (o : Option Derivation) → parent_of list t ≡ o → is_made_of r t o ≡ true → HasEntry r list
    by_parent None is g = absurd (cc)
    by_parent (Some p) is g =
        let found = parent_found list t p is in
        let met = and_parts (is_met r p) _ g in
        let child : is_child_of p.id t ≡ true = ap (is_id p.id) found.1 ∙ eq-eqb p.id p.id refl in
        let inner = any_from (is_child_in r list p.id) list t i (and_from (is_child_of p.id t) (in_scope r list t) child (top_taken r list t h)) in
        (p, found.0, and_from (p.pd == r.pd) _ (met_pd r p met.0) (or_right (in_scope r list p) _ inner))

    by_case : (is_made_of r t (parent_of list t) ≡ true) ⊎ (is_own r t ≡ true) → HasEntry r list
    by_case (inl g) = by_parent (parent_of list t) refl g
    by_case (inr g) =
        let own = and_parts r.own _ g in
        let met = and_parts (is_met r t) _ own.1 in
        (t, i, and_from (t.pd == r.pd) _ (met_pd r t met.0) (or_left (in_scope r list t) _ (top_taken r list t h)))

line_entry : (r : Revocation) (list : List Derivation) (n : ℕ) (d : Derivation) → IsIn list d → list_any (is_top r list) (line_by n list (Some d)) ≡ true → HasEntry r list
line_entry r list zero d i h = absurd (cc)
line_entry r list (suc n) d i h = by_case (λ p j g. line_entry r list n p j g) (or_cases (is_top r list d) (list_any (is_top r list) (line_by n list (parent_of list d))) h)
  where
    by_parent : ((p : Derivation) → IsIn list p → list_any (is_top r list) (line_by n list (Some p)) ≡ true → HasEntry r list) →
        (o : Option Derivation) → parent_of list d ≡ o → list_any (is_top r list) (line_by n list o) ≡ true → HasEntry r list
    by_parent rest None is g = let none : list_any (is_top r list) (line_by n list None) ≡ false = ap (list_any (is_top r list)) (line_none n list) in absurd (cc)
    by_parent rest (Some p) is g = rest p (parent_found list d p is).0 g

    by_case : ((p : Derivation) → IsIn list p → list_any (is_top r list) (line_by n list (Some p)) ≡ true → HasEntry r list) →
        (is_top r list d ≡ true) ⊎ (list_any (is_top r list) (line_by n list (parent_of list d)) ≡ true) → HasEntry r list
    by_case rest (inl t) = top_entry r list d i t
    by_case rest (inr g) = by_parent rest (parent_of list d) refl g

-- THE LEAF

-- there is no entry only where the scope is empty
no_entry : (r : Revocation) (list : List Derivation) → scope_entry r list ≡ None → (d : Derivation) → IsIn list d → in_scope r list d ≡ false
no_entry r list none d i =
    false_from_ne_true (in_scope r list d) (λ t.
    let e = line_entry r list (suc d.id) d i t in
    let out = no_entry_is r list none e.0 e.1 in
    let is = e.2 in
    cc)

none_left : (r : Revocation) (f : Delegations) → next_leaf r f ≡ None → scope r f.list ≡ []
none_left r f h = by_entry (scope_entry r f.list) refl h
  where
    by_entry : (o : Option Derivation) → scope_entry r f.list ≡ o → option_map (leaf_from r f) o ≡ None → scope r f.list ≡ []
    by_entry None is g = none_kept (in_scope r f.list) f.list (λ d i. no_entry r f.list is d i)
    by_entry (Some e) is g = absurd (cc)

from_entry : (r : Revocation) (f : Delegations) → IsForest f → (e : Derivation) → IsIn f.list e → is_entry r f.list e ≡ true → IsLeaf r f (leaf_from r f e)
from_entry r f forest e i h = by_child (newest_in r f.list e.id) refl
  where
    by_case : newest_in r f.list e.id ≡ None → (in_scope r f.list e ≡ true) ⊎ (list_any (is_child_in r f.list e.id) f.list ≡ true) → IsLeaf r f e
    by_case none (inr g) =
        let c = any_in (is_child_in r f.list e.id) f.list g in
        let out = no_newest_in r f.list e.id none c.0 c.1 in
        let is = c.2 in
        absurd (cc)
    by_case none (inl g) = record {
      there = contains_from_in f.list e i;
      taken = g;
      childless = all_from (λ a. is_child_of e.id a ≡ false) f.list (λ a j. false_from_ne_true (is_child_of e.id a) (λ child.
          let out = no_newest_in r f.list e.id none a j in
          let is = and_from (is_child_of e.id a) (in_scope r f.list a) child (child_joins r f forest e a i j child g) in
          cc));
    }

    by_child : (o : Option Derivation) → newest_in r f.list e.id ≡ o → IsLeaf r f (onward (leaf_by f.next f.list) e o)
    by_child None is =
        by_case is (or_cases (in_scope r f.list e) (list_any (is_child_in r f.list e.id) f.list) (and_parts (e.pd == r.pd) _ h).1)
    by_child (Some c) is =
        let k = newest_in_is r f.list e.id c is in
        way_ends r f forest f.next c k.0 (omega arith) (and_parts (is_child_of e.id c) (in_scope r f.list c) k.1).1

pub leaf_facts : (r : Revocation) (f : Delegations) (d : Derivation) → IsForest f → next_leaf r f ≡ Some d → IsLeaf r f d
leaf_facts r f d forest h = by_entry (scope_entry r f.list) refl h
  where
    by_entry : (o : Option Derivation) → scope_entry r f.list ≡ o → option_map (leaf_from r f) o ≡ Some d → IsLeaf r f d
    by_entry None is g = absurd (cc)
    by_entry (Some e) is g =
        let k = entry_is r f.list e is in
        let same : leaf_from r f e ≡ d = cc in
        subst (IsLeaf r f) same (from_entry r f forest e k.0 k.1)

-- there is none exactly where the scope is empty
pub leaf_or_none : (r : Revocation) (f : Delegations) → IsForest f → (next_leaf r f ≡ None) ↔ (scope r f.list ≡ [])
leaf_or_none r f forest = (λ h. none_left r f h, λ empty. by_leaf empty (next_leaf r f) refl)
  where
    by_leaf : scope r f.list ≡ [] → (o : Option Derivation) → next_leaf r f ≡ o → o ≡ None
    by_leaf empty None is = refl
    by_leaf empty (Some d) is =
        let leaf = leaf_facts r f d forest is in
        let out = none_passes (in_scope r f.list) f.list empty d (in_from_contains f.list d leaf.there) in
        let on = leaf.taken in
        absurd (cc)

-- it goes alone

pub all_kept : (p : Derivation → Bool) (list : List Derivation) → AllByRecursion (λ a. p a ≡ true) list → filter p list ≡ list
all_kept p [] all = refl
all_kept p (x ∷ xs) all = rw all.0 (ap (λ (l : List Derivation). x ∷ l) (all_kept p xs all.1))

one_less : (list : List Derivation) (d : Derivation) → ArePairs (λ a b. a.id < b.id) list → IsIn list d → length list ≡ length (lacking d.id list) + 1
one_less [] d rising i = absurd i
one_less (x ∷ xs) d rising (inl e) =
    let gone : not (x.id == d.id) ≡ false = ap not (eq-eqb x.id d.id (ap id_of e)) in
    let rest = all_kept (λ a. not (a.id == d.id)) xs (all_from (λ a. not (a.id == d.id) ≡ true) xs (λ a j.
    let above = all_at (λ (b : Derivation). x.id < b.id) xs a rising.0 j in
    let own = ap id_of e in
    ap not (ne_eqb a.id d.id (λ g. omega arith)))) in
    rw gone (let same = ap (λ (l : List Derivation). length l) rest in omega arith)
one_less (x ∷ xs) d rising (inr i) =
    let above = all_at (λ (b : Derivation). x.id < b.id) xs d rising.0 i in
    let stays : not (x.id == d.id) ≡ true = ap not (ne_eqb x.id d.id (λ g. omega arith)) in
    let rest = one_less xs d rising.1 i in
    rw stays (omega arith)

pub part_takes_one : (r : Revocation) (f : Delegations) (d : Derivation) → IsForest f → next_leaf r f ≡ Some d → length f.list ≡ length (revoked r f).list + 1
part_takes_one r f d forest is =
    one_less f.list d forest.rising (in_from_contains f.list d (leaf_facts r f d forest is).there) ∙
    ap (λ (o : Option Derivation). length (taken_away f o).list + 1) (sym is)
