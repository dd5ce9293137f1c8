-- What a scope keeps where a derivation without children joins or goes.
use Rattle.std.proofs.Common.{◌≡◌, ℕ, zero, suc, ◌<◌, List, [], ◌∷◌, ◌++◌, ap, ap₂, sym, ◌∙◌, refl, inl, inr, arith}
use Rattle.std.specs.Prelude.{Bool, true, false, ◌⊎◌, ◌==◌, ◌||◌, ◌↔◌, not, filter, if◌then◌else◌, Option, Some, None, option_and_then}
use Rattle.std.specs.List.{find, list_any}
use Rattle.std.proofs.lemmas.Bool.{eqb-true, ne_eqb, or_cases, or_left, or_right}
use Rattle.nova_model.specs.Delegations.{Delegations, with_id, parent_of, is_id, is_child_of, without}
use Rattle.nova_model.specs.Forest.{IsForest, IsChildless, HasParentIn}
use Rattle.nova_model.specs.Lines.{line_by}
use Rattle.nova_model.specs.Revokes.{Revocation, is_made_of, is_own, is_top, in_scope, scope, IsInScope, Top, Below}
use Rattle.nova_model.specs.declared.delegation.Derivation.{Derivation}
use Rattle.law_forest.specs.Within.{line_from}
use Rattle.law_forest.proofs.Lines.{member_found, line_none, line_is}
use Rattle.law_forest.proofs.Members.{IsIn, all_at, all_from, filtered_in, found_in}
use Rattle.law_forest.proofs.Extremes.{filter_same}

-- PARENTS

pub parent_found : (list : List Derivation) (d p : Derivation) → parent_of list d ≡ Some p → IsIn list p × (d.parent ≡ Some p.id)
parent_found list d p e = by_parent d.parent refl e
  where
    by_parent : (o : Option ℕ) → d.parent ≡ o → option_and_then (with_id list) o ≡ Some p → IsIn list p × (d.parent ≡ Some p.id)
    by_parent None is f = absurd (cc)
    by_parent (Some id) is f =
        let h = found_in (λ (a : Derivation). a.id == id) list p f in
        (h.0, is ∙ ap (λ (n : ℕ). Some n) (sym (eqb-true p.id id h.1)))

pub child_found : (f : Delegations) → IsForest f → (d c : Derivation) → IsIn f.list d → is_child_of d.id c ≡ true → parent_of f.list c ≡ Some d
child_found f forest d c i child = by_parent c.parent refl
  where
    by_parent : (o : Option ℕ) → c.parent ≡ o → parent_of f.list c ≡ Some d
    by_parent None is = let f : is_id d.id c.parent ≡ false = ap (is_id d.id) is in absurd (cc)
    by_parent (Some id) is =
        let same : id ≡ d.id = eqb-true id d.id (ap (is_id d.id) (sym is) ∙ child) in
        ap (option_and_then (with_id f.list)) is ∙ ap (with_id f.list) same ∙ member_found f.list d forest.rising i

-- the next id is no parent's
pub next_childless : (f : Delegations) → IsForest f → IsChildless f.list f.next
next_childless f forest = all_from (λ d. is_child_of f.next d ≡ false) f.list (λ d i. by_parent d i d.parent (all_at (λ b. HasParentIn f.list b b.parent) f.list d forest.parents i))
  where
    by_parent : (d : Derivation) → IsIn f.list d → (o : Option ℕ) → HasParentIn f.list d o → is_id f.next o ≡ false
    by_parent d i None h = refl
    by_parent d i (Some id) h =
        let older = h.3.older in
        let same : h.0.id ≡ id = h.2 in
        let mine = all_at (λ b. b.id < f.next) f.list d forest.numbered i in
        ne_eqb id f.next (λ e. omega arith)

-- what is in the list has the same parent in the other
abbrev pub KeepsParents : List Derivation → List Derivation → Type 0
KeepsParents list other = (d : Derivation) → IsIn list d → parent_of other d ≡ parent_of list d

pub find_more : {T : Type 0} (p : T → Bool) (xs : List T) (y : T) → p y ≡ false → find p (xs ++ y ∷ []) ≡ find p xs
find_more p [] y h = rw h refl
find_more p (x ∷ xs) y h = ap (λ o. if p x then Some x else o) (find_more p xs y h)

find_filter : {T : Type 0} (p q : T → Bool) (xs : List T) → ((x : T) → p x ≡ true → q x ≡ true) → find p (filter q xs) ≡ find p xs
find_filter p q [] h = refl
find_filter p q (x ∷ xs) h = by_test (find_filter p q xs h) (q x) refl (p x) refl
  where
    by_test : find p (filter q xs) ≡ find p xs → (a : Bool) → q x ≡ a → (b : Bool) → p x ≡ b → find p (filter q (x ∷ xs)) ≡ find p (x ∷ xs)
    by_test rest true e b f = rw e (ap (λ o. if p x then Some x else o) rest)
    by_test rest false e true f = let g : q x ≡ true = h x f in absurd (cc)
    by_test rest false e false f = rw (e, f) rest

childless_at : (list : List Derivation) (id : ℕ) → IsChildless list id → (d : Derivation) → IsIn list d → is_child_of id d ≡ false
childless_at list id childless d i = all_at (λ a. is_child_of id a ≡ false) list d childless i

pub more_keeps : (list : List Derivation) (x : Derivation) → IsChildless list x.id → KeepsParents list (list ++ x ∷ [])
more_keeps list x childless d i = by_parent d.parent refl
  where
    by_parent : (o : Option ℕ) → d.parent ≡ o → option_and_then (with_id (list ++ x ∷ [])) o ≡ option_and_then (with_id list) o
    by_parent None is = refl
    by_parent (Some id) is =
        let other : (id == x.id) ≡ false = ap (is_id x.id) (sym is) ∙ childless_at list x.id childless d i in
        find_more (λ (a : Derivation). a.id == id) list x (grind (arith, other))

without_keeps : (f : Delegations) (gone : ℕ) → IsChildless f.list gone → KeepsParents f.list (without f gone).list
without_keeps f gone childless d i = by_parent d.parent refl
  where
    by_parent : (o : Option ℕ) → d.parent ≡ o → option_and_then (with_id (without f gone).list) o ≡ option_and_then (with_id f.list) o
    by_parent None is = refl
    by_parent (Some id) is =
        let other : (id == gone) ≡ false = ap (is_id gone) (sym is) ∙ childless_at f.list gone childless d i in
        find_filter (λ (a : Derivation). a.id == id) (λ (a : Derivation). not (a.id == gone)) f.list (λ a h. grind (arith, other, h))

-- SCOPES

same_top : (r : Revocation) (list other : List Derivation) → KeepsParents list other → (d : Derivation) → IsIn list d → is_top r other d ≡ is_top r list d
same_top r list other keeps d i = ap (λ (o : Option Derivation). is_made_of r d o || is_own r d) (keeps d i)

pub same_tops : (r : Revocation) (list other : List Derivation) → KeepsParents list other → (n : ℕ) (d : Derivation) → IsIn list d →
    list_any (is_top r other) (line_by n other (Some d)) ≡ list_any (is_top r list) (line_by n list (Some d))
same_tops r list other keeps zero d i = refl
same_tops r list other keeps (suc n) d i =
    ap₂ (λ (a b : Bool). a || b) (same_top r list other keeps d i)
    (ap (λ (o : Option Derivation). list_any (is_top r other) (line_by n other o)) (keeps d i) ∙ by_parent (λ p j. same_tops r list other keeps n p j) (parent_of list d) refl)
  where
    by_parent : ((p : Derivation) → IsIn list p → list_any (is_top r other) (line_by n other (Some p)) ≡ list_any (is_top r list) (line_by n list (Some p))) →
        (o : Option Derivation) → parent_of list d ≡ o → list_any (is_top r other) (line_by n other o) ≡ list_any (is_top r list) (line_by n list o)
    by_parent rest None is = ap (list_any (is_top r other)) (line_none n other) ∙ sym (ap (list_any (is_top r list)) (line_none n list))
    by_parent rest (Some p) is = rest p (parent_found list d p is).0

same_in_scope : (r : Revocation) (list other : List Derivation) → KeepsParents list other → (d : Derivation) → IsIn list d → in_scope r other d ≡ in_scope r list d
same_in_scope r list other keeps d i = same_tops r list other keeps (suc d.id) d i

filter_more : {T : Type 0} (p : T → Bool) (xs : List T) (y : T) → p y ≡ false → filter p (xs ++ y ∷ []) ≡ filter p xs
filter_more p [] y h = rw h refl
filter_more p (x ∷ xs) y h = ap (λ l. if p x then x ∷ l else l) (filter_more p xs y h)

filters_swap : {T : Type 0} (p q : T → Bool) (xs : List T) → filter p (filter q xs) ≡ filter q (filter p xs)
filters_swap p q [] = refl
filters_swap p q (x ∷ xs) = by_test (filters_swap p q xs) (p x) refl (q x) refl
  where
    by_test : filter p (filter q xs) ≡ filter q (filter p xs) → (a : Bool) → p x ≡ a → (b : Bool) → q x ≡ b → filter p (filter q (x ∷ xs)) ≡ filter q (filter p (x ∷ xs))
    by_test rest true e true f = simp (e, f) (ap (λ l. x ∷ l) rest)
    by_test rest true e false f = simp (e, f) rest
    by_test rest false e true f = simp (e, f) rest
    by_test rest false e false f = simp (e, f) rest

-- a derivation more that has no child and is not in the scope leaves it
pub scope_more : (r : Revocation) (list : List Derivation) (x : Derivation) → IsChildless list x.id → in_scope r (list ++ x ∷ []) x ≡ false →
    scope r (list ++ x ∷ []) ≡ scope r list
scope_more r list x childless out =
    filter_more (in_scope r (list ++ x ∷ [])) list x out ∙
    filter_same (in_scope r (list ++ x ∷ [])) (in_scope r list) list (λ d i. same_in_scope r list (list ++ x ∷ []) (more_keeps list x childless) d i)

-- a derivation that has no child goes: the scope is what it was, without it
pub scope_without : (r : Revocation) (f : Delegations) (gone : ℕ) → IsChildless f.list gone →
    scope r (without f gone).list ≡ filter (λ (d : Derivation). not (d.id == gone)) (scope r f.list)
scope_without r f gone childless =
    filter_same (in_scope r (without f gone).list) (in_scope r f.list) (without f gone).list
    (λ d i. same_in_scope r f.list (without f gone).list (without_keeps f gone childless) d (filtered_in (λ (a : Derivation). not (a.id == gone)) f.list d i).0) ∙
    filters_swap (in_scope r f.list) (λ (a : Derivation). not (a.id == gone)) f.list

-- the test of a child by that of its parent, and of one without a parent
pub child_in_scope : (r : Revocation) (f : Delegations) → IsForest f → (d p : Derivation) → IsIn f.list d → parent_of f.list d ≡ Some p →
    in_scope r f.list d ≡ (is_top r f.list d || in_scope r f.list p)
child_in_scope r f forest d p i is =
    ap (list_any (is_top r f.list)) (line_is f d forest i ∙ ap (λ (o : Option Derivation). d ∷ line_from f.list o) is)

pub root_in_scope : (r : Revocation) (list : List Derivation) (d : Derivation) → parent_of list d ≡ None → in_scope r list d ≡ (is_top r list d || false)
root_in_scope r list d is =
    ap (λ (o : Option Derivation). is_top r list d || list_any (is_top r list) (line_by d.id list o)) is ∙
    ap (λ (l : List Derivation). is_top r list d || list_any (is_top r list) l) (line_none d.id list)

-- IN WORDS

by_line : (r : Revocation) (list : List Derivation) (n : ℕ) (d : Derivation) → list_any (is_top r list) (line_by n list (Some d)) ≡ true → IsInScope r list d
by_line r list zero d h = absurd (cc)
by_line r list (suc n) d h = by_case (λ p g. by_line r list n p g) (or_cases (is_top r list d) (list_any (is_top r list) (line_by n list (parent_of list d))) h)
  where
    by_parent : ((p : Derivation) → list_any (is_top r list) (line_by n list (Some p)) ≡ true → IsInScope r list p) →
        (o : Option Derivation) → parent_of list d ≡ o → list_any (is_top r list) (line_by n list o) ≡ true → IsInScope r list d
    by_parent rest None is g = let none : list_any (is_top r list) (line_by n list None) ≡ false = ap (list_any (is_top r list)) (line_none n list) in absurd (cc)
    by_parent rest (Some p) is g = Below d p is (rest p g)

    by_case : ((p : Derivation) → list_any (is_top r list) (line_by n list (Some p)) ≡ true → IsInScope r list p) →
        (is_top r list d ≡ true) ⊎ (list_any (is_top r list) (line_by n list (parent_of list d)) ≡ true) → IsInScope r list d
    by_case rest (inl t) = Top d t
    by_case rest (inr g) = by_parent rest (parent_of list d) refl g

to_line : (r : Revocation) (f : Delegations) → IsForest f → (d : Derivation) → IsIn f.list d → IsInScope r f.list d → in_scope r f.list d ≡ true
to_line r f forest d i (Top _ t) = or_left (is_top r f.list d) _ t
to_line r f forest d i (Below _ p is s) =
    child_in_scope r f forest d p i is ∙ or_right (is_top r f.list d) (in_scope r f.list p) (to_line r f forest p (parent_found f.list d p is).0 s)

pub decided : (r : Revocation) (f : Delegations) → IsForest f → (d : Derivation) → IsIn f.list d → (in_scope r f.list d ≡ true) ↔ IsInScope r f.list d
decided r f forest d i = (λ h. by_line r f.list (suc d.id) d h, λ s. to_line r f forest d i s)
