-- The leaf that a revoke of a side's takes next is the same range in two states, where the side's ranges are made of each other alike and in one order, and all that is made of them is the side's.
use Rattle.std.proofs.Common.{arith, ◌≡◌, ℕ, zero, suc, ◌+◌, ◌-◌, ◌^◌, ◌==◌, ◌<◌, ◌≤◌, List, refl, sym, ap, ap₂, ◌∙◌, subst, inl, inr}
use Rattle.std.specs.Prelude.{Bool, true, false, ◌&&◌, ◌||◌, ◌⊎◌, filter, max, min, nat_le, nat_lt, option_map, Option, Some, None}
use Rattle.std.specs.List.{find, list_all, list_any}
use Rattle.std.proofs.lemmas.Bool.{and_parts, eq-eqb, eqb-true, or_cases, or_left, or_right}
use Rattle.nova_range.specs.Ranges.{HasPlace, end_of, is_inside, overlaps}
use Rattle.nova_model.specs.Delegations.{Delegations, base_of, greatest_by, id_of, is_child_of, is_id, is_same_kind, newest_child, parent_of, range_of}
use Rattle.nova_model.specs.Forest.{IsForest}
use Rattle.nova_model.specs.Lines.{line}
use Rattle.nova_model.specs.Revokes.{Below, IsInScope, Revocation, Top, in_scope, is_child_in, is_entry, is_made_of, is_met, is_own, is_top, leads_into, leaf_by, leaf_from, newest_in, next_leaf, onward, scope_entry}
use Rattle.nova_model.specs.State.{KernelState}
use Rattle.nova_model.specs.declared.delegation.Derivation.{Derivation}
use Rattle.law_forest.proofs.Extremes.{IsOrder, any_from, any_in, before_facts, greatest, least, none_before, none_passes}
use Rattle.law_forest.proofs.Leaves.{child_of_newest}
use Rattle.law_forest.proofs.Lines.{parent_facts}
use Rattle.law_forest.proofs.Members.{IsIn, all_at, contains_from_in, filtered_in, in_filtered, in_from_contains}
use Rattle.law_forest.proofs.Pairs.{same_id}
use Rattle.law_forest.proofs.Scopes.{child_found, decided, parent_found}
use Rattle.law_flow.specs.Flow.{AreDerivedAlike, AreRevokingWithin, DerivesWithin, Held, IsSameRange, held_by}
use Rattle.law_flow.proofs.Busy.{made_by_it, met_kind, own_of_it, parent_above}
use Rattle.law_flow.proofs.Holds.{HoldAlike, at_base, hold_flipped, one_covers, twin_in}

-- TWO STATES

pub record AreReady (k l : KernelState) (S : ℕ → Type 0) : Type 0 where
  pub first : IsForest k.delegations
  pub second : IsForest l.delegations
  pub holds : HoldAlike S k.delegations.list l.delegations.list
  pub within : AreRevokingWithin k l S

pub range_flipped : (k l : KernelState) (S : ℕ → Type 0) (d e : Derivation) → IsSameRange k l S d e → IsSameRange l k S e d
range_flipped k l S d e t = record { of = subst S (sym t.pd) t.of; first = t.second; second = t.first; pd = sym t.pd; held = sym t.held }

pub derived_flipped : (k l : KernelState) (S : ℕ → Type 0) → AreDerivedAlike k l S → AreDerivedAlike l k S
derived_flipped k l S a = record {
  children = λ c d e f t u. sym (a.children e f c d (range_flipped l k S c e t) (range_flipped l k S d f u));
  order = λ c d e f t u. sym (a.order e f c d (range_flipped l k S c e t) (range_flipped l k S d f u));
}

pub ready_flipped : (k l : KernelState) (S : ℕ → Type 0) → AreReady k l S → AreReady l k S
ready_flipped k l S r = record {
  first = r.second;
  second = r.first;
  holds = hold_flipped S k.delegations.list l.delegations.list r.holds;
  within = record { alike = derived_flipped k l S r.within.alike; first = r.within.second; second = r.within.first };
}

abbrev pub HasRange : KernelState → KernelState → (ℕ → Type 0) → Derivation → Type 0
HasRange k l S d = (e : Derivation) × IsSameRange k l S d e

pub range_in : (k l : KernelState) (S : ℕ → Type 0) → IsForest k.delegations → HoldAlike S k.delegations.list l.delegations.list → (d : Derivation) → IsIn k.delegations.list d → S d.pd → HasRange k l S d
range_in k l S forest holds d there s =
    let t = twin_in S k.delegations.list l.delegations.list forest.apart holds d there s in (
      t.twin,
      record { of = s; first = contains_from_in k.delegations.list d there; second = contains_from_in l.delegations.list t.twin t.there; pd = t.is.pd; held = t.is.held },
    )

-- it is one
pub one_range : (k l : KernelState) (S : ℕ → Type 0) → IsForest l.delegations → (d e f : Derivation) → IsSameRange k l S d e → IsSameRange k l S d f → e ≡ f
one_range k l S forest d e f t u =
    let held : held_by e ≡ held_by f = t.held ∙ sym u.held in
    one_covers l.delegations.list f.kind f.pd f.base e f forest.apart (in_from_contains l.delegations.list e t.second) (in_from_contains l.delegations.list f u.second)
    (record {
      kind = ap (λ (h : Held). h.range.kind) (sym held);
      pd = t.pd ∙ sym u.pd;
      place = subst (HasPlace (range_of e)) (ap (λ (h : Held). h.range.base) held) (at_base e).place;
    }) (at_base f)

-- one state with itself
pub derived_itself : (k : KernelState) (S : ℕ → Type 0) → IsForest k.delegations → AreDerivedAlike k k S
derived_itself k S forest = record {
  children = λ c d e f t u. ap₂ (λ (x y : Derivation). is_child_of y.id x) (same c e t) (same d f u);
  order = λ c d e f t u. ap₂ (λ (x y : Derivation). nat_lt x.id y.id) (same c e t) (same d f u);
}
  where
    same : (d e : Derivation) → IsSameRange k k S d e → e ≡ d
    same d e t = one_range k k S forest d e d t (record { of = t.of; first = t.first; second = t.first; pd = refl; held = refl })

-- SCOPES

parents_so : (k l : KernelState) (S : ℕ → Type 0) → AreReady k l S → (c d e f : Derivation) → IsSameRange k l S c e → IsSameRange k l S d f → parent_of k.delegations.list c ≡ Some d → parent_of l.delegations.list e ≡ Some f
parents_so k l S r c d e f t u up =
    let found = parent_found k.delegations.list c d up in
    let named : is_child_of d.id c ≡ true = ap (is_id d.id) found.1 ∙ eq-eqb d.id d.id refl in
    child_found l.delegations r.second f e (in_from_contains l.delegations.list f u.second) (r.within.alike.children c d e f t u ∙ named)

-- what is made of what is the side's is, too
pub below_mine : (k : KernelState) (S : ℕ → Type 0) → IsForest k.delegations → DerivesWithin k S → (d p : Derivation) → IsIn k.delegations.list d → parent_of k.delegations.list d ≡ Some p → S p.pd → S d.pd
below_mine k S forest within d p i up s =
    within d p (contains_from_in k.delegations.list d i) (contains_from_in (line k.delegations.list d) p (parent_above k.delegations forest d d p i (inl refl) up)) s

scope_mine : (k : KernelState) (S : ℕ → Type 0) → IsForest k.delegations → DerivesWithin k S → (r : Revocation) → S r.pd → (d : Derivation) → IsIn k.delegations.list d → IsInScope r k.delegations.list d → S d.pd
scope_mine k S forest within r s d i (Top _ h) = by_case (or_cases (is_made_of r d (parent_of k.delegations.list d)) (is_own r d) h)
  where
    by_parent : (o : Option Derivation) → parent_of k.delegations.list d ≡ o → is_made_of r d o ≡ true → S d.pd
    by_parent None up made = absurd (cc)
    by_parent (Some q) up made = below_mine k S forest within d q i up (subst S (sym (made_by_it r d q made)) s)

    by_case : (is_made_of r d (parent_of k.delegations.list d) ≡ true) ⊎ (is_own r d ≡ true) → S d.pd
    by_case (inl made) = by_parent (parent_of k.delegations.list d) refl made
    by_case (inr own) = subst S (sym (own_of_it r d own)) s
scope_mine k S forest within r s d i (Below _ p up under) =
    below_mine k S forest within d p i up (scope_mine k S forest within r s p (parent_found k.delegations.list d p up).0 under)

pub in_scope_mine : (k : KernelState) (S : ℕ → Type 0) → IsForest k.delegations → DerivesWithin k S → (r : Revocation) → S r.pd → (d : Derivation) → IsIn k.delegations.list d → in_scope r k.delegations.list d ≡ true → S d.pd
in_scope_mine k S forest within r s d i h = scope_mine k S forest within r s d i ((decided r k.delegations forest d i).0 h)

own_same : (k l : KernelState) (S : ℕ → Type 0) (r : Revocation) (d e : Derivation) → IsSameRange k l S d e → is_own r e ≡ is_own r d
own_same k l S r d e t =
    ap₂ (λ (n : ℕ) (h : Held). r.own && ((is_same_kind r.range.kind h.range.kind && (n == r.pd && overlaps h.range r.range)) && is_inside h.range r.range)) t.pd t.held

made_same : (k l : KernelState) (S : ℕ → Type 0) (r : Revocation) (d q e p : Derivation) → IsSameRange k l S d e → IsSameRange k l S q p → is_made_of r e (Some p) ≡ is_made_of r d (Some q)
made_same k l S r d q e p t u =
    ap₂ (λ (n : ℕ) (h : Held). (is_same_kind r.range.kind h.range.kind && (n == r.pd && overlaps h.range r.range)) &&
    (nat_lt e.target (h.target + (min (end_of h.range) (end_of r.range) - h.range.base)) && nat_lt (h.target + (max h.range.base r.range.base - h.range.base)) (e.target + 2 ^ e.order))) u.pd u.held
    ∙ ap (λ (h : Held). leads_into r q h.target h.range.order) t.held

top_goes : (k l : KernelState) (S : ℕ → Type 0) → AreReady k l S → (r : Revocation) → S r.pd → (d e : Derivation) → IsSameRange k l S d e → is_top r k.delegations.list d ≡ true → is_top r l.delegations.list e ≡ true
top_goes k l S ready r s d e t h = by_case (or_cases (is_made_of r d (parent_of k.delegations.list d)) (is_own r d) h)
  where
    by_parent : (o : Option Derivation) → parent_of k.delegations.list d ≡ o → is_made_of r d o ≡ true → is_top r l.delegations.list e ≡ true
    by_parent None up made = absurd (cc)
    by_parent (Some q) up made =
        let u = range_in k l S ready.first ready.holds q (parent_found k.delegations.list d q up).0 (subst S (sym (made_by_it r d q made)) s) in
        or_left (is_made_of r e (parent_of l.delegations.list e)) (is_own r e)
        (ap (is_made_of r e) (parents_so k l S ready d q e u.0 t u.1 up) ∙ made_same k l S r d q e u.0 t u.1 ∙ made)

    by_case : (is_made_of r d (parent_of k.delegations.list d) ≡ true) ⊎ (is_own r d ≡ true) → is_top r l.delegations.list e ≡ true
    by_case (inl made) = by_parent (parent_of k.delegations.list d) refl made
    by_case (inr own) = or_right (is_made_of r e (parent_of l.delegations.list e)) (is_own r e) (own_same k l S r d e t ∙ own)

scope_goes : (k l : KernelState) (S : ℕ → Type 0) → AreReady k l S → (r : Revocation) → S r.pd → (d e : Derivation) → IsSameRange k l S d e → IsInScope r k.delegations.list d → IsInScope r l.delegations.list e
scope_goes k l S ready r s d e t (Top _ h) = Top e (top_goes k l S ready r s d e t h)
scope_goes k l S ready r s d e t (Below _ p up under) =
    let i = (parent_found k.delegations.list d p up).0 in
    let u = range_in k l S ready.first ready.holds p i (scope_mine k S ready.first ready.within.first r s p i under) in
    Below e u.0 (parents_so k l S ready d p e u.0 t u.1 up) (scope_goes k l S ready r s p u.0 u.1 under)

in_scope_goes : (k l : KernelState) (S : ℕ → Type 0) → AreReady k l S → (r : Revocation) → S r.pd → (d e : Derivation) → IsSameRange k l S d e → in_scope r k.delegations.list d ≡ true → in_scope r l.delegations.list e ≡ true
in_scope_goes k l S ready r s d e t h =
    (decided r l.delegations ready.second e (in_from_contains l.delegations.list e t.second)).1
    (scope_goes k l S ready r s d e t ((decided r k.delegations ready.first d (in_from_contains k.delegations.list d t.first)).0 h))

pub both_so : (a b : Bool) → (a ≡ true → b ≡ true) → (b ≡ true → a ≡ true) → b ≡ a
both_so true b f g = f refl
both_so false true f g = sym (g refl)
both_so false false f g = refl

scope_same : (k l : KernelState) (S : ℕ → Type 0) → AreReady k l S → (r : Revocation) → S r.pd → (d e : Derivation) → IsSameRange k l S d e → in_scope r l.delegations.list e ≡ in_scope r k.delegations.list d
scope_same k l S ready r s d e t =
    both_so (in_scope r k.delegations.list d) (in_scope r l.delegations.list e) (in_scope_goes k l S ready r s d e t) (in_scope_goes l k S (ready_flipped k l S ready) r s e d (range_flipped k l S d e t))

-- THE FIRST OF AN ORDER

abbrev pub AreSameOr : KernelState → KernelState → (ℕ → Type 0) → Option Derivation → Option Derivation → Type 0
AreSameOr k l S None None = Unit {0}
AreSameOr k l S (Some d) (Some e) = IsSameRange k l S d e
AreSameOr k l S other another = ⊥

-- two tests that only the side's pass, and the same of it
record Agree (k l : KernelState) (S : ℕ → Type 0) (p q : Derivation → Bool) : Type 0 where
  mine : (d : Derivation) → IsIn k.delegations.list d → p d ≡ true → S d.pd
  its : (e : Derivation) → IsIn l.delegations.list e → q e ≡ true → S e.pd
  same : (d e : Derivation) → IsSameRange k l S d e → q e ≡ p d

agree_flipped : (k l : KernelState) (S : ℕ → Type 0) (p q : Derivation → Bool) → Agree k l S p q → Agree l k S q p
agree_flipped k l S p q a = record { mine = a.its; its = a.mine; same = λ d e t. sym (a.same e d (range_flipped l k S d e t)) }

abbrev first_by : (Derivation → Derivation → Bool) → List Derivation → Option Derivation
first_by le ds = find (λ a. list_all (λ b. le a b) ds) ds

record Passes (k : KernelState) (p : Derivation → Bool) (le : Derivation → Derivation → Bool) (d : Derivation) : Type 0 where
  there : IsIn k.delegations.list d
  passes : p d ≡ true
  before : (a : Derivation) → IsIn k.delegations.list a → p a ≡ true → le d a ≡ true

passed : (k : KernelState) (p : Derivation → Bool) (le : Derivation → Derivation → Bool) (d : Derivation) → first_by le (filter p k.delegations.list) ≡ Some d → Passes k p le d
passed k p le d is =
    let facts = before_facts le (filter p k.delegations.list) d is in
    let i = filtered_in p k.delegations.list d facts.there in
    record { there = i.0; passes = i.1; before = λ a j h. facts.before a (in_filtered p k.delegations.list a j h) }

first_none : (k l : KernelState) (S : ℕ → Type 0) → AreReady k l S → (p q : Derivation → Bool) → Agree k l S p q → (le : Derivation → Derivation → Bool) → IsOrder le →
    first_by le (filter q l.delegations.list) ≡ None → (d : Derivation) → first_by le (filter p k.delegations.list) ≡ Some d → ⊥
first_none k l S ready p q agree le order none d is =
    let mine = passed k p le d is in
    let t = range_in k l S ready.first ready.holds d mine.there (agree.mine d mine.there mine.passes) in
    let out = none_passes q l.delegations.list (none_before le order (filter q l.delegations.list) none) t.0 (in_from_contains l.delegations.list t.0 t.1.second) in
    let both : true ≡ false = sym (agree.same d t.0 t.1 ∙ mine.passes) ∙ out in
    absurd (cc)

-- where the firsts of both can't but be one
first_so : (k l : KernelState) (S : ℕ → Type 0) → AreReady k l S → (p q : Derivation → Bool) → Agree k l S p q → (le : Derivation → Derivation → Bool) → IsOrder le →
    ((d x y e : Derivation) → IsSameRange k l S d x → IsSameRange k l S y e → Passes k p le d → Passes l q le e → le d y ≡ true → le e x ≡ true → x ≡ e) →
    AreSameOr k l S (first_by le (filter p k.delegations.list)) (first_by le (filter q l.delegations.list))
first_so k l S ready p q agree le order joins = by_both (first_by le (filter p k.delegations.list)) refl (first_by le (filter q l.delegations.list)) refl
  where
    by_both : (o : Option Derivation) → first_by le (filter p k.delegations.list) ≡ o → (u : Option Derivation) → first_by le (filter q l.delegations.list) ≡ u → AreSameOr k l S o u
    by_both None is None its = tt
    by_both (Some d) is None its = first_none k l S ready p q agree le order its d is
    by_both None is (Some e) its = first_none l k S (ready_flipped k l S ready) q p (agree_flipped k l S p q agree) le order is e its
    by_both (Some d) is (Some e) its =
        let mine = passed k p le d is in
        let theirs = passed l q le e its in
        let t = range_in k l S ready.first ready.holds d mine.there (agree.mine d mine.there mine.passes) in
        let back = range_in l k S ready.second (ready_flipped k l S ready).holds e theirs.there (agree.its e theirs.there theirs.passes) in
        let u : IsSameRange k l S back.0 e = range_flipped l k S e back.0 back.1 in
        let low = mine.before back.0 (in_from_contains k.delegations.list back.0 back.1.second) (sym (agree.same back.0 e u) ∙ theirs.passes) in
        let high = theirs.before t.0 (in_from_contains l.delegations.list t.0 t.1.second) (agree.same d t.0 t.1 ∙ mine.passes) in
        subst (IsSameRange k l S d) (joins d t.0 back.0 e t.1 u mine theirs low high) t.1

-- THE NEWEST

newest_same : (k l : KernelState) (S : ℕ → Type 0) → AreReady k l S → (p q : Derivation → Bool) → Agree k l S p q →
    AreSameOr k l S (greatest_by id_of (filter p k.delegations.list)) (greatest_by id_of (filter q l.delegations.list))
newest_same k l S ready p q agree = first_so k l S ready p q agree (λ a b. nat_le b.id a.id) (greatest id_of) joins
  where
    joins : (d x y e : Derivation) → IsSameRange k l S d x → IsSameRange k l S y e → Passes k p (λ a b. nat_le b.id a.id) d → Passes l q (λ a b. nat_le b.id a.id) e → nat_le y.id d.id ≡ true → nat_le x.id e.id ≡ true → x ≡ e
    joins d x y e t u mine theirs low high =
        let order : nat_lt x.id e.id ≡ nat_lt d.id y.id = ready.within.alike.order d y x e t u in
        let least : nat_lt d.id y.id ≡ false = grind (arith, low) in
        let below : nat_lt x.id e.id ≡ false = order ∙ least in
        let same : x.id ≡ e.id = grind (arith, high, below) in
        same_id l.delegations.list x e ready.second.rising (in_from_contains l.delegations.list x t.second) (in_from_contains l.delegations.list e u.second) same

-- of children
children_agree : (k l : KernelState) (S : ℕ → Type 0) → AreReady k l S → (d e : Derivation) → IsSameRange k l S d e → Agree k l S (is_child_of d.id) (is_child_of e.id)
children_agree k l S ready d e t = record {
  mine = λ c i child. below_mine k S ready.first ready.within.first c d i (child_found k.delegations ready.first d c (in_from_contains k.delegations.list d t.first) child) t.of;
  its = λ c i child. below_mine l S ready.second ready.within.second c e i (child_found l.delegations ready.second e c (in_from_contains l.delegations.list e t.second) child) (subst S (sym t.pd) t.of);
  same = λ c f u. ready.within.alike.children c d f e u t;
}

-- and of those in the scope
scope_agrees : (k l : KernelState) (S : ℕ → Type 0) → AreReady k l S → (r : Revocation) → S r.pd → (d e : Derivation) → IsSameRange k l S d e → Agree k l S (is_child_in r k.delegations.list d.id) (is_child_in r l.delegations.list e.id)
scope_agrees k l S ready r s d e t = record {
  mine = λ c i h. in_scope_mine k S ready.first ready.within.first r s c i (and_parts (is_child_of d.id c) (in_scope r k.delegations.list c) h).1;
  its = λ c i h. in_scope_mine l S ready.second ready.within.second r s c i (and_parts (is_child_of e.id c) (in_scope r l.delegations.list c) h).1;
  same = λ c f u. ap₂ (λ (a b : Bool). a && b) (ready.within.alike.children c d f e u t) (scope_same k l S ready r s c f u);
}

-- THE WAY

way_same : (k l : KernelState) (S : ℕ → Type 0) → AreReady k l S → (m n : ℕ) (d e : Derivation) → IsSameRange k l S d e → k.delegations.next ≤ m + d.id → l.delegations.next ≤ n + e.id →
    IsSameRange k l S (leaf_by m k.delegations.list d) (leaf_by n l.delegations.list e)
way_same k l S ready zero n d e t low high =
    let mine = all_at (λ b. b.id < k.delegations.next) k.delegations.list d ready.first.numbered (in_from_contains k.delegations.list d t.first) in absurd (omega (arith, mine, low))
way_same k l S ready (suc m) zero d e t low high =
    let its = all_at (λ b. b.id < l.delegations.next) l.delegations.list e ready.second.numbered (in_from_contains l.delegations.list e t.second) in absurd (omega (arith, its, high))
way_same k l S ready (suc m) (suc n) d e t low high =
    by_newest (newest_child k.delegations.list d.id) refl (newest_child l.delegations.list e.id) refl
    (newest_same k l S ready (is_child_of d.id) (is_child_of e.id) (children_agree k l S ready d e t)) (λ c f u a b. way_same k l S ready m n c f u a b)
  where
    older : (f : Delegations) → IsForest f → (a c : Derivation) → IsIn f.list a → newest_child f.list a.id ≡ Some c → a.id < c.id
    older f forest a c i is = let its = child_of_newest f.list a.id c is in (parent_facts f c a forest its.0 (child_found f forest a c i its.1)).within.older

    by_newest : (o : Option Derivation) → newest_child k.delegations.list d.id ≡ o → (u : Option Derivation) → newest_child l.delegations.list e.id ≡ u → AreSameOr k l S o u →
        ((c f : Derivation) → IsSameRange k l S c f → k.delegations.next ≤ m + c.id → l.delegations.next ≤ n + f.id → IsSameRange k l S (leaf_by m k.delegations.list c) (leaf_by n l.delegations.list f)) →
        IsSameRange k l S (onward (leaf_by m k.delegations.list) d o) (onward (leaf_by n l.delegations.list) e u)
    by_newest None is None its same rest = t
    by_newest (Some c) is None its same rest = absurd same
    by_newest None is (Some f) its same rest = absurd same
    by_newest (Some c) is (Some f) its same rest =
        let mine = older k.delegations ready.first d c (in_from_contains k.delegations.list d t.first) is in
        let theirs = older l.delegations ready.second e f (in_from_contains l.delegations.list e t.second) its in
        rest c f same (omega (arith, low, mine)) (omega (arith, high, theirs))

-- WHERE IT BEGINS

any_goes : (k l : KernelState) (S : ℕ → Type 0) → AreReady k l S → (r : Revocation) → S r.pd → (d e : Derivation) → IsSameRange k l S d e →
    list_any (is_child_in r k.delegations.list d.id) k.delegations.list ≡ true → list_any (is_child_in r l.delegations.list e.id) l.delegations.list ≡ true
any_goes k l S ready r s d e t h =
    let c = any_in (is_child_in r k.delegations.list d.id) k.delegations.list h in
    let agree = scope_agrees k l S ready r s d e t in
    let u = range_in k l S ready.first ready.holds c.0 c.1 (agree.mine c.0 c.1 c.2) in
    any_from (is_child_in r l.delegations.list e.id) l.delegations.list u.0 (in_from_contains l.delegations.list u.0 u.1.second) (agree.same c.0 u.0 u.1 ∙ c.2)

entry_mine : (k : KernelState) (S : ℕ → Type 0) (r : Revocation) → S r.pd → (d : Derivation) → is_entry r k.delegations.list d ≡ true → S d.pd
entry_mine k S r s d h = subst S (sym (eqb-true d.pd r.pd (and_parts (d.pd == r.pd) _ h).0)) s

entries_agree : (k l : KernelState) (S : ℕ → Type 0) → AreReady k l S → (r : Revocation) → S r.pd → Agree k l S (is_entry r k.delegations.list) (is_entry r l.delegations.list)
entries_agree k l S ready r s = record {
  mine = λ d i h. entry_mine k S r s d h;
  its = λ e i h. entry_mine l S r s e h;
  same = λ d e t.
      ap (λ (n : ℕ). n == r.pd && (in_scope r l.delegations.list e || list_any (is_child_in r l.delegations.list e.id) l.delegations.list)) t.pd
      ∙ ap₂ (λ (a b : Bool). d.pd == r.pd && (a || b)) (scope_same k l S ready r s d e t)
      (both_so (list_any (is_child_in r k.delegations.list d.id) k.delegations.list) (list_any (is_child_in r l.delegations.list e.id) l.delegations.list) (any_goes k l S ready r s d e t)
      (any_goes l k S (ready_flipped k l S ready) r s e d (range_flipped k l S d e t)));
}

-- all of a scope is of its kind
scope_kind : (f : Delegations) → IsForest f → (r : Revocation) (d : Derivation) → IsIn f.list d → IsInScope r f.list d → r.range.kind ≡ d.kind
scope_kind f forest r d i (Top _ h) = by_case (or_cases (is_made_of r d (parent_of f.list d)) (is_own r d) h)
  where
    by_parent : (o : Option Derivation) → parent_of f.list d ≡ o → is_made_of r d o ≡ true → r.range.kind ≡ d.kind
    by_parent None up made = absurd (cc)
    by_parent (Some q) up made = met_kind r q (and_parts (is_met r q) _ made).0 ∙ sym (parent_facts f d q forest i up).within.kind

    by_case : (is_made_of r d (parent_of f.list d) ≡ true) ⊎ (is_own r d ≡ true) → r.range.kind ≡ d.kind
    by_case (inl made) = by_parent (parent_of f.list d) refl made
    by_case (inr own) = met_kind r d (and_parts (is_met r d) (is_inside (range_of d) r.range) (and_parts r.own (is_met r d && is_inside (range_of d) r.range) own).1).0
scope_kind f forest r d i (Below _ p up under) = scope_kind f forest r p (parent_found f.list d p up).0 under ∙ sym (parent_facts f d p forest i up).within.kind

entry_kind : (f : Delegations) → IsForest f → (r : Revocation) (d : Derivation) → IsIn f.list d → is_entry r f.list d ≡ true → r.range.kind ≡ d.kind
entry_kind f forest r d i h = by_case (or_cases (in_scope r f.list d) (list_any (is_child_in r f.list d.id) f.list) (and_parts (d.pd == r.pd) _ h).1)
  where
    by_case : (in_scope r f.list d ≡ true) ⊎ (list_any (is_child_in r f.list d.id) f.list ≡ true) → r.range.kind ≡ d.kind
    by_case (inl inside) = scope_kind f forest r d i ((decided r f forest d i).0 inside)
    by_case (inr some) =
        let c = any_in (is_child_in r f.list d.id) f.list some in
        let parts = and_parts (is_child_of d.id c.0) (in_scope r f.list c.0) c.2 in
        scope_kind f forest r c.0 c.1 ((decided r f forest c.0 c.1).0 parts.1) ∙ (parent_facts f c.0 d forest c.1 (child_found f forest d c.0 i parts.0)).within.kind

entry_same : (k l : KernelState) (S : ℕ → Type 0) → AreReady k l S → (r : Revocation) → S r.pd → AreSameOr k l S (scope_entry r k.delegations.list) (scope_entry r l.delegations.list)
entry_same k l S ready r s = first_so k l S ready (is_entry r k.delegations.list) (is_entry r l.delegations.list) (entries_agree k l S ready r s) (λ a b. nat_le a.base b.base) (least base_of) joins
  where
    joins : (d x y e : Derivation) → IsSameRange k l S d x → IsSameRange k l S y e → Passes k (is_entry r k.delegations.list) (λ a b. nat_le a.base b.base) d →
        Passes l (is_entry r l.delegations.list) (λ a b. nat_le a.base b.base) e → nat_le d.base y.base ≡ true → nat_le e.base x.base ≡ true → x ≡ e
    joins d x y e t u mine theirs low high =
        let first : x.base ≡ d.base = ap (λ (h : Held). h.range.base) t.held in
        let second : e.base ≡ y.base = ap (λ (h : Held). h.range.base) u.held in
        let base : x.base ≡ e.base = grind (arith, first, second, low, high) in
        let pd : x.pd ≡ e.pd =
        t.pd ∙ eqb-true d.pd r.pd (and_parts (d.pd == r.pd) _ mine.passes).0 ∙ sym (eqb-true e.pd r.pd (and_parts (e.pd == r.pd) _ theirs.passes).0) in
        let kind : e.kind ≡ x.kind =
        sym (entry_kind l.delegations ready.second r e theirs.there theirs.passes) ∙ entry_kind k.delegations ready.first r d mine.there mine.passes ∙ sym (ap (λ (h : Held). h.range.kind) t.held) in
        one_covers l.delegations.list e.kind e.pd e.base x e ready.second.apart (in_from_contains l.delegations.list x t.second) theirs.there
        (record { kind = kind; pd = pd; place = subst (HasPlace (range_of x)) base (at_base x).place }) (at_base e)

-- THE LEAF

from_same : (k l : KernelState) (S : ℕ → Type 0) → AreReady k l S → (r : Revocation) → S r.pd → (d e : Derivation) → IsSameRange k l S d e → IsSameRange k l S (leaf_from r k.delegations d) (leaf_from r l.delegations e)
from_same k l S ready r s d e t =
    by_newest (newest_in r k.delegations.list d.id) (newest_in r l.delegations.list e.id)
    (newest_same k l S ready (is_child_in r k.delegations.list d.id) (is_child_in r l.delegations.list e.id) (scope_agrees k l S ready r s d e t))
  where
    by_newest : (o u : Option Derivation) → AreSameOr k l S o u →
        IsSameRange k l S (onward (leaf_by k.delegations.next k.delegations.list) d o) (onward (leaf_by l.delegations.next l.delegations.list) e u)
    by_newest None None same = t
    by_newest (Some c) None same = absurd same
    by_newest None (Some f) same = absurd same
    by_newest (Some c) (Some f) same = way_same k l S ready k.delegations.next l.delegations.next c f same (omega arith) (omega arith)

pub leaf_same : (k l : KernelState) (S : ℕ → Type 0) → AreReady k l S → (r : Revocation) → S r.pd → AreSameOr k l S (next_leaf r k.delegations) (next_leaf r l.delegations)
leaf_same k l S ready r s = by_entries (scope_entry r k.delegations.list) (scope_entry r l.delegations.list) (entry_same k l S ready r s)
  where
    by_entries : (o u : Option Derivation) → AreSameOr k l S o u → AreSameOr k l S (option_map (leaf_from r k.delegations) o) (option_map (leaf_from r l.delegations) u)
    by_entries None None same = tt
    by_entries (Some d) None same = absurd same
    by_entries None (Some e) same = absurd same
    by_entries (Some d) (Some e) same = from_same k l S ready r s d e same
