-- Where the way to a leaf begins, looked for by rising base.
use Rattle.std.proofs.Common.{◌≡◌, ℕ, ◌<◌, ◌≤◌, ◌^◌, List, ap, sym, ◌∙◌, inl, inr, refl, arith}
use Rattle.std.specs.Prelude.{Bool, true, false, ◌⊎◌, ◌&&◌, ◌||◌, ◌==◌, nat_le, nat_lt, filter, Option, Some, None, is_some}
use Rattle.std.specs.List.{list_any}
use Rattle.std.proofs.lemmas.Bool.{and_from, and_parts, or_cases, false_from_ne_true, eqb-true, eq-eqb, le-leb, leb-true, lt-ltb, ltb-true, cases_lt}
use Rattle.std.proofs.lemmas.Nat.{pow_pos}
use Rattle.nova_range.specs.Ranges.{IsRange, end_of, overlaps}
use Rattle.nova_range.proofs.Multiples.{end_within}
use Rattle.nova_model.specs.Delegations.{Delegations, range_of, parent_of, is_child_of, holds_from, first_from, least_by, base_of}
use Rattle.nova_model.specs.Forest.{IsForest}
use Rattle.nova_model.specs.Revokes.{Revocation, is_met, is_made_of, is_own, in_scope, IsInScope, Top, Below, is_child_in, newest_in, is_entry, scope_entry}
use Rattle.nova_model.specs.declared.delegation.Derivation.{Derivation}
use Rattle.law_forest.proofs.Extremes.{any_in, any_from, none_passes, none_kept, before_facts, none_before, least}
use Rattle.law_forest.proofs.Leaves.{newest_in_is, no_newest_in}
use Rattle.law_forest.proofs.Lines.{parent_facts}
use Rattle.law_forest.proofs.Members.{IsIn, filtered_in, in_filtered}
use Rattle.law_forest.proofs.Scopes.{child_found, decided}
use Rattle.nova_nodes.proofs.Found.{least_only}
use Rattle.nova_nodes.proofs.Indexed.{in_space, passes_space, meeting}

-- KINDS

met_kind : (r : Revocation) (d : Derivation) → is_met r d ≡ true → d.kind ≡ r.range.kind
met_kind r d h = (in_space r.pd r.range.kind (overlaps (range_of d) r.range) d h).space

-- all in the scope lie in the space of the range
kind_in_words : (r : Revocation) (f : Delegations) → IsForest f → (d : Derivation) → IsIn f.list d → IsInScope r f.list d → d.kind ≡ r.range.kind
kind_in_words r f forest d i (Below _ p is s) =
    let parent = parent_facts f d p forest i is in
    parent.within.kind ∙ kind_in_words r f forest p parent.there s
kind_in_words r f forest d i (Top _ t) = by_top (or_cases (is_made_of r d (parent_of f.list d)) (is_own r d) t)
  where
    made : (o : Option Derivation) → parent_of f.list d ≡ o → is_made_of r d o ≡ true → d.kind ≡ r.range.kind
    made None is g = absurd (cc)
    made (Some p) is g = (parent_facts f d p forest i is).within.kind ∙ met_kind r p (and_parts (is_met r p) _ g).0

    by_top : (is_made_of r d (parent_of f.list d) ≡ true) ⊎ (is_own r d ≡ true) → d.kind ≡ r.range.kind
    by_top (inl g) = made (parent_of f.list d) refl g
    by_top (inr g) = met_kind r d (and_parts (is_met r d) _ (and_parts r.own _ g).1).0

scope_kind : (r : Revocation) (f : Delegations) → IsForest f → (d : Derivation) → IsIn f.list d → in_scope r f.list d ≡ true → d.kind ≡ r.range.kind
scope_kind r f forest d i h = kind_in_words r f forest d i ((decided r f forest d i).0 h)

-- an entry is the revoker's, in the space of the range
record IsOf (r : Revocation) (d : Derivation) : Type 0 where
  pd : d.pd ≡ r.pd
  kind : d.kind ≡ r.range.kind

entry_of : (r : Revocation) (f : Delegations) → IsForest f → (d : Derivation) → IsIn f.list d → is_entry r f.list d ≡ true → IsOf r d
entry_of r f forest d i h = record { pd = eqb-true d.pd r.pd parts.0; kind = by_case (or_cases (in_scope r f.list d) (list_any (is_child_in r f.list d.id) f.list) parts.1) }
  where
    parts : ((d.pd == r.pd) ≡ true) × ((in_scope r f.list d || list_any (is_child_in r f.list d.id) f.list) ≡ true)
    parts = and_parts (d.pd == r.pd) _ h

    by_case : (in_scope r f.list d ≡ true) ⊎ (list_any (is_child_in r f.list d.id) f.list ≡ true) → d.kind ≡ r.range.kind
    by_case (inl g) = scope_kind r f forest d i g
    by_case (inr g) =
        let c = any_in (is_child_in r f.list d.id) f.list g in
        let k = and_parts (is_child_of d.id c.0) (in_scope r f.list c.0) c.2 in
        sym (parent_facts f c.0 d forest c.1 (child_found f forest d c.0 i k.0)).within.kind ∙ scope_kind r f forest c.0 c.1 k.1

-- two of these that share a place are the same
beside : (r : Revocation) (f : Delegations) → IsForest f → (a b : Derivation) → IsIn f.list a → IsIn f.list b → IsOf r a → IsOf r b → a.base ≤ b.base → b.base < end_of (range_of a) → a ≡ b
beside r f forest a b i j of also from before =
    meeting f a b b.base forest i j (of.pd ∙ sym also.pd) (of.kind ∙ sym also.kind)
    (and_from (nat_le a.base b.base) _ (le-leb _ _ from) (lt-ltb _ _ before))
    (and_from (nat_le b.base b.base) _ (le-leb b.base b.base (omega arith)) (lt-ltb b.base _ (let some = pow_pos b.order in omega arith)))

-- THE SEARCH

-- all entries end after a place
abbrev pub NoneBefore : Revocation → Delegations → ℕ → Type 0
NoneBefore r f place = (a : Derivation) → IsIn f.list a → is_entry r f.list a ≡ true → place < end_of (range_of a)

pub none_at_first : (r : Revocation) (f : Delegations) → NoneBefore r f 0
none_at_first r f a i h = let some = pow_pos a.order in omega arith

in_search : (r : Revocation) (place : ℕ) (a : Derivation) → IsOf r a → place < end_of (range_of a) → holds_from r.range.kind r.pd place a ≡ true
in_search r place a of h = passes_space r.pd r.range.kind (nat_lt place (end_of (range_of a))) a of.pd of.kind (lt-ltb _ _ h)

-- what the search gives
pub record IsNext (r : Revocation) (f : Delegations) (place : ℕ) (d : Derivation) : Type 0 where
  pub there : IsIn f.list d
  pub pd : d.pd ≡ r.pd
  pub kind : d.kind ≡ r.range.kind
  pub holds : place < end_of (range_of d)
  pub least : (a : Derivation) → IsIn f.list a → is_entry r f.list a ≡ true → d.base ≤ a.base

pub next_facts : (r : Revocation) (f : Delegations) → IsForest f → (place : ℕ) (d : Derivation) → NoneBefore r f place → first_from f.list r.range.kind r.pd place ≡ Some d → IsNext r f place d
next_facts r f forest place d before is =
    let low = before_facts (λ a b. nat_le a.base b.base) (filter (holds_from r.range.kind r.pd place) f.list) d is in
    let k = filtered_in (holds_from r.range.kind r.pd place) f.list d low.there in
    let s = in_space r.pd r.range.kind (nat_lt place (end_of (range_of d))) d k.1 in
    record {
      there = k.0;
      pd = s.domain;
      kind = s.space;
      holds = ltb-true _ _ s.passes;
      least = λ a i h.
          leb-true d.base a.base
          (low.before a (in_filtered (holds_from r.range.kind r.pd place) f.list a i (in_search r place a (entry_of r f forest a i h) (before a i h))));
    }

of_next : (r : Revocation) (f : Delegations) (place : ℕ) (d : Derivation) → IsNext r f place d → IsOf r d
of_next r f place d next = record { pd = next.pd; kind = next.kind }

-- a derivation that is no entry is passed
pub passed : (r : Revocation) (f : Delegations) → IsForest f → (place : ℕ) (d : Derivation) → NoneBefore r f place → IsNext r f place d → is_entry r f.list d ≡ false →
    NoneBefore r f (end_of (range_of d))
passed r f forest place d before next out a i h = by_place (cases_lt a.base (end_of (range_of d)))
  where
    by_place : (a.base < end_of (range_of d)) ⊎ (end_of (range_of d) ≤ a.base) → end_of (range_of d) < end_of (range_of a)
    by_place (inr past) = let some = pow_pos a.order in omega arith
    by_place (inl low) =
        let same = beside r f forest d a next.there i (of_next r f place d next) (entry_of r f forest a i h) (next.least a i h) low in
        let off : is_entry r f.list a ≡ false = ap (is_entry r f.list) (sym same) ∙ out in
        absurd (cc)

-- a derivation that is an entry is that of least base
pub found : (r : Revocation) (f : Delegations) → IsForest f → (place : ℕ) (d : Derivation) → IsNext r f place d → is_entry r f.list d ≡ true → Some d ≡ scope_entry r f.list
found r f forest place d next h =
    sym (least_only base_of (filter (is_entry r f.list) f.list) d (in_filtered (is_entry r f.list) f.list d next.there h)
    (λ a i. let k = filtered_in (is_entry r f.list) f.list a i in next.least a k.0 k.1)
    (λ a i same.
    let k = filtered_in (is_entry r f.list) f.list a i in
    let some = pow_pos a.order in
    beside r f forest a d k.0 next.there (entry_of r f forest a k.0 k.1) (of_next r f place d next) (omega arith) (omega arith)))

-- where the search ends there is none
pub ended : (r : Revocation) (f : Delegations) → IsForest f → (place : ℕ) → NoneBefore r f place → first_from f.list r.range.kind r.pd place ≡ None → None ≡ scope_entry r f.list
ended r f forest place before none = sym (ap (least_by base_of) (none_kept (is_entry r f.list) f.list (λ a i. false_from_ne_true (is_entry r f.list a) (λ h.
    let empty = none_before (λ a b. nat_le a.base b.base) (least base_of) (filter (holds_from r.range.kind r.pd place) f.list) none in
    let out = none_passes (holds_from r.range.kind r.pd place) f.list empty a i in
    let on = in_search r place a (entry_of r f forest a i h) (before a i h) in
    cc))))

-- it goes on, and ends by 2^20
pub goes_on : (r : Revocation) (f : Delegations) (place : ℕ) (d : Derivation) → IsNext r f place d → IsRange (range_of d) → end_of (range_of d) ≤ 2 ^ 20
goes_on r f place d next range = end_within d.base d.order range.order range.aligned range.base

-- THE TEST

-- in the scope, or a child in it
pub entry_by : (r : Revocation) (list : List Derivation) (d : Derivation) (taken : Bool) (o : Option Derivation) → d.pd ≡ r.pd → taken ≡ in_scope r list d → o ≡ newest_in r list d.id →
    (taken || is_some o) ≡ is_entry r list d
entry_by r list d taken o pd is found =
    sym (ap (λ (b : Bool). b && (in_scope r list d || list_any (is_child_in r list d.id) list)) (eq-eqb d.pd r.pd pd) ∙
    ap (λ (b : Bool). b || list_any (is_child_in r list d.id) list) (sym is) ∙
    ap (λ (b : Bool). taken || b) (by_newest (newest_in r list d.id) refl ∙ ap is_some (sym found)))
  where
    by_newest : (p : Option Derivation) → newest_in r list d.id ≡ p → list_any (is_child_in r list d.id) list ≡ is_some p
    by_newest None e = false_from_ne_true _ (λ t.
        let c = any_in (is_child_in r list d.id) list t in
        let out = no_newest_in r list d.id e c.0 c.1 in
        let on = c.2 in
        cc)
    by_newest (Some c) e = let k = newest_in_is r list d.id c e in any_from (is_child_in r list d.id) list c k.0 k.1
