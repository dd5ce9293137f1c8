-- What a revoke takes away is its scope.
use Rattle.std.proofs.Common.{◌≡◌, ℕ, ◌+◌, ◌-◌, ◌<◌, List, [], ◌∷◌, ◌++◌, ap, ◌∙◌, inl, inr, refl, arith}
use Rattle.std.specs.Prelude.{◌↔◌, ◌⊎◌, ◌^◌, ◌&&◌, ◌==◌, true, max, nat_lt, Contains, Option, Some, None, option_and_then}
use Rattle.std.proofs.lemmas.Bool.{and_from, and_parts, eqb-true, eq-eqb, false_from_ne_true, or_cases, or_left, or_right}
use Rattle.std.proofs.lemmas.Bool.Decides.{nat_tests}
use Rattle.std.proofs.lemmas.Nat.{pow_pos}
use Rattle.nova_range.specs.Ranges.{HasPlace, SharesPlace, end_of, is_inside, overlaps}
use Rattle.nova_range.proofs.Meetings as meetings
use Rattle.nova_model.specs.Delegations.{Delegations, added, is_same_kind, parent_of, range_of, with_id}
use Rattle.nova_model.specs.Forest.{IsFitting, IsForest}
use Rattle.nova_model.specs.Revokes.{Revocation, IsInScope, Top, Below, busy, end_target, first_target, in_scope, is_made_of, is_met, is_own, is_top, leads_into, scope}
use Rattle.nova_model.specs.declared.delegation.Derivation.{Derivation}
use Rattle.law_forest.specs.Within.{LeadsTo}
use Rattle.law_forest.proofs.Extremes.{none_kept, none_passes}
use Rattle.law_forest.proofs.Forests.{forest_add}
use Rattle.law_forest.proofs.Lines.{member_found, parent_facts}
use Rattle.law_forest.proofs.Members.{IsIn, contains_from_in, filtered_in, in_filtered, in_from_contains}
use Rattle.law_forest.proofs.Scopes.{decided}
use Rattle.law_forest.proofs.Plain.{kind_itself, same_kind}
use Rattle.law_revocation.specs.Taken.{IsClear, IsGivenOfRange, IsOnLine, IsOwn, IsParent, IsRevokersTarget, IsRevokers, IsRemoved, Above, Given, Itself, Own}

-- THE REVOKER'S

-- in the revoker's space, and with a place of the range
met_parts : (r : Revocation) (a : Derivation) → is_met r a ≡ true → IsRevokers r a × (overlaps (range_of a) r.range ≡ true)
met_parts r a h =
    let kind = and_parts (is_same_kind r.range.kind a.kind) (a.pd == r.pd && overlaps (range_of a) r.range) h in
    let rest = and_parts (a.pd == r.pd) (overlaps (range_of a) r.range) kind.1 in
    (record { domain = eqb-true a.pd r.pd rest.0; kind = same_kind r.range.kind a.kind kind.0 }, rest.1)

met_from : (r : Revocation) (a : Derivation) → IsRevokers r a → overlaps (range_of a) r.range ≡ true → is_met r a ≡ true
met_from r a its shares =
    and_from (is_same_kind r.range.kind a.kind) (a.pd == r.pd && overlaps (range_of a) r.range)
    (ap (is_same_kind r.range.kind) its.kind ∙ kind_itself r.range.kind)
    (and_from (a.pd == r.pd) (overlaps (range_of a) r.range) (eq-eqb a.pd r.pd its.domain) shares)

-- TARGETS

-- of the targets of shared places and those of a child one is the same exactly where the tests say so
reached_from : (r : Revocation) (a c : Derivation) → IsRevokers r a → a.base < end_of r.range → r.range.base < end_of (range_of a) →
    c.target < end_target r a → first_target r a < c.target + 2 ^ c.order → (target : ℕ) × IsRevokersTarget r a target × LeadsTo c target
reached_from r a c its one other below above =
    let some = pow_pos c.order in
    let many = pow_pos a.order in
    let wide = pow_pos r.range.order in (
      max c.target (first_target r a),
      record {
        revokers = its;
        place = a.base + (max c.target (first_target r a) - a.target);
        its = record { from_base = omega arith; before_end = omega arith };
        revoked = record { from_base = omega arith; before_end = omega arith };
        leads = omega arith;
      },
      record { first = omega arith; last = omega arith },
    )

reached_tests : (r : Revocation) (a c : Derivation) (target : ℕ) → IsRevokersTarget r a target → LeadsTo c target →
    (c.target < end_target r a) × (first_target r a < c.target + 2 ^ c.order)
reached_tests r a c target h leads =
    let i = h.its.from_base in
    let j = h.its.before_end in
    let k = h.revoked.from_base in
    let l = h.revoked.before_end in
    let m = h.leads in
    let n = leads.first in
    let o = leads.last in
    (omega arith, omega arith)

made_given : (r : Revocation) (a c : Derivation) → leads_into r a c.target c.order ≡ true → (target : ℕ) × IsRevokersTarget r a target × LeadsTo c target
made_given r a c h =
    let met = and_parts (is_met r a) (nat_lt c.target (end_target r a) && nat_lt (first_target r a) (c.target + 2 ^ c.order)) h in
    let its = met_parts r a met.0 in
    let tests = and_parts (nat_lt c.target (end_target r a)) (nat_lt (first_target r a) (c.target + 2 ^ c.order)) met.1 in
    let meeting = and_parts (nat_lt a.base (end_of r.range)) (nat_lt r.range.base (end_of (range_of a))) its.1 in
    reached_from r a c its.0 (grind (arith, nat_tests)) (grind (arith, nat_tests)) (grind (arith, nat_tests)) (grind (arith, nat_tests))

given_made : (r : Revocation) (a c : Derivation) (target : ℕ) → IsRevokersTarget r a target → LeadsTo c target → leads_into r a c.target c.order ≡ true
given_made r a c target h leads =
    let tests = reached_tests r a c target h leads in
    let shares : overlaps (range_of a) r.range ≡ true = (meetings.shared (range_of a) r.range).1 (h.place, (h.its, h.revoked)) in
    and_from (is_met r a) (nat_lt c.target (end_target r a) && nat_lt (first_target r a) (c.target + 2 ^ c.order)) (met_from r a h.revokers shares)
    (and_from (nat_lt c.target (end_target r a)) (nat_lt (first_target r a) (c.target + 2 ^ c.order)) (grind (arith, nat_tests, tests.0)) (grind (arith, nat_tests, tests.1)))

-- WHERE THE SCOPE BEGINS

own_parts : (r : Revocation) (a : Derivation) → is_own r a ≡ true → IsOwn r a
own_parts r a h =
    let flag = and_parts r.own (is_met r a && is_inside (range_of a) r.range) h in
    let rest = and_parts (is_met r a) (is_inside (range_of a) r.range) flag.1 in
    record { own = flag.0; revokers = (met_parts r a rest.0).0; inside = (meetings.within (range_of a) r.range).0 rest.1 }

-- it has a place, which the range has too
own_from : (r : Revocation) (a : Derivation) → IsOwn r a → is_own r a ≡ true
own_from r a h =
    let some = pow_pos a.order in
    let first : HasPlace (range_of a) a.base = record { from_base = omega arith; before_end = omega arith } in
    let shares : overlaps (range_of a) r.range ≡ true = (meetings.shared (range_of a) r.range).1 (a.base, (first, h.inside a.base first)) in
    and_from r.own (is_met r a && is_inside (range_of a) r.range) h.own
    (and_from (is_met r a) (is_inside (range_of a) r.range) (met_from r a h.revokers shares) ((meetings.within (range_of a) r.range).1 h.inside))

parent_is : (f : Delegations) → IsForest f → (a c : Derivation) → IsParent f.list a c → parent_of f.list c ≡ Some a
parent_is f forest a c h =
    ap (option_and_then (with_id f.list)) h.named ∙ member_found f.list a forest.rising (in_from_contains f.list a h.there)

top_taken : (r : Revocation) (f : Delegations) → IsForest f → (d : Derivation) → IsIn f.list d → is_top r f.list d ≡ true → IsRemoved r f.list d
top_taken r f forest d i h = by_case (or_cases (is_made_of r d (parent_of f.list d)) (is_own r d) h)
  where
    by_parent : (o : Option Derivation) → parent_of f.list d ≡ o → is_made_of r d o ≡ true → IsRemoved r f.list d
    by_parent None is made = absurd (cc)
    by_parent (Some p) is made =
        let facts = parent_facts f d p forest i is in
        let found = made_given r p d made in
        Given d (Itself d) (record {
          source = p;
          is_parent = record { there = contains_from_in f.list p facts.there; named = facts.named };
          target = found.0;
          reached = found.1;
          leads = found.2;
        })

    by_case : (is_made_of r d (parent_of f.list d) ≡ true) ⊎ (is_own r d ≡ true) → IsRemoved r f.list d
    by_case (inl made) = by_parent (parent_of f.list d) refl made
    by_case (inr own) = Own d (Itself d) (own_parts r d own)

given_top : (r : Revocation) (f : Delegations) → IsForest f → (c : Derivation) → IsGivenOfRange r f.list c → is_top r f.list c ≡ true
given_top r f forest c h =
    or_left (is_made_of r c (parent_of f.list c)) (is_own r c)
    (ap (is_made_of r c) (parent_is f forest h.source c h.is_parent) ∙ given_made r h.source c h.target h.reached h.leads)

own_top : (r : Revocation) (list : List Derivation) (a : Derivation) → IsOwn r a → is_top r list a ≡ true
own_top r list a h = or_right (is_made_of r a (parent_of list a)) (is_own r a) (own_from r a h)

-- ALONG LINES

below_taken : (r : Revocation) (list : List Derivation) (d p : Derivation) → IsParent list p d → IsRemoved r list p → IsRemoved r list d
below_taken r list d p h (Given c on given) = Given c (Above c p d h on) given
below_taken r list d p h (Own a on own) = Own a (Above a p d h on) own

scope_taken : (r : Revocation) (f : Delegations) → IsForest f → (d : Derivation) → IsIn f.list d → IsInScope r f.list d → IsRemoved r f.list d
scope_taken r f forest d i (Top _ h) = top_taken r f forest d i h
scope_taken r f forest d i (Below _ p is h) =
    let facts = parent_facts f d p forest i is in
    below_taken r f.list d p (record { there = contains_from_in f.list p facts.there; named = facts.named }) (scope_taken r f forest p facts.there h)

line_scope : (r : Revocation) (f : Delegations) → IsForest f → (a d : Derivation) → IsOnLine f.list a d → is_top r f.list a ≡ true → IsInScope r f.list d
line_scope r f forest a d (Itself _) top = Top a top
line_scope r f forest a d (Above _ p _ h on) top = Below d p (parent_is f forest p d h) (line_scope r f forest a p on top)

taken_scope : (r : Revocation) (f : Delegations) → IsForest f → (d : Derivation) → IsRemoved r f.list d → IsInScope r f.list d
taken_scope r f forest d (Given c on given) = line_scope r f forest c d on (given_top r f forest c given)
taken_scope r f forest d (Own a on own) = line_scope r f forest a d on (own_top r f.list a own)

-- the test of the scope
tested : (r : Revocation) (f : Delegations) → IsForest f → (d : Derivation) → IsIn f.list d → (in_scope r f.list d ≡ true) ↔ IsRemoved r f.list d
tested r f forest d i = (
  λ h. scope_taken r f forest d i ((decided r f forest d i).0 h),
  λ h. (decided r f forest d i).1 (taken_scope r f forest d h),
)

pub taken : (r : Revocation) (f : Delegations) (d : Derivation) → IsForest f → Contains (scope r f.list) d ↔ (Contains f.list d × IsRemoved r f.list d)
taken r f d forest = (
  λ there.
      let i = filtered_in (in_scope r f.list) f.list d (in_from_contains (scope r f.list) d there) in
      (contains_from_in f.list d i.0, (tested r f forest d i.0).0 i.1),
  λ (there, h).
      let i = in_from_contains f.list d there in
      contains_from_in (scope r f.list) d (in_filtered (in_scope r f.list) f.list d i ((tested r f forest d i).1 h)),
)

-- NOTHING IS LEFT

on_line_there : (list : List Derivation) (a d : Derivation) → IsOnLine list a d → IsIn list d → IsIn list a
on_line_there list a d (Itself _) i = i
on_line_there list a d (Above _ p _ h on) i = on_line_there list a p on (in_from_contains list p h.there)

-- the child of an ancestor that lies on the line: it leads wherever the derivation leads
record IsChildBetween (list : List Derivation) (a d : Derivation) (target : ℕ) : Type 0 where
  child : Derivation
  is_parent : IsParent list a child
  on_line : IsOnLine list child d
  leads : LeadsTo child target

leads_up : (f : Delegations) → IsForest f → (p d : Derivation) (target : ℕ) → IsIn f.list d → IsParent f.list p d → LeadsTo d target → LeadsTo p target
leads_up f forest p d target i h leads =
    let within = (parent_facts f d p forest i (parent_is f forest p d h)).within in
    let first = within.first in
    let last = within.last in
    let from = leads.first in
    let to = leads.last in
    record { first = omega arith; last = omega arith }

child_between : (f : Delegations) → IsForest f → (a p d : Derivation) (target : ℕ) → IsOnLine f.list a p → IsIn f.list d → IsParent f.list p d → LeadsTo d target →
    IsChildBetween f.list a d target
child_between f forest a p d target (Itself _) i h leads = record { child = d; is_parent = h; on_line = Itself d; leads = leads }
child_between f forest a p d target (Above _ q _ up on) i h leads =
    let rest = child_between f forest a q p target on (in_from_contains f.list p h.there) up (leads_up f forest p d target i h leads) in
    record { child = rest.child; is_parent = rest.is_parent; on_line = Above rest.child p d h rest.on_line; leads = rest.leads }

none_left : (r : Revocation) (f : Delegations) → IsForest f → scope r f.list ≡ [] → (d : Derivation) → IsIn f.list d → IsRemoved r f.list d → ⊥
none_left r f forest none d i h =
    let on = (tested r f forest d i).1 h in
    let off = none_passes (in_scope r f.list) f.list none d i in
    cc

clear_from : (r : Revocation) (f : Delegations) → IsForest f → scope r f.list ≡ [] → IsClear r f.list
clear_from r f forest none = record {
  given = λ d a target there up reached leads.
      let i = in_from_contains f.list d there in
      let c = child_between f forest a up.parent d target up.on_line i up.is_parent leads in
      none_left r f forest none d i
      (Given c.child c.on_line (record { source = a; is_parent = c.is_parent; target = target; reached = reached; leads = c.leads }));
  own = λ a there own. none_left r f forest none a (in_from_contains f.list a there) (Own a (Itself a) own);
}

clear_to : (r : Revocation) (f : Delegations) → IsForest f → IsClear r f.list → scope r f.list ≡ []
clear_to r f forest clear = none_kept (in_scope r f.list) f.list (λ d i. false_from_ne_true (in_scope r f.list d) (λ h. left d i ((tested r f forest d i).0 h)))
  where
    left : (d : Derivation) → IsIn f.list d → IsRemoved r f.list d → ⊥
    left d i (Given c on given) =
        clear.given c given.source given.target (contains_from_in f.list c (on_line_there f.list c d on i))
        (record { parent = given.source; is_parent = given.is_parent; on_line = Itself given.source }) given.reached given.leads
    left d i (Own a on own) = clear.own a (contains_from_in f.list a (on_line_there f.list a d on i)) own

pub cleared : (r : Revocation) (f : Delegations) → IsForest f → (scope r f.list ≡ []) ↔ IsClear r f.list
cleared r f forest = (clear_from r f forest, clear_to r f forest)

-- WHAT MAY NOT JOIN

last_in : (xs : List Derivation) (x : Derivation) → IsIn (xs ++ x ∷ []) x
last_in [] x = inl refl
last_in (y ∷ ys) x = inr (last_in ys x)

abbrev IsShared : Revocation → Derivation → Type 0
IsShared r x = IsRevokers r x × SharesPlace (range_of x) r.range

met_shared : (r : Revocation) (x : Derivation) → (is_met r x ≡ true) ↔ IsShared r x
met_shared r x = (
  λ h. let met = met_parts r x h in (met.0, (meetings.shared (range_of x) r.range).0 met.1),
  λ (its, shares). met_from r x its ((meetings.shared (range_of x) r.range).1 shares),
)

pub barred : (r : Revocation) (f : Delegations) (x : Derivation) → IsForest f → IsFitting f x →
    (busy r f.list x ≡ true) ↔ (IsRemoved r (added f x).list x ⊎ IsShared r x)
barred r f x forest fits = (λ h. by_case (or_cases (in_scope r (added f x).list x) (is_met r x) h), back)
  where
    test : (in_scope r (added f x).list x ≡ true) ↔ IsRemoved r (added f x).list x
    test = tested r (added f x) (forest_add f x forest fits) x (last_in f.list x)

    by_case : (in_scope r (added f x).list x ≡ true) ⊎ (is_met r x ≡ true) → IsRemoved r (added f x).list x ⊎ IsShared r x
    by_case (inl h) = inl (test.0 h)
    by_case (inr h) = inr ((met_shared r x).0 h)

    back : IsRemoved r (added f x).list x ⊎ IsShared r x → busy r f.list x ≡ true
    back (inl h) = or_left (in_scope r (added f x).list x) (is_met r x) (test.1 h)
    back (inr h) = or_right (in_scope r (added f x).list x) (is_met r x) ((met_shared r x).1 h)
