-- The newest child in the scope, looked for from the newest child to older ones.
use Rattle.std.proofs.Common.{◌≡◌, ℕ, suc, ◌<◌, ◌≤◌, List, ap, sym, ◌∙◌, subst, refl, inl, inr, arith}
use Rattle.std.specs.Prelude.{Bool, true, false, ◌⊎◌, nat_le, nat_lt, filter, Option, Some, None, IfSome, option_map, option_and_then}
use Rattle.std.proofs.lemmas.Bool.{and_parts, and_from, eqb-true, leb-true, lt-ltb, ltb-true, false_from_ne_true, cases_lt}
use Rattle.nova_model.specs.Delegations.{Delegations, with_id, id_of, is_id, is_child_of, is_older_child, newest_child, older_child, greatest_by}
use Rattle.nova_model.specs.Forest.{IsForest}
use Rattle.nova_model.specs.Revokes.{Revocation, in_scope, is_child_in, newest_in}
use Rattle.nova_model.specs.declared.delegation.Derivation.{Derivation}
use Rattle.law_forest.proofs.Extremes.{none_passes, none_kept, before_facts, none_before, greatest}
use Rattle.law_forest.proofs.Members.{IsIn, filtered_in, in_filtered}
use Rattle.nova_nodes.proofs.Found.{same_id, with_its_id, greatest_only}

-- how many ids are left, from one down
abbrev pub ids_left : Option ℕ → ℕ
ids_left None = 0
ids_left (Some id) = suc id

-- of those that pass: one of this id, and none of a greater
pub record IsSearched (p : Derivation → Bool) (list : List Derivation) (at : Option ℕ) : Type 0 where
  pub there : (id : ℕ) → at ≡ Some id → (d : Derivation) × IsIn list d × (p d ≡ true) × (d.id ≡ id)
  pub most : (a : Derivation) → IsIn list a → p a ≡ true → a.id < ids_left at

searched : (p : Derivation → Bool) (list : List Derivation) (at : Option ℕ) → at ≡ option_map id_of (greatest_by id_of (filter p list)) → IsSearched p list at
searched p list at is = by_best (greatest_by id_of (filter p list)) refl is
  where
    by_best : (o : Option Derivation) → greatest_by id_of (filter p list) ≡ o → at ≡ option_map id_of o → IsSearched p list at
    by_best None none e = record {
      there = λ id g. absurd (cc);
      most = λ a i h. let out = none_passes p list (none_before (λ a b. nat_le b.id a.id) (greatest id_of) (filter p list) none) a i in absurd (cc);
    }
    by_best (Some d) some e =
        let best = before_facts (λ a b. nat_le b.id a.id) (filter p list) d some in
        let k = filtered_in p list d best.there in
        record {
          there = λ id g. let same : Some d.id ≡ Some id = sym e ∙ g in (d, k.0, k.1, cc);
          most = λ a i h. let low = leb-true a.id d.id (best.before a (in_filtered p list a i h)) in rw e (omega arith);
        }

-- where the search stands: at a child, and none above is in the scope
pub record IsLookedThrough (r : Revocation) (list : List Derivation) (id : ℕ) (at : Option ℕ) : Type 0 where
  pub there : (n : ℕ) → at ≡ Some n → (d : Derivation) × IsIn list d × (is_child_of id d ≡ true) × (d.id ≡ n)
  pub most : (a : Derivation) → IsIn list a → is_child_in r list id a ≡ true → a.id < ids_left at

pub looked_first : (r : Revocation) (list : List Derivation) (id : ℕ) (at : Option ℕ) → at ≡ option_map id_of (newest_child list id) → IsLookedThrough r list id at
looked_first r list id at is =
    let s = searched (is_child_of id) list at is in
    record { there = s.there; most = λ a i h. s.most a i (and_parts (is_child_of id a) (in_scope r list a) h).0 }

pub looked_none : (r : Revocation) (list : List Derivation) (id : ℕ) → IsLookedThrough r list id None → None ≡ newest_in r list id
looked_none r list id looked =
    let empty = none_kept (is_child_in r list id) list (λ a i. false_from_ne_true (is_child_in r list id a) (λ h. let low = looked.most a i h in omega arith)) in
    sym (ap (greatest_by id_of) empty)

-- the child at which it stands
pub record IsAtChild (r : Revocation) (list : List Derivation) (id at : ℕ) (d : Derivation) : Type 0 where
  pub there : IsIn list d
  pub child : is_child_of id d ≡ true
  pub number : d.id ≡ at
  pub most : (a : Derivation) → IsIn list a → is_child_in r list id a ≡ true → a.id ≤ d.id

at_child : (r : Revocation) (f : Delegations) (id at : ℕ) → IsForest f → IsLookedThrough r f.list id (Some at) → (d : Derivation) × (with_id f.list at ≡ Some d) × IsAtChild r f.list id at d
at_child r f id at forest looked =
    let k = looked.there at refl in (
      k.0,
      ap (with_id f.list) (sym k.3) ∙ with_its_id f.list k.0 forest.rising k.1,
      record { there = k.1; child = k.2; number = k.3; most = λ a i h. let low = looked.most a i h in let number = k.3 in omega arith },
    )

pub child_there : (r : Revocation) (f : Delegations) (id at : ℕ) → IsForest f → IsLookedThrough r f.list id (Some at) → None ≡ with_id f.list at → ⊥
child_there r f id at forest looked none = let k = at_child r f id at forest looked in let e = k.1 in cc

pub child_is : (r : Revocation) (f : Delegations) (id at : ℕ) (d : Derivation) → IsForest f → IsLookedThrough r f.list id (Some at) → Some d ≡ with_id f.list at → IsAtChild r f.list id at d
child_is r f id at d forest looked found =
    let k = at_child r f id at forest looked in let e = k.1 in let same : k.0 ≡ d = cc in subst (IsAtChild r f.list id at) same k.2

-- it is in the scope
pub at_hit : (r : Revocation) (f : Delegations) (id at : ℕ) (d : Derivation) → IsForest f → IsAtChild r f.list id at d → in_scope r f.list d ≡ true → Some d ≡ newest_in r f.list id
at_hit r f id at d forest here taken =
    sym (greatest_only (filter (is_child_in r f.list id) f.list) d
    (in_filtered (is_child_in r f.list id) f.list d here.there (and_from (is_child_of id d) (in_scope r f.list d) here.child taken))
    (λ a i. let k = filtered_in (is_child_in r f.list id) f.list a i in here.most a k.0 k.1)
    (λ a i e. same_id f.list a d forest.rising (filtered_in (is_child_in r f.list id) f.list a i).0 here.there e))

-- its older child is that of the same parent
older_is : (list : List Derivation) (id at : ℕ) (r : Revocation) (d : Derivation) → IsAtChild r list id at d → older_child list d ≡ greatest_by id_of (filter (is_older_child id d.id) list)
older_is list id at r d here = by_parent d.parent refl here.child
  where
    by_parent : (o : Option ℕ) → d.parent ≡ o → is_id id o ≡ true → option_and_then (λ parent. greatest_by id_of (filter (is_older_child parent d.id) list)) o ≡ greatest_by id_of (filter (is_older_child id d.id) list)
    by_parent None p h = absurd (cc)
    by_parent (Some parent) p h = ap (λ (n : ℕ). greatest_by id_of (filter (is_older_child n d.id) list)) (eqb-true parent id h)

-- what is looked at next
pub record IsNextChild (r : Revocation) (list : List Derivation) (id at : ℕ) (next : Option ℕ) : Type 0 where
  pub looked : IsLookedThrough r list id next
  pub fewer : ids_left next < suc at

pub at_miss : (r : Revocation) (f : Delegations) (id at : ℕ) (d : Derivation) (next : Option ℕ) → IsForest f → IsAtChild r f.list id at d → in_scope r f.list d ≡ false →
    next ≡ option_map id_of (older_child f.list d) → IsNextChild r f.list id at next
at_miss r f id at d next forest here out is =
    let s = searched (is_older_child id d.id) f.list next (is ∙ ap (option_map id_of) (older_is f.list id at r d here)) in
    record {
      looked = record {
        there = λ n g. let k = s.there n g in (k.0, k.1, (and_parts (is_child_of id k.0) (nat_lt k.0.id d.id) k.2).0, k.3);
        most = λ a i h. by_place s a i h (cases_lt a.id d.id);
      };
      fewer = by_next s next refl;
    }
  where
    by_place : IsSearched (is_older_child id d.id) f.list next → (a : Derivation) → IsIn f.list a → is_child_in r f.list id a ≡ true → (a.id < d.id) ⊎ (d.id ≤ a.id) → a.id < ids_left next
    by_place s a i h (inl low) = s.most a i (and_from (is_child_of id a) (nat_lt a.id d.id) (and_parts (is_child_of id a) (in_scope r f.list a) h).0 (lt-ltb a.id d.id low))
    by_place s a i h (inr high) =
        let most = here.most a i h in
        let same = same_id f.list a d forest.rising i here.there (omega arith) in
        let on = (and_parts (is_child_of id a) (in_scope r f.list a) h).1 in
        let off : in_scope r f.list a ≡ false = ap (in_scope r f.list) same ∙ out in
        absurd (cc)

    by_next : IsSearched (is_older_child id d.id) f.list next → (o : Option ℕ) → next ≡ o → ids_left next < suc at
    by_next s None e = rw e (omega arith)
    by_next s (Some n) e =
        let k = s.there n e in
        let low = ltb-true k.0.id d.id (and_parts (is_child_of id k.0) (nat_lt k.0.id d.id) k.2).1 in
        let mine = k.3 in
        let number = here.number in
        rw e (omega arith)

-- what the call for the older one says of the derivation that was looked up
pub older_of : (list : List Derivation) (next : Option ℕ) (o : Option Derivation) (d : Derivation) → Some d ≡ o → IfSome o (λ e. next ≡ option_map id_of (older_child list e)) →
    next ≡ option_map id_of (older_child list d)
older_of list next o d is h = subst (λ (p : Option Derivation). IfSome p (λ e. next ≡ option_map id_of (older_child list e))) (sym is) h
