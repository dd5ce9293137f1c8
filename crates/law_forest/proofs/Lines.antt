-- Lines in a forest: they are whole, and none of a line exceeds those after it.
use Rattle.std.proofs.Common.{◌≡◌, ℕ, zero, suc, ◌<◌, List, [], ◌∷◌, ap, sym, ◌∙◌, subst, inl, inr, refl, arith}
use Rattle.std.specs.Prelude.{◌==◌, Contains, is_some, Option, Some, None, option_and_then}
use Rattle.std.proofs.lemmas.Bool.{eqb-true, eq-eqb, ne_eqb}
use Rattle.nova_model.specs.Delegations.{Delegations, with_id, parent_of}
use Rattle.nova_model.specs.Forest.{ArePairs, IsForest, IsWithin, HasParentIn}
use Rattle.nova_model.specs.Lines.{line_by, line}
use Rattle.nova_model.specs.declared.delegation.Derivation.{Derivation}
use Rattle.law_forest.specs.Within.{StaysWithin, line_from, HasWholeLine}
use Rattle.law_forest.proofs.Members.{IsIn, all_at, found_in, in_from_contains}

-- a derivation that is there is found by its id
pub member_found : (list : List Derivation) (d : Derivation) → ArePairs (λ a b. a.id < b.id) list → IsIn list d → with_id list d.id ≡ Some d
member_found [] d rising i = absurd i
member_found (a ∷ list) d rising (inl e) = rw (eq-eqb a.id d.id (ap (λ (x : Derivation). x.id) e)) (ap (λ (x : Derivation). Some x) e)
member_found (a ∷ list) d rising (inr i) =
    let below = all_at (λ (b : Derivation). a.id < b.id) list d rising.0 i in
    rw (ne_eqb a.id d.id (λ e. omega arith)) (member_found list d rising.1 i)

-- a parent that is found: it is there, and the derivation does not exceed it
pub record IsParent (list : List Derivation) (d p : Derivation) : Type 0 where
  pub there : IsIn list p
  pub named : d.parent ≡ Some p.id
  pub within : IsWithin d p

pub parent_facts : (f : Delegations) (d p : Derivation) → IsForest f → IsIn f.list d → parent_of f.list d ≡ Some p → IsParent f.list d p
parent_facts f d p forest i e = by_parent d.parent refl (all_at (λ (a : Derivation). HasParentIn f.list a a.parent) f.list d forest.parents i) e
  where
    by_parent : (o : Option ℕ) → d.parent ≡ o → HasParentIn f.list d o → option_and_then (with_id f.list) o ≡ Some p → IsParent f.list d p
    by_parent None is has g = absurd (cc)
    by_parent (Some id) is has g =
        let found = found_in (λ (a : Derivation). a.id == id) f.list p g in
        let own : with_id f.list has.0.id ≡ Some has.0 = member_found f.list has.0 forest.rising (in_from_contains f.list has.0 has.1) in
        let both : Some has.0 ≡ Some p = sym own ∙ ap (with_id f.list) has.2 ∙ g in
        let same : has.0 ≡ p = cc in
        record {
          there = found.0;
          named = is ∙ ap (λ (n : ℕ). Some n) (sym (eqb-true p.id id found.1));
          within = subst (IsWithin d) same has.3;
        }

parent_is_found : (f : Delegations) (d : Derivation) → IsForest f → IsIn f.list d → is_some (parent_of f.list d) ≡ is_some d.parent
parent_is_found f d forest i = by_parent d.parent (all_at (λ (a : Derivation). HasParentIn f.list a a.parent) f.list d forest.parents i)
  where
    by_parent : (o : Option ℕ) → HasParentIn f.list d o → is_some (option_and_then (with_id f.list) o) ≡ is_some o
    by_parent None has = refl
    by_parent (Some id) has =
        let own : with_id f.list has.0.id ≡ Some has.0 = member_found f.list has.0 forest.rising (in_from_contains f.list has.0 has.1) in
        ap is_some (sym (ap (with_id f.list) has.2) ∙ own)

pub line_none : (n : ℕ) (list : List Derivation) → line_by n list None ≡ []
line_none zero list = refl
line_none (suc n) list = refl

-- any greater length will do
pub line_enough : (f : Delegations) → IsForest f → (n m : ℕ) (d : Derivation) → IsIn f.list d → d.id < n → d.id < m → line_by n f.list (Some d) ≡ line_by m f.list (Some d)
line_enough f forest zero m d i a b = absurd (omega arith)
line_enough f forest (suc n) zero d i a b = absurd (omega arith)
line_enough f forest (suc n) (suc m) d i a b =
    ap (λ (l : List Derivation). d ∷ l) (by_parent (λ p j k l. line_enough f forest n m p j k l) (parent_of f.list d) refl)
  where
    by_parent : ((p : Derivation) → IsIn f.list p → p.id < n → p.id < m → line_by n f.list (Some p) ≡ line_by m f.list (Some p)) →
        (o : Option Derivation) → parent_of f.list d ≡ o → line_by n f.list o ≡ line_by m f.list o
    by_parent rest None is = line_none n f.list ∙ sym (line_none m f.list)
    by_parent rest (Some p) is =
        let parent = parent_facts f d p forest i is in
        let older = parent.within.older in
        rest p parent.there (omega arith) (omega arith)

-- the line of a derivation goes on with its parent's
pub line_is : (f : Delegations) (d : Derivation) → IsForest f → IsIn f.list d → line f.list d ≡ d ∷ line_from f.list (parent_of f.list d)
line_is f d forest i = ap (λ (l : List Derivation). d ∷ l) (by_parent (parent_of f.list d) refl)
  where
    by_parent : (o : Option Derivation) → parent_of f.list d ≡ o → line_by d.id f.list o ≡ line_from f.list o
    by_parent None is = line_none d.id f.list
    by_parent (Some p) is =
        let parent = parent_facts f d p forest i is in
        let older = parent.within.older in
        line_enough f forest d.id (suc p.id) p parent.there older (omega arith)

-- within oneself, within a parent, and on from there
within_itself : (d : Derivation) → StaysWithin d d
within_itself d = record { kind = refl; targets = λ target leads. leads; rights = λ right has. has }

within_parent : (d p a : Derivation) → IsWithin d p → StaysWithin p a → StaysWithin d a
within_parent d p a w stays =
    let first = w.first in
    let last = w.last in
    record {
      kind = w.kind ∙ stays.kind;
      targets = λ target leads.
          let from = leads.first in
          let to = leads.last in
          stays.targets target (record { first = omega arith; last = omega arith });
      rights = λ right has. stays.rights right (w.rights right has);
    }

line_within : (f : Delegations) → IsForest f → (n : ℕ) (d a : Derivation) → IsIn f.list d → IsIn (line_by n f.list (Some d)) a → StaysWithin d a
line_within f forest zero d a i on = absurd on
line_within f forest (suc n) d a i (inl e) = subst (StaysWithin d) e (within_itself d)
line_within f forest (suc n) d a i (inr on) = by_parent (λ p j k. line_within f forest n p a j k) (parent_of f.list d) refl on
  where
    by_parent : ((p : Derivation) → IsIn f.list p → IsIn (line_by n f.list (Some p)) a → StaysWithin p a) →
        (o : Option Derivation) → parent_of f.list d ≡ o → IsIn (line_by n f.list o) a → StaysWithin d a
    by_parent rest None is k = absurd (subst (λ (l : List Derivation). IsIn l a) (line_none n f.list) k)
    by_parent rest (Some p) is k =
        let parent = parent_facts f d p forest i is in
        within_parent d p a parent.within (rest p parent.there k)

pub forest_within : (f : Delegations) (d a : Derivation) → IsForest f → Contains f.list d → Contains (line f.list d) a → StaysWithin d a
forest_within f d a forest c on = line_within f forest (suc d.id) d a (in_from_contains f.list d c) (in_from_contains (line f.list d) a on)

pub forest_line : (f : Delegations) (d : Derivation) → IsForest f → Contains f.list d → HasWholeLine f.list d
forest_line f d forest c =
    let there = in_from_contains f.list d c in
    record { parent = parent_is_found f d forest there; goes_on = line_is f d forest there }
