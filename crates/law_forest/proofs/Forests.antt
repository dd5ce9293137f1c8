-- A forest stays one where a derivation that fits joins it, and where one without children goes.
use Rattle.std.proofs.Common.{◌≡◌, ℕ, ◌<◌, ◌+◌, List, [], ◌∷◌, ◌++◌, arith}
use Rattle.std.specs.Prelude.{false, true, ◌==◌, not, Option, Some, None}
use Rattle.std.specs.List.{AllByRecursion}
use Rattle.std.proofs.lemmas.List.Elements.{Contains-append_left}
use Rattle.nova_model.specs.Delegations.{Delegations, is_id, is_child_of, added, without}
use Rattle.nova_model.specs.Forest.{AreApart, IsAligned, HasParentIn, IsForest, IsFitting, IsChildless}
use Rattle.nova_model.specs.declared.delegation.Derivation.{Derivation}
use Rattle.law_forest.proofs.Members.{all_at, all_from, all_more, all_weaker, filtered_in, in_filtered, in_from_contains, contains_from_in}
use Rattle.law_forest.proofs.Pairs.{pairs_more, pairs_filter}

parent_stays : (list : List Derivation) (x a : Derivation) (parent : Option ℕ) → HasParentIn list a parent → HasParentIn (list ++ x ∷ []) a parent
parent_stays list x a None h = tt
parent_stays list x a (Some id) h = (h.0, Contains-append_left list (x ∷ []) h.0 h.1, h.2, h.3)

-- one more, that fits
pub forest_add : (f : Delegations) (x : Derivation) → IsForest f → IsFitting f x → IsForest (added f x)
forest_add f x forest fits =
    let id = fits.id in
    record {
      rising = pairs_more (λ a b. a.id < b.id) f.list x forest.rising
          (all_weaker (λ a. a.id < f.next) (λ a. a.id < x.id) f.list (λ a h. rw id h) forest.numbered);
      numbered = all_more (λ a. a.id < f.next + 1) f.list x
          (all_weaker (λ a. a.id < f.next) (λ a. a.id < f.next + 1) f.list (λ a h. omega arith) forest.numbered) (rw id (omega arith));
      aligned = all_more IsAligned f.list x forest.aligned fits.aligned;
      parents = all_more (λ a. HasParentIn (f.list ++ x ∷ []) a a.parent) f.list x
          (all_weaker (λ a. HasParentIn f.list a a.parent) (λ a. HasParentIn (f.list ++ x ∷ []) a a.parent) f.list (λ a h. parent_stays f.list x a a.parent h) forest.parents)
          (parent_stays f.list x x x.parent fits.parent);
      apart = pairs_more (λ a b. a.pd ≡ b.pd → a.kind ≡ b.kind → AreApart a b) f.list x forest.apart fits.apart;
    }

-- a parent of another id stays
parent_left : (f : Delegations) (gone : ℕ) (a : Derivation) (parent : Option ℕ) → is_id gone parent ≡ false → HasParentIn f.list a parent →
    HasParentIn (without f gone).list a parent
parent_left f gone a None other h = tt
parent_left f gone a (Some id) other h =
    let stays : not (h.0.id == gone) ≡ true = grind (arith, h.2, other) in
    (h.0, contains_from_in (without f gone).list h.0 (in_filtered (λ (b : Derivation). not (b.id == gone)) f.list h.0 (in_from_contains f.list h.0 h.1) stays), h.2, h.3)

left : (f : Delegations) (gone : ℕ) (P : Derivation → Type 0) → AllByRecursion P f.list → AllByRecursion P (without f gone).list
left f gone P all = all_from P (without f gone).list (λ a i. all_at P f.list a all (filtered_in (λ (b : Derivation). not (b.id == gone)) f.list a i).0)

-- one less, that no derivation has for its parent
pub forest_without : (f : Delegations) (id : ℕ) → IsForest f → IsChildless f.list id → IsForest (without f id)
forest_without f id forest childless = record {
  rising = pairs_filter (λ a b. a.id < b.id) (λ (b : Derivation). not (b.id == id)) f.list forest.rising;
  numbered = left f id (λ a. a.id < f.next) forest.numbered;
  aligned = left f id IsAligned forest.aligned;
  parents = all_from (λ a. HasParentIn (without f id).list a a.parent) (without f id).list (λ a i.
      let was = (filtered_in (λ (b : Derivation). not (b.id == id)) f.list a i).0 in
      parent_left f id a a.parent (all_at (λ b. is_child_of id b ≡ false) f.list a childless was) (all_at (λ b. HasParentIn f.list b b.parent) f.list a forest.parents was));
  apart = pairs_filter (λ a b. a.pd ≡ b.pd → a.kind ≡ b.kind → AreApart a b) (λ (b : Derivation). not (b.id == id)) f.list forest.apart;
}
