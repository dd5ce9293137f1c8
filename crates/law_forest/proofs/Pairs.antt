-- Lists related in pairs: with one more, with some of it, and two of it.
use Rattle.std.proofs.Common.{◌≡◌, ◌<◌, List, [], ◌∷◌, ◌++◌, ap, sym, ◌∙◌, subst, inl, inr}
use Rattle.std.specs.Prelude.{Bool, ◌⊎◌, filter}
use Rattle.std.specs.List.{AllByRecursion}
use Rattle.std.proofs.lemmas.Bool.{cond_both}
use Rattle.std.proofs.lemmas.Option.{same_Some}
use Rattle.nova_model.specs.Delegations.{with_id}
use Rattle.nova_model.specs.Forest.{ArePairs}
use Rattle.nova_model.specs.declared.delegation.Derivation.{Derivation}
use Rattle.law_forest.proofs.Lines.{member_found}
use Rattle.law_forest.proofs.Members.{IsIn, all_at, all_from, all_more, filtered_in}

pub pairs_more : {T : Type 0} (Rel : T → T → Type 0) (xs : List T) (y : T) → ArePairs Rel xs → AllByRecursion (λ x. Rel x y) xs → ArePairs Rel (xs ++ y ∷ [])
pairs_more Rel [] y pairs last = (tt, tt)
pairs_more Rel (x ∷ xs) y pairs last = (all_more (Rel x) xs y pairs.0 last.0, pairs_more Rel xs y pairs.1 last.1)

pub pairs_filter : {T : Type 0} (Rel : T → T → Type 0) (p : T → Bool) (xs : List T) → ArePairs Rel xs → ArePairs Rel (filter p xs)
pairs_filter Rel p [] pairs = tt
pairs_filter Rel p (x ∷ xs) pairs =
    let rest = pairs_filter Rel p xs pairs.1 in
    cond_both (p x) (x ∷ filter p xs) (filter p xs) (ArePairs Rel)
    (λ t. (all_from (Rel x) (filter p xs) (λ y i. all_at (Rel x) xs y pairs.0 (filtered_in p xs y i).0), rest))
    (λ f. rest)

-- two of it are one, or are related
pub pairs_at : {T : Type 0} (Rel : T → T → Type 0) (xs : List T) (a b : T) → ArePairs Rel xs → IsIn xs a → IsIn xs b → (a ≡ b) ⊎ (Rel a b ⊎ Rel b a)
pairs_at Rel [] a b pairs i j = absurd i
pairs_at Rel (x ∷ xs) a b pairs (inl e) (inl g) = inl (sym e ∙ g)
pairs_at Rel (x ∷ xs) a b pairs (inl e) (inr j) = inr (inl (subst (λ y. Rel y b) e (all_at (Rel x) xs b pairs.0 j)))
pairs_at Rel (x ∷ xs) a b pairs (inr i) (inl g) = inr (inr (subst (λ y. Rel y a) g (all_at (Rel x) xs a pairs.0 i)))
pairs_at Rel (x ∷ xs) a b pairs (inr i) (inr j) = pairs_at Rel xs a b pairs.1 i j

-- ids rise, so that no two have one
pub same_id : (list : List Derivation) (a b : Derivation) → ArePairs (λ c d. c.id < d.id) list → IsIn list a → IsIn list b → a.id ≡ b.id → a ≡ b
same_id list a b rising i j e = same_Some a b (sym (member_found list a rising i) ∙ (ap (with_id list) e ∙ member_found list b rising j))
