-- What holds of members of a list.
use Rattle.std.proofs.Common.{◌≡◌, List, [], ◌∷◌, ◌++◌, ap, sym, ◌∙◌, subst, inl, inr, refl}
use Rattle.std.specs.Prelude.{Bool, true, Some, filter}
use Rattle.std.specs.List.{AllByRecursion, find}
use Rattle.std.proofs.lemmas.Bool.{cond_both}
use Rattle.nova_range.specs.Members.{IsIn}

pub all_at : {T : Type 0} (P : T → Type 0) (xs : List T) (x : T) → AllByRecursion P xs → IsIn xs x → P x
all_at P [] x all i = absurd i
all_at P (y ∷ ys) x all (inl e) = subst P e all.0
all_at P (y ∷ ys) x all (inr i) = all_at P ys x all.1 i

pub all_from : {T : Type 0} (P : T → Type 0) (xs : List T) → ((x : T) → IsIn xs x → P x) → AllByRecursion P xs
all_from P [] h = tt
all_from P (x ∷ xs) h = (h x (inl refl), all_from P xs (λ y i. h y (inr i)))

pub filtered_in : {T : Type 0} (p : T → Bool) (xs : List T) (x : T) → IsIn (filter p xs) x → IsIn xs x × (p x ≡ true)
filtered_in p [] x i = absurd i
filtered_in p (y ∷ ys) x i = by_test (λ j. filtered_in p ys x j) i
  where
    later : IsIn ys x × (p x ≡ true) → IsIn (y ∷ ys) x × (p x ≡ true)
    later h = (inr h.0, h.1)

    kept : (IsIn (filter p ys) x → IsIn ys x × (p x ≡ true)) → p y ≡ true → IsIn (y ∷ filter p ys) x → IsIn (y ∷ ys) x × (p x ≡ true)
    kept rest t (inl e) = (inl e, ap p (sym e) ∙ t)
    kept rest t (inr i) = later (rest i)

    by_test : (IsIn (filter p ys) x → IsIn ys x × (p x ≡ true)) → IsIn (filter p (y ∷ ys)) x → IsIn (y ∷ ys) x × (p x ≡ true)
    by_test rest = cond_both (p y) (y ∷ filter p ys) (filter p ys) (λ l. IsIn l x → IsIn (y ∷ ys) x × (p x ≡ true)) (kept rest) (λ f j. later (rest j))

pub in_filtered : {T : Type 0} (p : T → Bool) (xs : List T) (x : T) → IsIn xs x → p x ≡ true → IsIn (filter p xs) x
in_filtered p [] x i h = absurd i
in_filtered p (y ∷ ys) x (inl e) h = let g : p y ≡ true = ap p e ∙ h in rw g (inl e)
in_filtered p (y ∷ ys) x (inr i) h = cond_both (p y) (y ∷ filter p ys) (filter p ys) (λ l. IsIn l x) (λ t. inr (in_filtered p ys x i h)) (λ f. in_filtered p ys x i h)

pub found_in : {T : Type 0} (p : T → Bool) (xs : List T) (x : T) → find p xs ≡ Some x → IsIn xs x × (p x ≡ true)
found_in p [] x e = absurd (cc)
found_in p (y ∷ ys) x e = by_test (λ g. found_in p ys x g) e
  where
    by_test : (find p ys ≡ Some x → IsIn ys x × (p x ≡ true)) → find p (y ∷ ys) ≡ Some x → IsIn (y ∷ ys) x × (p x ≡ true)
    by_test rest = cond_both (p y) (Some y) (find p ys) (λ o. o ≡ Some x → IsIn (y ∷ ys) x × (p x ≡ true))
        (λ t g. let same : y ≡ x = cc in (inl same, ap p (sym same) ∙ t))
        (λ f g. let h = rest g in (inr h.0, h.1))

-- members of two lists that are joined
pub in_left : {T : Type 0} (xs ys : List T) (x : T) → IsIn xs x → IsIn (xs ++ ys) x
in_left [] ys x i = absurd i
in_left (y ∷ xs) ys x (inl e) = inl e
in_left (y ∷ xs) ys x (inr i) = inr (in_left xs ys x i)

pub in_right : {T : Type 0} (xs ys : List T) (x : T) → IsIn ys x → IsIn (xs ++ ys) x
in_right [] ys x i = i
in_right (y ∷ xs) ys x i = inr (in_right xs ys x i)
