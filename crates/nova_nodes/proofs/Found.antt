-- Searches among derivations: what is found is the only derivation that it can be.
use Rattle.std.proofs.Common.{◌≡◌, ℕ, ◌<◌, ◌≤◌, List, [], ◌∷◌, ap, sym, ◌∙◌, refl, inl, inr, arith}
use Rattle.std.specs.Prelude.{Bool, true, false, nat_le, Some, None}
use Rattle.std.specs.List.{find, list_all}
use Rattle.nova_model.specs.Delegations.{with_id, least_by, greatest_by, id_of}
use Rattle.nova_model.specs.Forest.{ArePairs}
use Rattle.nova_model.specs.declared.delegation.Derivation.{Derivation}
use Rattle.law_forest.proofs.Lines.{member_found}
use Rattle.law_forest.proofs.Members.{IsIn}
pub use Rattle.law_forest.proofs.Pairs.{pairs_at, same_id}

-- the only member that passes is found, and none where none passes
pub find_only : {T : Type 0} (p : T → Bool) (xs : List T) (x : T) → IsIn xs x → p x ≡ true → ((y : T) → IsIn xs y → p y ≡ true → y ≡ x) → find p xs ≡ Some x
find_only p [] x i h only = absurd i
find_only p (y ∷ ys) x i h only = by_test (p y) refl i (λ j. find_only p ys x j h (λ z k. only z (inr k)))
  where
    by_test : (t : Bool) → p y ≡ t → IsIn (y ∷ ys) x → (IsIn ys x → find p ys ≡ Some x) → find p (y ∷ ys) ≡ Some x
    by_test true t j rest = rw t (ap (λ z. Some z) (only y (inl refl) t))
    by_test false t (inl e) rest = let k : p x ≡ false = ap p (sym e) ∙ t in absurd (cc)
    by_test false t (inr j) rest = rw t (rest j)

pub find_none : {T : Type 0} (p : T → Bool) (xs : List T) → ((x : T) → IsIn xs x → p x ≡ false) → find p xs ≡ None
find_none p [] h = refl
find_none p (x ∷ xs) h = rw (h x (inl refl)) (find_none p xs (λ y i. h y (inr i)))

-- a member that passes is found, or another is
pub not_found : {T : Type 0} (p : T → Bool) (xs : List T) (x : T) → find p xs ≡ None → IsIn xs x → p x ≡ false
not_found p [] x none i = absurd i
not_found p (y ∷ ys) x none i = by_test (p y) refl i (λ g j. not_found p ys x g j)
  where
    by_test : (t : Bool) → p y ≡ t → IsIn (y ∷ ys) x → (find p ys ≡ None → IsIn ys x → p x ≡ false) → p x ≡ false
    by_test true t j rest = let k : find p (y ∷ ys) ≡ Some y = rw t refl in absurd (cc)
    by_test false t (inl e) rest = ap p (sym e) ∙ t
    by_test false t (inr j) rest = rest (let k : find p ys ≡ None = rw t at none in k) j

pub with_its_id : (list : List Derivation) (d : Derivation) → ArePairs (λ a b. a.id < b.id) list → IsIn list d → with_id list d.id ≡ Some d
with_its_id = member_found

-- a test of all, and one of them

pub all_true : {T : Type 0} (p : T → Bool) (xs : List T) → ((x : T) → IsIn xs x → p x ≡ true) → list_all p xs ≡ true
all_true p [] h = refl
all_true p (x ∷ xs) h = let first = h x (inl refl) in grind (arith, first, all_true p xs (λ y i. h y (inr i)))

pub true_at : {T : Type 0} (p : T → Bool) (xs : List T) (x : T) → list_all p xs ≡ true → IsIn xs x → p x ≡ true
true_at p [] x h i = absurd i
true_at p (y ∷ ys) x h (inl e) = let k : p y ≡ true = grind (arith, h) in ap p (sym e) ∙ k
true_at p (y ∷ ys) x h (inr i) = true_at p ys x (let k : list_all p ys ≡ true = grind (arith, h) in k) i

-- the derivation of least number, and that of greatest, where no two have the same number
pub least_only : (number : Derivation → ℕ) (ds : List Derivation) (d : Derivation) → IsIn ds d → ((b : Derivation) → IsIn ds b → number d ≤ number b) →
    ((b : Derivation) → IsIn ds b → number b ≡ number d → b ≡ d) → least_by number ds ≡ Some d
least_only number ds d i least only =
    find_only (λ (a : Derivation). list_all (λ (b : Derivation). nat_le (number a) (number b)) ds) ds d i
    (all_true (λ (b : Derivation). nat_le (number d) (number b)) ds (λ b j. let h = least b j in grind (arith, h)))
    (λ a j h. only a j (let low : nat_le (number a) (number d) ≡ true = true_at (λ (b : Derivation). nat_le (number a) (number b)) ds d h i in let k = least a j in grind (arith, low, k)))

pub greatest_only : (ds : List Derivation) (d : Derivation) → IsIn ds d → ((b : Derivation) → IsIn ds b → b.id ≤ d.id) →
    ((b : Derivation) → IsIn ds b → b.id ≡ d.id → b ≡ d) → greatest_by id_of ds ≡ Some d
greatest_only ds d i greatest only =
    find_only (λ (a : Derivation). list_all (λ (b : Derivation). nat_le b.id a.id) ds) ds d i
    (all_true (λ (b : Derivation). nat_le b.id d.id) ds (λ b j. let h = greatest b j in grind (arith, h)))
    (λ a j h. only a j (let low : nat_le d.id a.id ≡ true = true_at (λ (b : Derivation). nat_le b.id a.id) ds d h i in let k = greatest a j in grind (arith, low, k)))
