-- What holds of all of a list, and of members, beside what is passed on.
use Rattle.std.proofs.Common.{◌≡◌, List, [], ◌∷◌, ◌++◌, inl, inr, refl, arith}
use Rattle.std.specs.Prelude.{Bool, true, false, zero, suc, Some, is_some, Contains, if◌then◌else◌}
use Rattle.std.specs.List.{AllByRecursion, find, list_any}
pub use Rattle.nova_range.specs.Members.{IsIn}
pub use Rattle.nova_range.proofs.Members.{all_at, all_from, filtered_in, in_filtered, found_in}

pub all_more : {T : Type 0} (P : T → Type 0) (xs : List T) (y : T) → AllByRecursion P xs → P y → AllByRecursion P (xs ++ y ∷ [])
all_more P [] y all last = (last, tt)
all_more P (x ∷ xs) y all last = (all.0, all_more P xs y all.1 last)

pub all_weaker : {T : Type 0} (P Q : T → Type 0) (xs : List T) → ((x : T) → P x → Q x) → AllByRecursion P xs → AllByRecursion Q xs
all_weaker P Q [] weaker all = tt
all_weaker P Q (x ∷ xs) weaker all = (weaker x all.0, all_weaker P Q xs weaker all.1)

-- what is not found is none of them
pub none_found : {T : Type 0} (p : T → Bool) (xs : List T) → is_some (find p xs) ≡ false → AllByRecursion (λ x. p x ≡ false) xs
none_found p [] h = tt
none_found p (x ∷ xs) h = by_test (p x) refl h (λ g. none_found p xs g)
  where
    by_test : (t : Bool) → p x ≡ t → is_some (if t then Some x else find p xs) ≡ false → (is_some (find p xs) ≡ false → AllByRecursion (λ y. p y ≡ false) xs) →
        AllByRecursion (λ y. p y ≡ false) (x ∷ xs)
    by_test true is g rest = absurd (cc)
    by_test false is g rest = (is, rest g)

-- nor is what no test of any passes
pub none_any : {T : Type 0} (p : T → Bool) (xs : List T) → list_any p xs ≡ false → AllByRecursion (λ x. p x ≡ false) xs
none_any p [] h = tt
none_any p (x ∷ xs) h = by_test (p x) refl (λ g. none_any p xs g)
  where
    by_test : (t : Bool) → p x ≡ t → (list_any p xs ≡ false → AllByRecursion (λ y. p y ≡ false) xs) → AllByRecursion (λ y. p y ≡ false) (x ∷ xs)
    by_test true is rest = let g : list_any p (x ∷ xs) ≡ true = rw is refl in absurd (cc)
    by_test false is rest = let g : list_any p xs ≡ false = rw is at h in (is, rest g)

pub in_from_contains : {T : Type 0} (xs : List T) (x : T) → Contains xs x → IsIn xs x
in_from_contains [] x c = absurd (omega (arith, c.1))
in_from_contains (y ∷ ys) x (zero, l, e) = inl e
in_from_contains (y ∷ ys) x (suc k, l, e) = inr (in_from_contains ys x (k, omega arith, e))

pub contains_from_in : {T : Type 0} (xs : List T) (x : T) → IsIn xs x → Contains xs x
contains_from_in [] x i = absurd i
contains_from_in (y ∷ ys) x (inl e) = (0, omega arith, e)
contains_from_in (y ∷ ys) x (inr i) = let c = contains_from_in ys x i in (suc c.0, omega (arith, c.1), c.2)
