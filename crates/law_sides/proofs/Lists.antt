-- What holds of all that lists of lists have.
use Rattle.std.proofs.Common.{◌≡◌, ◌++◌, ◌+◌, ◌<◌, ℕ, zero, suc, List, length, drop, get_or, sym, [], ◌∷◌, refl, ap, ◌∙◌, subst, inl, inr, arith}
use Rattle.std.specs.Prelude.{Bool, Contains, true, false, if◌then◌else◌, find, flat_map, option_map, slice_get, Option, Some, None, option_to_list}
use Rattle.std.specs.List.{AllByRecursion, enumerate_from, list_all}
use Rattle.std.proofs.lemmas.Bool.{and_parts}
use Rattle.std.proofs.lemmas.List.{drop_more}
use Rattle.std.proofs.lemmas.Option.{same_Some}
use Rattle.law_forest.proofs.Members.{IsIn, all_at, in_from_contains}

module _ {Y : Type 0} (P : Y → Type 0) where
  pub all_append : (xs ys : List Y) → AllByRecursion P xs → AllByRecursion P ys → AllByRecursion P (xs ++ ys)
  all_append [] ys a b = b
  all_append (x ∷ xs) ys a b = (a.0, all_append xs ys a.1 b)

  pub all_left : (xs ys : List Y) → AllByRecursion P (xs ++ ys) → AllByRecursion P xs
  all_left [] ys a = tt
  all_left (x ∷ xs) ys a = (a.0, all_left xs ys a.1)

  pub all_right : (xs ys : List Y) → AllByRecursion P (xs ++ ys) → AllByRecursion P ys
  all_right [] ys a = a
  all_right (x ∷ xs) ys a = all_right xs ys a.1

  pub all_some : (o : Option Y) → ((y : Y) → o ≡ Some y → P y) → AllByRecursion P (option_to_list o)
  all_some None h = tt
  all_some (Some y) h = (h y refl, tt)

  pub some_all : (o : Option Y) (y : Y) → AllByRecursion P (option_to_list o) → o ≡ Some y → P y
  some_all None y a is = absurd (cc)
  some_all (Some x) y a is = subst P (same_Some x y is) a.0

  module _ {X : Type 0} (f : X → List Y) where
    pub all_flat : (xs : List X) → ((x : X) → IsIn xs x → AllByRecursion P (f x)) → AllByRecursion P (flat_map f xs)
    all_flat [] h = tt
    all_flat (x ∷ xs) h = all_append (f x) (flat_map f xs) (h x (inl refl)) (all_flat xs (λ y i. h y (inr i)))

    pub flat_all : (xs : List X) (x : X) → AllByRecursion P (flat_map f xs) → IsIn xs x → AllByRecursion P (f x)
    flat_all [] x a i = absurd i
    flat_all (z ∷ xs) x a (inl same) = subst (λ (y : X). AllByRecursion P (f y)) same (all_left (f z) (flat_map f xs) a)
    flat_all (z ∷ xs) x a (inr i) = flat_all xs x (all_right (f z) (flat_map f xs) a) i

  module _ {X : Type 0} (f : ℕ × X → List Y) where
    moved : (m n : ℕ) (x : X) → m ≡ n → AllByRecursion P (f (m, x)) → AllByRecursion P (f (n, x))
    moved m n x same a = subst (λ (i : ℕ). AllByRecursion P (f (i, x))) same a

    pub all_listed : (n : ℕ) (xs : List X) → ((i : ℕ) (x : X) → slice_get xs i ≡ Some x → AllByRecursion P (f (n + i, x))) → AllByRecursion P (flat_map f (enumerate_from n xs))
    all_listed n [] h = tt
    all_listed n (x ∷ xs) h =
        all_append (f (n, x)) (flat_map f (enumerate_from (n + 1) xs)) (moved (n + 0) n x (omega arith) (h 0 x refl))
        (all_listed (n + 1) xs (λ i y at. moved (n + suc i) ((n + 1) + i) y (omega arith) (h (suc i) y at)))

    pub listed_all : (n : ℕ) (xs : List X) (i : ℕ) (x : X) → AllByRecursion P (flat_map f (enumerate_from n xs)) → slice_get xs i ≡ Some x → AllByRecursion P (f (n + i, x))
    listed_all n [] i x a at = absurd (cc)
    listed_all n (y ∷ ys) zero x a at =
        moved n (n + 0) x (omega arith) (subst (λ (z : X). AllByRecursion P (f (n, z))) (same_Some y x at) (all_left (f (n, y)) (flat_map f (enumerate_from (n + 1) ys)) a))
    listed_all n (y ∷ ys) (suc i) x a at =
        moved ((n + 1) + i) (n + suc i) x (omega arith) (listed_all (n + 1) ys i x (all_right (f (n, y)) (flat_map f (enumerate_from (n + 1) ys)) a) at)

-- what is found among numbered elements has its number
pub in_listed : {X : Type 0} (m : ℕ) (xs : List X) (e : ℕ × X) → IsIn (enumerate_from m xs) e → (i : ℕ) × (e.0 ≡ m + i) × (slice_get xs i ≡ Some e.1)
in_listed m [] e none = absurd none
in_listed {X} m (x ∷ xs) e (inl same) = (0, (let its : m ≡ e.0 = ap (λ (p : ℕ × X). p.0) same in omega arith), ap (λ (p : ℕ × X). Some p.1) same)
in_listed m (x ∷ xs) e (inr later) = let its = in_listed (m + 1) xs e later in (suc its.0, (let at = its.1 in omega (arith, at)), its.2)

moved_at : {X : Type 0} (P : ℕ × X → Type 0) (m n : ℕ) (x : X) → m ≡ n → P (m, x) → P (n, x)
moved_at P m n x same p = subst (λ (i : ℕ). P (i, x)) same p

-- and what holds of all numbered ones holds of each
pub listed_at : {X : Type 0} (P : ℕ × X → Type 0) (m : ℕ) (xs : List X) (i : ℕ) (x : X) → AllByRecursion P (enumerate_from m xs) → slice_get xs i ≡ Some x → P (m + i, x)
listed_at P m [] i x all at = absurd (cc)
listed_at {X} P m (y ∷ ys) zero x all at = moved_at P m (m + 0) x (omega arith) (subst (λ (z : X). P (m, z)) (same_Some y x at) all.0)
listed_at P m (y ∷ ys) (suc i) x all at = moved_at P ((m + 1) + i) (m + suc i) x (omega arith) (listed_at P (m + 1) ys i x all.1 at)

-- numbered from 0, each has its own number
pub all_numbered : {X Y : Type 0} (P : Y → Type 0) (f : ℕ × X → List Y) (xs : List X) → ((i : ℕ) (x : X) → slice_get xs i ≡ Some x → AllByRecursion P (f (i, x))) → AllByRecursion P (flat_map f (enumerate_from 0 xs))
all_numbered {X} P f xs h = all_listed P f 0 xs (λ i x at. moved_at (λ (e : ℕ × X). AllByRecursion P (f e)) i (0 + i) x (omega arith) (h i x at))

pub numbered_all : {X Y : Type 0} (P : Y → Type 0) (f : ℕ × X → List Y) (xs : List X) (i : ℕ) (x : X) → AllByRecursion P (flat_map f (enumerate_from 0 xs)) → slice_get xs i ≡ Some x → AllByRecursion P (f (i, x))
numbered_all {X} P f xs i x all at = moved_at (λ (e : ℕ × X). AllByRecursion P (f e)) (0 + i) i x (omega arith) (listed_all P f 0 xs i x all at)

pub numbered_at : {X : Type 0} (P : ℕ × X → Type 0) (xs : List X) (i : ℕ) (x : X) → AllByRecursion P (enumerate_from 0 xs) → slice_get xs i ≡ Some x → P (i, x)
numbered_at P xs i x all at = moved_at P (0 + i) i x (omega arith) (listed_at P 0 xs i x all at)

pub in_numbered : {X : Type 0} (xs : List X) (e : ℕ × X) → IsIn (enumerate_from 0 xs) e → slice_get xs e.0 ≡ Some e.1
in_numbered xs e i =
    let its = in_listed 0 xs e i in
    let same : e.0 ≡ its.0 = (let at = its.1 in omega (arith, at)) in
    ap (slice_get xs) same ∙ its.2

-- a search among numbered elements, from that at which a loop is
numbered_here : {X : Type 0} (p : ℕ × X → Bool) (xs : List X) (i : ℕ) (d : X) → i < length xs → (all : Option (ℕ × X)) → find p (enumerate_from i (drop i xs)) ≡ all →
    (if p (i, get_or xs i d) then Some (i, get_or xs i d) else find p (enumerate_from (i + 1) (drop (i + 1) xs))) ≡ all
numbered_here {X} p xs i d below all left = sym (ap (λ (l : List X). find p (enumerate_from i l)) (drop_more xs i d below)) ∙ left

pub numbered_next : {X : Type 0} (p : ℕ × X → Bool) (xs : List X) (i : ℕ) (d : X) → i < length xs → (all : Option (ℕ × X)) → find p (enumerate_from i (drop i xs)) ≡ all → p (i, get_or xs i d) ≡ false →
    find p (enumerate_from (i + 1) (drop (i + 1) xs)) ≡ all
numbered_next p xs i d below all left not_it =
    sym (ap (λ (b : Bool). if b then Some (i, get_or xs i d) else find p (enumerate_from (i + 1) (drop (i + 1) xs))) not_it) ∙ numbered_here p xs i d below all left

pub numbered_found : {X : Type 0} (p : ℕ × X → Bool) (xs : List X) (i : ℕ) (d : X) → i < length xs → (all : Option (ℕ × X)) → find p (enumerate_from i (drop i xs)) ≡ all → p (i, get_or xs i d) ≡ true →
    Some i ≡ option_map (λ (e : ℕ × X). e.0) all
numbered_found {X} p xs i d below all left it =
    ap (option_map (λ (e : ℕ × X). e.0)) (sym (ap (λ (b : Bool). if b then Some (i, get_or xs i d) else find p (enumerate_from (i + 1) (drop (i + 1) xs))) it) ∙ numbered_here p xs i d below all left)

-- WHAT A TEST OF ALL SAYS OF ONE

pub all_of : {T : Type 0} (p : T → Bool) (xs : List T) → list_all p xs ≡ true → AllByRecursion (λ (x : T). p x ≡ true) xs
all_of p [] h = tt
all_of p (x ∷ xs) h = let two = and_parts (p x) (list_all p xs) h in (two.0, all_of p xs two.1)

pub of_one : {T : Type 0} (p : T → Bool) (xs : List T) (x : T) → list_all p xs ≡ true → Contains xs x → p x ≡ true
of_one p xs x h there = all_at (λ y. p y ≡ true) xs x (all_of p xs h) (in_from_contains xs x there)

pub at_of_all : {T : Type 0} (p : T → Bool) (xs : List T) → list_all p xs ≡ true → (i : ℕ) (x : T) → slice_get xs i ≡ Some x → p x ≡ true
at_of_all p [] h i x at = absurd (cc)
at_of_all p (y ∷ ys) h zero x at = subst (λ z. p z ≡ true) (same_Some y x at) (and_parts (p y) (list_all p ys) h).0
at_of_all p (y ∷ ys) h (suc i) x at = at_of_all p ys (and_parts (p y) (list_all p ys) h).1 i x at
