-- Lists whose elements are related one by one: what is found in them; and tables of budgets under a map.
use Rattle.std.proofs.Common.{◌≡◌, ℕ, zero, suc, List, [], ◌∷◌, map, ap, ap₂, refl}
use Rattle.std.specs.Prelude.{Bool, true, false, ◌&&◌, not, slice_get, slice_set, Option, Some, None, option_map, if◌then◌else◌}
use Rattle.std.specs.List.{find, list_all}
use Rattle.nova_model.specs.Choice.{first_of}
use Rattle.nova_model.specs.State.{entry}
use Rattle.law_forest.specs.Effects.{joined}
use Rattle.law_turns.proofs.Tags.{map_more}

-- as many elements, each related to that of its place
abbrev pub InStep : {T : Type 0} → (T → T → Type 0) → List T → List T → Type 0
InStep R [] [] = Unit {0}
InStep R [] (y ∷ ys) = ⊥
InStep R (x ∷ xs) [] = ⊥
InStep R (x ∷ xs) (y ∷ ys) = R x y × InStep R xs ys

abbrev pub Both : {T : Type 0} → (T → T → Type 0) → Option T → Option T → Type 0
Both R None None = Unit {0}
Both R None (Some y) = ⊥
Both R (Some x) None = ⊥
Both R (Some x) (Some y) = R x y

all_step : {T : Type 0} (R : T → T → Type 0) (p q : T → Bool) → ((x y : T) → R x y → p x ≡ q y) → (xs ys : List T) → InStep R xs ys → list_all p xs ≡ list_all q ys
all_step R p q same [] [] h = refl
all_step R p q same [] (y ∷ ys) h = absurd h
all_step R p q same (x ∷ xs) [] h = absurd h
all_step R p q same (x ∷ xs) (y ∷ ys) h = ap₂ (λ (t u : Bool). t && u) (same x y h.0) (all_step R p q same xs ys h.1)

find_step : {T : Type 0} (R : T → T → Type 0) (p q : T → Bool) → ((x y : T) → R x y → p x ≡ q y) → (xs ys : List T) → InStep R xs ys → Both R (find p xs) (find q ys)
find_step R p q same [] [] h = tt
find_step R p q same [] (y ∷ ys) h = absurd h
find_step R p q same (x ∷ xs) [] h = absurd h
find_step R p q same (x ∷ xs) (y ∷ ys) h = by_tests (p x) (q y) (same x y h.0) (find_step R p q same xs ys h.1)
  where
    by_tests : (t u : Bool) → t ≡ u → Both R (find p xs) (find q ys) → Both R (if t then Some x else find p xs) (if u then Some y else find q ys)
    by_tests true true is rest = h.0
    by_tests false false is rest = rest
    by_tests true false is rest = absurd (cc)
    by_tests false true is rest = absurd (cc)

-- the first of them are related, where one goes before another in both lists or in neither
pub first_step : {T : Type 0} (R : T → T → Type 0) (before : T → T → Bool) → ((a b c d : T) → R a b → R c d → before c a ≡ before d b) → (xs ys : List T) → InStep R xs ys →
    Both R (first_of before xs) (first_of before ys)
first_step {T} R before same xs ys h =
    find_step R (λ (a : T). list_all (λ (b : T). not (before b a)) xs) (λ (a : T). list_all (λ (b : T). not (before b a)) ys)
    (λ a b ab. all_step R (λ (c : T). not (before c a)) (λ (d : T). not (before d b)) (λ c d cd. ap not (same a b c d ab cd)) xs ys h) xs ys h

-- A TABLE UNDER A MAP

pub map_joined : {A B : Type 0} (f : A → B) (xs : List A) (o : Option A) → map f (joined xs o) ≡ joined (map f xs) (option_map f o)
map_joined f xs None = refl
map_joined f xs (Some x) = map_more f xs x

pub map_put : {A B : Type 0} (f : A → B) (xs : List A) (n : ℕ) (x : A) → map f (slice_set xs n x) ≡ slice_set (map f xs) n (f x)
map_put f [] n x = refl
map_put f (y ∷ xs) zero x = refl
map_put {A} {B} f (y ∷ xs) (suc n) x = ap (λ (l : List B). f y ∷ l) (map_put f xs n x)

pub map_entry : {A B : Type 0} (f : A → B) (xs : List (Option A)) (n : ℕ) → entry (slice_get (map (option_map f) xs) n) ≡ option_map f (entry (slice_get xs n))
map_entry f [] n = refl
map_entry f (x ∷ xs) zero = refl
map_entry f (x ∷ xs) (suc n) = map_entry f xs n
