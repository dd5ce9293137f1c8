-- Derivations by rising id: the first that passes is that of least id, and those that are left from an id on.
use Rattle.std.proofs.Common.{◌≡◌, ◌∙◌, refl, sym, ap, subst, ℕ, ◌+◌, ◌<◌, ◌≤◌, Bool, true, false, List, [], ◌∷◌, filter, Some, None, arith}
use Rattle.std.specs.Prelude.{nat_le, if◌then◌else◌}
use Rattle.std.specs.List.{find, list_all, AllByRecursion}
use Rattle.std.proofs.lemmas.Bool.Decides.{nat_tests}
use Rattle.nova_model.specs.Delegations.{is_from, from_id, id_of, least_by}
use Rattle.nova_model.specs.Forest.{ArePairs}
use Rattle.nova_model.specs.declared.delegation.Derivation.{Derivation}

abbrev pub Rise : List Derivation → Type 0
Rise list = ArePairs (λ a b. a.id < b.id) list

-- all are from 0 on
pub from_0 : (list : List Derivation) → filter (is_from 0) list ≡ list
from_0 [] = refl
from_0 (d ∷ ds) =
    let passes : nat_le 0 d.id ≡ true = grind (arith, nat_tests) in
    ap (λ b. if b then d ∷ filter (is_from 0) ds else filter (is_from 0) ds) passes ∙ ap (λ r. d ∷ r) (from_0 ds)

-- what holds of each holds of the derivation that is found
found : (P : Derivation → Type 0) (p : Derivation → Bool) (list : List Derivation) (d : Derivation) → AllByRecursion P list → find p list ≡ Some d → P d
found P p [] d all e = cc
found P p (x ∷ xs) d all e = go (p x) (found P p xs d all.1) e where
  go : (b : Bool) → (find p xs ≡ Some d → P d) → (if b then Some x else find p xs) ≡ Some d → P d
  go true rest is = let same : x ≡ d = cc in subst P same all.0
  go false rest is = rest is

-- it passes the test itself
passes : (p : Derivation → Bool) (list : List Derivation) (d : Derivation) → find p list ≡ Some d → p d ≡ true
passes p [] d e = cc
passes p (x ∷ xs) d e = go (p x) refl (passes p xs d) e where
  go : (b : Bool) → p x ≡ b → (find p xs ≡ Some d → p d ≡ true) → (if b then Some x else find p xs) ≡ Some d → p d ≡ true
  go true test rest is = let same : x ≡ d = cc in subst (λ a. p a ≡ true) same test
  go false test rest is = rest is

pub found_from : (id : ℕ) (list : List Derivation) (d : Derivation) → find (is_from id) list ≡ Some d → id ≤ d.id
found_from id list d is = let test = passes (is_from id) list d is in grind (arith, nat_tests, test)

-- all that come after a derivation are from its next id on
rest_from : (id : ℕ) (x : Derivation) (xs : List Derivation) → AllByRecursion (λ d. x.id < d.id) xs → id ≤ x.id + 1 → filter (is_from id) xs ≡ xs
rest_from id x [] all le = refl
rest_from id x (d ∷ ds) all le =
    let passes : nat_le id d.id ≡ true = grind (arith, nat_tests) in
    ap (λ b. if b then d ∷ filter (is_from id) ds else filter (is_from id) ds) passes ∙ ap (λ r. d ∷ r) (rest_from id x ds all.1 le)

-- the derivation that is found is the first that is left
pub found_first : (id : ℕ) (list : List Derivation) (d : Derivation) → Rise list → find (is_from id) list ≡ Some d
    → filter (is_from id) list ≡ d ∷ filter (is_from (d.id + 1)) list
found_first id [] d rise e = cc
found_first id (x ∷ xs) d rise e = go (nat_le id x.id) refl (found_first id xs d rise.1) e where
  go : (b : Bool) → nat_le id x.id ≡ b → (find (is_from id) xs ≡ Some d → filter (is_from id) xs ≡ d ∷ filter (is_from (d.id + 1)) xs)
      → (if b then Some x else find (is_from id) xs) ≡ Some d
      → (if b then x ∷ filter (is_from id) xs else filter (is_from id) xs) ≡ d ∷ filter (is_from (d.id + 1)) (x ∷ xs)
  go true passes rest is =
      let same : x ≡ d = cc in
      let past : nat_le (x.id + 1) x.id ≡ false = grind (arith, nat_tests) in
      ap (λ r. x ∷ r) (rest_from id x xs rise.0 (grind (arith, nat_tests)) ∙ sym (rest_from (x.id + 1) x xs rise.0 (omega arith))
      ∙ sym (ap (λ b. if b then x ∷ filter (is_from (x.id + 1)) xs else filter (is_from (x.id + 1)) xs) past))
      ∙ ap (λ y. y ∷ filter (is_from (y.id + 1)) (x ∷ xs)) same
  go false passes rest is =
      let after : x.id < d.id = found (λ a. x.id < a.id) (is_from id) xs d rise.0 is in
      let past : nat_le (d.id + 1) x.id ≡ false = grind (arith, nat_tests) in
      rest is ∙ sym (ap (λ b. d ∷ (if b then x ∷ filter (is_from (d.id + 1)) xs else filter (is_from (d.id + 1)) xs)) past)

-- where none is found none is left
pub found_none : (id : ℕ) (list : List Derivation) → find (is_from id) list ≡ None → filter (is_from id) list ≡ []
found_none id [] e = refl
found_none id (x ∷ xs) e = go (nat_le id x.id) (found_none id xs) e where
  go : (b : Bool) → (find (is_from id) xs ≡ None → filter (is_from id) xs ≡ [])
      → (if b then Some x else find (is_from id) xs) ≡ None
      → (if b then x ∷ filter (is_from id) xs else filter (is_from id) xs) ≡ []
  go true rest is = cc
  go false rest is = rest is

-- those that are kept of all that come after one come after it
all_kept : (d : Derivation) (p : Derivation → Bool) (ds : List Derivation) → AllByRecursion (λ b. d.id < b.id) ds → list_all (λ b. nat_le d.id b.id) (filter p ds) ≡ true
all_kept d p [] all = refl
all_kept d p (x ∷ xs) all = go (p x) (all_kept d p xs all.1) where
  go : (b : Bool) → list_all (λ y. nat_le d.id y.id) (filter p xs) ≡ true → list_all (λ y. nat_le d.id y.id) (if b then x ∷ filter p xs else filter p xs) ≡ true
  go true rest = let after = all.0 in grind (arith, rest, after)
  go false rest = rest

first_least : (d : Derivation) (ds : List Derivation) → list_all (λ b. nat_le d.id b.id) ds ≡ true → least_by id_of (d ∷ ds) ≡ Some d
first_least d ds all = let itself : nat_le d.id d.id ≡ true = grind arith in grind (arith, itself, all)

-- the derivation of least id is the first that is found
pub least_found : (id : ℕ) (list : List Derivation) → Rise list → from_id list id ≡ find (is_from id) list
least_found id [] rise = refl
least_found id (x ∷ xs) rise = go (nat_le id x.id) (least_found id xs rise.1) where
  go : (b : Bool) → from_id xs id ≡ find (is_from id) xs
      → least_by id_of (if b then x ∷ filter (is_from id) xs else filter (is_from id) xs) ≡ (if b then Some x else find (is_from id) xs)
  go true rest = first_least x (filter (is_from id) xs) (all_kept x (is_from id) xs rise.0)
  go false rest = rest
