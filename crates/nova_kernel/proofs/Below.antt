-- The ids of derivations that are found are below the next.
use Rattle.std.proofs.Common.{◌≡◌, ℕ, ◌<◌, ◌≤◌, List, refl, arith}
use Rattle.std.specs.Prelude.{nat_le, filter, Option, Some, None, IfSome}
use Rattle.std.specs.List.{AllByRecursion, list_all}
use Rattle.nova_model.specs.Delegations.{id_of, is_from, from_id}
use Rattle.nova_model.specs.declared.delegation.Derivation.{Derivation}
use Rattle.law_forest.proofs.Members.{all_at, filtered_in, found_in}

pub from_id_below : (next most id : ℕ) (list : List Derivation) (o : Option Derivation) → o ≡ from_id list id → AllByRecursion (λ a. a.id < next) list → next ≤ most →
    IfSome o (λ d. d.id < most)
from_id_below next most id list o is numbered few = rw is (by_found (from_id list id) refl)
  where
    by_found : (f : Option Derivation) → from_id list id ≡ f → IfSome f (λ d. d.id < most)
    by_found None found = tt
    by_found (Some d) found =
        let kept = filter (is_from id) list in
        let there = (found_in (λ a. list_all (λ b. nat_le (id_of a) (id_of b)) kept) kept d found).0 in
        let below = all_at (λ a. a.id < next) list d numbered (filtered_in (is_from id) list d there).0 in
        omega arith
