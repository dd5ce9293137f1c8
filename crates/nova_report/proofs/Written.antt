-- What a loop over derivations by rising id wrote, and what is left to write.
use Rattle.std.proofs.Common.{◌≡◌, ◌∙◌, sym, ap, ℕ, ◌+◌, List, ◌++◌, filter, flat_map, Some, None}
use Rattle.std.specs.List.{find}
use Rattle.std.proofs.lemmas.List.{append_assoc, append-nil}
use Rattle.nova_model.specs.Delegations.{is_from}
use Rattle.nova_model.specs.declared.delegation.Derivation.{Derivation}
use Rattle.nova_nodes.proofs.Rising.{Rise, found_first, found_none}

module _ (f : Derivation → List ℕ) (id : ℕ) (list : List Derivation) (before total : List ℕ)
    (left : before ++ flat_map f (filter (is_from id) list) ≡ total) where
  -- one further
  pub one_more : (d : Derivation) (after : List ℕ) → Rise list → find (is_from id) list ≡ Some d → after ≡ before ++ f d
      → after ++ flat_map f (filter (is_from (d.id + 1)) list) ≡ total
  one_more d after rise is wrote =
      let rest = flat_map f (filter (is_from (d.id + 1)) list) in
      ap (λ a. a ++ rest) wrote ∙ append_assoc before (f d) rest
      ∙ sym (ap (λ xs. before ++ flat_map f xs) (found_first id list d rise is)) ∙ left

  -- nothing is left
  pub no_more : find (is_from id) list ≡ None → before ≡ total
  no_more is = sym (append-nil before) ∙ sym (ap (λ xs. before ++ flat_map f xs) (found_none id list is)) ∙ left
