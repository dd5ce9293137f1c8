-- A place before the end of a range whose order is great; and a search among derivations by rising id.
use Rattle.std.proofs.Common.{◌≡◌, ℕ, ◌+◌, ◌^◌, ◌<◌, ◌≤◌, List, filter, ap, sym, ◌∙◌, arith}
use Rattle.std.specs.Prelude.{Bool, true, false, nat_lt, Some, None, if◌then◌else◌}
use Rattle.std.specs.List.{find}
use Rattle.std.proofs.lemmas.Bool.Decides.{nat_tests}
use Rattle.nova_guest.proofs.Searches.{below_all}
use Rattle.nova_model.specs.Delegations.{from_id, is_from}
use Rattle.nova_model.specs.declared.delegation.Derivation.{Derivation}
use Rattle.nova_nodes.proofs.Rising.{Rise, found_first, found_none, least_found}

-- a range of 2^32 places and more ends after each that there may be
pub far : (base place order : ℕ) → place < 2 ^ 32 → 32 ≤ order → nat_lt place (base + 2 ^ order) ≡ true
far base place order below great = let all = below_all place order below great in grind (arith, nat_tests, all)

-- what is found among those from an id on, where the first of them passes, or doesn't
pub found_here : (p : Derivation → Bool) (list : List Derivation) (id : ℕ) (d : Derivation) → Rise list → from_id list id ≡ Some d → p d ≡ true → find p (filter (is_from id) list) ≡ Some d
found_here p list id d rising least passes =
    ap (find p) (found_first id list d rising (sym (least_found id list rising) ∙ least))
    ∙ ap (λ (t : Bool). if t then Some d else find p (filter (is_from (d.id + 1)) list)) passes

pub found_later : (p : Derivation → Bool) (list : List Derivation) (id : ℕ) (d : Derivation) → Rise list → from_id list id ≡ Some d → p d ≡ false →
    find p (filter (is_from id) list) ≡ find p (filter (is_from (d.id + 1)) list)
found_later p list id d rising least fails =
    ap (find p) (found_first id list d rising (sym (least_found id list rising) ∙ least))
    ∙ ap (λ (t : Bool). if t then Some d else find p (filter (is_from (d.id + 1)) list)) fails

pub found_nowhere : (p : Derivation → Bool) (list : List Derivation) (id : ℕ) → Rise list → from_id list id ≡ None → find p (filter (is_from id) list) ≡ None
found_nowhere p list id rising none = ap (find p) (found_none id list (sym (least_found id list rising) ∙ none))
