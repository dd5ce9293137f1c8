-- Derivations stay sound where a derivation joins and where a childless one goes.
use Rattle.std.proofs.Common.{◌≡◌, ℕ, refl, ap, sym, ◌∙◌}
use Rattle.std.specs.Prelude.{true, not, ◌==◌, Option, Some, None, option_map, option_and_then}
use Rattle.std.proofs.lemmas.List.Elements.{All-filter, All-push}
use Rattle.nova_model.specs.Delegations.{Delegations, added, without, with_id, parent_of, id_of}
use Rattle.nova_model.specs.Forest.{IsForest, IsFitting, IsChildless, HasParentIn}
use Rattle.nova_model.specs.declared.delegation.Derivation.{Derivation}
use Rattle.law_forest.proofs.Forests.{forest_add, forest_without}
use Rattle.law_forest.proofs.Members.{IsIn, all_at, all_from, in_from_contains}
use Rattle.nova_nodes.specs.NodesStates.{IsPlaced, IsSound}
use Rattle.nova_nodes.proofs.Found.{with_its_id, not_found}
use Rattle.nova_nodes.proofs.Sorted.{filter_all}

pub sound_added : (f : Delegations) (x : Derivation) → IsSound f → IsFitting f x → IsPlaced x → IsSound (added f x)
sound_added f x sound fits placed = record { forest = forest_add f x sound.forest fits; placed = All-push IsPlaced f.list x sound.placed placed }

pub sound_without : (f : Delegations) (id : ℕ) → IsSound f → IsChildless f.list id → IsSound (without f id)
sound_without f id sound childless = record {
  forest = forest_without f id sound.forest childless;
  placed = All-filter (λ (d : Derivation). not (d.id == id)) IsPlaced f.list sound.placed;
}

-- where none has the id, nothing goes
pub nothing_goes : (f : Delegations) (id : ℕ) → with_id f.list id ≡ None → without f id ≡ f
nothing_goes f id none =
    let all = filter_all (λ (d : Derivation). not (d.id == id)) f.list (all_from (λ (d : Derivation). not (d.id == id) ≡ true) f.list
    (λ d i. ap not (not_found (λ (a : Derivation). a.id == id) f.list d none i))) in
    ap (λ l. record f { list = l }) all

-- the parent is there, with the id that its child names
pub parent_is : (f : Delegations) (d : Derivation) → IsForest f → IsIn f.list d → d.parent ≡ option_map id_of (parent_of f.list d)
parent_is f d forest i = by_parent d.parent (all_at (λ a. HasParentIn f.list a a.parent) f.list d forest.parents i)
  where
    by_parent : (o : Option ℕ) → HasParentIn f.list d o → o ≡ option_map id_of (option_and_then (with_id f.list) o)
    by_parent None h = refl
    by_parent (Some id) h =
        let found = with_its_id f.list h.0 forest.rising (in_from_contains f.list h.0 h.1) in
        let named : with_id f.list id ≡ Some h.0 = ap (with_id f.list) (sym h.2) ∙ found in
        rw named (ap (λ n. Some n) (sym h.2))
