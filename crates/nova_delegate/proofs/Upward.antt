-- The nearest of a line, on the way up to it.
use Rattle.std.proofs.Common.{◌≡◌, ℕ, zero, suc, List, ◌∷◌, ap, sym, ◌∙◌, subst, inl, inr, refl}
use Rattle.std.specs.Prelude.{true, false, ◌==◌, Option, Some, None}
use Rattle.std.specs.List.{find}
use Rattle.nova_model.specs.Delegations.{Delegations, parent_of}
use Rattle.nova_model.specs.Forest.{IsForest}
use Rattle.nova_model.specs.Lines.{line_by, line}
use Rattle.nova_model.specs.Translations.{nearest}
use Rattle.nova_model.specs.declared.delegation.Derivation.{Derivation}
use Rattle.law_forest.specs.Within.{StaysWithin, line_from}
use Rattle.law_forest.proofs.Lines.{parent_facts, line_is, forest_within}
use Rattle.law_forest.proofs.Members.{IsIn, found_in, contains_from_in}
use Rattle.nova_nodes.specs.NodesStates.{IsPlaced}

-- one of the line, from which the search has the same end
pub record IsOnWay (list : List Derivation) (d at : Derivation) (pd : ℕ) : Type 0 where
  pub there : IsIn list at
  pub placed : IsPlaced at
  pub same : nearest list at pd ≡ nearest list d pd

-- the way begins at the derivation itself
pub at_start : (list : List Derivation) (d : Derivation) (pd : ℕ) → IsIn list d → IsPlaced d → IsOnWay list d d pd
at_start list d pd there placed = record { there = there; placed = placed; same = refl }

-- a derivation in the protection domain is the nearest
pub at_end : (list : List Derivation) (d at : Derivation) (pd : ℕ) → IsOnWay list d at pd → (at.pd == pd) ≡ true → Some at ≡ nearest list d pd
at_end list d at pd way here = (let first : Some at ≡ nearest list at pd = rw here refl in first) ∙ way.same

-- any other is passed over
passed : (f : Delegations) (at : Derivation) (pd : ℕ) (up : Option Derivation) → IsForest f → IsIn f.list at → (at.pd == pd) ≡ false → parent_of f.list at ≡ up →
    nearest f.list at pd ≡ find (λ a. a.pd == pd) (line_from f.list up)
passed f at pd up forest there other is =
    let first : find (λ a. a.pd == pd) (at ∷ line_from f.list up) ≡ find (λ a. a.pd == pd) (line_from f.list up) = rw other refl in
    ap (find (λ a. a.pd == pd)) (line_is f at forest there ∙ ap (λ (o : Option Derivation). at ∷ line_from f.list o) is) ∙ first

pub at_root : (f : Delegations) (d at : Derivation) (pd : ℕ) → IsForest f → IsOnWay f.list d at pd → (at.pd == pd) ≡ false → parent_of f.list at ≡ None →
    None ≡ nearest f.list d pd
at_root f d at pd forest way other root = sym (passed f at pd None forest way.there other root) ∙ way.same

pub upward : (f : Delegations) (d at p : Derivation) (pd : ℕ) → IsForest f → IsOnWay f.list d at pd → (at.pd == pd) ≡ false → parent_of f.list at ≡ Some p →
    IsPlaced p → IsOnWay f.list d p pd
upward f d at p pd forest way other up placed = record {
  there = (parent_facts f at p forest way.there up).there;
  placed = placed;
  same = sym (passed f at pd (Some p) forest way.there other up) ∙ way.same;
}

-- THE NEAREST

-- a line is of derivations that are there
line_there : (f : Delegations) → IsForest f → (n : ℕ) (d a : Derivation) → IsIn f.list d → IsIn (line_by n f.list (Some d)) a → IsIn f.list a
line_there f forest zero d a i on = absurd on
line_there f forest (suc n) d a i (inl e) = subst (IsIn f.list) e i
line_there f forest (suc n) d a i (inr on) = by_parent n (λ p j k. line_there f forest n p a j k) (parent_of f.list d) refl on
  where
    by_parent : (m : ℕ) → ((p : Derivation) → IsIn f.list p → IsIn (line_by m f.list (Some p)) a → IsIn f.list a) →
        (o : Option Derivation) → parent_of f.list d ≡ o → IsIn (line_by m f.list o) a → IsIn f.list a
    by_parent zero rest o is k = absurd k
    by_parent (suc m) rest None is k = absurd k
    by_parent (suc m) rest (Some p) is k = rest p (parent_facts f d p forest i is).there k

-- it lies in the protection domain, and the derivation stays within it
pub record IsNearest (list : List Derivation) (d : Derivation) (domain : ℕ) (a : Derivation) : Type 0 where
  pub there : IsIn list a
  pub pd : (a.pd == domain) ≡ true
  pub on : IsIn (line list d) a
  pub within : StaysWithin d a

pub nearest_facts : (f : Delegations) (d a : Derivation) (pd : ℕ) → IsForest f → IsIn f.list d → nearest f.list d pd ≡ Some a → IsNearest f.list d pd a
nearest_facts f d a pd forest there is =
    let found = found_in (λ (b : Derivation). b.pd == pd) (line f.list d) a is in
    record {
      there = line_there f forest (suc d.id) d a there found.0;
      pd = found.1;
      on = found.0;
      within = forest_within f d a forest (contains_from_in f.list d there) (contains_from_in (line f.list d) a found.0);
    }
