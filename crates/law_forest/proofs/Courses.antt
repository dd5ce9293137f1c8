-- A revoke from its beginning on, with what others do in between.
use Rattle.std.proofs.Common.{◌≡◌, ℕ, ◌<◌, ◌≤◌, List, [], ◌∷◌, ◌++◌, ap, sym, ◌∙◌, subst, inl, inr, refl, arith}
use Rattle.std.specs.Prelude.{Bool, false, ◌==◌, not, length, filter, Contains, Option, Some, None}
use Rattle.std.proofs.lemmas.Bool.{cond_both, or_parts, eq-eqb}
use Rattle.nova_model.specs.Delegations.{Delegations, added, without}
use Rattle.nova_model.specs.Forest.{IsForest, IsChildless}
use Rattle.nova_model.specs.Revokes.{Revocation, is_met, in_scope, scope, busy, next_leaf, taken_away}
use Rattle.nova_model.specs.declared.delegation.Derivation.{Derivation}
use Rattle.law_forest.specs.Courses.{Step, Joins, Goes, Part, stepped, IsAllowed, AreAllowed, after, one_if, taken_by, taken, IsKept}
use Rattle.law_forest.proofs.Members.{IsIn, filtered_in, in_filtered, in_from_contains, contains_from_in}
use Rattle.law_forest.proofs.Forests.{forest_add, forest_without}
use Rattle.law_forest.proofs.Scopes.{next_childless, scope_more, scope_without}
use Rattle.law_forest.proofs.Leaves.{leaf_facts}

-- a filter that drops a member is shorter
filter_length : {T : Type 0} (p : T → Bool) (xs : List T) → length (filter p xs) ≤ length xs
filter_length p [] = omega arith
filter_length p (x ∷ xs) = let h = filter_length p xs in cond_both (p x) (x ∷ filter p xs) (filter p xs) (λ l. length l ≤ length (x ∷ xs)) (λ t. omega arith) (λ f. omega arith)

filter_drops : {T : Type 0} (p : T → Bool) (xs : List T) (x : T) → IsIn xs x → p x ≡ false → length (filter p xs) < length xs
filter_drops p [] x i h = absurd i
filter_drops p (y ∷ ys) x (inl e) h = let g : p y ≡ false = ap p e ∙ h in let k = filter_length p ys in rw g (omega arith)
filter_drops p (y ∷ ys) x (inr i) h =
    let k = filter_drops p ys x i h in cond_both (p y) (y ∷ filter p ys) (filter p ys) (λ l. length l < length (y ∷ ys)) (λ t. omega arith) (λ f. omega arith)

-- what is not busy leaves the scope
pub idle_same : (r : Revocation) (f : Delegations) (x : Derivation) → IsForest f → x.id ≡ f.next → busy r f.list x ≡ false → scope r (added f x).list ≡ scope r f.list
idle_same r f x forest id idle =
    scope_more r f.list x (subst (IsChildless f.list) (sym id) (next_childless f forest)) (or_parts (in_scope r (f.list ++ x ∷ []) x) (is_met r x) idle).0

among_from : (r : Revocation) (f g : Delegations) → ((d : Derivation) → IsIn (scope r g.list) d → IsIn (scope r f.list) d) →
    (d : Derivation) → Contains (scope r g.list) d → Contains (scope r f.list) d
among_from r f g among d c = contains_from_in (scope r f.list) d (among d (in_from_contains (scope r g.list) d c))

goes_kept : (r : Revocation) (f : Delegations) (id : ℕ) → IsForest f → IsChildless f.list id → IsKept r f (without f id) 0
goes_kept r f id forest childless =
    let same = scope_without r f id childless in
    let size = ap (λ (l : List Derivation). length l) same in
    record {
      forest = forest_without f id forest childless;
      among = among_from r f (without f id)
          (λ d i. (filtered_in (λ (a : Derivation). not (a.id == id)) (scope r f.list) d (subst (λ (l : List Derivation). IsIn l d) same i)).0);
      fewer = omega (arith, size, filter_length (λ (a : Derivation). not (a.id == id)) (scope r f.list));
    }

part_kept : (r : Revocation) (f : Delegations) (o : Option Derivation) → next_leaf r f ≡ o → IsForest f → IsKept r f (taken_away f o) (one_if o)
part_kept r f None is forest = record { forest = forest; among = λ d i. i; fewer = omega arith }
part_kept r f (Some d) is forest =
    let leaf = leaf_facts r f d forest is in
    let kept = goes_kept r f d.id forest leaf.childless in
    let size = ap (λ (l : List Derivation). length l) (scope_without r f d.id leaf.childless) in
    let out : not (d.id == d.id) ≡ false = ap not (eq-eqb d.id d.id refl) in
    let drops = filter_drops (λ (a : Derivation). not (a.id == d.id)) (scope r f.list) d (in_filtered (in_scope r f.list) f.list d (in_from_contains f.list d leaf.there) leaf.taken) out in
    record { forest = kept.forest; among = kept.among; fewer = omega (arith, size, drops) }

joins_kept : (r : Revocation) (f : Delegations) (x : Derivation) → IsForest f → IsAllowed r f (Joins x) → IsKept r f (added f x) 0
joins_kept r f x forest (fits, idle) =
    let same = idle_same r f x forest fits.id idle in
    let size = ap (λ (l : List Derivation). length l) same in
    record {
      forest = forest_add f x forest fits;
      among = λ d c. subst (λ (l : List Derivation). Contains l d) same c;
      fewer = omega (arith, size);
    }

pub step_kept : (r : Revocation) (f : Delegations) (s : Step) → IsForest f → IsAllowed r f s → IsKept r f (stepped r f s) (taken_by r f s)
step_kept r f (Joins x) forest allowed = joins_kept r f x forest allowed
step_kept r f (Goes id) forest allowed = goes_kept r f id forest allowed
step_kept r f Part forest allowed = part_kept r f (next_leaf r f) refl forest

-- all of them: the revoke takes at most as many leaves as its scope had at the start
pub course_kept : (r : Revocation) (f : Delegations) (steps : List Step) → IsForest f → AreAllowed r f steps → IsKept r f (after r f steps) (taken r f steps)
course_kept r f [] forest allowed = record { forest = forest; among = λ d i. i; fewer = omega arith }
course_kept r f (s ∷ steps) forest allowed =
    let first = step_kept r f s forest allowed.0 in
    let rest = course_kept r (stepped r f s) steps first.forest allowed.1 in
    record { forest = rest.forest; among = λ d i. first.among d (rest.among d i); fewer = omega (arith, first.fewer, rest.fewer) }
