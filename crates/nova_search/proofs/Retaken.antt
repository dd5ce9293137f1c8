-- The turns of an order that are taken once more.
use Rattle.std.proofs.Common.{◌≡◌, ℕ, zero, suc, ◌+◌, ◌<◌, ◌≤◌, List, [], ◌∷◌, drop, length, refl, ap, sym, subst, ◌∙◌, arith}
use Rattle.std.specs.Bool.{OnTrue}
use Rattle.std.specs.Prelude.{Bool, true, false, IfOk, IfSome, Option, Some, None, Result, Ok, Err, slice_index_or}
use Rattle.std.proofs.lemmas.List.{length-map}
use Rattle.nova_model.specs.Runs.{after, run}
use Rattle.nova_model.specs.State.{KernelState}
use Rattle.nova_search.specs.declared.found.Found.{Found}
use Rattle.nova_search.specs.Merged.{IsOne, IsOneAt}
use Rattle.nova_search.specs.declared.merging.Merging.{Merging}
use Rattle.nova_search.specs.Searches.{AreLinked, AreProcessors, IsEnd, IsWay, state_at, state_of, states_of}
use Rattle.nova_search.proofs.Growth.{at_place}

drop_on : (xs : List ℕ) (i : ℕ) → i < length xs → drop i xs ≡ slice_index_or xs i 0 ∷ drop (i + 1) xs
drop_on [] i less = absurd (omega (arith, less))
drop_on (x ∷ xs) zero less = refl
drop_on (x ∷ xs) (suc i) less =
    drop_on xs i (omega (arith, less)) ∙ ap (λ (m : ℕ). slice_index_or xs i 0 ∷ drop m (x ∷ xs)) (let e : suc (i + 1) ≡ suc i + 1 = omega arith in e)

none_left : (xs : List ℕ) (i : ℕ) → length xs ≤ i → drop i xs ≡ []
none_left [] zero most = refl
none_left [] (suc i) most = refl
none_left (x ∷ xs) zero most = absurd (omega (arith, most))
none_left (x ∷ xs) (suc i) most = none_left xs i (omega (arith, most))

-- from a state on, the turns of an order that are left lead to where all of it leads
pub record IsRetaken (k s : KernelState) (order : List ℕ) (i : ℕ) : Type 0 where
  pub same : run s (drop i order) ≡ run k order
  pub processors : AreProcessors s.cpus (drop i order)
  pub turns : 0 < length (drop i order) → s.turns + length (drop i order) ≤ 2147483648

pub retaken_first : (k : KernelState) (order : List ℕ) → AreProcessors k.cpus order → (0 < length order → k.turns + length order ≤ 2147483648) → IsRetaken k k order 0
retaken_first k order are few = record { same = refl; processors = are; turns = few }

pub its_cpu : (k s : KernelState) (order : List ℕ) (i : ℕ) → IsRetaken k s order i → i < length order → slice_index_or order i 0 < s.cpus
its_cpu k s order i so_far less = (subst (λ (l : List ℕ). AreProcessors s.cpus l) (drop_on order i less) so_far.processors).0

pub its_turns : (k s : KernelState) (order : List ℕ) (i : ℕ) → IsRetaken k s order i → i < length order → s.turns < 2147483648
its_turns k s order i so_far less =
    let long = ap length (drop_on order i less) in
    let turns = so_far.turns (omega (arith, long)) in
    omega (arith, long, turns)

pub retaken_on : (k s t : KernelState) (order : List ℕ) (i : ℕ) → IsRetaken k s order i → i < length order → t ≡ after s (slice_index_or order i 0) → t.cpus ≡ s.cpus →
    t.turns ≤ s.turns + 1 → IsRetaken k t order (i + 1)
retaken_on k s t order i so_far less is cpus turns = record {
  same = ap (λ (x : KernelState). run x (drop (i + 1) order)) is ∙ ap (λ (l : List ℕ). run s l) (sym (drop_on order i less)) ∙ so_far.same;
  processors = subst (λ (n : ℕ). AreProcessors n (drop (i + 1) order)) (sym cpus) (subst (λ (l : List ℕ). AreProcessors s.cpus l) (drop_on order i less) so_far.processors).1;
  turns = λ some. let long = ap length (drop_on order i less) in let few = so_far.turns (omega (arith, long)) in omega (arith, long, few, turns);
}

pub retaken_all : (k s : KernelState) (order : List ℕ) (i : ℕ) → IsRetaken k s order i → length order ≤ i → s ≡ run k order
retaken_all k s order i so_far most = ap (λ (l : List ℕ). run s l) (sym (none_left order i most)) ∙ so_far.same

-- no state but the first has taken too many turns to come to it once more
pub few_turns : (found : List Found) (place : ℕ) (k : KernelState) (order : List ℕ) → place < length found → AreLinked found → ((d : KernelState) → state_at found 0 d ≡ k) →
    ((d : KernelState) → IsWay (state_at found 0 d) (state_at found place d) order) → 0 < length order → k.turns + length order ≤ 2147483648
few_turns found zero k order less linked first way some = let turns = (way k).turns in absurd (omega (arith, turns, some))
few_turns [] (suc place) k order less linked first way some = absurd (omega (arith, less))
few_turns (f ∷ found) (suc place) k order less linked first way some =
    let few = (linked.each (suc place) f (omega arith) less).few in
    let same = ap (λ (s : KernelState). s.turns) (at_place (f ∷ found) (suc place) k f less) in
    let turns = (way k).turns in
    let begins = ap (λ (s : KernelState). s.turns) (first k) in
    omega (arith, few, same, turns, begins)

pub processors_of : (found : List Found) (place : ℕ) (k : KernelState) (order : List ℕ) → ((d : KernelState) → state_at found 0 d ≡ k) →
    ((d : KernelState) → IsWay (state_at found 0 d) (state_at found place d) order) → AreProcessors k.cpus order
processors_of found place k order first way = subst (λ (s : KernelState). AreProcessors s.cpus order) (first k) (way k).processors

pub retaken_to : (found : List Found) (place : ℕ) (k s : KernelState) (order : List ℕ) → ((d : KernelState) → state_at found 0 d ≡ k) →
    ((d : KernelState) → IsWay (state_at found 0 d) (state_at found place d) order) → s ≡ run k order → (d : KernelState) → state_at found place d ≡ s
retaken_to found place k s order first way is d = (way d).state ∙ ap (λ (x : KernelState). run x order) (first d) ∙ sym is

-- what is seen of the vertex at a place is of the state there
pub again_one : (m : Merging) (r : Bool) (found : List Found) (place : ℕ) (s t : KernelState) → place < length found → ((d : KernelState) → state_at found place d ≡ s) →
    OnTrue r (IsOne m s t) → OnTrue r (IsOneAt m (states_of found) place t)
again_one m true found place s t less is one = record {
  there = let long = length-map found state_of in omega (arith, less, long);
  is = λ d. subst (λ (x : KernelState). IsOne m x t) (sym (is d)) one;
}
again_one m false found place s t less is one = tt

-- the vertex at a place, where its turns were taken once more
pub again_if : {E : Type 0} (found : List Found) (place : ℕ) (k : KernelState) (order path : List ℕ) (r : Result (Option KernelState) E) → order ≡ path →
    ((d : KernelState) → state_at found 0 d ≡ k) → ((d : KernelState) → IsWay (state_at found 0 d) (state_at found place d) path) → IfOk r (IsEnd k order) →
    IfOk r (λ (o : Option KernelState). IfSome o (λ (s : KernelState). (d : KernelState) → state_at found place d ≡ s))
again_if found place k order path (Ok (Some s)) same first way is = retaken_to found place k s path first way (is.state ∙ ap (λ (l : List ℕ). run k l) same)
again_if found place k order path (Ok None) same first way is = tt
again_if found place k order path (Err e) same first way is = tt

pub again_at : {E : Type 0} (found : List Found) (place : ℕ) (r : Result (Option KernelState) E) (o : Option KernelState) (s : KernelState) →
    IfOk r (λ (x : Option KernelState). IfSome x (λ (t : KernelState). (d : KernelState) → state_at found place d ≡ t)) → r ≡ Ok o → o ≡ Some s →
    (d : KernelState) → state_at found place d ≡ s
again_at found place (Ok x) o s is ok some =
    let same : x ≡ Some s = cc in
    subst (λ (y : Option KernelState). IfSome y (λ (t : KernelState). (d : KernelState) → state_at found place d ≡ t)) same is
again_at found place (Err e) o s is ok some = absurd (cc)
