-- From a state back to the first, by the turns after which states were found.
use Rattle.std.proofs.Common.{◌≡◌, ◌⊎◌, ℕ, ◌+◌, ◌<◌, ◌≤◌, List, [], ◌∷◌, ◌++◌, length, reverse, refl, ap, sym, subst, ◌∙◌, arith, inl, inr}
use Rattle.std.specs.Prelude.{slice_index_or}
use Rattle.std.proofs.lemmas.List.{length-append, length-map, map-append, reverse-append}
use Rattle.nova_model.specs.State.{KernelState}
use Rattle.nova_model.specs.Runs.{IsFreeOfIdle, run}
use Rattle.nova_compare.specs.Steps.{IsSuccessor}
use Rattle.nova_compare.proofs.Places.{place}
use Rattle.nova_search.specs.declared.found.Found.{Found}
use Rattle.nova_search.specs.declared.merging.Merging.{Merging}
use Rattle.nova_search.specs.Merged.{IsOne, IsOneAt}
use Rattle.nova_search.specs.Searches.{AreLinked, AreProcessors, IsLink, IsMore, IsWay, state_at, state_of, states_of}
use Rattle.nova_search.proofs.Growth.{any_default, at_front, state_here}

pub at_end : (xs : List Found) (f d : Found) → slice_index_or (xs ++ f ∷ []) (length xs) d ≡ f
at_end [] f d = refl
at_end (x ∷ xs) f d = at_end xs f d

same_state : (xs ys : List Found) (i : ℕ) (d : KernelState) → i < length xs → state_at (xs ++ ys) i d ≡ state_at xs i d
same_state xs ys i d less =
    ap (λ (l : List KernelState). slice_index_or l i d) (map-append state_of xs ys)
    ∙ at_front (states_of xs) (states_of ys) i d (let long = length-map xs state_of in omega (arith, less, long))

link_stays : (xs ys : List Found) (i : ℕ) (f : Found) → i ≤ length xs → IsLink xs i f → IsLink (xs ++ ys) i f
link_stays xs ys i f most link = record {
  before = link.before;
  processor = λ d. subst (λ (s : KernelState). f.cpu < s.cpus) (sym (same d)) (link.processor d);
  next = λ d. subst (λ (s : KernelState). IsSuccessor s f.cpu (state_of f)) (sym (same d)) (link.next d);
  few = link.few;
}
  where
    same : (d : KernelState) → state_at (xs ++ ys) f.from d ≡ state_at xs f.from d
    same d = same_state xs ys f.from d (let before = link.before in omega (arith, before, most))

linked_more : (xs : List Found) (f : Found) → IsLink xs (length xs) f → AreLinked xs → AreLinked (xs ++ f ∷ [])
linked_more xs f link linked = record {
  each = λ i d first less. each_by i d first (place i (length xs) (let long = length_on xs in omega (arith, less, long)));
}
  where
    length_on : (l : List Found) → length (l ++ f ∷ []) ≡ length l + 1
    length_on [] = refl
    length_on (x ∷ l) = let e = length_on l in omega (arith, e)

    each_by : (i : ℕ) (d : Found) → 0 < i → (i < length xs) ⊎ (i ≡ length xs) → IsLink (xs ++ f ∷ []) i (slice_index_or (xs ++ f ∷ []) i d)
    each_by i d first (inl old) =
        subst (λ (g : Found). IsLink (xs ++ f ∷ []) i g) (sym (at_front xs (f ∷ []) i d old))
        (link_stays xs (f ∷ []) i (slice_index_or xs i d) (omega (arith, old)) (linked.each i d first old))
    each_by i d first (inr last) =
        subst (λ (n : ℕ). IsLink (xs ++ f ∷ []) n (slice_index_or (xs ++ f ∷ []) n d)) (sym last)
        (subst (λ (g : Found). IsLink (xs ++ f ∷ []) (length xs) g) (sym (at_end xs f d)) (link_stays xs (f ∷ []) (length xs) f (omega arith) link))

-- a state that is entered stands behind the others
pub one_at_end : (m : Merging) (xs ys : List Found) (f : Found) (s : KernelState) → ys ≡ xs ++ f ∷ [] → state_of f ≡ s → IsOne m s s → IsOneAt m (states_of ys) (length xs) s
one_at_end m xs ys f s more same one = subst (λ (l : List Found). IsOneAt m (states_of l) (length xs) s) (sym more) (record {
  there = let long = length-map (xs ++ f ∷ []) state_of in let sum = length-append xs (f ∷ []) in omega (arith, long, sum);
  is = λ d. subst (λ (x : KernelState). IsOne m x s) (sym (its d)) one;
})
  where
    its : (d : KernelState) → state_at (xs ++ f ∷ []) (length xs) d ≡ s
    its d = state_here (xs ++ f ∷ []) (length xs) f d (let sum = length-append xs (f ∷ []) in omega (arith, sum)) (sym (at_end xs f f)) ∙ same

-- a state that is entered after a turn in the one at a place
pub linked_here : (xs ys : List Found) (place cpu : ℕ) (s t : KernelState) → place < length xs → ((d : KernelState) → state_at xs place d ≡ s) → IsSuccessor s cpu t → cpu < s.cpus →
    s.turns < 2147483648 → IsMore xs place cpu t ys → AreLinked xs → AreLinked ys
linked_here xs ys place cpu s t less here next there few (inl same) linked = subst (λ (l : List Found). AreLinked l) (sym same) linked
linked_here xs ys place cpu s t less here next there few (inr (f, by, more)) linked = subst (λ (l : List Found). AreLinked l) (sym more) (linked_more xs f link linked)
  where
    its : (d : KernelState) → s ≡ state_at xs f.from d
    its d = sym (ap (λ (n : ℕ). state_at xs n d) by.from ∙ here d)

    link : IsLink xs (length xs) f
    link = record {
      before = subst (λ (n : ℕ). n < length xs) (sym by.from) less;
      processor = λ d. subst (λ (n : ℕ). n < (state_at xs f.from d).cpus) (sym by.cpu) (subst (λ (x : KernelState). cpu < x.cpus) (its d) there);
      next = λ d.
          subst (λ (n : ℕ). IsSuccessor (state_at xs f.from d) n (state_of f)) (sym by.cpu)
          (subst (λ (x : KernelState). IsSuccessor x cpu (state_of f)) (its d) (subst (λ (x : KernelState). IsSuccessor s cpu x) (sym by.state) next));
      few = let turns = next.turns in let same = ap (λ (x : KernelState). x.turns) by.state in omega (arith, turns, same, few);
    }

-- a way from a state to another, with a turn before it
pub way_before : (s t e : KernelState) (cpu : ℕ) (order : List ℕ) → cpu < s.cpus → IsSuccessor s cpu t → IsWay t e order → IsWay s e (cpu ∷ order)
way_before s t e cpu order there next way = record {
  processors = (there, subst (λ (n : ℕ). AreProcessors n order) next.cpus way.processors);
  no_idle = (next.there, subst (λ (x : KernelState). IsFreeOfIdle x order) next.state way.no_idle);
  state = way.state ∙ ap (λ (x : KernelState). run x order) next.state;
  turns = let one = next.turns in let more = way.turns in omega (arith, one, more);
}

-- no turns lead from a state to itself
pub way_here : (xs : List Found) (i : ℕ) (path : List ℕ) → i < length xs → path ≡ [] → (e d : KernelState) → IsWay (state_at xs i d) (state_at xs i e) (reverse path)
way_here xs i path less none e d =
    subst (λ (o : List ℕ). IsWay (state_at xs i d) (state_at xs i e) (reverse o)) (sym none) (record {
      processors = tt;
      no_idle = tt;
      state = same;
      turns = let is = ap (λ (s : KernelState). s.turns) same in omega (arith, is);
    })
  where
    same : state_at xs i e ≡ state_at xs i d
    same = any_default (states_of xs) i e d (let long = length-map xs state_of in omega (arith, less, long))

-- the turns back from a place so far, and one more
pub way_back : (xs : List Found) (i : ℕ) (f : Found) (e : KernelState) (path : List ℕ) → 0 < i → i < length xs → f ≡ slice_index_or xs i f → AreLinked xs →
    ((d : KernelState) → IsWay (state_at xs i d) e (reverse path)) → (d : KernelState) → IsWay (state_at xs f.from d) e (reverse (path ++ f.cpu ∷ []))
way_back xs i f e path first less is linked way d =
    subst (λ (o : List ℕ). IsWay (state_at xs f.from d) e o) (sym (reverse-append path (f.cpu ∷ [])))
    (way_before (state_at xs f.from d) (state_of f) e f.cpu (reverse path) (link.processor d) (link.next d)
    (subst (λ (s : KernelState). IsWay s e (reverse path)) (state_here xs i f d less is) (way d)))
  where
    link : IsLink xs i f
    link = subst (λ (g : Found). IsLink xs i g) (sym is) (linked.each i f first less)

pub goes_back : (xs : List Found) (i : ℕ) (f : Found) → 0 < i → i < length xs → f ≡ slice_index_or xs i f → AreLinked xs → f.from < i
goes_back xs i f first less is linked = subst (λ (g : Found). g.from < i) (sym is) (linked.each i f first less).before
