-- States that were found each after a turn of its own.
use Rattle.std.proofs.Common.{◌≡◌, ◌⊎◌, ◌∙◌, ℕ, ◌+◌, ◌<◌, List, [], ◌∷◌, ◌++◌, length, ap, sym, subst, arith, inl, inr}
use Rattle.std.specs.Prelude.{slice_index_or}
use Rattle.std.proofs.lemmas.List.{length-append, length-map}
use Rattle.nova_model.specs.State.{KernelState}
use Rattle.nova_compare.proofs.Places.{place}
use Rattle.nova_search.specs.declared.found.Found.{Found}
use Rattle.nova_search.specs.Searches.{AreOfTurnsBefore, IsMore, state_of, states_of}
use Rattle.nova_search.proofs.Growth.{at_front}
use Rattle.nova_search.proofs.Links.{at_end}

abbrev IsBefore : Found → ℕ → ℕ → Type 0
IsBefore f here cpu = (f.from < here) ⊎ ((f.from ≡ here) × (f.cpu < cpu))

pub own_first : (found : List Found) (k : KernelState) → states_of found ≡ k ∷ [] → AreOfTurnsBefore found 0 0
own_first found k only = record {
  own = record { each = λ i j d first less there from cpu. omega (arith, one, first, less, there) };
  before = λ i d first less. absurd (omega (arith, one, first, less));
}
  where
    one : length found ≡ 1
    one = sym (length-map found state_of) ∙ ap length only

wider : (f : Found) (here cpu : ℕ) → IsBefore f here cpu → IsBefore f here (cpu + 1)
wider f here cpu (inl less) = inl less
wider f here cpu (inr (same, less)) = inr (same, omega (arith, less))

further : (f : Found) (here cpu : ℕ) → IsBefore f here cpu → IsBefore f (here + 1) 0
further f here cpu (inl less) = inl (omega (arith, less))
further f here cpu (inr (same, less)) = inl (omega (arith, same))

-- a turn found nothing
pub own_idle : (xs : List Found) (here cpu : ℕ) → AreOfTurnsBefore xs here cpu → AreOfTurnsBefore xs here (cpu + 1)
own_idle xs here cpu are = record { own = are.own; before = λ i d first less. wider (slice_index_or xs i d) here cpu (are.before i d first less) }

-- the state at a place was gone through
pub own_next : (xs : List Found) (here cpu : ℕ) → AreOfTurnsBefore xs here cpu → AreOfTurnsBefore xs (here + 1) 0
own_next xs here cpu are = record { own = are.own; before = λ i d first less. further (slice_index_or xs i d) here cpu (are.before i d first less) }

-- what was found before isn't after the turn
not_same : (f g : Found) (here cpu : ℕ) → IsBefore f here cpu → g.from ≡ here → g.cpu ≡ cpu → f.from ≡ g.from → f.cpu ≡ g.cpu → ⊥
not_same f g here cpu (inl less) from its_cpu same same_cpu = omega (arith, less, from, same)
not_same f g here cpu (inr (is, less)) from its_cpu same same_cpu = omega (arith, less, its_cpu, same_cpu)

-- a turn found this
module _ (xs : List Found) (f : Found) (here cpu : ℕ) (from : f.from ≡ here) (its_cpu : f.cpu ≡ cpu) (are : AreOfTurnsBefore xs here cpu) where
  abbrev ys : List Found
  ys = xs ++ f ∷ []

  long : length ys ≡ length xs + 1
  long = length-append xs (f ∷ [])

  old : (i : ℕ) (d : Found) → i < length xs → slice_index_or ys i d ≡ slice_index_or xs i d
  old i d less = at_front xs (f ∷ []) i d less

  new : (j : ℕ) (d : Found) → j ≡ length xs → slice_index_or ys j d ≡ f
  new j d last = ap (λ (n : ℕ). slice_index_or ys n d) last ∙ at_end xs f d

  before_at : (i : ℕ) (d : Found) → 0 < i → (i < length xs) ⊎ (i ≡ length xs) → IsBefore (slice_index_or ys i d) here (cpu + 1)
  before_at i d first (inl less) =
      subst (λ (g : Found). IsBefore g here (cpu + 1)) (sym (old i d less)) (wider (slice_index_or xs i d) here cpu (are.before i d first less))
  before_at i d first (inr last) =
      subst (λ (g : Found). IsBefore g here (cpu + 1)) (sym (new i d last)) (inr (from, omega (arith, its_cpu)))

  own_at : (i j : ℕ) (d : Found) → 0 < i → i < j → (j < length xs) ⊎ (j ≡ length xs) →
      (slice_index_or ys i d).from ≡ (slice_index_or ys j d).from → (slice_index_or ys i d).cpu ≡ (slice_index_or ys j d).cpu → ⊥
  own_at i j d first less (inl there) same same_cpu =
      let a = old i d (omega (arith, less, there)) in
      let b = old j d there in
      are.own.each i j d first less there
      (sym (ap (λ (g : Found). g.from) a) ∙ same ∙ ap (λ (g : Found). g.from) b)
      (sym (ap (λ (g : Found). g.cpu) a) ∙ same_cpu ∙ ap (λ (g : Found). g.cpu) b)
  own_at i j d first less (inr last) same same_cpu =
      let a = old i d (omega (arith, less, last)) in
      let b = new j d last in
      not_same (slice_index_or xs i d) f here cpu (are.before i d first (omega (arith, less, last))) from its_cpu
      (sym (ap (λ (g : Found). g.from) a) ∙ same ∙ ap (λ (g : Found). g.from) b)
      (sym (ap (λ (g : Found). g.cpu) a) ∙ same_cpu ∙ ap (λ (g : Found). g.cpu) b)

  own_more : AreOfTurnsBefore ys here (cpu + 1)
  own_more = record {
    own = record { each = λ i j d first less there. own_at i j d first less (place j (length xs) (omega (arith, there, long))) };
    before = λ i d first less. before_at i d first (place i (length xs) (omega (arith, less, long)));
  }

pub own_here : (xs zs : List Found) (here cpu : ℕ) (t : KernelState) → IsMore xs here cpu t zs → AreOfTurnsBefore xs here cpu → AreOfTurnsBefore zs here (cpu + 1)
own_here xs zs here cpu t (inl same) are = subst (λ (l : List Found). AreOfTurnsBefore l here (cpu + 1)) (sym same) (own_idle xs here cpu are)
own_here xs zs here cpu t (inr (f, by, more)) are = subst (λ (l : List Found). AreOfTurnsBefore l here (cpu + 1)) (sym more) (own_more xs f here cpu by.from by.cpu are)
