-- The states that are open: those from a place on.
use Rattle.std.proofs.Common.{◌≡◌, ◌⊎◌, ℕ, zero, suc, ◌+◌, ◌-◌, ◌<◌, ◌≤◌, List, [], ◌∷◌, ◌++◌, drop, length, refl, ap, sym, subst, ◌∙◌, arith, inl, inr}
use Rattle.std.specs.Prelude.{Option, Some, Bool, true, false, Contains, option_to_list, slice_index_or}
use Rattle.std.specs.Bool.{OnTrue}
use Rattle.std.proofs.lemmas.List.{length-map, map-append}
use Rattle.nova_model.specs.State.{KernelState}
use Rattle.nova_search.specs.declared.found.Found.{Found}
use Rattle.nova_search.specs.declared.merging.Merging.{Merging}
use Rattle.nova_search.specs.Merged.{IsOne, IsOneAt}
use Rattle.nova_search.specs.Searches.{AreOpen, IsFirstAt, state_of, states_of}
use Rattle.nova_search.proofs.Nearest.{side}

drop_more : (xs : List KernelState) (x : KernelState) (n : ℕ) → n ≤ length xs → drop n xs ++ x ∷ [] ≡ drop n (xs ++ x ∷ [])
drop_more xs x zero most = refl
drop_more [] x (suc n) most = absurd (omega (arith, most))
drop_more (y ∷ xs) x (suc n) most = drop_more xs x n (omega (arith, most))

pub open_more : (xs : List Found) (f : Found) (s : KernelState) (n : ℕ) (front : List KernelState) → AreOpen (states_of xs) n front → n ≤ length xs → state_of f ≡ s →
    AreOpen (states_of (xs ++ f ∷ [])) n (front ++ s ∷ [])
open_more xs f s n front are most same =
    ap (λ (x : KernelState). front ++ x ∷ []) (sym same)
    ∙ ap (λ (l : List KernelState). l ++ state_of f ∷ []) are
    ∙ drop_more (states_of xs) (state_of f) n (let long = length-map xs state_of in omega (arith, most, long))
    ∙ ap (λ (l : List KernelState). drop n l) (sym (map-append state_of xs (f ∷ [])))

at_drop : (xs : List KernelState) (n i : ℕ) (d : KernelState) → i < length (drop n xs) → slice_index_or xs (n + i) d ≡ slice_index_or (drop n xs) i d
at_drop xs zero i d less = ap (λ (m : ℕ). slice_index_or xs m d) (let e : 0 + i ≡ i = omega arith in e)
at_drop [] (suc n) i d less = absurd (omega (arith, less))
at_drop (x ∷ xs) (suc n) i d less =
    ap (λ (m : ℕ). slice_index_or (x ∷ xs) m d) (let e : suc n + i ≡ suc (n + i) = omega arith in e) ∙ at_drop xs n i d less

in_drop : (xs : List KernelState) (n i : ℕ) → i < length (drop n xs) → n + i < length xs
in_drop xs zero i less = omega (arith, less)
in_drop [] (suc n) i less = absurd (omega (arith, less))
in_drop (x ∷ xs) (suc n) i less = let is = in_drop xs n i less in omega (arith, is)

out_of_drop : (xs : List KernelState) (n : ℕ) → drop n xs ≡ [] → length xs ≤ n
out_of_drop [] n none = omega arith
out_of_drop (x ∷ xs) zero none = absurd (cc)
out_of_drop (x ∷ xs) (suc n) none = let is = out_of_drop xs n none in omega (arith, is)

drop_next : (xs : List KernelState) (n : ℕ) (x : KernelState) (rest : List KernelState) → drop n xs ≡ x ∷ rest → drop (n + 1) xs ≡ rest
drop_next [] zero x rest is = absurd (cc)
drop_next [] (suc n) x rest is = absurd (cc)
drop_next (y ∷ xs) zero x rest is = cc
drop_next (y ∷ xs) (suc n) x rest is = ap (λ (m : ℕ). drop m (y ∷ xs)) (let e : suc n + 1 ≡ suc (n + 1) = omega arith in e) ∙ drop_next xs n x rest is

-- what is seen of one of those that are open
pub one_open : (m : Merging) (r : Bool) (states : List KernelState) (n i p : ℕ) (s : KernelState) (front : List KernelState) → AreOpen states n front → p ≡ n + i →
    OnTrue r (IsOneAt m front i s) → OnTrue r (IsOneAt m states p s)
one_open m false states n i p s front are same seen = tt
one_open m true states n i p s front are same seen = subst (λ (q : ℕ). IsOneAt m states q s) (sym same) (record {
  there = in_drop states n i there;
  is = λ d. subst (λ (x : KernelState). IsOne m x s) (sym (at_drop states n i d there)) (here.is d);
})
  where
    here : IsOneAt m (drop n states) i s
    here = subst (λ (l : List KernelState). IsOneAt m l i s) are seen

    there : i < length (drop n states)
    there = here.there

pub one_here : (m : Merging) (r : Bool) (front : List KernelState) (i : ℕ) (s t : KernelState) → i < length front → ((d : KernelState) → slice_index_or front i d ≡ s) →
    OnTrue r (IsOne m s t) → OnTrue r (IsOneAt m front i t)
one_here m true front i s t less here is = record { there = less; is = λ d. subst (λ (x : KernelState). IsOne m x t) (sym (here d)) is }
one_here m false front i s t less here is = tt

-- the first of them is taken out
pub record IsTaken (states : List KernelState) (n : ℕ) (s : KernelState) (front : List KernelState) : Type 0 where
  pub there : n < length states
  pub is : (d : KernelState) → slice_index_or states n d ≡ s
  pub left : AreOpen states (n + 1) front

pub taken_by : (states : List KernelState) (n : ℕ) (s : KernelState) (old new : List KernelState) (o : Option KernelState) → AreOpen states n old → old ≡ option_to_list o ++ new →
    o ≡ Some s → IsTaken states n s new
taken_by states n s old new o are split some = record {
  there = let is = in_drop states n 0 (subst (λ (l : List KernelState). 0 < length l) (sym whole) (omega arith)) in omega (arith, is);
  is = λ d.
      ap (λ (i : ℕ). slice_index_or states i d) (let e : n ≡ n + 0 = omega arith in e)
      ∙ at_drop states n 0 d (subst (λ (l : List KernelState). 0 < length l) (sym whole) (omega arith))
      ∙ ap (λ (l : List KernelState). slice_index_or l 0 d) whole;
  left = sym (drop_next states n s new whole);
}
  where
    whole : drop n states ≡ s ∷ new
    whole = sym are ∙ split ∙ ap (λ (x : Option KernelState). option_to_list x ++ new) some

pub none_open : (xs : List Found) (n : ℕ) (old : List KernelState) → AreOpen (states_of xs) n old → old ≡ [] → length xs ≤ n
none_open xs n old are empty = let many = out_of_drop (states_of xs) n (sym are ∙ empty) in let long = length-map xs state_of in omega (arith, many, long)

-- the first of them that passes a test
pub first_behind : (test : KernelState → Bool) (states : List KernelState) (n i : ℕ) (front : List KernelState) → AreOpen states n front →
    ((j : ℕ) (d : KernelState) → j < n → test (slice_index_or states j d) ≡ false) → IsFirstAt test front i → IsFirstAt test states (n + i)
first_behind test states n i front are none first = record {
  there = in_drop states n i there;
  passes = λ d. ap test (at_drop states n i d there) ∙ its.passes d;
  none = λ j d less. by_side j d less (side j n);
}
  where
    its : IsFirstAt test (drop n states) i
    its = subst (λ (l : List KernelState). IsFirstAt test l i) are first

    there : i < length (drop n states)
    there = its.there

    by_side : (j : ℕ) (d : KernelState) → j < n + i → (j < n) ⊎ (n ≤ j) → test (slice_index_or states j d) ≡ false
    by_side j d less (inl before) = none j d before
    by_side j d less (inr behind) = behind_by (j - n) (omega (arith, behind)) (omega (arith, less, behind))
      where
        behind_by : (m : ℕ) → j ≡ n + m → m < i → test (slice_index_or states j d) ≡ false
        behind_by m same short =
            ap (λ (l : ℕ). test (slice_index_or states l d)) same ∙ ap test (at_drop states n m d (omega (arith, there, short))) ∙ its.none m d short

pub none_behind : (test : KernelState → Bool) (states : List KernelState) (n : ℕ) (front : List KernelState) → AreOpen states n front →
    ((j : ℕ) (d : KernelState) → j < n → test (slice_index_or states j d) ≡ false) → ((s : KernelState) → Contains front s → test s ≡ false) →
    (s : KernelState) → Contains states s → test s ≡ false
none_behind test states n front are none not s there = by_side (side there.0 n)
  where
    contained : (xs : List KernelState) (m i : ℕ) (x : KernelState) → m ≤ i → i < length xs → slice_index_or xs i x ≡ x → Contains (drop m xs) x
    contained xs zero i x most less is = (i, less, is)
    contained [] (suc m) i x most less is = absurd (omega (arith, less))
    contained (y ∷ xs) (suc m) zero x most less is = absurd (omega (arith, most))
    contained (y ∷ xs) (suc m) (suc i) x most less is = contained xs m i x (omega (arith, most)) (omega (arith, less)) is

    by_side : (there.0 < n) ⊎ (n ≤ there.0) → test s ≡ false
    by_side (inl before) = ap test (sym there.2) ∙ none there.0 s before
    by_side (inr behind) =
        not s (subst (λ (l : List KernelState). Contains l s) (sym are) (contained states n there.0 s behind there.1 there.2))
