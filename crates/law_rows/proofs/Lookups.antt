-- What a search in a list finds.
use Rattle.std.proofs.Common.{◌≡◌, ℕ, zero, suc, Bool, true, false, List, [], ◌∷◌, Option, Some, None, refl, ap, sym, subst, inl, inr, arith}
use Rattle.std.specs.Prelude.{◌⊎◌, option_map}
use Rattle.std.specs.List.{Contains, find}
use Rattle.nova_model.specs.Delegations.{covers, range_of}
use Rattle.nova_model.specs.Hypercalls.{looked_up}
use Rattle.nova_model.specs.State.{KernelState}
use Rattle.nova_model.specs.declared.delegation.Derivation.{Derivation}
use Rattle.nova_range.specs.RangeWords.{word_of}
use Rattle.nova_range.specs.declared.range.Range.{Range}

here : {A : Type 0} (x : A) (xs : List A) → Contains (x ∷ xs) x
here x xs = (0, omega arith, refl)

there : {A : Type 0} (x d : A) (xs : List A) → Contains xs d → Contains (x ∷ xs) d
there x d xs is = (suc is.0, omega (arith, is.1), is.2)

first_or_rest : {A : Type 0} (x d : A) (xs : List A) → Contains (x ∷ xs) d → (d ≡ x) ⊎ Contains xs d
first_or_rest x d xs (zero, within, at) = inl (sym at)
first_or_rest x d xs (suc i, within, at) = inr (i, omega (arith, within), at)

pub none_found : {A : Type 0} (p : A → Bool) (xs : List A) → ((d : A) → Contains xs d → p d ≡ false) → find p xs ≡ None
none_found p [] none = refl
none_found p (x ∷ xs) none =
    let first : p x ≡ false = none x (here x xs) in rw first (none_found p xs (λ d in_rest. none d (there x d xs in_rest)))

pub record IsFound {A : Type 0} (p : A → Bool) (xs : List A) : Type 0 where
  pub one : A
  pub among : Contains xs one
  pub passes : p one ≡ true
  pub is : find p xs ≡ Some one

pub some_found : {A : Type 0} (p : A → Bool) (xs : List A) (d : A) → Contains xs d → p d ≡ true → IsFound p xs
some_found p [] d is passes = absurd (omega (arith, is.1))
some_found p (x ∷ xs) d is passes = go (λ in_rest. some_found p xs d in_rest passes) (p x) refl where
  rest : p x ≡ false → (d ≡ x) ⊎ Contains xs d → Contains xs d
  rest fails (inl same) = let both : p x ≡ true = subst (λ y. p y ≡ true) same passes in absurd (cc)
  rest fails (inr later) = later

  later : IsFound p xs → p x ≡ false → IsFound p (x ∷ xs)
  later f fails = record { one = f.one; among = there x f.one xs f.among; passes = f.passes; is = rw fails f.is }

  go : (Contains xs d → IsFound p xs) → (b : Bool) → p x ≡ b → IsFound p (x ∷ xs)
  go more true t = record { one = x; among = here x xs; passes = t; is = rw t refl }
  go more false t = later (more (rest t (first_or_rest x d xs is))) t

module _ (k : KernelState) (domain : ℕ) (range : Range) where
  abbrev told : Option Derivation → ℕ
  told found = word_of (option_map (λ d. (range_of d, d.rights)) found)

  pub tells_none : ((d : Derivation) → Contains k.delegations.list d → covers range.kind domain range.base d ≡ false) → looked_up k domain range ≡ 0
  tells_none none = ap told (none_found (covers range.kind domain range.base) k.delegations.list none)

  pub tells_found : (f : IsFound (covers range.kind domain range.base) k.delegations.list) → looked_up k domain range ≡ word_of (Some (range_of f.one, f.one.rights))
  tells_found f = ap told f.is
