-- Others hold what was made of what a side holds exactly where one of their derivations comes of it.
use Rattle.std.proofs.Common.{◌≡◌, ℕ, List, [], ◌∷◌, refl, sym, ◌∙◌, inl, inr}
use Rattle.std.specs.Prelude.{Bool, true, false, not, Option, Some, None}
use Rattle.std.specs.List.{list_any}
use Rattle.std.specs.Option.{option_or}
use Rattle.std.proofs.lemmas.Bool.{and_parts, not-true, not_from_false}
use Rattle.std.proofs.lemmas.Option.{same_Some}
use Rattle.nova_model.specs.Lines.{line}
use Rattle.nova_model.specs.State.{KernelState}
use Rattle.nova_model.specs.declared.delegation.Derivation.{Derivation}
use Rattle.law_forest.proofs.Members.{IsIn, all_at, contains_from_in, in_from_contains}
use Rattle.law_integrity.specs.Confined.{Of}
use Rattle.law_flow.specs.Flow.{DerivesWithin}
use Rattle.nova_flowing.specs.Deriving.{IsDerivingTold, IsMade, first_made, is_made_of, made_by}
use Rattle.nova_flowing.specs.Leaks.{at_cap, first_some, when}
use Rattle.nova_flowing.specs.declared.leak.Field.{Field}
use Rattle.nova_flowing.specs.declared.leak.Field.TheVariants as field
use Rattle.nova_flowing.specs.declared.leak.Leak.{Leak}
use Rattle.nova_flowing.specs.declared.leak.Place.{Place}
use Rattle.nova_flowing.proofs.Reflecting.{any_found, first_none, found_any, neither, not_both, when_off}

-- where the first comes from
some_found : {X Y : Type 0} (f : X → Option Y) (xs : List X) (y : Y) → first_some f xs ≡ Some y → (x : X) × IsIn xs x × (f x ≡ Some y)
some_found f [] y is = absurd (cc)
some_found {X} {Y} f (x ∷ xs) y is = by_first (λ h. some_found f xs y h) (f x) refl is
  where
    by_first : (first_some f xs ≡ Some y → (z : X) × IsIn xs z × (f z ≡ Some y)) → (o : Option Y) → f x ≡ o → option_or o (first_some f xs) ≡ Some y → (z : X) × IsIn (x ∷ xs) z × (f z ≡ Some y)
    by_first later (Some z) at h = (x, inl refl, at ∙ h)
    by_first later None at h = let its = later h in (its.0, inr its.1, its.2)

when_on : (t : Bool) (field : Field) (place : Place) (l : Leak) → when t field place ≡ Some l → (t ≡ true) × (l ≡ record { field = field; place = place })
when_on true field place l is = (refl, sym (same_Some (record { field = field; place = place }) l is))
when_on false field place l is = absurd (cc)

module _ (k : KernelState) (S : ℕ → Bool) where
  abbrev above : Derivation → Bool
  above d = list_any (λ (a : Derivation). S a.pd) (line k.delegations.list d)

  none_made : first_made k.delegations.list S ≡ None → DerivesWithin k (Of S)
  none_made none d ancestor has up mine = by_test (S d.pd) refl
    where
      off : is_made_of k.delegations.list S d ≡ false
      off =
          when_off (is_made_of k.delegations.list S d) field.Derives (at_cap d)
          (all_at (λ (e : Derivation). made_by k.delegations.list S e ≡ None) k.delegations.list d (first_none (made_by k.delegations.list S) k.delegations.list none) (in_from_contains k.delegations.list d has))

      by_test : (b : Bool) → S d.pd ≡ b → S d.pd ≡ true
      by_test true is = is
      by_test false is =
          absurd (neither (not (S d.pd)) (above d) off (not_from_false (S d.pd) is)
          (found_any (λ (a : Derivation). S a.pd) (line k.delegations.list d) ancestor (in_from_contains (line k.delegations.list d) ancestor up) mine))

  made : (l : Leak) → first_made k.delegations.list S ≡ Some l → IsMade k S l
  made l is = record {
    derivation = d.0;
    there = contains_from_in k.delegations.list d.0 d.1;
    without = not-true (S d.0.pd) parts.0;
    ancestor = a.0;
    of = contains_from_in (line k.delegations.list d.0) a.0 a.1;
    within = a.2;
    leak = on.1;
    fails = λ within. not_both (S d.0.pd) (within d.0 a.0 (contains_from_in k.delegations.list d.0 d.1) (contains_from_in (line k.delegations.list d.0) a.0 a.1) a.2) (not-true (S d.0.pd) parts.0);
  }
    where
      d : (x : Derivation) × IsIn k.delegations.list x × (made_by k.delegations.list S x ≡ Some l)
      d = some_found (made_by k.delegations.list S) k.delegations.list l is

      on : (is_made_of k.delegations.list S d.0 ≡ true) × (l ≡ record { field = field.Derives; place = at_cap d.0 })
      on = when_on (is_made_of k.delegations.list S d.0) field.Derives (at_cap d.0) l d.2

      parts : (not (S d.0.pd) ≡ true) × (above d.0 ≡ true)
      parts = and_parts (not (S d.0.pd)) (above d.0) on.0

      a : (x : Derivation) × IsIn (line k.delegations.list d.0) x × (S x.pd ≡ true)
      a = any_found (λ (x : Derivation). S x.pd) (line k.delegations.list d.0) parts.1

  pub told_by : (o : Option Leak) → first_made k.delegations.list S ≡ o → IsDerivingTold k S o
  told_by None is = none_made is
  told_by (Some l) is = made l is
