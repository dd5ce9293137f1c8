-- Whether a side reaches a frame, or holds a right to an object, is decided: the derivations are a finite list.
use Rattle.std.proofs.Common.{◌≡◌, ◌<◌, ◌≤◌, ◌+◌, ◌^◌, ℕ, ◌⊎◌, List, [], ◌∷◌, refl, sym, subst, inl, inr, arith}
use Rattle.std.specs.Prelude.{Bool, true, false}
use Rattle.std.proofs.lemmas.Bool.{cases_lt}
use Rattle.nova_range.specs.Rights.{allows}
use Rattle.nova_range.specs.declared.range.Kind.{Kind}
use Rattle.nova_range.specs.declared.range.Kind.TheVariants.{Mem, Obj}
use Rattle.nova_model.specs.State.{KernelState}
use Rattle.nova_model.specs.declared.delegation.Derivation.{Derivation}
use Rattle.law_forest.specs.Within.{LeadsTo}
use Rattle.law_forest.proofs.Members.{IsIn, contains_from_in, in_from_contains}
use Rattle.law_turns.proofs.Links.{place}
use Rattle.law_integrity.specs.Confined.{Holds, Reach}
use Rattle.law_integrity.specs.Trusted.{Labelled}

abbrev pub IsDecided : Type 0 → Type 0
IsDecided A = A ⊎ (A → ⊥)

both : {A B : Type 0} → IsDecided A → IsDecided B → IsDecided (A × B)
both (inl a) (inl b) = inl (a, b)
both (inl a) (inr never) = inr (λ p. never p.1)
both (inr never) b = inr (λ p. never p.0)

-- one of a list is so, or none is
record IsThere {X : Type 0} (P : X → Type 0) (xs : List X) : Type 0 where
  one : X
  among : IsIn xs one
  is : P one

some_decided : {X : Type 0} (P : X → Type 0) → ((x : X) → IsDecided (P x)) → (xs : List X) → IsDecided (IsThere P xs)
some_decided {X} P decide [] = inr (λ t. t.among)
some_decided {X} P decide (x ∷ xs) = by_first (decide x) (some_decided P decide xs)
  where
    by_first : IsDecided (P x) → IsDecided (IsThere P xs) → IsDecided (IsThere P (x ∷ xs))
    by_first (inl p) rest = inl (record { one = x; among = inl refl; is = p })
    by_first (inr never) (inl t) = inl (record { one = t.one; among = inr t.among; is = t.is })
    by_first (inr never) (inr none) = inr (λ t. by_place t.one t.is t.among)
      where
        by_place : (y : X) → P y → IsIn (x ∷ xs) y → ⊥
        by_place y p (inl same) = never (subst P (sym same) p)
        by_place y p (inr later) = none (record { one = y; among = later; is = p })

kind_decided : (a b : Kind) → IsDecided (a ≡ b)
kind_decided Mem Mem = inl refl
kind_decided Obj Obj = inl refl
kind_decided Mem Obj = inr (λ same. cc)
kind_decided Obj Mem = inr (λ same. cc)

leads_decided : (d : Derivation) (frame : ℕ) → IsDecided (LeadsTo d frame)
leads_decided d frame = by_last (cases_lt frame (d.target + 2 ^ d.order)) (cases_lt frame d.target)
  where
    by_last : (frame < d.target + 2 ^ d.order) ⊎ (d.target + 2 ^ d.order ≤ frame) → (frame < d.target) ⊎ (d.target ≤ frame) → IsDecided (LeadsTo d frame)
    by_last (inl last) (inl low) = inr (λ leads. let first = leads.first in absurd (omega (arith, first, low)))
    by_last (inl last) (inr first) = inl (record { first = first; last = last })
    by_last (inr high) first = inr (λ leads. let last = leads.last in absurd (omega (arith, last, high)))

allowed_decided : (b : Bool) → IsDecided (b ≡ true)
allowed_decided true = inl refl
allowed_decided false = inr (λ same. cc)

pub reach_decided : (k : KernelState) (label : ℕ → ℕ) (side right frame : ℕ) → IsDecided (Reach k (Labelled label side) right frame)
reach_decided k label side right frame = by_search (some_decided P decide k.delegations.list)
  where
    P : Derivation → Type 0
    P d = (label d.pd ≡ side) × ((d.kind ≡ Mem) × (LeadsTo d frame × (allows d.rights right ≡ true)))

    decide : (d : Derivation) → IsDecided (P d)
    decide d = both (place (label d.pd) side) (both (kind_decided d.kind Mem) (both (leads_decided d frame) (allowed_decided (allows d.rights right))))

    by_search : IsDecided (IsThere P k.delegations.list) → IsDecided (Reach k (Labelled label side) right frame)
    by_search (inl t) = inl (record {
      derivation = t.one;
      there = contains_from_in k.delegations.list t.one t.among;
      of = t.is.0;
      kind = t.is.1.0;
      leads = t.is.1.1.0;
      allowed = t.is.1.1.1;
    })
    by_search (inr none) = inr (λ r. none (record { one = r.derivation; among = in_from_contains k.delegations.list r.derivation r.there; is = (r.of, (r.kind, (r.leads, r.allowed))) }))

pub holds_decided : (k : KernelState) (label : ℕ → ℕ) (side right object : ℕ) → IsDecided (Holds k (Labelled label side) right object)
holds_decided k label side right object = by_search (some_decided P decide k.delegations.list)
  where
    P : Derivation → Type 0
    P d = (label d.pd ≡ side) × ((d.kind ≡ Obj) × ((d.target ≡ object) × (allows d.rights right ≡ true)))

    decide : (d : Derivation) → IsDecided (P d)
    decide d = both (place (label d.pd) side) (both (kind_decided d.kind Obj) (both (place d.target object) (allowed_decided (allows d.rights right))))

    by_search : IsDecided (IsThere P k.delegations.list) → IsDecided (Holds k (Labelled label side) right object)
    by_search (inl t) = inl (record {
      capability = t.one;
      there = contains_from_in k.delegations.list t.one t.among;
      of = t.is.0;
      kind = t.is.1.0;
      leads = t.is.1.1.0;
      allowed = t.is.1.1.1;
    })
    by_search (inr none) = inr (λ h. none (record { one = h.capability; among = in_from_contains k.delegations.list h.capability h.there; is = (h.of, (h.kind, (h.leads, h.allowed))) }))
