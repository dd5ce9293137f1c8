-- All memory that flows between isolated sides is told, and no other is.
use Rattle.std.proofs.Common.{◌≡◌, ◌≢◌, ◌++◌, ℕ, List, [], ◌∷◌, refl, sym, ap, ◌∙◌, subst, inl, inr}
use Rattle.std.specs.Prelude.{◌&&◌, Bool, true, false, if◌then◌else◌, flat_map, Contains, Option, Some, None, option_to_list}
use Rattle.std.specs.List.{AllByRecursion}
use Rattle.std.proofs.lemmas.Bool.{and_parts}
use Rattle.nova_range.specs.Rights.{allows, write_right}
use Rattle.nova_range.specs.declared.range.Kind.{Kind}
use Rattle.nova_range.specs.declared.range.Kind.TheVariants.{Mem, Obj}
use Rattle.nova_model.specs.State.{KernelState}
use Rattle.nova_model.specs.declared.delegation.Derivation.{Derivation}
use Rattle.law_forest.proofs.Members.{IsIn, all_at, contains_from_in, in_from_contains}
use Rattle.law_integrity.specs.Confined.{Reach, ReachAny}
use Rattle.law_integrity.specs.Trusted.{Labelled}
use Rattle.nova_ties.specs.declared.tie.Cause.TheVariants as cause
use Rattle.nova_ties.specs.declared.tie.Tie.{Tie}
use Rattle.law_sides.specs.Isolated.{AreIsolated}
use Rattle.law_sides.specs.Tied.{flowing, flowing_by, flowing_of_kind, flows_by, meets, overlaps, overlaps_all, overlaps_by, weak}
use Rattle.law_sides.specs.Told.{IsFlowing}
use Rattle.law_sides.proofs.Frames.{frame_meets, meets_frame}
use Rattle.law_sides.proofs.Lists.{all_flat}

in_left : {T : Type 0} (xs ys : List T) (y : T) → IsIn xs y → IsIn (xs ++ ys) y
in_left [] ys y none = absurd none
in_left (x ∷ xs) ys y (inl same) = inl same
in_left (x ∷ xs) ys y (inr later) = inr (in_left xs ys y later)

in_right : {T : Type 0} (xs ys : List T) (y : T) → IsIn ys y → IsIn (xs ++ ys) y
in_right [] ys y i = i
in_right (x ∷ xs) ys y i = inr (in_right xs ys y i)

pub in_flat : {X Y : Type 0} (f : X → List Y) (xs : List X) (x : X) (y : Y) → IsIn xs x → IsIn (f x) y → IsIn (flat_map f xs) y
in_flat f [] x y none i = absurd none
in_flat {X} f (z ∷ xs) x y (inl same) i = in_left (f z) (flat_map f xs) y (subst (λ (w : X). IsIn (f w) y) (sym same) i)
in_flat f (z ∷ xs) x y (inr later) i = in_right (f z) (flat_map f xs) y (in_flat f xs x y later i)

module _ {shared : ℕ → Bool} {flows : ℕ → ℕ → Bool} (k : KernelState) (label : ℕ → ℕ) (side other frame : ℕ) (isolated : AreIsolated shared flows k label) (some : side ≢ 0) (more : other ≢ 0) (apart : other ≢ side)
    (reach : Reach k (Labelled label side) write_right frame) (any : ReachAny k (Labelled label other) frame) where
  abbrev d : Derivation
  d = reach.derivation

  abbrev e : Derivation
  e = any.derivation

  abbrev by_labels : ℕ → ℕ → Bool
  by_labels = flows_by flows label

  abbrev pair : Tie
  pair = weak d.pd e.pd (cause.Frames d.id e.id)

  flow : flows (label d.pd) (label e.pd) ≡ true
  flow = elim (isolated.frames side other frame some more reach any) [
    | inl same ↦ absurd (apart same)
    | inr is ↦ ap (λ (l : ℕ). flows l (label e.pd)) reach.of ∙ ap (flows side) any.of ∙ is
  ]

  overlap : overlaps true by_labels d e ≡ Some pair
  overlap =
      ap (λ (s : Kind). overlaps_by true by_labels s d e) any.kind
      ∙ ap (λ (b : Bool). if b && flows (label d.pd) (label e.pd) then Some pair else None) (frame_meets d e frame reach.leads any.leads)
      ∙ ap (λ (b : Bool). if b then Some pair else None) flow

  listed : IsIn (overlaps_all true by_labels k.delegations.list d true) pair
  listed =
      in_flat (λ (f : Derivation). option_to_list (overlaps true by_labels d f)) k.delegations.list e pair (in_from_contains k.delegations.list e any.there)
      (subst (λ (o : Option Tie). IsIn (option_to_list o) pair) (sym overlap) (inl refl))

  here : IsIn (flowing_by by_labels k.delegations.list d) pair
  here =
      subst (λ (s : Kind). IsIn (flowing_of_kind by_labels k.delegations.list d s) pair) (sym reach.kind)
      (subst (λ (t : Bool). IsIn (overlaps_all true by_labels k.delegations.list d t) pair) (sym reach.allowed) listed)

  pub flow_told : Contains (flowing (flows_by flows label) k) (weak reach.derivation.pd any.derivation.pd (cause.Frames reach.derivation.id any.derivation.id))
  unfolding flowing
  flow_told =
      contains_from_in (flat_map (flowing_by by_labels k.delegations.list) k.delegations.list) pair
      (in_flat (flowing_by by_labels k.delegations.list) k.delegations.list d pair (in_from_contains k.delegations.list d reach.there) here)

module _ (flows : ℕ → ℕ → Bool) (k : KernelState) (label : ℕ → ℕ) where
  abbrev Told : Tie → Type 0
  Told = IsFlowing flows k label

  module _ (d : Derivation) (there : Contains k.delegations.list d) where
    module _ (kind : d.kind ≡ Mem) (writes : allows d.rights write_right ≡ true) where
      by_pair : (e : Derivation) → Contains k.delegations.list e → (s : Kind) → e.kind ≡ s → AllByRecursion Told (option_to_list (overlaps_by true (flows_by flows label) s d e))
      by_pair e its Obj is = tt
      by_pair e its Mem is = by_test (meets d e && flows (label d.pd) (label e.pd)) refl
        where
          told : (meets d e && flows (label d.pd) (label e.pd)) ≡ true → Told (weak d.pd e.pd (cause.Frames d.id e.id))
          told both =
              let parts = and_parts (meets d e) (flows (label d.pd) (label e.pd)) both in
              let met = meets_frame d e parts.0 in
              record {
                frame = met.0;
                writes = record { derivation = d; there = there; of = refl; kind = kind; leads = met.1; allowed = writes };
                reaches = record { derivation = e; there = its; of = refl; kind = is; leads = met.2 };
                pair = refl;
                flow = parts.1;
              }

          by_test : (t : Bool) → (meets d e && flows (label d.pd) (label e.pd)) ≡ t → AllByRecursion Told (option_to_list (if t then Some (weak d.pd e.pd (cause.Frames d.id e.id)) else None))
          by_test true both = (told both, tt)
          by_test false both = tt

    by_right : d.kind ≡ Mem → (t : Bool) → allows d.rights write_right ≡ t → AllByRecursion Told (overlaps_all true (flows_by flows label) k.delegations.list d t)
    by_right kind true writes =
        all_flat Told (λ (e : Derivation). option_to_list (overlaps true (flows_by flows label) d e)) k.delegations.list
        (λ e i. by_pair kind writes e (contains_from_in k.delegations.list e i) e.kind refl)
    by_right kind false none = tt

    by_kind : (s : Kind) → d.kind ≡ s → AllByRecursion Told (flowing_of_kind (flows_by flows label) k.delegations.list d s)
    by_kind Mem is = by_right is (allows d.rights write_right) refl
    by_kind Obj is = tt

  pub told_flows : (t : Tie) → Contains (flowing (flows_by flows label) k) t → IsFlowing flows k label t
  unfolding flowing
  told_flows t there =
      all_at Told (flat_map (flowing_by (flows_by flows label) k.delegations.list) k.delegations.list) t
      (all_flat Told (flowing_by (flows_by flows label) k.delegations.list) k.delegations.list (λ d i. by_kind d (contains_from_in k.delegations.list d i) d.kind refl))
      (in_from_contains _ t there)
