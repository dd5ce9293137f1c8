-- All memory that two sides reach and neither may write is told, and no other is.
use Rattle.std.proofs.Common.{◌≡◌, ◌≢◌, ◌⊎◌, ◌<◌, ◌≤◌, ℕ, [], refl, sym, ap, ◌∙◌, subst, inl, inr, arith}
use Rattle.std.specs.Prelude.{◌==◌, ◌&&◌, Bool, true, false, not, if◌then◌else◌, flat_map, nat_le, Contains, Option, Some, None, option_to_list}
use Rattle.std.specs.List.{AllByRecursion}
use Rattle.std.proofs.lemmas.Bool.{and_parts, cases_lt, eqb-false, le-leb, leb-true, ne_eqb, not-true}
use Rattle.nova_range.specs.Rights.{allows, write_right}
use Rattle.nova_range.specs.declared.range.Kind.{Kind}
use Rattle.nova_range.specs.declared.range.Kind.TheVariants.{Mem, Obj}
use Rattle.nova_model.specs.Delegations.{is_memory}
use Rattle.nova_model.specs.State.{KernelState}
use Rattle.nova_model.specs.declared.delegation.Derivation.{Derivation}
use Rattle.law_forest.proofs.Members.{IsIn, all_at, contains_from_in, in_from_contains}
use Rattle.law_forest.specs.Within.{LeadsTo}
use Rattle.law_integrity.specs.Confined.{ReachAny}
use Rattle.law_integrity.specs.Trusted.{Labelled}
use Rattle.nova_ties.specs.declared.tie.Cause.TheVariants as cause
use Rattle.nova_ties.specs.declared.tie.Tie.{Tie}
use Rattle.law_sides.specs.Tied.{are_read, both_read, is_read, meets, reading, reading_by, weak}
use Rattle.law_sides.specs.Told.{IsRead}
use Rattle.law_sides.proofs.Flowing.{in_flat}
use Rattle.law_sides.proofs.Frames.{frame_meets, meets_frame}
use Rattle.law_sides.proofs.Lists.{all_flat}

module _ (k : KernelState) (label : ℕ → ℕ) where
  read_is : (d : Derivation) → label d.pd ≢ 0 → d.kind ≡ Mem → allows d.rights write_right ≡ false → is_read label d ≡ true
  read_is d some kind none =
      ap (λ (b : Bool). not b && (is_memory d.kind && not (allows d.rights write_right))) (ne_eqb (label d.pd) 0 some)
      ∙ ap (λ (s : Kind). is_memory s && not (allows d.rights write_right)) kind
      ∙ ap (λ (b : Bool). not b) none

  abbrev pair : Derivation → Derivation → Tie
  pair d e = weak d.pd e.pd (cause.Frames d.id e.id)

  both_is : (d e : Derivation) (frame : ℕ) → is_read label e ≡ true → label e.pd ≢ label d.pd → d.id ≤ e.id → LeadsTo d frame → LeadsTo e frame → both_read label d e ≡ Some (pair d e)
  both_is d e frame is apart order first second =
      ap (λ (b : Bool). if b && (not (label e.pd == label d.pd) && (nat_le d.id e.id && meets d e)) then Some (pair d e) else None) is
      ∙ ap (λ (b : Bool). if not b && (nat_le d.id e.id && meets d e) then Some (pair d e) else None) (ne_eqb (label e.pd) (label d.pd) apart)
      ∙ ap (λ (b : Bool). if b && meets d e then Some (pair d e) else None) (le-leb d.id e.id order)
      ∙ ap (λ (b : Bool). if b then Some (pair d e) else None) (frame_meets d e frame first second)

  here : (d e : Derivation) → Contains k.delegations.list e → is_read label d ≡ true → both_read label d e ≡ Some (pair d e) → IsIn (reading_by label k.delegations.list d) (pair d e)
  here d e there is both =
      subst (λ (b : Bool). IsIn (if b then flat_map (λ (f : Derivation). option_to_list (both_read label d f)) k.delegations.list else []) (pair d e)) (sym is)
      (in_flat (λ (f : Derivation). option_to_list (both_read label d f)) k.delegations.list e (pair d e) (in_from_contains k.delegations.list e there)
      (subst (λ (o : Option Tie). IsIn (option_to_list o) (pair d e)) (sym both) (inl refl)))

  pair_told : (d e : Derivation) → Contains k.delegations.list d → IsIn (reading_by label k.delegations.list d) (pair d e) → Contains (reading label k) (pair d e)
  unfolding reading
  pair_told d e there i =
      contains_from_in (flat_map (reading_by label k.delegations.list) k.delegations.list) (pair d e)
      (in_flat (reading_by label k.delegations.list) k.delegations.list d (pair d e) (in_from_contains k.delegations.list d there) i)

  pub read_told : (side other frame : ℕ) → side ≢ 0 → other ≢ 0 → other ≢ side → (one : ReachAny k (Labelled label side) frame) → (two : ReachAny k (Labelled label other) frame) →
      allows one.derivation.rights write_right ≡ false → allows two.derivation.rights write_right ≡ false →
      Contains (reading label k) (weak one.derivation.pd two.derivation.pd (cause.Frames one.derivation.id two.derivation.id))
      ⊎ Contains (reading label k) (weak two.derivation.pd one.derivation.pd (cause.Frames two.derivation.id one.derivation.id))
  read_told side other frame some more apart one two first second = by_order (cases_lt two.derivation.id one.derivation.id)
    where
      one_is : is_read label one.derivation ≡ true
      one_is = read_is one.derivation (λ none. some (sym one.of ∙ none)) one.kind first

      two_is : is_read label two.derivation ≡ true
      two_is = read_is two.derivation (λ none. more (sym two.of ∙ none)) two.kind second

      by_order : (two.derivation.id < one.derivation.id) ⊎ (one.derivation.id ≤ two.derivation.id) → Contains (reading label k) (pair one.derivation two.derivation) ⊎ Contains (reading label k) (pair two.derivation one.derivation)
      by_order (inl after) =
          inr (pair_told two.derivation one.derivation two.there (here two.derivation one.derivation one.there two_is
          (both_is two.derivation one.derivation frame one_is (λ same. apart (sym two.of ∙ sym same ∙ one.of)) (omega (arith, after)) two.leads one.leads)))
      by_order (inr before) =
          inl (pair_told one.derivation two.derivation one.there (here one.derivation two.derivation two.there one_is
          (both_is one.derivation two.derivation frame two_is (λ same. apart (sym two.of ∙ same ∙ one.of)) before one.leads two.leads)))

  is_mem : (s : Kind) → is_memory s ≡ true → s ≡ Mem
  is_mem Mem is = refl
  is_mem Obj is = absurd (cc)

  -- what one is that is read
  record Reads (d : Derivation) : Type 0 where
    sided : label d.pd ≢ 0
    kind : d.kind ≡ Mem
    none : allows d.rights write_right ≡ false

  read_from : (d : Derivation) → is_read label d ≡ true → Reads d
  read_from d is =
      let parts = and_parts (not (label d.pd == 0)) (is_memory d.kind && not (allows d.rights write_right)) is in
      let more = and_parts (is_memory d.kind) (not (allows d.rights write_right)) parts.1 in
      record {
        sided = eqb-false (label d.pd) 0 (not-true (label d.pd == 0) parts.0);
        kind = is_mem d.kind more.0;
        none = not-true (allows d.rights write_right) more.1;
      }

  module _ (d : Derivation) (there : Contains k.delegations.list d) (is : is_read label d ≡ true) where
    reads : Reads d
    reads = read_from d is

    told : (e : Derivation) → Contains k.delegations.list e → are_read label d e ≡ true → IsRead k label (pair d e)
    told e its both =
        let parts = and_parts (is_read label e) (not (label e.pd == label d.pd) && (nat_le d.id e.id && meets d e)) both in
        let later = and_parts (not (label e.pd == label d.pd)) (nat_le d.id e.id && meets d e) parts.1 in
        let last = and_parts (nat_le d.id e.id) (meets d e) later.1 in
        let met = meets_frame d e last.1 in
        let other = read_from e parts.0 in
        record {
          frame = met.0;
          one = record { derivation = d; there = there; of = refl; kind = reads.kind; leads = met.1 };
          two = record { derivation = e; there = its; of = refl; kind = other.kind; leads = met.2 };
          pair = refl;
          order = leb-true d.id e.id last.0;
          first = reads.none;
          second = other.none;
          side = reads.sided;
          other = other.sided;
          apart = eqb-false (label e.pd) (label d.pd) (not-true (label e.pd == label d.pd) later.0);
        }

    by_pair : (e : Derivation) → Contains k.delegations.list e → (t : Bool) → are_read label d e ≡ t → AllByRecursion (IsRead k label) (option_to_list (if t then Some (pair d e) else None))
    by_pair e its false none = tt
    by_pair e its true both = (told e its both, tt)

  by_read : (d : Derivation) → Contains k.delegations.list d → (t : Bool) → is_read label d ≡ t →
      AllByRecursion (IsRead k label) (if t then flat_map (λ (e : Derivation). option_to_list (both_read label d e)) k.delegations.list else [])
  by_read d there false is = tt
  by_read d there true is =
      all_flat (IsRead k label) (λ (e : Derivation). option_to_list (both_read label d e)) k.delegations.list
      (λ e i. by_pair d there is e (contains_from_in k.delegations.list e i) (are_read label d e) refl)

  pub told_reads : (t : Tie) → Contains (reading label k) t → IsRead k label t
  unfolding reading
  told_reads t there =
      all_at (IsRead k label) (flat_map (reading_by label k.delegations.list) k.delegations.list) t
      (all_flat (IsRead k label) (reading_by label k.delegations.list) k.delegations.list (λ d i. by_read d (contains_from_in k.delegations.list d i) (is_read label d) refl))
      (in_from_contains _ t there)
