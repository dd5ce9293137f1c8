-- Places that are seen through another derivation are a range, aligned and within the space.
use Rattle.std.proofs.Common.{◌≡◌, ℕ, ◌<◌, ◌≤◌, ◌+◌, ◌-◌, ◌%◌, ◌^◌, sym, subst, inl, inr, refl, arith}
use Rattle.std.specs.Prelude.{Bool, true, false, ◌⊎◌, nat_lt, nat_le, Some}
use Rattle.std.specs.List.{find}
use Rattle.std.proofs.Math.Pow.{pow-lt}
use Rattle.std.proofs.lemmas.Bool.{and_parts, leb-true, ltb-true, cases_lt}
use Rattle.std.proofs.lemmas.Nat.{pow_pos}
use Rattle.nova_range.specs.Ranges.{IsRange, end_of}
use Rattle.nova_range.specs.declared.range.Kind.{Kind}
use Rattle.nova_range.specs.declared.range.Kind.TheVariants.{Mem, Obj}
use Rattle.nova_range.specs.declared.range.Range.{Range}
use Rattle.nova_range.proofs.Multiples.{coarse, end_within}
use Rattle.nova_model.specs.Delegations.{Delegations, range_of, covers, has_place}
use Rattle.nova_model.specs.Forest.{IsAligned, IsAlignedFor}
use Rattle.nova_model.specs.Translations.{nearest, smaller}
use Rattle.nova_model.specs.declared.delegation.Derivation.{Derivation}
use Rattle.law_forest.specs.Within.{StaysWithin}
use Rattle.law_forest.proofs.Members.{all_at, found_in}
use Rattle.law_forest.proofs.Multiples.{sum_of, difference_of, nested}
use Rattle.nova_nodes.specs.NodesStates.{IsPlaced, IsSound}
use Rattle.nova_nodes.proofs.Indexed.{in_space}
use Rattle.nova_delegate.specs.Translations.{IsSeen}
use Rattle.nova_delegate.proofs.Upward.{nearest_facts}

-- THE SMALLER

-- it is a range within the derivation
pub record IsPartOf (d : Derivation) (o : Range) : Type 0 where
  pub places : IsRange o
  pub order : o.order ≤ d.order
  pub from : d.base ≤ o.base
  pub to : end_of o ≤ end_of (range_of d)

pub smaller_part : (d : Derivation) (range : Range) → IsRange (range_of d) → IsRange range → d.base ≤ range.base → range.base < d.base + 2 ^ d.order →
    IsPartOf d (smaller (range_of d) range)
smaller_part d range is also from before = by_order (nat_le d.order range.order) refl
  where
    by_order : (b : Bool) → nat_le d.order range.order ≡ b → IsPartOf d (smaller (range_of d) range)
    by_order true e = rw e (record { places = is; order = omega arith; from = omega arith; to = omega arith })
    by_order false e =
        let less : range.order ≤ d.order = grind (arith, e) in
        let some = pow_pos range.order in
        let inside = nested range.base range.order d.base d.order less also.aligned is.aligned before (omega arith) in
        rw e (record { places = also; order = less; from = from; to = inside.1 })

-- SEEN

-- a power is not within a lesser one
wider : (a d : Derivation) (o : Range) → IsSeen a d o → d.order ≤ a.order
wider a d o seen = by_order (cases_lt a.order d.order)
  where
    by_order : (a.order < d.order) ⊎ (d.order ≤ a.order) → d.order ≤ a.order
    by_order (inl h) = let less = pow-lt h in let first = seen.first in let last = seen.last in absurd (omega arith)
    by_order (inr h) = h

one_more : (n : ℕ) → n % 1 ≡ 0
one_more n = omega arith

-- how far the targets begin after those of `a`
offset_aligned : (a d : Derivation) (o : Range) → IsSeen a d o → (d.target - a.target) % 2 ^ o.order ≡ 0
offset_aligned a d o seen = by_kind d.kind seen.also.target (subst (λ (k : Kind). IsAlignedFor k a) (sym seen.kind) seen.aligned.target)
  where
    by_kind : (k : Kind) → IsAlignedFor k d → IsAlignedFor k a → (d.target - a.target) % 2 ^ o.order ≡ 0
    by_kind Mem t u =
        let wide = wider a d o seen in
        let low = seen.order in
        difference_of (2 ^ o.order) a.target d.target seen.first (coarse a.target o.order a.order (omega arith) u) (coarse d.target o.order d.order low t)
    by_kind Obj t u =
        let low = seen.order in
        let none : o.order ≡ 0 = omega arith in
        rw none (one_more (d.target - a.target))

-- and where it is seen
pub seen_range : (a d : Derivation) (o : Range) → IsSeen a d o → IsRange (record { kind = o.kind; base = a.base + (d.target - a.target) + (o.base - d.base); order = o.order })
seen_range a d o seen =
    let wide = wider a d o seen in
    let low = seen.order in
    let from = seen.from in
    let to = seen.to in
    let first = seen.first in
    let last = seen.last in
    let some = pow_pos o.order in
    let end = end_within a.base a.order seen.placed.range.order seen.placed.range.aligned seen.placed.range.base in
    let at_a = coarse a.base o.order a.order (omega arith) seen.placed.range.aligned in
    let at_d = coarse d.base o.order d.order low seen.also.base in
    record {
      order = seen.places.order;
      aligned = sum_of (2 ^ o.order) (a.base + (d.target - a.target)) (o.base - d.base)
          (sum_of (2 ^ o.order) a.base (d.target - a.target) at_a (offset_aligned a d o seen))
          (difference_of (2 ^ o.order) d.base o.base from at_d seen.places.aligned);
      base = omega arith;
    }

-- ITS FACTS, FOR THE GIVER'S DERIVATION AND THE NEAREST

targets_from : (d a : Derivation) → StaysWithin d a → a.target ≤ d.target
targets_from d a stays = let some = pow_pos d.order in (stays.targets d.target (record { first = omega arith; last = omega arith })).first

targets_to : (d a : Derivation) → StaysWithin d a → d.target + 2 ^ d.order ≤ a.target + 2 ^ a.order
targets_to d a stays =
    let some = pow_pos d.order in
    let last = (stays.targets (d.target + 2 ^ d.order - 1) (record { first = omega arith; last = omega arith })).last in
    omega arith

pub found_seen : (f : Delegations) (d a : Derivation) (range : Range) (giver receiver : ℕ) → IsSound f → IsRange range → find (covers range.kind giver range.base) f.list ≡ Some d →
    nearest f.list d receiver ≡ Some a → IsPlaced d → IsPlaced a → IsSeen a d (smaller (range_of d) range)
found_seen f d a range giver receiver sound is found near placed also =
    let k = found_in (covers range.kind giver range.base) f.list d found in
    let s = in_space giver range.kind (has_place (range_of d) range.base) d k.1 in
    let t = and_parts (nat_le d.base range.base) (nat_lt range.base (end_of (range_of d))) s.passes in
    let part = smaller_part d range placed.range is (leb-true _ _ t.0) (ltb-true _ _ t.1) in
    let facts = nearest_facts f d a receiver sound.forest k.0 near in
    record {
      places = part.places;
      order = part.order;
      from = part.from;
      to = part.to;
      kind = facts.within.kind;
      first = targets_from d a facts.within;
      last = targets_to d a facts.within;
      aligned = all_at IsAligned f.list a sound.forest.aligned facts.there;
      also = all_at IsAligned f.list d sound.forest.aligned k.0;
      placed = also;
    }
