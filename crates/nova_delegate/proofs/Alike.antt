-- Places that are seen through another derivation lead to the same targets.
use Rattle.std.proofs.Common.{◌≡◌, ℕ, ◌<◌, ◌≤◌, ◌+◌, ◌-◌, ◌^◌, ap, ◌∙◌, subst, refl, arith}
use Rattle.std.specs.Prelude.{Bool, true, false, nat_le, bit_and, Some}
use Rattle.std.proofs.Math.Nat.{lt_of_le_of_lt}
use Rattle.std.proofs.lemmas.Bool.{eqb-true, eq-eqb}
use Rattle.std.proofs.lemmas.Nat.{and_le_l, and_assoc, and_comm, pow_pos}
use Rattle.nova_range.specs.Ranges.{IsRange, HasPlace, IsWithin}
use Rattle.nova_range.specs.RangeWords.{HasWord}
use Rattle.nova_range.specs.Rights.{IsRights, allows}
use Rattle.nova_range.specs.declared.range.Range.{Range}
use Rattle.nova_range.specs.declared.rights.Rights.{Rights}
use Rattle.nova_model.specs.Transfers.{common_rights}
use Rattle.nova_model.specs.Translations.{smaller, seen_through}
use Rattle.nova_model.specs.declared.delegation.Derivation.{Derivation}
use Rattle.law_forest.proofs.Multiples.{nested}
use Rattle.law_forest.proofs.Transfers.{child_rights}
use Rattle.nova_delegate.specs.Answered.{IsCommon, LeadsAlike, AreCommon}
use Rattle.nova_delegate.specs.Translations.{IsSeen}
use Rattle.nova_delegate.proofs.Seen.{seen_range}

-- the smaller of two ranges that have a place in common has the places of both
pub smaller_common : (a b : Range) → IsRange a → IsRange b → HasPlace a b.base → IsCommon a b (smaller a b)
smaller_common a b is also at = by_order (nat_le a.order b.order) refl
  where
    some : 0 < 2 ^ b.order
    some = pow_pos b.order

    from : a.base ≤ b.base
    from = at.from_base

    before : b.base < a.base + 2 ^ a.order
    before = at.before_end

    first : a.order ≤ b.order → IsWithin a b
    first low place has =
        let more = pow_pos a.order in
        let inside = nested a.base a.order b.base b.order low is.aligned also.aligned (omega (arith, from, some)) before in
        let x = has.from_base in
        let y = has.before_end in
        record { from_base = omega (arith, inside.0); before_end = omega (arith, inside.1) }

    second : b.order ≤ a.order → IsWithin b a
    second low place has =
        let inside = nested b.base b.order a.base a.order low also.aligned is.aligned before (omega (arith, from, some)) in
        let x = has.from_base in
        let y = has.before_end in
        record { from_base = omega (arith, inside.0); before_end = omega (arith, inside.1) }

    by_order : (t : Bool) → nat_le a.order b.order ≡ t → IsCommon a b (smaller a b)
    by_order true e place = let low : a.order ≤ b.order = grind (arith, e) in rw e ((λ has. (has, first low place has)), (λ both. both.0))
    by_order false e place = let low : b.order ≤ a.order = grind (arith, e) in rw e ((λ has. (second low place has, has)), (λ both. both.1))

pub seen_alike : (a d : Derivation) (o : Range) → IsSeen a d o → o.kind ≡ d.kind → LeadsAlike a (seen_through a d o) d o
seen_alike a d o seen kind = record {
  order = refl;
  kind = kind ∙ seen.kind;
  of_a = λ place has.
      let x = has.from_base in
      let y = has.before_end in
      record { from_base = omega (arith, from, to, first, last); before_end = omega (arith, from, to, first, last) };
  of_d = λ place has.
      let x = has.from_base in
      let y = has.before_end in
      record { from_base = omega (arith, from); before_end = omega (arith, to) };
  targets = λ i h. omega (arith, from, to, first, last, h);
}
  where
    from : d.base ≤ o.base
    from = seen.from

    to : o.base + 2 ^ o.order ≤ d.base + 2 ^ d.order
    to = seen.to

    first : a.target ≤ d.target
    first = seen.first

    last : d.target + 2 ^ d.order ≤ a.target + 2 ^ a.order
    last = seen.last

pub seen_is_range : (a d : Derivation) (o : Range) → IsSeen a d o → IsRange (seen_through a d o)
seen_is_range a d o seen =
    let from = seen.from in
    let first = seen.first in
    let same : a.base + (d.target - a.target) + (o.base - d.base) ≡ a.base + d.target + o.base - d.base - a.target = omega arith in
    subst (λ (b : ℕ). IsRange (record { kind = o.kind; base = b; order = o.order })) same (seen_range a d o seen)

pub rights_common : (a b : Rights) → AreCommon a b (common_rights a b)
rights_common a b right = (
  (λ h. (child_rights a b right h, child_rights b a right (ap (λ (n : ℕ). allows (record { 0 = n }) right) (and_comm b.0 a.0) ∙ h))),
  (λ both.
      let x : bit_and a.0 right ≡ right = eqb-true (bit_and a.0 right) right both.0 in
      let y : bit_and b.0 right ≡ right = eqb-true (bit_and b.0 right) right both.1 in
      eq-eqb (bit_and (bit_and a.0 b.0) right) right (and_assoc right a.0 b.0 ∙ ap (bit_and a.0) y ∙ x)),
)

pub seen_has_word : (a d : Derivation) (o : Range) (rights : Rights) → IsSeen a d o → IsRights d.rights → HasWord (Some (seen_through a d o, common_rights d.rights rights))
seen_has_word a d o rights seen five = (seen_is_range a d o seen, lt_of_le_of_lt (and_le_l d.rights.0 rights.0) five)
