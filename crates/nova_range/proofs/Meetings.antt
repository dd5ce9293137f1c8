-- Where ranges share places, and where a range has all places of another.
use Rattle.std.proofs.Common.{◌<◌, ◌≤◌, ◌↔◌, IsTrue, ◌-◌, ◌^◌, max, inl, inr, arith}
use Rattle.std.proofs.lemmas.Bool.{cases_lt}
use Rattle.std.proofs.lemmas.Bool.Decides.{nat_tests}
use Rattle.std.proofs.lemmas.Nat.{pow_pos}
use Rattle.nova_range.specs.Ranges.{IsRange, SharesPlace, IsWithin, end_of, overlaps, is_inside}
use Rattle.nova_range.specs.declared.range.Range.{Range}
use Rattle.nova_range.proofs.Multiples.{apart, coarse, end_aligned}

shares : (a b : Range) → a.base < end_of b → b.base < end_of a → SharesPlace a b
shares a b first second =
    let some_a = pow_pos a.order in
    let some_b = pow_pos b.order in
    (max a.base b.base, (record { from_base = omega arith; before_end = omega arith }, record { from_base = omega arith; before_end = omega arith }))

pub shared : (a b : Range) → IsTrue (overlaps a b) ↔ SharesPlace a b
shared a b = (
  (λ h. shares a b (grind (arith, nat_tests)) (grind (arith, nat_tests))),
  (λ (place, (of_a, of_b)). let x = of_a.from_base in let y = of_b.from_base in grind (arith, nat_tests)),
)

pub within : (a b : Range) → IsTrue (is_inside a b) ↔ IsWithin a b
within a b =
    let some = pow_pos a.order in (
      (λ h place has. record { from_base = (let from = has.from_base in grind (arith, nat_tests)); before_end = (let before = has.before_end in grind (arith, nat_tests)) }),
      (λ each.
          let first = each a.base (record { from_base = omega arith; before_end = omega arith }) in
          let last = each (end_of a - 1) (record { from_base = omega arith; before_end = omega arith }) in
          let x = first.from_base in
          let y = last.before_end in
          grind (arith, nat_tests)),
    )

-- of two ranges that overlap, the range of lesser order lies in the other
nested_between : (a b : Range) → IsRange a → IsRange b → a.order ≤ b.order → a.base < end_of b → b.base < end_of a → (b.base ≤ a.base) × (end_of a ≤ end_of b)
nested_between a b is_a is_b h first second =
    let coarse_base = coarse b.base a.order b.order h is_b.aligned in
    let coarse_end = end_aligned b.base a.order b.order h is_b.aligned in
    let starts : b.base ≤ a.base = elim (cases_lt a.base b.base) [
      | inl before ↦ absurd (omega (arith, apart (2 ^ a.order) a.base b.base is_a.aligned coarse_base before))
      | inr after ↦ after
    ] in
    (starts, apart (2 ^ a.order) a.base (end_of b) is_a.aligned coarse_end first)

pub nested : (a b : Range) → IsRange a → IsRange b → a.order ≤ b.order → IsTrue (overlaps a b) → IsTrue (is_inside a b)
nested a b is_a is_b h meet =
    let both = nested_between a b is_a is_b h (grind (arith, nat_tests)) (grind (arith, nat_tests)) in
    grind (arith, nat_tests)
