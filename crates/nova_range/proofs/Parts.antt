-- The parts of a clamp: their bits, and that they lie in the ranges which they are parts of.
use Rattle.std.proofs.Common.{◌≡◌, ◌<◌, ◌≤◌, ℕ, ◌+◌, ◌-◌, ◌*◌, ◌/◌, ◌%◌, ◌^◌, ap, sym, ◌∙◌, arith}
use Rattle.std.proofs.Math.Nat.{mul_assoc, add-mul, mod-lt, mul-mod_left}
use Rattle.std.proofs.lemmas.Bool.Decides.{nat_tests}
use Rattle.std.proofs.lemmas.Nat.{pow_pos, pow-add, mod-pow-add, shl-shr, shr-shr, shr_high, mod_low}
use Rattle.nova_range.specs.Ranges.{IsRange}
use Rattle.nova_range.specs.Clamps.{common_order, part_base, clamp_of, IsPart, IsClamped, TakesBits}
use Rattle.nova_range.specs.declared.range.Range.{Range}
use Rattle.nova_range.proofs.Multiples.{whole, apart, remainders, end_aligned, end_within}

-- bits from `low` on of what stands above them
joined : (b d low q : ℕ) → (b * 2 ^ d + q) * 2 ^ low ≡ b * 2 ^ (d + low) + q * 2 ^ low
joined b d low q =
    add-mul (b * 2 ^ d) q (2 ^ low)
    ∙ ap (λ n. n + q * 2 ^ low) (mul_assoc b (2 ^ d) (2 ^ low) ∙ ap (λ n. b * n) (sym (pow-add 2 d low)))

-- a part's base by what is added
added : (base order low hotspot : ℕ) → low ≤ order → part_base base order low hotspot ≡ base + (hotspot % 2 ^ order - hotspot % 2 ^ low)
added base order low hotspot h =
    let least = remainders hotspot low order h in
    grind (arith, nat_tests)

-- a part's base: above bit `low` the base's bits, then the hotspot's
part_is : (base order low hotspot : ℕ) → low ≤ order → base % 2 ^ order ≡ 0 →
    part_base base order low hotspot ≡ (base / 2 ^ order * 2 ^ (order - low) + hotspot / 2 ^ low % 2 ^ (order - low)) * 2 ^ low
part_is base order low hotspot h aligned =
    let d = order - low in
    let b = base / 2 ^ order in
    let q = hotspot / 2 ^ low % 2 ^ d in
    let same : d + low ≡ order = omega arith in
    let split : hotspot % 2 ^ order ≡ q * 2 ^ low + hotspot % 2 ^ low = ap (λ k. hotspot % 2 ^ k) (sym same) ∙ mod-pow-add hotspot d low in
    let whole_base : b * 2 ^ (d + low) ≡ base = ap (λ k. b * 2 ^ k) same ∙ whole base (2 ^ order) aligned in
    omega (arith, added base order low hotspot h, joined b d low q)

bits_taken : (base order low hotspot : ℕ) → low ≤ order → base % 2 ^ order ≡ 0 → TakesBits base order low hotspot (part_base base order low hotspot)
bits_taken base order low hotspot h aligned =
    let d = order - low in
    let b = base / 2 ^ order in
    let q = hotspot / 2 ^ low % 2 ^ d in
    let is = part_is base order low hotspot h aligned in
    let same : low + d ≡ order = omega arith in
    let small : q < 2 ^ d = mod-lt (hotspot / 2 ^ low) (pow_pos d) in
    let part = part_base base order low hotspot in
    let shifted : part / 2 ^ low ≡ b * 2 ^ d + q = ap (λ n. n / 2 ^ low) is ∙ shl-shr (b * 2 ^ d + q) low in
    record {
      above = ap (λ k. part / 2 ^ k) (sym same) ∙ sym (shr-shr part low d) ∙ ap (λ n. n / 2 ^ d) shifted ∙ shr_high b d q small;
      taken = ap (λ n. n % 2 ^ d) shifted ∙ mod_low b d q small;
      below = ap (λ n. n % 2 ^ low) is ∙ mul-mod_left (b * 2 ^ d + q) (2 ^ low);
    }

is_part : (r : Range) (low hotspot : ℕ) → IsRange r → low ≤ r.order → IsPart r (part_base r.base r.order low hotspot) low
is_part r low hotspot is h =
    let part = part_base r.base r.order low hotspot in
    let sum = added r.base r.order low hotspot h in
    let small : hotspot % 2 ^ r.order < 2 ^ r.order = mod-lt hotspot (pow_pos r.order) in
    let aligned = (bits_taken r.base r.order low hotspot h is.aligned).below in
    let ends : part + 2 ^ low ≤ r.base + 2 ^ r.order = apart (2 ^ low) part (r.base + 2 ^ r.order) aligned (end_aligned r.base low r.order h is.aligned) (omega arith) in
    let inside = end_within r.base r.order is.order is.aligned is.base in
    let some = pow_pos low in
    record {
      range = record { order = (let o = is.order in omega arith); aligned = aligned; base = omega arith };
      within = λ place has. record { from_base = (let from = has.from_base in omega arith); before_end = (let before = has.before_end in omega arith) };
    }

pub is_clamped : (sent window : Range) (hotspot : ℕ) → IsRange sent → IsRange window → IsClamped sent window (clamp_of sent window hotspot)
is_clamped sent window hotspot s w = record {
  source = is_part sent (common_order sent window) hotspot s (omega arith);
  dest = is_part window (common_order sent window) hotspot w (omega arith);
}

-- where the bits of both parts come from
pub source_bits : (sent window : Range) (hotspot : ℕ) → IsRange sent → IsRange window →
    TakesBits sent.base sent.order (common_order sent window) hotspot (clamp_of sent window hotspot).source
source_bits sent window hotspot s w = bits_taken sent.base sent.order (common_order sent window) hotspot (omega arith) s.aligned

pub dest_bits : (sent window : Range) (hotspot : ℕ) → IsRange sent → IsRange window →
    TakesBits window.base window.order (common_order sent window) hotspot (clamp_of sent window hotspot).dest
dest_bits sent window hotspot s w = bits_taken window.base window.order (common_order sent window) hotspot (omega arith) w.aligned
