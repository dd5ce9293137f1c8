-- Multiples of a number, and of powers of two.
use Rattle.std.proofs.Common.{◌≡◌, ◌<◌, ◌≤◌, ℕ, ◌+◌, ◌-◌, ◌*◌, ◌/◌, ◌%◌, ◌^◌, inl, inr, refl, ap, sym, ◌∙◌, arith}
use Rattle.std.proofs.Math.Nat.{mul-le-mul_right, add-mul, one-mul, add-mul-mod_self_right}
use Rattle.std.proofs.lemmas.Bool.{cases_lt}
use Rattle.std.proofs.lemmas.Nat.{mod-pow-add, div-add-mod'}

-- a multiple of m is a quotient times m
pub whole : (n m : ℕ) → n % m ≡ 0 → n / m * m ≡ n
whole n m none = omega (arith, div-add-mod' n m)

-- the greater of two multiples of m is greater by m at least
pub apart : (m x y : ℕ) → x % m ≡ 0 → y % m ≡ 0 → x < y → x + m ≤ y
apart m x y xs ys less =
    let a = x / m in
    let b = y / m in
    let x_is = whole x m xs in
    let y_is = whole y m ys in
    elim (cases_lt a b) [
      | inl below ↦ (let step : a + 1 ≤ b = omega arith in
          omega (arith, mul-le-mul_right m step, add-mul a 1 m, one-mul m))
      | inr above ↦ absurd (omega (arith, mul-le-mul_right m above))
    ]

-- the remainder by a power of two is at most that by a greater one
pub remainders : (n low high : ℕ) → low ≤ high → n % 2 ^ low ≤ n % 2 ^ high
remainders n low high h =
    let d = high - low in
    let same : d + low ≡ high = omega arith in
    let split = mod-pow-add n d low in
    let at_high = ap (λ k. n % 2 ^ k) same in
    omega arith

-- a multiple of a power of two is one of each lesser power
pub coarse : (n low high : ℕ) → low ≤ high → n % 2 ^ high ≡ 0 → n % 2 ^ low ≡ 0
coarse n low high h none = omega (arith, remainders n low high h)

-- the sum of a multiple of m and m is a multiple
next : (n m : ℕ) → n % m ≡ 0 → (n + m) % m ≡ 0
next n m none = ap (λ k. (n + k) % m) (sym (one-mul m)) ∙ add-mul-mod_self_right n 1 m ∙ none

-- where a range ends is a multiple of each lesser power of two
pub end_aligned : (base low order : ℕ) → low ≤ order → base % 2 ^ order ≡ 0 → (base + 2 ^ order) % 2 ^ low ≡ 0
end_aligned base low order h none = coarse (base + 2 ^ order) low order h (next base (2 ^ order) none)

-- a range ends within the space
pub end_within : (base order : ℕ) → order ≤ 20 → base % 2 ^ order ≡ 0 → base < 2 ^ 20 → base + 2 ^ order ≤ 2 ^ 20
end_within base order h none below = apart (2 ^ order) base (2 ^ 20) none (coarse (2 ^ 20) order 20 h refl) below
