-- Words: the numbers below 2^32, with sums and differences modulo 2^32, fields of bits, and signs. (RV32I, chapter 2.)
use Rattle.std.specs.Prelude.{ℕ, ◌+◌, ◌-◌, ◌/◌, ◌%◌, ◌^◌, nat_lt, if◌then◌else◌}

-- the sum modulo 2^32
abbrev pub plus : ℕ → ℕ → ℕ
plus a b = (a + b) % 2 ^ 32

-- the difference modulo 2^32 of two words
abbrev pub minus : ℕ → ℕ → ℕ
minus a b = (a + (2 ^ 32 - b)) % 2 ^ 32

-- the number in the `count` bits from bit `low` on
abbrev pub field : ℕ → ℕ → ℕ → ℕ
field word low count = word / 2 ^ low % 2 ^ count

-- a number of `bits` bits with its sign extended to 32
abbrev pub extended : ℕ → ℕ → ℕ
extended bits n = if nat_lt n (2 ^ (bits - 1)) then n else n + (2 ^ 32 - 2 ^ bits)
