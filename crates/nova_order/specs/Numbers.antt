-- Numbers as an order's text has them.
use Rattle.std.specs.Prelude.{ℕ, Bool, not, ◌&&◌, ◌||◌, ◌==◌, ◌^◌, if◌then◌else◌, List, length, get_or, nat_lt, Option, Some, None}
use Rattle.std.specs.Char.{is_digit}
use Rattle.std.specs.List.{list_all}
use Rattle.std.specs.Str.Parse.{digits_value}

-- one or more decimal digits, the first of which is 0 only where it is the only one
abbrev pub is_canonical : List ℕ → Bool
is_canonical digits =
    nat_lt 0 (length digits) && (list_all (λ c. is_digit c 10) digits && (length digits == 1 || not (get_or digits 0 0 == 48)))

-- a number below 2 ^ 64
abbrev pub u64_of : ℕ → Option ℕ
u64_of n = if nat_lt n (2 ^ 64) then Some n else None

-- the number below 2 ^ 64 that a text writes
unfoldable pub number : List ℕ → Option ℕ
number text = if is_canonical text then u64_of (digits_value 10 text) else None
