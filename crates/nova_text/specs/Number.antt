-- Numbers as texts.
use Rattle.std.specs.Prelude.{ℕ, Bool, ◌&&◌, if◌then◌else◌, List, [], ◌∷◌, codes, drop, length, nat_eq, nat_lt, ◌^◌, Option, Some, None, Result, Ok, Err, option_map}
use Rattle.std.specs.Char.{is_digit}
use Rattle.std.specs.List.{list_all, starts_with}
use Rattle.std.specs.Option.{option_and_then}
use Rattle.std.specs.Result.{result_ok}
use Rattle.std.specs.Str.Parse.{digits_value}
use Rattle.nova_text.specs.declared.span.Span.{Span}
use Rattle.nova_text.specs.declared.number.NumberError.{NumberError}
use Rattle.nova_text.specs.declared.number.NumberError.TheVariants.{Malformed, TooLarge}
use Rattle.nova_text.specs.declared.number.NumberFault.{NumberFault}
use Rattle.nova_text.specs.declared.number.NumberFault.TheVariants.{BadToken, TooLarge as TooLargeAt}

-- one or more digits of a base, in either case, and nothing else
abbrev pub is_numeral : ℕ → List ℕ → Bool
is_numeral radix digits = nat_lt 0 (length digits) && list_all (λ c. is_digit c radix) digits

-- the number that they write
abbrev pub numeral : ℕ → List ℕ → Option ℕ
numeral radix digits = if is_numeral radix digits then Some (digits_value radix digits) else None

-- the number that a token writes: in hexadecimal digits after `0x`, or in decimal digits
unfoldable pub number : List ℕ → Option ℕ
number token = if starts_with nat_eq token (codes "0x") then numeral 16 (drop 2 token) else numeral 10 token

-- a number below 2 ^ 32, or what is wrong
abbrev pub u32_of : Option ℕ → Result ℕ NumberError
u32_of None = Err Malformed
u32_of (Some n) = if nat_lt n (2 ^ 32) then Ok n else Err TooLarge

-- the number that a word writes; the numbers of words, where each writes one
abbrev pub number_of : List ℕ → Option ℕ
number_of word = result_ok (u32_of (number word))

abbrev pub numbers_of : List (List ℕ) → Option (List ℕ)
numbers_of [] = Some []
numbers_of (word ∷ words) = option_and_then (λ n. option_map (λ ns. n ∷ ns) (numbers_of words)) (number_of word)

-- what is wrong with a token at a place
abbrev pub fault_at : Span → NumberError → NumberFault
fault_at span Malformed = BadToken span
fault_at span TooLarge = TooLargeAt span

abbrev pub at_span : Span → Result ℕ NumberError → Result ℕ NumberFault
at_span span (Ok n) = Ok n
at_span span (Err error) = Err (fault_at span error)
