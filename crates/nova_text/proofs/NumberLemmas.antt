-- What std reads of digits that were found to be digits.
use Rattle.std.proofs.Common.{◌≡◌, ℕ, ◌≤◌, ◌<◌, ◌^◌, true, false, List, [], ◌∷◌, length, Result, Ok, Err, Some, refl, ap, ◌∙◌, arith}
use Rattle.std.specs.Char.{is_digit, digit_value}
use Rattle.std.specs.List.{list_all, starts_with}
use Rattle.std.specs.Prelude.{codes, nat_eq}
use Rattle.std.specs.Fmt.{decimal}
use Rattle.std.proofs.lemmas.Fmt.{decimal_is_IsNumeral}
use Rattle.std.specs.Result.{result_or, OkIff}
use Rattle.std.specs.Str.{IsAscii}
use Rattle.std.specs.Str.Parse.{AllDigits, IsNumeral, digits_value, ParsesUnsigned, without_leading_plus}
use Rattle.std.proofs.lemmas.Str.Ascii.{IsAscii-nil, IsAscii-cons}
use Rattle.std.proofs.lemmas.Str.Parse.{without_leading_plus_none}
use Rattle.nova_text.specs.Number.{number, is_numeral, numeral, u32_of}
use Rattle.nova_text.specs.declared.number.NumberError.TheVariants.{TooLarge}

module _ (radix : ℕ) (bound : radix ≤ 36) where
  -- a digit is ASCII, and no sign
  digit_ascii : (c : ℕ) → is_digit c radix ≡ true → c < 128
  digit_ascii c is = grind arith

  digit_not_plus : (c : ℕ) → is_digit c radix ≡ true → c ≡ 43 → ⊥
  digit_not_plus c is e = grind arith

  -- digits are ASCII, and what std takes for digits
  digits_ascii : (ds : List ℕ) → list_all (λ c. is_digit c radix) ds ≡ true → IsAscii ds
  digits_ascii [] all = IsAscii-nil
  digits_ascii (d ∷ ds) all = IsAscii-cons d ds (digit_ascii d (grind arith)) (digits_ascii ds (grind arith))

  digits_all : (ds : List ℕ) → list_all (λ c. is_digit c radix) ds ≡ true → AllDigits radix ds
  digits_all [] all = tt
  digits_all (d ∷ ds) all = (grind arith, digits_all ds (grind arith))

  pub numeral-ascii : (ds : List ℕ) → is_numeral radix ds ≡ true → IsAscii ds
  numeral-ascii ds is = digits_ascii ds (grind arith)

  -- a numeral has no sign in front
  numeral-unsigned : (ds : List ℕ) → is_numeral radix ds ≡ true → without_leading_plus ds ≡ ds
  numeral-unsigned [] is = refl
  numeral-unsigned (d ∷ ds) is = without_leading_plus_none (d ∷ ds) (digit_not_plus d (grind arith))

  -- what std answers for a numeral below 2 ^ 32, and for a numeral that is not
  u32_of-small : (n : ℕ) → n < 2 ^ 32 → Ok n ≡ u32_of (Some n)
  u32_of-small n small = grind arith

  u32_of-large : (n : ℕ) → ¬ (n < 2 ^ 32) → Err TooLarge ≡ u32_of (Some n)
  u32_of-large n large = grind arith

  parsed : {E : Type 0} (ds : List ℕ) (r : Result ℕ E) → IsNumeral radix ds → OkIff r (IsNumeral radix ds × (digits_value radix ds < 2 ^ 32)) (digits_value radix ds) → result_or r (Err TooLarge) ≡ u32_of (Some (digits_value radix ds))
  parsed ds (Ok n) is ok = ap Ok ok.1 ∙ u32_of-small (digits_value radix ds) ok.0.1
  parsed ds (Err e) is not_ok = u32_of-large (digits_value radix ds) (λ small. not_ok (is, small))

  pub parse-numeral : {E : Type 0} (ds : List ℕ) (r : Result ℕ E) → is_numeral radix ds ≡ true → ParsesUnsigned 32 radix ds r → result_or r (Err TooLarge) ≡ u32_of (numeral radix ds)
  parse-numeral ds r is parses =
      let digits = digits_all ds (grind arith) in
      rw is (parsed ds r (grind arith, digits) (rw (numeral-unsigned ds is) at parses))

-- what std takes for decimal digits are digits
pub all-digits : (ds : List ℕ) → AllDigits 10 ds → list_all (λ c. is_digit c 10) ds ≡ true
all-digits [] all = refl
all-digits (d ∷ ds) all = grind (arith, all-digits ds all.1)

-- they do not begin with `0x`
not_x : (b : ℕ) → digit_value b < 10 → nat_eq 120 b ≡ false
not_x b digit = grind arith

no_prefix : (ds : List ℕ) → AllDigits 10 ds → starts_with nat_eq ds (codes "0x") ≡ false
no_prefix [] all = refl
no_prefix (a ∷ []) all = grind arith
no_prefix (a ∷ b ∷ ds) all = let other = not_x b all.1.0 in grind arith

numeral-digits : (ds : List ℕ) → 0 < length ds → list_all (λ c. is_digit c 10) ds ≡ true → numeral 10 ds ≡ Some (digits_value 10 ds)
numeral-digits ds some all = grind arith

-- the decimal text of a number is read as that number
pub number-decimal : (n : ℕ) → n < 2 ^ 64 → number (decimal n) ≡ Some n
unfolding number
number-decimal n fits =
    let is = decimal_is_IsNumeral n fits in
    rw (no_prefix (decimal n) is.0.1) (numeral-digits (decimal n) is.0.0 (all-digits (decimal n) is.0.1) ∙ ap Some is.1)
