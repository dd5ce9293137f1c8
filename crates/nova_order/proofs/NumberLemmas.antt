-- Numbers without a leading zero.
use Rattle.std.proofs.Common.{◌≡◌, ℕ, zero, suc, ◌<◌, ◌^◌, Bool, true, false, cond, List, [], ◌∷◌, length, get_or, Result, Ok, Err, Some, None, refl, ap, sym, ◌∙◌, arith}
use Rattle.std.specs.Char.{is_digit}
use Rattle.std.specs.Fmt.{decimal}
use Rattle.std.specs.List.{list_all}
use Rattle.std.specs.Result.{OkIff, result_ok}
use Rattle.std.specs.Str.{IsAscii}
use Rattle.std.specs.Str.Parse.{AllDigits, IsNumeral, digits_value, ParsesUnsigned, without_leading_plus}
use Rattle.std.proofs.lemmas.Fmt.{decimal_is_IsNumeral, first_decimal, decimal_digit, decimal-digits_value}
use Rattle.std.proofs.lemmas.Str.Ascii.{IsAscii-nil, IsAscii-cons}
use Rattle.std.proofs.lemmas.Str.Parse.{without_leading_plus_none, numerals_by_value, tells_digits}
use Rattle.nova_text.proofs.NumberLemmas.{all-digits}
use Rattle.nova_order.specs.Numbers.{is_canonical, u64_of, number}

-- a digit is ASCII, and no sign
digit_ascii : (c : ℕ) → is_digit c 10 ≡ true → c < 128
digit_ascii c is = grind arith

digit_not_plus : (c : ℕ) → is_digit c 10 ≡ true → c ≡ 43 → ⊥
digit_not_plus c is e = grind arith

digits_ascii : (ds : List ℕ) → list_all (λ c. is_digit c 10) ds ≡ true → IsAscii ds
digits_ascii [] all = IsAscii-nil
digits_ascii (d ∷ ds) all = IsAscii-cons d ds (digit_ascii d (grind arith)) (digits_ascii ds (grind arith))

digits_all : (ds : List ℕ) → list_all (λ c. is_digit c 10) ds ≡ true → AllDigits 10 ds
digits_all [] all = tt
digits_all (d ∷ ds) all = (grind arith, digits_all ds (grind arith))

pub canonical_ascii : (ds : List ℕ) → is_canonical ds ≡ true → IsAscii ds
canonical_ascii ds is = digits_ascii ds (grind arith)

canonical_numeral : (ds : List ℕ) → is_canonical ds ≡ true → IsNumeral 10 ds
canonical_numeral ds is = (grind arith, digits_all ds (grind arith))

canonical_unsigned : (ds : List ℕ) → is_canonical ds ≡ true → without_leading_plus ds ≡ ds
canonical_unsigned [] is = refl
canonical_unsigned (d ∷ ds) is = without_leading_plus_none (d ∷ ds) (digit_not_plus d (grind arith))

-- what std answers for it
u64_of_small : (n : ℕ) → n < 2 ^ 64 → Some n ≡ u64_of n
u64_of_small n small = grind arith

u64_of_large : (n : ℕ) → ¬ (n < 2 ^ 64) → None ≡ u64_of n
u64_of_large n large = grind arith

parsed : {E : Type 0} (ds : List ℕ) (r : Result ℕ E) → IsNumeral 10 ds → OkIff r (IsNumeral 10 ds × (digits_value 10 ds < 2 ^ 64)) (digits_value 10 ds) → result_ok r ≡ u64_of (digits_value 10 ds)
parsed ds (Ok n) is ok = ap Some ok.1 ∙ u64_of_small (digits_value 10 ds) ok.0.1
parsed ds (Err e) is not_ok = u64_of_large (digits_value 10 ds) (λ small. not_ok (is, small))

pub parse_canonical : {E : Type 0} (ds : List ℕ) (r : Result ℕ E) → is_canonical ds ≡ true → ParsesUnsigned 64 10 ds r → result_ok r ≡ number ds
unfolding number
parse_canonical ds r is parses = rw is (parsed ds r (canonical_numeral ds is) (rw (canonical_unsigned ds is) at parses))

-- the decimal text of a number writes that number
canonical : (ds : List ℕ) → 0 < length ds → list_all (λ c. is_digit c 10) ds ≡ true → 48 < get_or ds 0 0 → is_canonical ds ≡ true
canonical ds some all first = grind arith

canonical_decimal : (n : ℕ) → n < 2 ^ 64 → is_canonical (decimal n) ≡ true
canonical_decimal zero small = rw (decimal_digit 0 (omega arith)) refl
canonical_decimal (suc n) small =
    let is = decimal_is_IsNumeral (suc n) small in
    canonical (decimal (suc n)) is.0.0 (all-digits (decimal (suc n)) is.0.1) (first_decimal (suc n) (omega arith) small)

pub digits_decimal : (n : ℕ) → n < 2 ^ 64 → list_all (λ c. is_digit c 10) (decimal n) ≡ true
digits_decimal n small = all-digits (decimal n) (decimal_is_IsNumeral n small).0.1

pub number_decimal : (n : ℕ) → n < 2 ^ 64 → number (decimal n) ≡ Some n
unfolding number
number_decimal n small = rw (canonical_decimal n small) (ap u64_of (decimal_is_IsNumeral n small).1 ∙ sym (u64_of_small n small))

-- and no other text writes it
u64_is : (m n : ℕ) → u64_of m ≡ Some n → m ≡ n
u64_is m n is = grind arith

u64_fits : (m n : ℕ) → u64_of m ≡ Some n → m < 2 ^ 64
u64_fits m n is = grind arith

decimal_canonical : (text : List ℕ) (n : ℕ) → is_canonical text ≡ true → u64_of (digits_value 10 text) ≡ Some n → text ≡ decimal n
decimal_canonical text n is value =
    let number_is = canonical_numeral text is in
    sym (decimal-digits_value (numerals_by_value _ tells_digits) text number_is.1 number_is.0 (λ zero_first. grind arith) (u64_fits _ n value))
    ∙ ap decimal (u64_is _ n value)

decimal_by_test : (text : List ℕ) (n : ℕ) (test : Bool) → is_canonical text ≡ test → cond test (u64_of (digits_value 10 text)) None ≡ Some n → text ≡ decimal n
decimal_by_test text n true is value = decimal_canonical text n is value
decimal_by_test text n false is value = absurd cc

pub decimal_number : (text : List ℕ) (n : ℕ) → number text ≡ Some n → text ≡ decimal n
unfolding number
decimal_number text n is = decimal_by_test text n (is_canonical text) refl is
