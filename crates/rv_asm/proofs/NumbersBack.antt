-- The texts of registers and numbers are read as what they write.
use Rattle.std.proofs.Common.{◌≡◌, ◌⊎◌, inl, inr, ℕ, ◌-◌, ◌*◌, ◌/◌, ◌%◌, ◌^◌, ◌==◌, ◌<◌, ◌≤◌, lit<, lit≤, Bool, true, false, ◌&&◌, List, [], ◌∷◌, ◌++◌, length, Option, Some, None, Ok, refl, ap, ◌∙◌, arith}
use Rattle.std.specs.Prelude.{nat_eq, nat_lt, codes, if◌then◌else◌}
use Rattle.std.specs.Char.{is_digit, digit_value}
use Rattle.std.specs.Fmt.{decimal, digits}
use Rattle.std.specs.List.{list_all, starts_with}
use Rattle.std.specs.Str.Parse.{AllDigits, digits_value}
use Rattle.std.proofs.lemmas.Bool.Decides.{nat_tests}
use Rattle.std.proofs.lemmas.Fmt.{decimal_is_IsNumeral, digits_is_IsNumeral}
use Rattle.rv_model.specs.Words.{minus}
use Rattle.nova_text.specs.Number.{number, numeral, u32_of}
use Rattle.nova_text.proofs.NumberLemmas.{number-decimal}
use Rattle.nova_text.proofs.Below.{all_below, each_below}
use Rattle.rv_asm.specs.Syntax.{is_name, begins_name}
use Rattle.rv_asm.specs.Register.{number_named}
use Rattle.rv_asm.specs.Operand.{limited, sized, negated, is_negative, number_in, shifted, is_odd, unsigned, target_in, Labels}
use Rattle.rv_asm.specs.Printed.{register_text, signed_text, upper_text}
use Rattle.rv_asm.proofs.Ranges.{IsWithin}

-- registers
abbrev is_register : ℕ → Option ℕ → Bool
is_register r None = false
is_register r (Some k) = nat_eq k r

register_is : (r : ℕ) (found : Option ℕ) → is_register r found ≡ true → found ≡ Some r
register_is r None e = cc
register_is r (Some k) e = ap Some (grind (arith, nat_tests))

all_registers : all_below (λ r. is_register r (number_named (register_text r))) 32 ≡ true
unfolding digits
all_registers = refl

pub register_back : (r : ℕ) → r < 32 → number_named (register_text r) ≡ Some r
register_back r less = register_is r (number_named (register_text r)) (each_below (λ k. is_register k (number_named (register_text k))) 32 r all_registers less)

-- digits are no sign, and no letters of a name
no_sign : (ds : List ℕ) → AllDigits 10 ds → starts_with nat_eq ds (codes "-") ≡ false
no_sign [] all = refl
no_sign (d ∷ ds) all = let other = not_minus d all.0 in grind arith where
  not_minus : (b : ℕ) → digit_value b < 10 → nat_eq 45 b ≡ false
  not_minus b digit = grind arith

no_name : (ds : List ℕ) → AllDigits 10 ds → is_name ds ≡ false
no_name [] all = refl
no_name (d ∷ ds) all = rw (no_letter d all.0) refl where
  no_letter : (b : ℕ) → digit_value b < 10 → begins_name b ≡ false
  no_letter b digit = grind arith

unsigned_decimal : (low n : ℕ) → n < 2 ^ 64 → is_negative low (decimal n) ≡ false
unsigned_decimal low n fits = go (nat_lt 0 low) where
  go : (b : Bool) → b && starts_with nat_eq (decimal n) (codes "-") ≡ false
  go true = no_sign (decimal n) (decimal_is_IsNumeral n fits).0.1
  go false = refl

-- numbers in their range
pub limited_back : (limit n : ℕ) → n ≤ limit → limited limit n ≡ Ok n
limited_back limit n le = grind (arith, nat_tests)

sized_back : (limit n : ℕ) (text : List ℕ) → n ≤ limit → n < 2 ^ 32 → number text ≡ Some n → sized limit (u32_of (number text)) ≡ Ok n
sized_back limit n text le small e =
    let fits : u32_of (Some n) ≡ Ok n = grind (arith, nat_tests) in
    ap (λ o. sized limit (u32_of o)) e ∙ ap (sized limit) fits ∙ limited_back limit n le

decimal_back : (low high n : ℕ) → n ≤ high → n < 2 ^ 32 → number_in low high (decimal n) ≡ Ok n
decimal_back low high n le small =
    rw (unsigned_decimal low n (omega arith)) (sized_back high n (decimal n) le small (number-decimal n (omega arith)))

minus_back : (low high k : ℕ) → 0 < low → k ≤ low → k < 2 ^ 32 → number_in low high (45 ∷ decimal k) ≡ Ok (minus 0 k)
minus_back low high k some le small =
    let signed : nat_lt 0 low ≡ true = grind (arith, nat_tests) in
    rw signed (ap negated (sized_back low k (decimal k) le small (number-decimal k (omega arith))))

minus_again : (n : ℕ) → 0 < n → n < 2 ^ 32 → minus 0 (2 ^ 32 - n) ≡ n
minus_again n some less = grind arith

-- a number is printed without a sign below 2 ^ 31, and else as what is missing to 2 ^ 32
signed_small : (n : ℕ) → n < 2 ^ 31 → signed_text n ≡ decimal n
signed_small n less = let small : nat_lt n (2 ^ 31) ≡ true = grind (arith, nat_tests) in rw small refl

signed_large : (n : ℕ) → 2 ^ 31 ≤ n → signed_text n ≡ 45 ∷ decimal (2 ^ 32 - n)
signed_large n le = let large : nat_lt n (2 ^ 31) ≡ false = grind (arith, nat_tests) in rw large refl

pub number_back : (low high n : ℕ) → low ≤ 2 ^ 31 → high < 2 ^ 31 → IsWithin low high n → number_in low high (signed_text n) ≡ Ok n
number_back low high n small_low small_high (inl le) =
    ap (number_in low high) (signed_small n (omega arith)) ∙ decimal_back low high n le (omega arith)
number_back low high n small_low small_high (inr h) =
    let large = h.0 in
    let less = h.1 in
    ap (number_in low high) (signed_large n (omega arith))
    ∙ minus_back low high (2 ^ 32 - n) (omega arith) (omega arith) (omega arith)
    ∙ ap Ok (minus_again n (omega arith) less)

-- offsets
no_target : (n : ℕ) → n < 2 ^ 32 → is_name (signed_text n) ≡ false
no_target n less = go (nat_lt n (2 ^ 31)) where
  go : (b : Bool) → is_name (if b then decimal n else codes "-" ++ decimal (2 ^ 32 - n)) ≡ false
  go true = no_name (decimal n) (decimal_is_IsNumeral n (omega arith)).0.1
  go false = refl

even_half : (n : ℕ) → n % 2 ≡ 0 → (n % 2 == 1) ≡ false
even_half n even = rw even refl

unsigned_even : (low n : ℕ) → low ≤ 2 ^ 31 → n < 2 ^ 32 → n % 2 ≡ 0 → (n < 2 ^ 31) ⊎ (2 ^ 32 - low ≤ n) → is_odd (number (unsigned low (signed_text n))) ≡ false
unsigned_even low n small less even (inl positive) =
    ap (λ t. is_odd (number (unsigned low t))) (signed_small n positive)
    ∙ rw (unsigned_decimal low n (omega arith)) (ap is_odd (number-decimal n (omega arith)) ∙ even_half n even)
unsigned_even low n small less even (inr negative) =
    let signed : nat_lt 0 low ≡ true = grind (arith, nat_tests) in
    let rest : (2 ^ 32 - n) % 2 ≡ 0 = grind arith in
    ap (λ t. is_odd (number (unsigned low t))) (signed_large n (omega arith))
    ∙ rw signed (ap is_odd (number-decimal (2 ^ 32 - n) (omega arith)) ∙ even_half (2 ^ 32 - n) rest)

within_word : (low high n : ℕ) → high < 2 ^ 31 → IsWithin low high n → n < 2 ^ 32
within_word low high n small (inl le) = omega arith
within_word low high n small (inr h) = h.1

within_side : (low high n : ℕ) → high < 2 ^ 31 → IsWithin low high n → (n < 2 ^ 31) ⊎ (2 ^ 32 - low ≤ n)
within_side low high n small (inl le) = inl (omega arith)
within_side low high n small (inr h) = inr h.0

pub target_back : (low high : ℕ) (labels : Labels) (from n : ℕ) → low ≤ 2 ^ 31 → high < 2 ^ 31 → IsWithin low high n → n % 2 ≡ 0 → target_in low high labels from (signed_text n) ≡ Ok n
target_back low high labels from n small_low small_high within even =
    let word = within_word low high n small_high within in
    rw (no_target n word)
    (rw (unsigned_even low n small_low word even (within_side low high n small_high within))
    (number_back low high n small_low small_high within))

-- the upper twenty bits, in hexadecimal
hex_digits : (ds : List ℕ) → AllDigits 16 ds → list_all (λ c. is_digit c 16) ds ≡ true
hex_digits [] all = refl
hex_digits (d ∷ ds) all = grind (arith, hex_digits ds all.1)

numeral_hex : (ds : List ℕ) → 0 < length ds → list_all (λ c. is_digit c 16) ds ≡ true → numeral 16 ds ≡ Some (digits_value 16 ds)
numeral_hex ds some all = grind arith

number_hex : (n : ℕ) → n < 2 ^ 32 → number (48 ∷ 120 ∷ digits 16 false n) ≡ Some n
unfolding number
number_hex n less =
    let is = digits_is_IsNumeral 16 false (lit≤ tt) (lit≤ tt) n (let wide : 2 ^ 32 < 16 ^ 64 = lit< tt in omega arith) in
    numeral_hex (digits 16 false n) is.0.0 (hex_digits (digits 16 false n) is.0.1) ∙ ap Some is.1

pub upper_back : (n : ℕ) → n < 2 ^ 32 → n % 2 ^ 12 ≡ 0 → shifted (number_in 0 1048575 (upper_text n)) ≡ Ok n
upper_back n less whole =
    let part : n / 2 ^ 12 ≤ 1048575 = grind arith in
    let again : n / 2 ^ 12 * 2 ^ 12 ≡ n = grind arith in
    ap shifted (sized_back 1048575 (n / 2 ^ 12) (upper_text n) part (omega arith) (number_hex (n / 2 ^ 12) (omega arith))) ∙ ap Ok again
