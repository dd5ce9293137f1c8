use Rattle.std.proofs.Common.{◌≡◌, ◌≢◌, ℕ, ◌<◌, ◌^◌, List, length, get_or, Result, Ok, Err, arith}
use Rattle.std.specs.Option.{SomeIff}
use Rattle.std.specs.Result.{OkIff, result_ok}
use Rattle.std.specs.Str.Parse.{AllDigits, IsNumeral, digits_value, without_leading_plus}
use Rattle.std.proofs.lemmas.Int.Digits.{digits_value-lt}
use Rattle.std.proofs.lemmas.Str.Parse.{without_leading_plus_none}
use Rattle.vectors_readings.proofs.word.parse.Goals as goal

-- eight digits are a numeral below 2 ^ 32
eight_digits : {E : Type 0} (bs : List ℕ) (r : Result ℕ E) → length bs ≡ 8 → OkIff r (IsNumeral 16 bs × (digits_value 16 bs < 2 ^ 32)) (digits_value 16 bs) → SomeIff (result_ok r) ((length bs ≡ 8) × AllDigits 16 bs) (digits_value 16 bs)
eight_digits bs (Ok n) eight read = ((eight, read.0.0.1), read.1)
eight_digits bs (Err e) eight read = λ digits. read ((omega arith, digits.1), (rw eight at (digits_value-lt 16 bs digits.1)))

pub returns : goal.returns
returns c =
    let bs = c.args.text.now in
    let unsigned : without_leading_plus bs ≡ bs = without_leading_plus_none bs (grind arith) in
    rw c.ok.ensures.value (eight_digits bs c.from_str_radix.result (grind arith) (rw unsigned at c.from_str_radix.ensures.value))
