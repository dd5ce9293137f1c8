-- The digits of a number are none of the bytes that part a text.
use Rattle.std.proofs.Common.{◌≡◌, ℕ, ◌<◌, ◌^◌, Bool, false, not, List, [], ◌∷◌, length, arith}
use Rattle.std.specs.Char.{digit_value}
use Rattle.std.specs.Fmt.{decimal}
use Rattle.std.specs.Str.Parse.{AllDigits}
use Rattle.std.proofs.lemmas.Fmt.{decimal_is_IsNumeral}
use Rattle.nova_text.specs.Bytes.{is_line_feed, is_separator, is_comment_sign, is_allowed}
use Rattle.rv_asm.specs.Syntax.{is_comma}
use Rattle.rv_asm.proofs.Parts.{Without}

-- one or more digits
pub record Digits (ds : List ℕ) : Type 0 where
  pub some : 0 < length ds
  pub all : AllDigits 10 ds

pub decimal_digits : (n : ℕ) → n < 2 ^ 32 → Digits (decimal n)
decimal_digits n small = let is = decimal_is_IsNumeral n (omega arith) in record { some = is.0.0; all = is.0.1 }

digits_without : (p : ℕ → Bool) → ((b : ℕ) → digit_value b < 10 → p b ≡ false) → (ds : List ℕ) → AllDigits 10 ds → Without p ds
digits_without p fails [] all = tt
digits_without p fails (d ∷ ds) all = (fails d all.0, digits_without p fails ds all.1)

not_feed : (b : ℕ) → digit_value b < 10 → is_line_feed b ≡ false
not_feed b digit = grind arith

not_separator : (b : ℕ) → digit_value b < 10 → is_separator b ≡ false
not_separator b digit = grind arith

not_comment : (b : ℕ) → digit_value b < 10 → is_comment_sign b ≡ false
not_comment b digit = grind arith

not_comma : (b : ℕ) → digit_value b < 10 → is_comma b ≡ false
not_comma b digit = grind arith

not_forbidden : (b : ℕ) → digit_value b < 10 → not (is_allowed b) ≡ false
not_forbidden b digit = grind arith

pub no_feed : (ds : List ℕ) → Digits ds → Without is_line_feed ds
no_feed ds is = digits_without is_line_feed not_feed ds is.all

pub no_separator : (ds : List ℕ) → Digits ds → Without is_separator ds
no_separator ds is = digits_without is_separator not_separator ds is.all

pub no_comment : (ds : List ℕ) → Digits ds → Without is_comment_sign ds
no_comment ds is = digits_without is_comment_sign not_comment ds is.all

pub no_comma : (ds : List ℕ) → Digits ds → Without is_comma ds
no_comma ds is = digits_without is_comma not_comma ds is.all

pub no_forbidden : (ds : List ℕ) → Digits ds → Without (λ b. not (is_allowed b)) ds
no_forbidden ds is = digits_without (λ b. not (is_allowed b)) not_forbidden ds is.all
