-- The last digit of a number tells whether it is odd.
use Rattle.std.proofs.Common.{◌≡◌, ℕ, ◌+◌, ◌*◌, ◌%◌, ◌==◌, Bool, true, false, ◌&&◌, List, [], ◌∷◌, length, drop, Option, Some, None, refl, ap, sym, ◌∙◌, arith}
use Rattle.std.specs.Prelude.{nat_eq, nat_lt, codes, if◌then◌else◌}
use Rattle.std.specs.Char.{is_digit, digit_value}
use Rattle.std.specs.List.{list_all, starts_with}
use Rattle.std.specs.Str.Parse.{digits_value, digits_value_after}
use Rattle.std.proofs.lemmas.Bool.Decides.{nat_tests}
use Rattle.nova_text.specs.Number.{number, numeral, is_numeral}
use Rattle.rv_asm.specs.Operand.{is_odd}
use Rattle.rv_asm.specs.Digits.{is_odd_digit, ends_odd}

two_parts : (a b : Bool) → a && b ≡ true → (a ≡ true) × (b ≡ true)
two_parts true b e = (refl, e)
two_parts false b e = cc

parity10 : (n : ℕ) (odd : Bool) (ds : List ℕ) → list_all (λ c. is_digit c 10) ds ≡ true → (n % 2 == 1) ≡ odd → (digits_value_after 10 n ds % 2 == 1) ≡ ends_odd odd ds
parity10 n odd [] all e = e
parity10 n odd (c ∷ cs) all e =
    let h = two_parts (is_digit c 10) (list_all (λ c. is_digit c 10) cs) all in
    parity10 (n * 10 + digit_value c) (is_odd_digit c) cs h.1 (last (digit_value c) h.0)
  where
    last : (d : ℕ) → nat_lt d 10 ≡ true → ((n * 10 + d) % 2 == 1) ≡ (nat_lt d 16 && d % 2 == 1)
    last d is = grind (arith, nat_tests)

parity16 : (n : ℕ) (odd : Bool) (ds : List ℕ) → list_all (λ c. is_digit c 16) ds ≡ true → (n % 2 == 1) ≡ odd → (digits_value_after 16 n ds % 2 == 1) ≡ ends_odd odd ds
parity16 n odd [] all e = e
parity16 n odd (c ∷ cs) all e =
    let h = two_parts (is_digit c 16) (list_all (λ c. is_digit c 16) cs) all in
    parity16 (n * 16 + digit_value c) (is_odd_digit c) cs h.1 (last (digit_value c) h.0)
  where
    last : (d : ℕ) → nat_lt d 16 ≡ true → ((n * 16 + d) % 2 == 1) ≡ (nat_lt d 16 && d % 2 == 1)
    last d is = grind (arith, nat_tests)

odd10 : (ds : List ℕ) (n : ℕ) → numeral 10 ds ≡ Some n → ends_odd false ds ≡ (n % 2 == 1)
odd10 ds n e = go (is_numeral 10 ds) refl e where
  go : (b : Bool) → is_numeral 10 ds ≡ b → (if b then Some (digits_value 10 ds) else None) ≡ Some n → ends_odd false ds ≡ (n % 2 == 1)
  go true is f =
      let same : digits_value 10 ds ≡ n = cc in
      sym (parity10 0 false ds (two_parts (nat_lt 0 (length ds)) (list_all (λ c. is_digit c 10) ds) is).1 refl) ∙ ap (λ k. k % 2 == 1) same
  go false is f = cc

odd16 : (ds : List ℕ) (n : ℕ) → numeral 16 ds ≡ Some n → ends_odd false ds ≡ (n % 2 == 1)
odd16 ds n e = go (is_numeral 16 ds) refl e where
  go : (b : Bool) → is_numeral 16 ds ≡ b → (if b then Some (digits_value 16 ds) else None) ≡ Some n → ends_odd false ds ≡ (n % 2 == 1)
  go true is f =
      let same : digits_value 16 ds ≡ n = cc in
      sym (parity16 0 false ds (two_parts (nat_lt 0 (length ds)) (list_all (λ c. is_digit c 16) ds) is).1 refl) ∙ ap (λ k. k % 2 == 1) same
  go false is f = cc

prefixed : (text : List ℕ) (n : ℕ) → starts_with nat_eq text (codes "0x") ≡ true → numeral 16 (drop 2 text) ≡ Some n → ends_odd false text ≡ (n % 2 == 1)
prefixed [] n is e = cc
prefixed (a ∷ []) n is e = absurd (grind (arith, nat_tests))
prefixed (a ∷ b ∷ ds) n is e =
    let x : is_odd_digit b ≡ false = grind (arith, nat_tests) in
    ap (λ odd. ends_odd odd ds) x ∙ odd16 ds n e

odd_some : (text : List ℕ) (n : ℕ) → number text ≡ Some n → ends_odd false text ≡ (n % 2 == 1)
unfolding number
odd_some text n e = go (starts_with nat_eq text (codes "0x")) refl e where
  go : (b : Bool) → starts_with nat_eq text (codes "0x") ≡ b → (if b then numeral 16 (drop 2 text) else numeral 10 text) ≡ Some n → ends_odd false text ≡ (n % 2 == 1)
  go true is f = prefixed text n is f
  go false is f = odd10 text n f

pub odd_again : (text : List ℕ) (o : Option ℕ) → number text ≡ o → (o ≡ None → ⊥) → ends_odd false text ≡ is_odd o
odd_again text None e some = absurd (some refl)
odd_again text (Some n) e some = odd_some text n e
