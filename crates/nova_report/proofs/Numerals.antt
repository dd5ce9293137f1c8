-- What `{:08x}` and `{:02x}` write, and how many digits numbers have.
use Rattle.std.proofs.Common.{◌≡◌, ◌∙◌, refl, sym, ap, ℕ, zero, suc, ◌+◌, ◌-◌, ◌/◌, ◌%◌, ◌^◌, ◌<◌, ◌≤◌, Bool, true, false, List, [], ◌∷◌, ◌++◌, length, replicate, arith}
use Rattle.std.specs.Prelude.{◌==◌, nat_eq, nat_lt, if◌then◌else◌}
use Rattle.std.specs.Fmt.{decimal, digits, digits_onto, digit_glyph, padded_integral, char_count, format_spec}
use Rattle.std.proofs.lemmas.Bool.Decides.{nat_tests}
use Rattle.std.proofs.lemmas.Fmt.{length-decimal-le}
use Rattle.std.proofs.lemmas.List.{append_assoc, append-nil, replicate_more}
use Rattle.nova_text.proofs.Below.{each_below}
use Rattle.nova_report.specs.Words.{digit, hexadecimal}

digit_is : (d : ℕ) → d < 16 → digit_glyph false d ≡ digit d
digit_is d less = let e : nat_eq (digit_glyph false d) (digit d) ≡ true = each_below (λ k. nat_eq (digit_glyph false k) (digit k)) 16 d refl less in grind (arith, nat_tests)

-- zeros in front, up to a width
abbrev filled : ℕ → List ℕ → List ℕ
filled width ds = replicate (width - length ds) 48 ++ ds

zeros : (w : ℕ) → hexadecimal w 0 ≡ replicate w 48
unfolding hexadecimal
zeros zero = refl
zeros (suc w) = let e : w + 1 ≡ suc w = omega arith in ap (λ ds. ds ++ 48 ∷ []) (zeros w) ∙ replicate_more w 48 ∙ ap (λ m. replicate m 48) e

nothing_else : (n : ℕ) → digits 16 false n ≡ digits_onto 64 16 false n []
unfolding digits
nothing_else n = refl

-- the first digit that is not a zero in front
stops : (j n : ℕ) (acc : List ℕ) → n < 16 → digits_onto (suc j) 16 false n acc ≡ digit_glyph false (n % 16) ∷ acc
stops j n acc less =
    let end : n / 16 == 0 ≡ true = grind (arith, nat_tests) in
    ap (λ b. if b then digit_glyph false (n % 16) ∷ acc else digits_onto j 16 false (n / 16) (digit_glyph false (n % 16) ∷ acc)) end

last : (w j n : ℕ) (acc : List ℕ) → n < 16
    → filled (suc w + length acc) (digits_onto (suc j) 16 false n acc) ≡ hexadecimal (suc w) n ++ acc
unfolding hexadecimal
last w j n acc less =
    let g = digit_glyph false (n % 16) in
    let none : n / 16 ≡ 0 = omega arith in
    let width : suc w + length acc - suc (length acc) ≡ w = omega arith in
    ap (filled (suc w + length acc)) (stops j n acc less)
    ∙ ap (λ m. replicate m 48 ++ g ∷ acc) width
    ∙ ap (λ ds. ds ++ g ∷ acc) (sym (zeros w))
    ∙ ap (λ m. hexadecimal w m ++ g ∷ acc) (sym none)
    ∙ ap (λ d. hexadecimal w (n / 16) ++ d ∷ acc) (digit_is (n % 16) (omega arith))
    ∙ sym (append_assoc (hexadecimal w (n / 16)) (digit (n % 16) ∷ []) acc)

-- a digit after others
goes_on : (j n : ℕ) (acc : List ℕ) → 16 ≤ n
    → digits_onto (suc j) 16 false n acc ≡ digits_onto j 16 false (n / 16) (digit_glyph false (n % 16) ∷ acc)
goes_on j n acc large =
    let further : n / 16 == 0 ≡ false = grind (arith, nat_tests) in
    ap (λ b. if b then digit_glyph false (n % 16) ∷ acc else digits_onto j 16 false (n / 16) (digit_glyph false (n % 16) ∷ acc)) further

more : (w j n : ℕ) (acc : List ℕ) → 16 ≤ n
    → filled (suc w + suc (length acc)) (digits_onto j 16 false (n / 16) (digit_glyph false (n % 16) ∷ acc)) ≡ hexadecimal (suc w) (n / 16) ++ digit_glyph false (n % 16) ∷ acc
    → filled (suc (suc w) + length acc) (digits_onto (suc j) 16 false n acc) ≡ hexadecimal (suc (suc w)) n ++ acc
unfolding hexadecimal
more w j n acc large before =
    let width : suc (suc w) + length acc ≡ suc w + suc (length acc) = omega arith in
    ap (filled (suc (suc w) + length acc)) (goes_on j n acc large)
    ∙ ap (λ m. filled m (digits_onto j 16 false (n / 16) (digit_glyph false (n % 16) ∷ acc))) width
    ∙ before
    ∙ ap (λ d. hexadecimal (suc w) (n / 16) ++ d ∷ acc) (digit_is (n % 16) (omega arith))
    ∙ sym (append_assoc (hexadecimal (suc w) (n / 16)) (digit (n % 16) ∷ []) acc)

below : (w n : ℕ) → n < 16 ^ suc (suc w) → n / 16 < 16 ^ suc w
below w n less = grind arith

spelled : (w j n : ℕ) (acc : List ℕ) → w ≤ j → n < 16 ^ suc w
    → filled (suc w + length acc) (digits_onto (suc j) 16 false n acc) ≡ hexadecimal (suc w) n ++ acc
spelled zero j n acc fuel less = last zero j n acc (omega arith)
spelled (suc w) zero n acc fuel less = absurd (omega arith)
spelled (suc w) (suc j) n acc fuel less =
    go (nat_lt n 16) refl (spelled w j (n / 16) (digit_glyph false (n % 16) ∷ acc) (omega arith) (below w n less)) where
      go : (b : Bool) → nat_lt n 16 ≡ b
          → filled (suc w + suc (length acc)) (digits_onto (suc j) 16 false (n / 16) (digit_glyph false (n % 16) ∷ acc))
          ≡ hexadecimal (suc w) (n / 16) ++ digit_glyph false (n % 16) ∷ acc
          → filled (suc (suc w) + length acc) (digits_onto (suc (suc j)) 16 false n acc) ≡ hexadecimal (suc (suc w)) n ++ acc
      go true is before = last (suc w) (suc j) n acc (grind (arith, nat_tests))
      go false is before = more w (suc j) n acc (grind (arith, nat_tests)) before

padded_is : (width : ℕ) (ds : List ℕ) → padded_integral (format_spec 32 0 4 width (2 ^ 64 - 1)) false [] ds ≡ filled width ds
unfolding padded_integral char_count
padded_is width ds =
    let e : width - length ds - 0 - 0 ≡ width - length ds = omega arith in
    ap (λ m. replicate m 48 ++ (ds ++ [])) e ∙ ap (λ xs. replicate (width - length ds) 48 ++ xs) (append-nil ds)

number_is : (w n : ℕ) → w < 64 → n < 16 ^ suc w
    → padded_integral (format_spec 32 0 4 (suc w) (2 ^ 64 - 1)) false [] (digits 16 false n) ≡ hexadecimal (suc w) n
number_is w n few less =
    let width : suc w ≡ suc w + 0 = omega arith in
    padded_is (suc w) (digits 16 false n)
    ∙ ap (filled (suc w)) (nothing_else n)
    ∙ ap (λ m. filled m (digits_onto 64 16 false n [])) width
    ∙ spelled w 63 n [] (omega arith) less
    ∙ append-nil (hexadecimal (suc w) n)

pub word_is : (n : ℕ) → n < 2 ^ 32 → padded_integral (format_spec 32 0 4 8 (2 ^ 64 - 1)) false [] (digits 16 false n) ≡ hexadecimal 8 n
word_is n less = number_is 7 n (omega arith) less

pub byte_is : (n : ℕ) → n < 2 ^ 8 → padded_integral (format_spec 32 0 4 2 (2 ^ 64 - 1)) false [] (digits 16 false n) ≡ hexadecimal 2 n
byte_is n less = number_is 1 n (omega arith) less

pub few_digits : (n : ℕ) → n < 2 ^ 64 → length (decimal n) ≤ 20
few_digits n fits = length-decimal-le 20 n (omega arith) (omega arith) fits
