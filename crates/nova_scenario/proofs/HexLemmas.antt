-- The words of hex blocks, line by line and token by token.
use Rattle.std.proofs.Common.{◌≡◌, ◌≢◌, ℕ, ◌<◌, ◌^◌, Bool, true, false, not, nat_lt, ◌++◌, List, [], ◌∷◌, map, length, Option, Some, None, Result, Ok, Err, refl, ap, sym, ◌∙◌, append_assoc, arith}
use Rattle.std.specs.Prelude.{if◌then◌else◌}
use Rattle.std.specs.Char.{is_digit}
use Rattle.std.specs.Int.{w32, to_le_bytes}
use Rattle.std.specs.List.{before_first, list_all, flat_map, find}
use Rattle.std.specs.Result.{result_ok}
use Rattle.std.specs.Str.Parse.{digits_value, AllDigits}
use Rattle.std.proofs.lemmas.Bool.Decides.{nat_tests}
use Rattle.std.proofs.lemmas.Int.Digits.{digits_value-lt}
use Rattle.std.proofs.lemmas.Grind.{flat_map-append}
use Rattle.nova_text.specs.Line.{Row}
use Rattle.nova_text.specs.Number.{is_numeral, numeral, u32_of}
use Rattle.nova_text.specs.Piece.{Piece}
use Rattle.nova_text.specs.Token.{texts_of}
use Rattle.nova_scenario.specs.Blocks.{word_of, with_line}
use Rattle.nova_scenario.specs.Fault.{At, at}
use Rattle.nova_scenario.specs.Items.{is_end}
use Rattle.nova_scenario.specs.Words.{is_word, has_words, line_words, hex_by, hex_words, bytes_of, in_bytes}
use Rattle.nova_scenario.proofs.Cuts.{before_later}
use Rattle.nova_scenario.specs.declared.fault.Why.TheVariants.{Syntax}

-- bytes with those of the words of the tokens that are left of a line
abbrev pub with_tokens : ℕ → List ℕ → List Piece → Result (List ℕ) At
with_tokens number bytes pieces =
    if list_all is_word (texts_of pieces) then Ok (bytes ++ bytes_of (map (digits_value 16) (texts_of pieces))) else at number Syntax

-- bytes with those of the words of the lines that are left of a block
abbrev pub led : List ℕ → Result (List ℕ) At → Result (List ℕ) At
led bytes (Ok more) = Ok (bytes ++ more)
led bytes (Err fault) = Err fault

abbrev pub hex_left : List ℕ → List Row → Result (List ℕ) At
hex_left bytes rows = led bytes (in_bytes (hex_words (before_first is_end rows)))

-- eight digits write a number below 2 ^ 32
digits_all : (ds : List ℕ) → list_all (λ c. is_digit c 16) ds ≡ true → AllDigits 16 ds
digits_all [] all = tt
digits_all (d ∷ ds) all = (grind arith, digits_all ds (grind arith))

word_small : (text : List ℕ) → length text ≡ 8 → is_numeral 16 text ≡ true → digits_value 16 text < 2 ^ 32
word_small text len is =
    let bound : digits_value 16 text < 16 ^ length text = digits_value-lt 16 text (digits_all text (grind arith)) in
    rw len at bound

pub word-read : (text : List ℕ) → length text ≡ 8 → result_ok (u32_of (numeral 16 text)) ≡ word_of text
word-read text len = go (is_numeral 16 text) refl where
  go : (b : Bool) → is_numeral 16 text ≡ b → result_ok (u32_of (numeral 16 text)) ≡ word_of text
  go true is =
      let small = word_small text len is in
      let below : nat_lt (digits_value 16 text) (2 ^ 32) ≡ true = grind (arith, nat_tests) in
      rw (is, len, below) refl
  go false is = rw (is, len) refl

pub no_word : (text : List ℕ) → length text ≢ 8 → None ≡ word_of text
no_word text other = grind arith

pub led-fault : (bytes : List ℕ) (more : Result (List ℕ) At) (fault : At) → led bytes more ≡ Err fault → more ≡ Err fault
led-fault bytes (Ok more) fault is = cc
led-fault bytes (Err other) fault is = is

-- a line of a block is taken, or refused
module _ (bytes : List ℕ) (row : Row) (rows here : List Row) (is_here : here ≡ row ∷ rows) (inside : is_end row ≡ false) where
  begins_here : before_first is_end here ≡ row ∷ before_first is_end rows
  begins_here = ap (before_first is_end) is_here ∙ before_later is_end row rows inside

  abbrev front : List Row
  front = before_first is_end rows

  joined : (o : Option Row) → led (bytes ++ bytes_of (line_words row)) (in_bytes (hex_by front o)) ≡ led bytes (in_bytes (hex_by (row ∷ front) o))
  joined None =
      let words = flat_map line_words front in
      ap Ok (append_assoc bytes (bytes_of (line_words row)) (bytes_of words)
      ∙ ap (λ more. bytes ++ more) (sym (flat_map-append (to_le_bytes w32) (line_words row) words)))
  joined (Some faulty) = refl

  pub line_taken : (new : List ℕ) → with_line bytes row ≡ Ok new → hex_left new rows ≡ hex_left bytes here
  line_taken new taken = go (has_words row) refl where
    go : (b : Bool) → has_words row ≡ b → hex_left new rows ≡ hex_left bytes here
    go true is =
        let same : Ok (bytes ++ bytes_of (line_words row)) ≡ Ok new = rw is at taken in
        let new_is : new ≡ bytes ++ bytes_of (line_words row) = cc in
        rw (new_is, begins_here, is) (joined (find (λ row. not (has_words row)) front))
    go false is = let same : at row.number Syntax ≡ Ok new = rw is at taken in cc

  pub line_refused : (fault : At) → with_line bytes row ≡ Err fault → hex_left bytes here ≡ Err fault
  line_refused fault refused = go (has_words row) refl where
    go : (b : Bool) → has_words row ≡ b → hex_left bytes here ≡ Err fault
    go true is = let same : Ok (bytes ++ bytes_of (line_words row)) ≡ Err fault = rw is at refused in cc
    go false is = rw (begins_here, is) (rw is at refused)
