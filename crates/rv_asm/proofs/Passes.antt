-- The steps of the two passes over the lines.
use Rattle.std.proofs.Common.{◌≡◌, ℕ, suc, ◌+◌, ◌≤◌, Bool, true, false, ◌||◌, List, [], ◌∷◌, ◌++◌, length, map, Result, Ok, Err, refl, ap, sym, ◌∙◌, append_assoc, length-append, arith}
use Rattle.std.specs.List.{list_any}
use Rattle.nova_text.specs.Line.{Row, rows_from, line_texts, lines}
use Rattle.nova_text.specs.Token.{tokens}
use Rattle.rv_asm.specs.Syntax.{labelled}
use Rattle.rv_asm.specs.Operand.{Labels}
use Rattle.rv_asm.specs.Name.{Item, item_word}
use Rattle.rv_asm.specs.Program.{line_items, word_count, with_label, says, labels_of, in_front, before_rest, items_from, program, words_of, assembled}
use Rattle.rv_asm.specs.Words.{shown_count}
use Rattle.rv_asm.specs.Assembled.{OrMemory}
use Rattle.rv_asm.specs.declared.fault.AsmFault.{AsmFault}
use Rattle.rv_asm.specs.declared.fault.AsmFault.TheVariants.{UnknownName, BadOperand, OutOfRange, TwiceLabel, NoLabel, Memory}

-- rows that begin after a place, one after another
abbrev pub BeginsFrom : ℕ → List Row → Type 0
BeginsFrom at [] = Unit {0}
BeginsFrom at (row ∷ rows) = (at ≤ row.start) × BeginsFrom (row.start + length row.text + 1) rows

pub begins_before : (m n : ℕ) (rows : List Row) → n ≤ m → BeginsFrom m rows → BeginsFrom n rows
begins_before m n [] le h = tt
begins_before m n (row ∷ rows) le h = (let first = h.0 in omega arith, h.1)

begins_rows : (number start : ℕ) (texts : List (List ℕ)) → BeginsFrom start (rows_from number start texts)
begins_rows number start [] = tt
begins_rows number start (text ∷ texts) = (omega arith, begins_rows (number + 1) (start + length text + 1) texts)

pub begins_lines : (text : List ℕ) → BeginsFrom 0 (lines text)
unfolding lines
begins_lines text = begins_rows 1 0 (line_texts text)

length_words : (items : List Item) → length (map item_word items) ≡ length items
length_words [] = refl
length_words (item ∷ items) = ap suc (length_words items)

-- the count of words, from what is shown
pub counted : (r : Result (List Item) AsmFault) (shown : Result (List ℕ) AsmFault) → shown ≡ words_of r → shown_count shown ≡ word_count r
counted (Ok items) shown e = ap shown_count e ∙ length_words items
counted (Err fault) shown e = ap shown_count e

-- an empty line means nothing
pub no_items : (labels : Labels) (place number start : ℕ) → line_items labels place (record { number = number; start = start; text = [] }) ≡ Ok []
unfolding tokens
no_items labels place number start = refl

-- so a line has at most one word more than bytes
pub few_words : (labels : Labels) (place : ℕ) (row : Row) → word_count (line_items labels place row) ≤ 2 → word_count (line_items labels place row) ≤ length row.text + 1
few_words labels place row le = go row.text refl where
  go : (text : List ℕ) → row.text ≡ text → word_count (line_items labels place row) ≤ length text + 1
  go [] is = let none = ap (λ t. word_count (line_items labels place (record row { text = t }))) is ∙ ap word_count (no_items labels place row.number row.start) in omega arith
  go (b ∷ bs) is = omega arith

-- the labels of lines from a place on, beside those of the lines before them
abbrev pub labels_from : Labels → ℕ → List Row → Labels
labels_from labels place [] = labels
labels_from labels place (row ∷ rows) =
    labels_from (with_label labels (labelled row).label (record { line = row.number; place = place })) (place + word_count (line_items labels place row)) rows

-- pass one takes a line
module _ (labels : Labels) (place : ℕ) (row : Row) (rows here : List Row) (is_here : here ≡ row ∷ rows) where
  pub labels_step : (after total : Labels) (count : ℕ) → after ≡ with_label labels (labelled row).label (record { line = row.number; place = place }) → count ≡ word_count (line_items labels place row) → labels_from labels place here ≡ total → labels_from after (place + count) rows ≡ total
  labels_step after total count is_after is_count inv =
      (λ i. labels_from (is_after i) (place + is_count i) rows) ∙ sym (ap (labels_from labels place) is_here) ∙ inv

pub labels_end : (labels total : Labels) (place : ℕ) (here : List Row) → here ≡ [] → labels_from labels place here ≡ total → labels ≡ total
labels_end labels total place here is_here inv = sym (ap (labels_from labels place) is_here) ∙ inv

-- where the rest takes memory, so do all lines
pub says_rest : (row : Row) (rows here : List Row) {takes : Bool} → here ≡ row ∷ rows → (list_any says here ≡ true → takes ≡ true) → list_any says rows ≡ true → takes ≡ true
says_rest row rows here is passes rest = passes (ap (list_any says) is ∙ go (says row)) where
  go : (b : Bool) → (b || list_any says rows) ≡ true
  go true = refl
  go false = rest

-- pass two: the words up to now in front of those of the rest
abbrev pub led : List ℕ → Result (List ℕ) AsmFault → Result (List ℕ) AsmFault
led ws (Ok more) = Ok (ws ++ more)
led ws (Err fault) = Err fault

abbrev pub rest_words : Labels → List ℕ → List Row → Result (List ℕ) AsmFault
rest_words labels ws rows = led ws (words_of (items_from labels (length ws) rows))

map_word-append : (xs ys : List Item) → map item_word (xs ++ ys) ≡ map item_word xs ++ map item_word ys
map_word-append [] ys = refl
map_word-append (x ∷ xs) ys = ap (λ ws. item_word x ∷ ws) (map_word-append xs ys)

joined : (ws : List ℕ) (items : List Item) (rest : Result (List Item) AsmFault) → led ws (words_of (in_front items rest)) ≡ led (ws ++ map item_word items) (words_of rest)
joined ws items (Ok more) = ap (λ vs. Ok (ws ++ vs)) (map_word-append items more) ∙ ap Ok (sym (append_assoc ws (map item_word items) (map item_word more)))
joined ws items (Err fault) = refl

taken : (labels : Labels) (ws more : List ℕ) (rows : List Row) (r : Result (List Item) AsmFault) → Ok more ≡ words_of r → led ws (words_of (before_rest r (λ items. items_from labels (length ws + length items) rows))) ≡ rest_words labels (ws ++ more) rows
taken labels ws more rows (Err fault) e = cc
taken labels ws more rows (Ok items) e =
    let same : map item_word items ≡ more = cc in
    let len : length ws + length items ≡ length (ws ++ map item_word items) = let a = length_words items in let b = length-append ws (map item_word items) in omega arith in
    joined ws items (items_from labels (length ws + length items) rows)
    ∙ ap (λ n. led (ws ++ map item_word items) (words_of (items_from labels n rows))) len
    ∙ ap (λ vs. rest_words labels (ws ++ vs) rows) same

module _ (labels : Labels) (ws : List ℕ) (here : List Row) (total : Result (List ℕ) AsmFault) (inv : rest_words labels ws here ≡ total) where
  pub words_step : (row : Row) (rows : List Row) (more new : List ℕ) → here ≡ row ∷ rows → Ok more ≡ words_of (line_items labels (length ws) row) → new ≡ ws ++ more → rest_words labels new rows ≡ total
  words_step row rows more new is_here is_more is_new =
      ap (λ vs. rest_words labels vs rows) is_new ∙ sym (taken labels ws more rows (line_items labels (length ws) row) is_more) ∙ sym (ap (rest_words labels ws) is_here) ∙ inv

  pub words_stop : (row : Row) (rows : List Row) (fault : AsmFault) → here ≡ row ∷ rows → Err fault ≡ words_of (line_items labels (length ws) row) → total ≡ Err fault
  words_stop row rows fault is_here is_fault = sym inv ∙ ap (rest_words labels ws) is_here ∙ stop (line_items labels (length ws) row) is_fault where
    stop : (r : Result (List Item) AsmFault) → Err fault ≡ words_of r → led ws (words_of (before_rest r (λ items. items_from labels (length ws + length items) rows))) ≡ Err fault
    stop (Ok items) e = cc
    stop (Err other) e = sym e

  pub words_end : here ≡ [] → total ≡ Ok ws
  words_end is_here = sym inv ∙ ap (rest_words labels ws) is_here ∙ ap Ok (append_nil ws) where
    append_nil : (xs : List ℕ) → xs ++ [] ≡ xs
    append_nil [] = refl
    append_nil (x ∷ xs) = ap (λ ys. x ∷ ys) (append_nil xs)

pub words_begin : (labels : Labels) (text : List ℕ) → labels ≡ labels_of text → rest_words labels [] (lines text) ≡ assembled text
unfolding program assembled
words_begin labels text e = led_nil (words_of (items_from labels 0 (lines text))) ∙ ap (λ ls. words_of (items_from ls 0 (lines text))) e where
  led_nil : (r : Result (List ℕ) AsmFault) → led [] r ≡ r
  led_nil (Ok ws) = refl
  led_nil (Err fault) = refl

pub or_memory : (wanted : Result (List ℕ) AsmFault) (fault : AsmFault) → wanted ≡ Err fault → OrMemory wanted fault
or_memory wanted (UnknownName span) e = e
or_memory wanted (BadOperand span) e = e
or_memory wanted (OutOfRange span) e = e
or_memory wanted (TwiceLabel span) e = e
or_memory wanted (NoLabel span) e = e
or_memory wanted Memory e = tt
