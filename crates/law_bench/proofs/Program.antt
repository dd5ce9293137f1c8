-- The program of the image's block.
use Rattle.std.proofs.Common.{◌≡◌, ℕ, ◌+◌, ◌^◌, ◌<◌, List, [], ◌∷◌, ◌++◌, length, map, Some, Ok, refl, ap, ◌∙◌}
use Rattle.std.specs.Prelude.{codes}
use Rattle.std.specs.List.{flat_map}
use Rattle.nova_text.specs.Line.{Row, rows_from, lines}
use Rattle.nova_text.specs.Number.{number}
use Rattle.rv_model.specs.declared.instr.Instr.TheVariants.{Addi, Bne, Ecall, Ebreak}
use Rattle.rv_asm.specs.Name.{Item, Does, item_word}
use Rattle.rv_asm.specs.Operand.{Labels}
use Rattle.rv_asm.specs.Program.{count_from, in_front, before_rest, items_from, label_of, labels_of, line_items, no_labels, program, words_of, word_count, assembled}
use Rattle.law_bench.proofs.NumberText.{Digits, no_feed}
use Rattle.law_bench.proofs.TextLines.{number_line, code_lines, block_text, block_lines}
use Rattle.law_bench.proofs.NumberLine.{first_row, number_items, number_means, number_line_items}
use Rattle.law_bench.proofs.CodeLines.{loop_label, next_of_all, labels_loop, makes, selects_next, gives_page, calls, steps_on, counts_down, loops, revokes, selects_first, ends}

-- lines with what they mean one below another, from a place in the words on
abbrev MeansAt : Labels → ℕ → ℕ → List ℕ → List Item → Type 0
MeansAt labels place line text items = (start : ℕ) → line_items labels place (record { number = line; start = start; text = text }) ≡ Ok items

abbrev AllMean : Labels → ℕ → ℕ → List (List ℕ × List Item) → Type 0
AllMean labels place line [] = Unit {0}
AllMean labels place line (first ∷ more) = MeansAt labels place line first.0 first.1 × AllMean labels (place + length first.1) (line + 1) more

abbrev texts_in : List (List ℕ × List Item) → List (List ℕ)
texts_in meanings = map (λ meaning. meaning.0) meanings

abbrev items_in : List (List ℕ × List Item) → List Item
items_in meanings = flat_map (λ meaning. meaning.1) meanings

all_mean : (labels : Labels) (place line start : ℕ) (meanings : List (List ℕ × List Item)) → AllMean labels place line meanings → items_from labels place (rows_from line start (texts_in meanings)) ≡ Ok (items_in meanings)
all_mean labels place line start [] all = refl
all_mean labels place line start (first ∷ more) all =
    let next = start + length first.0 + 1 in
    ap (λ found. before_rest found (λ items. items_from labels (place + length items) (rows_from (line + 1) next (texts_in more)))) (all.0 start)
    ∙ ap (in_front first.1) (all_mean labels (place + length first.1) (line + 1) next more all.1)

-- the lines after that of the number
abbrev code : List (List ℕ × List Item)
code =
    (codes "addi x9, x0, 64", Does (Addi 9 0 64) ∷ []) ∷ (codes "loop:", []) ∷ (codes "addi x17, x0, 2", Does (Addi 17 0 2) ∷ []) ∷ (codes "addi x10, x9, 0", Does (Addi 10 9 0) ∷ []) ∷ (codes "addi x12, x0, 5", Does (Addi 12 0 5) ∷ []) ∷ (codes "ecall", Does Ecall ∷ []) ∷ (codes "addi x9, x9, 1", Does (Addi 9 9 1) ∷ []) ∷ (codes "addi x8, x8, -1", Does (Addi 8 8 4294967295) ∷ []) ∷ (codes "bne x8, x0, loop", Does (Bne 8 0 4294967272) ∷ []) ∷ (codes "addi x17, x0, 7", Does (Addi 17 0 7) ∷ []) ∷ (codes "addi x10, x0, 1", Does (Addi 10 0 1) ∷ []) ∷ (codes "ecall", Does Ecall ∷ []) ∷ (codes "ebreak", Does Ebreak ∷ []) ∷ []

abbrev code_rows : ℕ → List Row
code_rows start = rows_from 2 start (code_lines [])

module _ (labels : Labels) (found : labels (codes "loop") ≡ Some loop_label) (start : ℕ) where
  code_means : items_from labels 2 (code_rows start) ≡ Ok (items_in code)
  code_means =
      all_mean labels 2 2 start code
      (next_of_all labels 2 2, (labels_loop labels found, (makes labels 3 4, (selects_next labels 4 5, (gives_page labels 5 6, (calls labels 6 7, (steps_on labels 7 8, (counts_down labels 8 9, (loops labels found, (revokes labels 10 11, (selects_first labels 11 12, (calls labels 12 13, (ends labels 13 14, tt)))))))))))))

-- the whole program
abbrev pub program_items : ℕ → List Item
program_items n = number_items n ++ items_in code

abbrev pub program_words : ℕ → List ℕ
program_words n = map item_word (program_items n)

module _ (ds : List ℕ) (is : Digits ds) (n : ℕ) (small : n < 2 ^ 32) (reads : number ds ≡ Some n) where
  abbrev after : ℕ
  after = 0 + length (number_line ds) + 1

  block_rows : lines (block_text ds) ≡ first_row ds is ∷ code_rows after
  unfolding lines
  block_rows = ap (rows_from 1 0) (block_lines ds (no_feed ds is))

  abbrev second_row : Row
  second_row = record { number = 2; start = after; text = codes "addi x9, x0, 64" }

  words_before : count_from [] (first_row ds is ∷ second_row ∷ []) ≡ 3
  words_before =
      (λ i. word_count (number_means ds is n small reads no_labels 0 i) + (word_count (next_of_all no_labels 0 2 after i) + 0))

  loop_found : labels_of (block_text ds) (codes "loop") ≡ Some loop_label
  unfolding labels_of
  loop_found =
      ap (λ rows. label_of rows (codes "loop")) block_rows
      ∙ ap (λ place. Some (record { line = 3; place = place })) words_before

  block_program : program (block_text ds) ≡ Ok (program_items n)
  unfolding program
  block_program =
      ap (items_from (labels_of (block_text ds)) 0) block_rows
      ∙ ap (λ found. before_rest found (λ items. items_from (labels_of (block_text ds)) (0 + length items) (code_rows after))) (number_line_items ds is n small reads (labels_of (block_text ds)) 0)
      ∙ ap (in_front (number_items n)) (code_means (labels_of (block_text ds)) loop_found after)

  pub block_words : assembled (block_text ds) ≡ Ok (program_words n)
  unfolding assembled
  block_words = ap words_of block_program
