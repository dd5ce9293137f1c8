-- The image's block in the text of a bench.
use Rattle.std.proofs.Common.{◌≡◌, ℕ, suc, ◌+◌, ◌-◌, ◌^◌, ◌<◌, Bool, true, false, not, cond, List, [], ◌∷◌, ◌++◌, length, take, drop, option_map, Some, None, Ok, refl, ap, ◌∙◌, length-append, arith}
use Rattle.std.specs.Prelude.{codes}
use Rattle.std.specs.List.{find, before_first, position_or_len}
use Rattle.std.proofs.Math.Seq.{take-append_seam}
use Rattle.nova_text.specs.Bytes.{has_forbidden}
use Rattle.nova_text.specs.Line.{Row, rows_from, lines}
use Rattle.nova_text.specs.Number.{number}
use Rattle.nova_text.specs.Token.{tokens}
use Rattle.nova_gen.specs.Generated.{settings}
use Rattle.rv_asm.specs.Program.{assembled}
use Rattle.nova_scenario.specs.Items.{Block, Item, SettingLine, ImageBlock, block, is_end, is_end_in, items}
use Rattle.nova_scenario.specs.Words.{asm_by, asm_words, forbidden_in, text_of, place_after, place_of_end}
use Rattle.nova_scenario.specs.declared.statement.Head.{Head}
use Rattle.nova_scenario.specs.declared.statement.Form.TheVariants.{Asm}
use Rattle.nova_scenario.specs.declared.statement.Start.TheVariants.{Address}
use Rattle.nova_scenario.specs.declared.statement.Setting.TheVariants.{Cpus, Ram, Consoles, Root}
use Rattle.law_bench.proofs.NumberText.{Digits, no_feed}
use Rattle.law_bench.proofs.TextLines.{number_line, code_lines, code, block_text, whole_text, text_lines}
use Rattle.law_bench.proofs.NumberLine.{number_tokens, number_allowed}
use Rattle.law_bench.proofs.Program.{program_words, block_words}

-- a list behind an element that a test does not pass
before_more : {A : Type 0} (p : A → Bool) (x : A) (xs : List A) → p x ≡ false → before_first p (x ∷ xs) ≡ x ∷ before_first p xs
before_more p x xs is =
    let more : position_or_len p (x ∷ xs) ≡ 1 + position_or_len p xs = rw is refl in
    let len : position_or_len p (x ∷ xs) ≡ suc (position_or_len p xs) = omega arith in
    ap (λ n. take n (x ∷ xs)) len

find_more : {A : Type 0} (p : A → Bool) (x : A) (xs : List A) → p x ≡ false → find p (x ∷ xs) ≡ find p xs
find_more p x xs is = ap (λ found. cond found (Some x) (find p xs)) is

-- the rows after that of the number, from a place in the text on
abbrev code_rows : ℕ → List (List ℕ) → List Row
code_rows start more = rows_from 7 start (code_lines more)

abbrev end_lines : List (List ℕ)
end_lines = codes "end" ∷ []

-- the place behind lines, and the row that ends them
abbrev place_behind : ℕ → List (List ℕ) → ℕ
place_behind start [] = start
place_behind start (text ∷ texts) = place_behind (start + length text + 1) texts

abbrev end_row : ℕ → Row
end_row start = record { number = 20; start = place_behind start (code_lines []); text = codes "end" }

code_before : (start : ℕ) → before_first is_end (code_rows start end_lines) ≡ code_rows start []
unfolding tokens
code_before start = refl

code_end : (start : ℕ) → find is_end (code_rows start end_lines) ≡ Some (end_row start)
unfolding tokens
code_end start = refl

code_closed : (start : ℕ) → items true (code_rows start end_lines) ≡ []
unfolding tokens
code_closed start = refl

code_allowed : (start : ℕ) → find (λ row. has_forbidden row.text) (code_rows start []) ≡ None
unfolding has_forbidden
code_allowed start = refl

abbrev pub head : Head
head = record { address = Some 0; form = Asm }

abbrev image_row : Row
image_row = record { number = 5; start = 38; text = codes "image 0 asm" }

-- the items of the settings
abbrev pub setting_items : List Item → List Item
setting_items more = SettingLine 1 (Cpus (Some 1)) ∷ SettingLine 2 (Ram (Some 1)) ∷ SettingLine 3 (Consoles (Some 0)) ∷ SettingLine 4 (Root (Address (Some 0)) (Some 0) (Some 1) (Some 10)) ∷ more

setting_rows : List (List ℕ) → List Row
setting_rows more = rows_from 1 0 (codes "cpus 1" ∷ codes "ram 1" ∷ codes "consoles 0" ∷ codes "root 0 0 1 10" ∷ codes "image 0 asm" ∷ more)

read_settings : (more : List (List ℕ)) → items false (setting_rows more) ≡ setting_items (ImageBlock head (block image_row (rows_from 6 50 more)) ∷ items true (rows_from 6 50 more))
unfolding setting_rows tokens has_forbidden number
read_settings more = refl

module _ (ds : List ℕ) (is : Digits ds) where
  abbrev number_row : Row
  number_row = record { number = 6; start = 50; text = number_line ds }

  abbrev after : ℕ
  after = 50 + length (number_line ds) + 1

  goes_on : is_end number_row ≡ false
  goes_on = ap is_end_in (number_tokens ds is 50)

  -- the block
  abbrev pub the_block : Block
  the_block = record { first = image_row; lines = number_row ∷ code_rows after []; end = Some (end_row after) }

  is_block : block image_row (number_row ∷ code_rows after end_lines) ≡ the_block
  is_block =
      let before = before_more is_end number_row (code_rows after end_lines) goes_on ∙ ap (λ rows. number_row ∷ rows) (code_before after) in
      let end = find_more is_end number_row (code_rows after end_lines) goes_on ∙ code_end after in
      λ i. record { first = image_row; lines = before i; end = end i }

  is_last : items true (number_row ∷ code_rows after end_lines) ≡ []
  is_last = ap (λ ends. items (not ends) (code_rows after end_lines)) goes_on ∙ code_closed after

  pub whole_items : items false (lines (whole_text ds)) ≡ setting_items (ImageBlock head the_block ∷ [])
  unfolding lines setting_rows
  whole_items =
      ap (λ texts. items false (rows_from 1 0 texts)) (text_lines ds (no_feed ds is))
      ∙ read_settings (number_line ds ∷ code_lines end_lines)
      ∙ (λ i. setting_items (ImageBlock head (is_block i) ∷ is_last i))

  -- its text
  block_place : place_of_end (length (whole_text ds)) the_block.end - place_after image_row ≡ length (block_text ds)
  block_place = let len = length-append ds (10 ∷ code) in omega arith

  behind_settings : drop 50 (whole_text ds) ≡ block_text ds ++ codes "end\n"
  unfolding settings
  behind_settings = refl

  pub is_block_text : text_of (whole_text ds) the_block ≡ block_text ds
  is_block_text = (λ i. take (block_place i) (behind_settings i)) ∙ take-append_seam (block_text ds) (codes "end\n")

  block_allowed : forbidden_in the_block.lines ≡ None
  block_allowed =
      ap (λ found. option_map (λ row. row.number) found) (find_more (λ row. has_forbidden row.text) number_row (code_rows after []) (number_allowed ds is) ∙ code_allowed after)

  pub block_assembled : (n : ℕ) → n < 2 ^ 32 → number ds ≡ Some n → asm_words (whole_text ds) the_block ≡ Ok (program_words n)
  block_assembled n small reads =
      ap (λ text. asm_by 5 text (forbidden_in the_block.lines) (assembled text)) is_block_text
      ∙ ap (λ forbidden. asm_by 5 (block_text ds) forbidden (assembled (block_text ds))) block_allowed
      ∙ ap (asm_by 5 (block_text ds) None) (block_words ds is n small reads)
