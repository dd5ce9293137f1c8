-- The lines of a bench's text.
use Rattle.std.proofs.Common.{◌≡◌, ℕ, List, [], ◌∷◌, ◌++◌, refl, ap, sym, ◌∙◌, append_assoc}
use Rattle.std.specs.Prelude.{codes}
use Rattle.std.specs.Fmt.{decimal}
use Rattle.std.specs.List.{slice_split, onto_first}
use Rattle.nova_text.specs.Bytes.{is_line_feed}
use Rattle.nova_text.specs.Line.{lines_of_parts, line_texts}
use Rattle.nova_gen.specs.Generated.{settings, count_line, passes, revoke, generated}
use Rattle.rv_asm.proofs.Parts.{Without, split_past}

-- the lines of the settings, that of the number, those of the passes and of the revoke
abbrev pub setting_lines : List (List ℕ) → List (List ℕ)
setting_lines more = codes "cpus 1" ∷ codes "ram 1" ∷ codes "consoles 0" ∷ codes "root 0 0 1 10" ∷ codes "image 0 asm" ∷ more

abbrev pub number_line : List ℕ → List ℕ
number_line ds = codes "li x8, " ++ ds

abbrev pub code_lines : List (List ℕ) → List (List ℕ)
code_lines more =
    codes "addi x9, x0, 64" ∷ codes "loop:" ∷ codes "addi x17, x0, 2" ∷ codes "addi x10, x9, 0" ∷ codes "addi x12, x0, 5" ∷ codes "ecall" ∷ codes "addi x9, x9, 1" ∷ codes "addi x8, x8, -1" ∷ codes "bne x8, x0, loop" ∷ codes "addi x17, x0, 7" ∷ codes "addi x10, x0, 1" ∷ codes "ecall" ∷ codes "ebreak" ∷ more

-- the code after the line of the number, as it stands in the text
abbrev pub code : List ℕ
code = codes "addi x9, x0, 64\nloop:\naddi x17, x0, 2\naddi x10, x9, 0\naddi x12, x0, 5\necall\naddi x9, x9, 1\naddi x8, x8, -1\nbne x8, x0, loop\naddi x17, x0, 7\naddi x10, x0, 1\necall\nebreak\n"

-- the text of the image's block, and the whole with digits in the place of the number
abbrev pub block_text : List ℕ → List ℕ
block_text ds = codes "li x8, " ++ (ds ++ 10 ∷ code)

abbrev pub whole_text : List ℕ → List ℕ
whole_text ds = settings ++ (block_text ds ++ codes "end\n")

-- the parts after the line of the number stand after its digits
onto_name : List (List ℕ) → List (List ℕ)
onto_name parts = onto_first 108 (onto_first 105 (onto_first 32 (onto_first 120 (onto_first 56 (onto_first 44 (onto_first 32 parts))))))

module _ (ds : List ℕ) (none : Without is_line_feed ds) where
  after_digits : (rest : List ℕ) → slice_split is_line_feed (ds ++ 10 ∷ rest) ≡ ds ∷ slice_split is_line_feed rest
  after_digits rest = split_past is_line_feed ds (10 ∷ rest) (slice_split is_line_feed rest) none refl

  pub block_lines : line_texts (block_text ds) ≡ number_line ds ∷ code_lines []
  unfolding line_texts onto_name
  block_lines = ap (λ parts. lines_of_parts (onto_name parts)) (after_digits code)

  pub text_lines : line_texts (whole_text ds) ≡ setting_lines (number_line ds ∷ code_lines (codes "end" ∷ []))
  unfolding settings line_texts onto_name
  text_lines =
      ap (λ t. line_texts (settings ++ (codes "li x8, " ++ t))) (append_assoc ds (10 ∷ code) (codes "end\n"))
      ∙ ap (λ parts. lines_of_parts (setting_lines (onto_name parts))) (after_digits (code ++ codes "end\n"))

-- what is generated
same_text : (ds : List ℕ) → settings ++ ((codes "li x8, " ++ (ds ++ 10 ∷ [])) ++ (passes ++ revoke)) ≡ whole_text ds
unfolding passes revoke
same_text ds = ap (λ t. settings ++ (codes "li x8, " ++ t)) (append_assoc ds (10 ∷ []) (code ++ codes "end\n") ∙ sym (append_assoc ds (10 ∷ code) (codes "end\n")))

pub generated_text : (number : ℕ) → generated number ≡ whole_text (decimal number)
unfolding count_line
generated_text number = same_text (decimal number)
