-- The line of the number: its tokens, and what it means.
use Rattle.std.proofs.Common.{◌≡◌, ℕ, ◌+◌, ◌^◌, ◌<◌, Bool, false, not, List, [], ◌∷◌, ◌++◌, length, map, Some, Ok, refl, ap, ◌∙◌, arith}
use Rattle.std.specs.Prelude.{codes, filter, nat_eq}
use Rattle.std.specs.Char.{digit_value}
use Rattle.std.specs.List.{slice_split, list_any, onto_first, starts_with}
use Rattle.std.specs.Str.Parse.{AllDigits}
use Rattle.std.proofs.lemmas.Bool.Decides.{nat_tests}
use Rattle.rv_model.specs.declared.instr.Operands.{Operands}
use Rattle.nova_text.specs.Bytes.{is_separator, is_comment_sign, is_allowed, before_comment, has_forbidden, has_bytes}
use Rattle.nova_text.specs.Line.{Row}
use Rattle.nova_text.specs.Number.{number, u32_of}
use Rattle.nova_text.specs.Piece.{Piece, piece_at, pieces_from}
use Rattle.nova_text.specs.Token.{tokens}
use Rattle.rv_asm.specs.Syntax.{is_comma, operand_in, operand_of, separated, operands_by, operands_in, Written, written_from, written}
use Rattle.rv_asm.specs.Name.{Item, items_of, no_operands, slots_of}
use Rattle.rv_asm.specs.Operand.{Labels, number_in, sized, is_negative, with_operands}
use Rattle.rv_asm.specs.Program.{items_or_fault, statement_of, line_items}
use Rattle.rv_asm.specs.declared.name.Name.TheVariants.{Short}
use Rattle.rv_asm.specs.declared.name.ShortForm.TheVariants.{Li}
use Rattle.rv_asm.proofs.Parts.{Without, before-none, split_none}
use Rattle.law_bench.proofs.NumberText.{Digits, no_separator, no_comment, no_comma, no_forbidden}
use Rattle.law_bench.proofs.TextLines.{number_line}

-- a byte of a text that none of which passes a test
any_none : (p : ℕ → Bool) (text : List ℕ) → Without p text → list_any p text ≡ false
any_none p [] none = refl
any_none p (b ∷ bs) none = rw none.0 (any_none p bs none.1)

-- the operands in the line, and the instructions that it means
abbrev pub operands_with : ℕ → Operands
operands_with n = record { rd = 8; rs1 = 0; rs2 = 0; imm = n }

abbrev pub number_items : ℕ → List Item
number_items n = items_of (Short Li) (operands_with n)

module _ (ds : List ℕ) (is : Digits ds) where
  uncommented : before_comment (number_line ds) ≡ number_line ds
  uncommented = before-none is_comment_sign (number_line ds) (refl, (refl, (refl, (refl, (refl, (refl, (refl, no_comment ds is)))))))

  abbrev has : Piece → Bool
  has piece = has_bytes piece.text

  -- the tokens from the third on
  abbrev others : ℕ → List Piece
  others start = filter (λ piece. has_bytes piece.text) (pieces_from (start + 2 + 1 + 3 + 1) (slice_split is_separator ds))

  pub number_tokens : (start : ℕ) → tokens start (number_line ds) ≡ piece_at start (codes "li") ∷ piece_at (start + 2 + 1) (codes "x8,") ∷ others start
  unfolding tokens
  number_tokens start = ap (λ t. filter (λ piece. has_bytes piece.text) (pieces_from start (slice_split is_separator t))) uncommented

  pub number_allowed : has_forbidden (number_line ds) ≡ false
  unfolding has_forbidden
  number_allowed = ap (list_any (λ b. not (is_allowed b))) uncommented ∙ any_none (λ b. not (is_allowed b)) ds (no_forbidden ds is)

  -- the line as the first of the block
  abbrev pub first_row : Row
  first_row = record { number = 1; start = 0; text = number_line ds }

  abbrev after_name : Row
  after_name = record { number = 1; start = 2; text = codes " x8, " ++ ds }

  after_uncommented : before_comment (codes " x8, " ++ ds) ≡ codes " x8, " ++ ds
  after_uncommented = before-none is_comment_sign (codes " x8, " ++ ds) (refl, (refl, (refl, (refl, (refl, no_comment ds is)))))

  last_token : (at : ℕ) → tokens at (32 ∷ ds) ≡ piece_at (at + 0 + 1) ds ∷ []
  unfolding tokens
  last_token at = go ds is.some (no_comment ds is) (no_separator ds is) where
    go : (bs : List ℕ) → 0 < length bs → Without is_comment_sign bs → Without is_separator bs → tokens at (32 ∷ bs) ≡ piece_at (at + 0 + 1) bs ∷ []
    go [] some comment separator = absurd (omega arith)
    go (b ∷ bs) some comment separator =
        ap (λ t. filter (λ piece. has_bytes piece.text) (pieces_from at (slice_split is_separator t))) (before-none is_comment_sign (32 ∷ b ∷ bs) (refl, comment))
        ∙ ap (λ ts. filter (λ piece. has_bytes piece.text) (pieces_from at ([] ∷ ts))) (split_none is_separator (b ∷ bs) separator)

  some_tokens : operands_in after_name ≡ separated after_name
  unfolding tokens
  some_tokens = ap (λ t. operands_by after_name (filter (λ piece. has_bytes piece.text) (pieces_from 2 (slice_split is_separator t)))) after_uncommented

  at_comma : slice_split is_comma (codes " x8, " ++ ds) ≡ codes " x8" ∷ (32 ∷ ds) ∷ []
  at_comma = ap (λ parts. codes " x8" ∷ onto_first 32 parts) (split_none is_comma ds (no_comma ds is))

  register_piece : operand_of (piece_at 2 (codes " x8")) ≡ piece_at 3 (codes "x8")
  unfolding tokens
  register_piece = refl

  abbrev pieces : List Piece
  pieces = piece_at 3 (codes "x8") ∷ piece_at 7 ds ∷ []

  number_operands : operands_in after_name ≡ pieces
  number_operands =
      some_tokens
      ∙ ap (λ t. map operand_of (pieces_from 2 (slice_split is_comma t))) after_uncommented
      ∙ ap (λ parts. map operand_of (pieces_from 2 parts)) at_comma
      ∙ ap (λ first. first ∷ operand_of (piece_at 6 (32 ∷ ds)) ∷ []) register_piece
      ∙ ap (λ second. piece_at 3 (codes "x8") ∷ operand_in 6 second ∷ []) (last_token 6)

  abbrev named : List Piece → Written
  named operands = record { name = piece_at 0 (codes "li"); operands = operands }

  number_written : written first_row ≡ Some (named pieces)
  number_written = ap (written_from first_row) (number_tokens 0) ∙ ap (λ operands. Some (named operands)) number_operands

  module _ (n : ℕ) (small : n < 2 ^ 32) (reads : number ds ≡ Some n) where
    unsigned : is_negative 2147483648 ds ≡ false
    unsigned = no_sign ds is.all where
      not_minus : (b : ℕ) → digit_value b < 10 → nat_eq 45 b ≡ false
      not_minus b digit = grind arith

      no_sign : (bs : List ℕ) → AllDigits 10 bs → starts_with nat_eq bs (codes "-") ≡ false
      no_sign [] all = refl
      no_sign (b ∷ bs) all = let other = not_minus b all.0 in grind arith

    number_sized : sized 4294967295 (u32_of (Some n)) ≡ Ok n
    number_sized = let fits : u32_of (Some n) ≡ Ok n = grind (arith, nat_tests) in ap (sized 4294967295) fits ∙ grind (arith, nat_tests)

    number_read : number_in 2147483648 4294967295 ds ≡ Ok n
    number_read = rw unsigned (ap (λ o. sized 4294967295 (u32_of o)) reads ∙ number_sized)

    operands_read : (labels : Labels) (place : ℕ) → with_operands labels place (slots_of (Short Li)) pieces no_operands ≡ Ok (operands_with n)
    operands_read labels place = rw number_read refl

    pub number_means : (labels : Labels) (place : ℕ) → statement_of labels place (written first_row) ≡ Ok (number_items n)
    number_means labels place = ap (statement_of labels place) number_written ∙ ap (items_or_fault (Short Li)) (operands_read labels place)

    pub number_line_items : (labels : Labels) (place : ℕ) → line_items labels place first_row ≡ Ok (number_items n)
    number_line_items labels place = number_means labels place
