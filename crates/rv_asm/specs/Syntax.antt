-- The parts of a line: its label, the name of its instruction, and the operands.
use Rattle.std.specs.Prelude.{ℕ, ◌+◌, ◌==◌, Bool, false, not, ◌&&◌, ◌||◌, List, [], ◌∷◌, take, drop, map, codes, nat_eq, Option, Some, None, if◌then◌else◌}
use Rattle.std.specs.Char.{is_ascii_alphabetic, is_ascii_alphanumeric}
use Rattle.std.specs.List.{list_all, starts_with, position_or_len, slice_split}
use Rattle.nova_text.specs.Bytes.{is_separator, before_comment}
use Rattle.nova_text.specs.Line.{Row}
use Rattle.nova_text.specs.Piece.{Piece, pieces_from}
use Rattle.nova_text.specs.Token.{tokens, row_after}

-- a name is a letter or `_`, and then letters, digits and `_`
abbrev pub begins_name : ℕ → Bool
begins_name b = is_ascii_alphabetic b || b == 95

abbrev pub continues_name : ℕ → Bool
continues_name b = is_ascii_alphanumeric b || b == 95

abbrev pub is_name : List ℕ → Bool
is_name [] = false
is_name (b ∷ bs) = begins_name b && list_all continues_name bs

abbrev pub is_colon : ℕ → Bool
is_colon b = b == 58

abbrev pub is_comma : ℕ → Bool
is_comma b = b == 44

-- how many separators stand in front, and the row after a number of bytes
abbrev pub gap : List ℕ → ℕ
gap bs = position_or_len (λ b. not (is_separator b)) bs

abbrev pub skipped : ℕ → Row → Row
skipped n row = record row { start = row.start + n; text = drop n row.text }

-- how many bytes in front may stand in a name
abbrev pub name_len : List ℕ → ℕ
name_len bs = position_or_len (λ b. not (continues_name b)) bs

-- the first n bytes of a row
abbrev pub front : ℕ → Row → Piece
front n row = record { text = take n row.text; span = record { start = row.start; end = row.start + n } }

-- a label in front of a row, without its colon, and what stands after it: a name with a colon right after
abbrev pub after_colon : ℕ → Row → Row
after_colon n row = record row { start = row.start + n + 1; text = drop 1 (drop n row.text) }

abbrev pub label_at : Row → ℕ → Option (Piece × Row)
label_at row n = if is_name (take n row.text) then (if starts_with nat_eq (drop n row.text) (codes ":") then Some (front n row, after_colon n row) else None) else None

-- a line's label, and what stands after it
pub record Labelled : Type 0 where
  pub label : Option Piece
  pub rest : Row

abbrev pub labelled_by : Row → Option (Piece × Row) → Labelled
labelled_by row None = record { label = None; rest = row }
labelled_by row (Some p) = record { label = Some p.0; rest = p.1 }

abbrev pub without_gap : Row → Row
without_gap row = skipped (gap row.text) row

abbrev pub label_in : Row → Option (Piece × Row)
label_in row = label_at row (name_len row.text)

abbrev pub labelled : Row → Labelled
labelled row = labelled_by row (label_in (without_gap row))

-- an operand, without the separators around it; what has separators within is no operand of any form, and has no text
abbrev pub last_end : ℕ → List Piece → ℕ
last_end end [] = end
last_end end (t ∷ ts) = last_end t.span.end ts

abbrev pub operand_in : ℕ → List Piece → Piece
operand_in start [] = record { text = []; span = record { start = start; end = start } }
operand_in start (t ∷ []) = t
operand_in start (t ∷ u ∷ ts) = record { text = []; span = record { start = t.span.start; end = last_end u.span.end ts } }

abbrev pub operand_of : Piece → Piece
operand_of part = operand_in part.span.start (tokens part.span.start part.text)

-- the operands in a row: none where no token is left, or else what stands between commas
abbrev pub separated : Row → List Piece
separated row = map operand_of (pieces_from row.start (slice_split is_comma (before_comment row.text)))

abbrev pub operands_by : Row → List Piece → List Piece
operands_by row [] = []
operands_by row (t ∷ ts) = separated row

abbrev pub operands_in : Row → List Piece
operands_in row = operands_by row (tokens row.start row.text)

-- what a row holds after its label: nothing, or a name and operands
pub record Written : Type 0 where
  pub name : Piece
  pub operands : List Piece

abbrev pub written_from : Row → List Piece → Option Written
written_from row [] = None
written_from row (t ∷ ts) = Some (record { name = t; operands = operands_in (row_after (Some t) row) })

abbrev pub written : Row → Option Written
written row = written_from row (tokens row.start row.text)
