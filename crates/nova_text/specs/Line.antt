-- The lines of a text.
use Rattle.std.specs.Prelude.{ℕ, ◌+◌, Bool, true, not, if◌then◌else◌, List, [], ◌∷◌, ◌++◌, length}
use Rattle.std.specs.List.{slice_split, list_any}
use Rattle.nova_text.specs.Bytes.{is_line_feed}
use Rattle.nova_text.specs.Piece.{Piece, piece_at}
use Rattle.nova_text.specs.declared.line.Line.{Line}

-- a line: its number from 1, the place of its first byte in the text, and its bytes without the line feed
pub record Row : Type 0 where
  pub number : ℕ
  pub start : ℕ
  pub text : List ℕ

abbrev pub row_of : Line → Row
row_of line = record { number = line.number; start = line.start; text = line.text.now }

abbrev pub piece_of_row : Row → Piece
piece_of_row row = piece_at row.start row.text

-- each part before a line feed is a line, and what stands after the last line feed is one if it has a byte
abbrev pub last_line : List ℕ → List (List ℕ)
last_line [] = []
last_line (b ∷ bs) = (b ∷ bs) ∷ []

abbrev pub lines_of_parts : List (List ℕ) → List (List ℕ)
lines_of_parts [] = []
lines_of_parts (part ∷ []) = last_line part
lines_of_parts (part ∷ next ∷ parts) = part ∷ lines_of_parts (next ∷ parts)

-- the lines of a text without their line feeds
unfoldable pub line_texts : List ℕ → List (List ℕ)
line_texts bytes = lines_of_parts (slice_split is_line_feed bytes)

-- lines one below another from a number and a place on, each with a line feed after it
abbrev pub rows_from : ℕ → ℕ → List (List ℕ) → List Row
rows_from number start [] = []
rows_from number start (text ∷ texts) =
    record { number = number; start = start; text = text } ∷ rows_from (number + 1) (start + length text + 1) texts

-- the lines of a text, with their numbers from 1 and their places
unfoldable pub lines : List ℕ → List Row
lines bytes = rows_from 1 0 (line_texts bytes)

-- a line with its line feed, and whether a text has none within
abbrev pub with_line_feed : List ℕ → List ℕ
with_line_feed line = line ++ 10 ∷ []

abbrev pub is_one_line : List ℕ → Bool
is_one_line text = not (list_any is_line_feed text)

-- whether a text is empty or ends with a line feed
abbrev pub is_ended : List ℕ → Bool
is_ended [] = true
is_ended (b ∷ []) = is_line_feed b
is_ended (b ∷ c ∷ bs) = is_ended (c ∷ bs)

-- the text with a line feed at its end, unless it is empty
abbrev pub ended_text : List ℕ → List ℕ
ended_text bytes = if is_ended bytes then bytes else with_line_feed bytes
