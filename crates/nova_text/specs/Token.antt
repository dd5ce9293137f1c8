-- The tokens of a line.
use Rattle.std.specs.Prelude.{ℕ, ◌-◌, List, map, drop, filter, Option, Some, None}
use Rattle.std.specs.List.{slice_split}
use Rattle.nova_text.specs.Bytes.{is_separator, before_comment, has_bytes}
use Rattle.nova_text.specs.Line.{Row}
use Rattle.nova_text.specs.Piece.{Piece, pieces_from}
use Rattle.nova_text.specs.declared.line.Token.{Token}
use Rattle.nova_text.specs.declared.line.Line.{Line}

abbrev pub piece_of : Token → Piece
piece_of token = record { text = token.text.now; span = token.span }

-- the tokens of a line that begins at a place: what stands between separators before the comment
unfoldable pub tokens : ℕ → List ℕ → List Piece
tokens start line = filter (λ piece. has_bytes piece.text) (pieces_from start (slice_split is_separator (before_comment line)))

-- the texts of pieces, where their places do not matter
abbrev pub texts_of : List Piece → List (List ℕ)
texts_of pieces = map (λ piece. piece.text) pieces

-- the tokens that are left in a line
abbrev pub tokens_left : Line → List Piece
tokens_left line = tokens line.start line.text.now

-- what is left of a line after the token that was taken off it, or the line as it was where none was
abbrev pub row_after : Option Piece → Row → Row
row_after None row = row
row_after (Some piece) row = record row { start = piece.span.end; text = drop (piece.span.end - row.start) row.text }
