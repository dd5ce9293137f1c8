-- Pieces of a text, with their places in it.
use Rattle.std.specs.Prelude.{◌≡◌, ℕ, ◌+◌, ◌≤◌, List, [], ◌∷◌, length}
use Rattle.std.specs.List.{slice_range}
use Rattle.nova_text.specs.declared.span.Span.{Span}

-- bytes of a text, and the places from the first of them to after the last
pub record Piece : Type 0 where
  pub text : List ℕ
  pub span : Span

-- the piece whose bytes begin at a place
abbrev pub piece_at : ℕ → List ℕ → Piece
piece_at start text = record { text = text; span = record { start = start; end = start + length text } }

-- parts that stand one after another from a place on, with one byte between each and the next
abbrev pub pieces_from : ℕ → List (List ℕ) → List Piece
pieces_from at [] = []
pieces_from at (part ∷ parts) = piece_at at part ∷ pieces_from (at + length part + 1) parts

-- the piece is what stands in the text at its span
pub record IsSliceOf (bytes : List ℕ) (piece : Piece) : Type 0 where
  pub ordered : piece.span.start ≤ piece.span.end
  pub within : piece.span.end ≤ length bytes
  pub same : piece.text ≡ slice_range bytes piece.span.start piece.span.end

-- the pieces are slices of the text, one after another from a place on up to another
abbrev pub AreSlicesBetween : List ℕ → ℕ → ℕ → List Piece → Type 0
AreSlicesBetween bytes at end [] = at ≤ end
AreSlicesBetween bytes at end (piece ∷ pieces) =
    (at ≤ piece.span.start) × IsSliceOf bytes piece × AreSlicesBetween bytes piece.span.end end pieces
