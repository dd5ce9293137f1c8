-- The lines of a text have the numbers from 1 on.
use Rattle.std.proofs.Common.{◌≡◌, ℕ, ◌+◌, List, [], ◌∷◌, length, refl}
use Rattle.nova_text.specs.Line.{Row, rows_from, line_texts, lines}

abbrev pub AreNumberedFrom : ℕ → List Row → Type 0
AreNumberedFrom number [] = Unit {0}
AreNumberedFrom number (row ∷ rows) = (row.number ≡ number) × AreNumberedFrom (number + 1) rows

rows_are_numbered : (number start : ℕ) (texts : List (List ℕ)) → AreNumberedFrom number (rows_from number start texts)
rows_are_numbered number start [] = tt
rows_are_numbered number start (text ∷ texts) = (refl, rows_are_numbered (number + 1) (start + length text + 1) texts)

pub lines_are_numbered : (bytes : List ℕ) → AreNumberedFrom 1 (lines bytes)
unfolding lines
lines_are_numbered bytes = rows_are_numbered 1 0 (line_texts bytes)
