-- The parts of a line as the program has them.
use Rattle.std.specs.Prelude.{ℕ, ◌+◌, List, [], length, map, Option, Some, None, option_map}
use Rattle.std.specs.List.{slice_split}
use Rattle.nova_text.specs.Line.{Row, row_of}
use Rattle.nova_text.specs.Piece.{Piece, pieces_from}
use Rattle.nova_text.specs.Token.{piece_of}
use Rattle.nova_text.specs.declared.line.Line.{Line}
use Rattle.nova_text.specs.declared.line.Token.{Token}
use Rattle.rv_asm.specs.Syntax.{Labelled, Written as WrittenParts, is_comma}
use Rattle.rv_asm.specs.declared.syntax.Operand.{Operand}
use Rattle.rv_asm.specs.declared.syntax.Written.{Written}

abbrev pub label_seen : Token × Line → Piece × Row
label_seen p = (piece_of p.0, row_of p.1)

abbrev pub labelled_of : Option Token → Line → Labelled
labelled_of label rest = record { label = option_map piece_of label; rest = row_of rest }

abbrev pub operand_seen : Operand → Piece
operand_seen operand = record { text = operand.text.now; span = operand.span }

abbrev pub written_of : Written → WrittenParts
written_of w = record { name = piece_of w.name; operands = map operand_seen w.operands.items }

-- what is left to cut at commas: its parts, and how long it is
abbrev pub parts_left : Option Row → List Piece
parts_left None = []
parts_left (Some row) = pieces_from row.start (slice_split is_comma row.text)

abbrev pub left_len : Option Row → ℕ
left_len None = 0
left_len (Some row) = length row.text + 1
