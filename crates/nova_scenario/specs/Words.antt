-- The words of an image's block.
use Rattle.std.specs.Prelude.{ℕ, ◌+◌, Bool, ◌&&◌, not, nat_eq, nat_le, List, take, length, map, Option, Some, None, option_map, Result, Ok, Err, if◌then◌else◌}
use Rattle.std.specs.Int.{w32, to_le_bytes}
use Rattle.std.specs.List.{find, flat_map, list_all, count_by, slice_range}
use Rattle.std.specs.Str.Parse.{digits_value}
use Rattle.nova_text.specs.Bytes.{has_forbidden, is_line_feed}
use Rattle.nova_text.specs.Line.{Row}
use Rattle.nova_text.specs.Number.{is_numeral}
use Rattle.nova_text.specs.Token.{tokens, texts_of}
use Rattle.rv_asm.specs.Program.{assembled}
use Rattle.rv_asm.specs.declared.fault.AsmFault.{AsmFault}
use Rattle.rv_asm.specs.declared.fault.AsmFault.TheVariants.{UnknownName, BadOperand, OutOfRange, TwiceLabel, NoLabel, Memory}
use Rattle.nova_scenario.specs.Fault.{At, at}
use Rattle.nova_scenario.specs.Items.{Block}
use Rattle.nova_scenario.specs.declared.fault.Why.TheVariants.{Syntax, Asm}

-- a word is exactly eight hexadecimal digits
abbrev pub is_word : List ℕ → Bool
is_word token = nat_eq (length token) 8 && is_numeral 16 token

abbrev pub words_in : Row → List (List ℕ)
words_in row = texts_of (tokens row.start row.text)

-- whether a line has nothing but words, and those that it has
abbrev pub has_words : Row → Bool
has_words row = not (has_forbidden row.text) && list_all is_word (words_in row)

abbrev pub line_words : Row → List ℕ
line_words row = map (digits_value 16) (words_in row)

-- the words of a hex block, or the first line that has something else
abbrev pub hex_by : List Row → Option Row → Result (List ℕ) At
hex_by rows None = Ok (flat_map line_words rows)
hex_by rows (Some row) = at row.number Syntax

abbrev pub hex_words : List Row → Result (List ℕ) At
hex_words rows = hex_by rows (find (λ row. not (has_words row)) rows)

-- the text of an asm block: from the line after its first up to its line `end`, or up to the end of the bytes
abbrev pub place_after : Row → ℕ
place_after row = row.start + length row.text + 1

abbrev pub place_of_end : ℕ → Option Row → ℕ
place_of_end len None = len
place_of_end len (Some row) = row.start

abbrev pub text_of : List ℕ → Block → List ℕ
text_of bytes block = slice_range bytes (place_after block.first) (place_of_end (length bytes) block.end)

-- the number of the first line with a forbidden byte
abbrev pub forbidden_in : List Row → Option ℕ
forbidden_in rows = option_map (λ row. row.number) (find (λ row. has_forbidden row.text) rows)

-- where a fault of the assembler begins in its text
abbrev pub place_of : AsmFault → ℕ
place_of (UnknownName span) = span.start
place_of (BadOperand span) = span.start
place_of (OutOfRange span) = span.start
place_of (TwiceLabel span) = span.start
place_of (NoLabel span) = span.start
place_of Memory = 0

-- the number of the line with a place of the text: a line feed ends each line before it
abbrev pub line_of : ℕ → List ℕ → ℕ → ℕ
line_of first text place = first + 1 + count_by is_line_feed (take place text)

-- the fault of least line; on one line a forbidden byte comes before a fault of the assembler
abbrev pub lesser : Option ℕ → ℕ → AsmFault → Result (List ℕ) At
lesser None line fault = at line (Asm fault)
lesser (Some number) line fault = if nat_le number line then at number Syntax else at line (Asm fault)

abbrev pub asm_by : ℕ → List ℕ → Option ℕ → Result (List ℕ) AsmFault → Result (List ℕ) At
asm_by first text None (Ok words) = Ok words
asm_by first text (Some number) (Ok words) = at number Syntax
asm_by first text forbidden (Err fault) = lesser forbidden (line_of first text (place_of fault)) fault

-- the words of an asm block, or its first line at fault
abbrev pub asm_words : List ℕ → Block → Result (List ℕ) At
asm_words bytes block = let text = text_of bytes block in asm_by block.first.number text (forbidden_in block.lines) (assembled text)

-- words as bytes, of each the lowest first
abbrev pub bytes_of : List ℕ → List ℕ
bytes_of words = flat_map (to_le_bytes w32) words

abbrev pub in_bytes : Result (List ℕ) At → Result (List ℕ) At
in_bytes (Ok words) = Ok (bytes_of words)
in_bytes (Err fault) = Err fault
