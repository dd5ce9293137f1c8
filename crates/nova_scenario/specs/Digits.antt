-- The bytes of an executable's block.
use Rattle.std.specs.Prelude.{ℕ, Bool, ◌&&◌, not, is_some, List, [], unwrap_or, Option, Some, None, Result, Ok}
use Rattle.std.specs.List.{find, flat_map, list_all}
use Rattle.std.specs.Result.{result_ok}
use Rattle.hex.specs.Hex.{decode_of}
use Rattle.nova_text.specs.Bytes.{has_forbidden}
use Rattle.nova_text.specs.Line.{Row}
use Rattle.nova_scenario.specs.Fault.{At, at}
use Rattle.nova_scenario.specs.Words.{words_in}
use Rattle.nova_scenario.specs.declared.fault.Why.TheVariants.{Syntax}

-- the bytes that a token writes, if it is an even number of hexadecimal digits of either case
abbrev pub token_bytes : List ℕ → Option (List ℕ)
token_bytes token = result_ok (decode_of token)

abbrev pub is_bytes : List ℕ → Bool
is_bytes token = is_some (token_bytes token)

abbrev pub bytes_in : List ℕ → List ℕ
bytes_in token = unwrap_or (token_bytes token) []

-- whether a line has nothing but such tokens, and the bytes that they write
abbrev pub has_bytes : Row → Bool
has_bytes row = not (has_forbidden row.text) && list_all is_bytes (words_in row)

abbrev pub line_bytes : Row → List ℕ
line_bytes row = flat_map bytes_in (words_in row)

-- the bytes of a block, or the first line that has something else
abbrev pub elf_by : List Row → Option Row → Result (List ℕ) At
elf_by rows None = Ok (flat_map line_bytes rows)
elf_by rows (Some row) = at row.number Syntax

abbrev pub elf_bytes : List Row → Result (List ℕ) At
elf_bytes rows = elf_by rows (find (λ row. not (has_bytes row)) rows)
