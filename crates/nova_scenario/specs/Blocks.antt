-- What the readers of a block answer.
use Rattle.std.specs.Prelude.{◌≡◌, ℕ, ◌++◌, List, Option, Some, None, option_map, Result, Ok, Err, if◌then◌else◌}
use Rattle.std.specs.Str.Parse.{digits_value}
use Rattle.nova_text.specs.Line.{Row}
use Rattle.nova_scenario.specs.Digits.{token_bytes, has_bytes, line_bytes}
use Rattle.nova_scenario.specs.Fault.{At, at}
use Rattle.nova_scenario.specs.Read.{IsFault}
use Rattle.rv_asm.specs.Assembled.{OrMemory}
use Rattle.rv_asm.specs.declared.fault.AsmFault.{AsmFault}
use Rattle.nova_scenario.specs.Words.{asm_by, in_bytes, is_word, has_words, line_words, bytes_of}
use Rattle.nova_scenario.specs.declared.block.Block.{Block}
use Rattle.nova_scenario.specs.declared.fault.Why.TheVariants.{Syntax}
use Rattle.nova_scenario.specs.declared.fault.ScenarioFault.{ScenarioFault}

-- the word of a token
abbrev pub word_of : List ℕ → Option ℕ
word_of token = if is_word token then Some (digits_value 16 token) else None

-- bytes with those of the words of a further line
abbrev pub with_line : List ℕ → Row → Result (List ℕ) At
with_line bytes row = if has_words row then Ok (bytes ++ bytes_of (line_words row)) else at row.number Syntax

-- the bytes of a token of a line, and bytes with those of a further line of an executable
abbrev pub or_syntax : ℕ → Option (List ℕ) → Result (List ℕ) At
or_syntax line None = at line Syntax
or_syntax line (Some bytes) = Ok bytes

abbrev pub token_at : ℕ → List ℕ → Result (List ℕ) At
token_at line token = or_syntax line (token_bytes token)

abbrev pub with_digits : List ℕ → Row → Result (List ℕ) At
with_digits bytes row = if has_bytes row then Ok (bytes ++ line_bytes row) else at row.number Syntax

-- a block has the bytes that are wanted and ends at the number of a line, or is not closed; a fault is that which is wanted
abbrev pub GivesBlock : Result (List ℕ) At → Option Row → Result Block ScenarioFault → Type 0
GivesBlock wanted end (Ok block) = (wanted ≡ Ok block.bytes.items) × (option_map (λ row. row.number) end ≡ block.end)
GivesBlock wanted end (Err fault) = IsFault wanted fault

-- a fault of a block that the assembler refused, whatever it is to answer
abbrev pub IsFaultOfAsm : ℕ → List ℕ → Option ℕ → AsmFault → ScenarioFault → Type 0
IsFaultOfAsm first text forbidden fault result =
    (wanted : Result (List ℕ) AsmFault) → OrMemory wanted fault → IsFault (in_bytes (asm_by first text forbidden wanted)) result
