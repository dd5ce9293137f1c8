-- What a line outside of the blocks says.
use Rattle.std.specs.Prelude.{ℕ, List, [], ◌∷◌, codes, Option, Some, None, option_map, Result, Ok, Err, if◌then◌else◌}
use Rattle.std.specs.List.{find}
use Rattle.std.specs.Option.{option_and_then}
use Rattle.std.specs.Str.{bytes_eq}
use Rattle.nova_text.specs.Bytes.{has_forbidden}
use Rattle.nova_text.specs.Line.{Row}
use Rattle.nova_text.specs.Number.{number, u32_of}
use Rattle.nova_text.specs.Piece.{Piece}
use Rattle.nova_text.specs.Token.{tokens}
use Rattle.nova_text.specs.declared.number.NumberError.{NumberError}
use Rattle.nova_text.specs.declared.number.NumberError.TheVariants.{Malformed, TooLarge}
use Rattle.nova_scenario.specs.declared.fault.Why.{Why}
use Rattle.nova_scenario.specs.declared.fault.Why.TheVariants.{Syntax}
use Rattle.nova_scenario.specs.declared.statement.Keyword.{Keyword}
use Rattle.nova_scenario.specs.declared.statement.Keyword.TheVariants as keyword
use Rattle.nova_scenario.specs.declared.statement.Form.{Form}
use Rattle.nova_scenario.specs.declared.statement.Form.TheVariants.{Hex, Asm, Elf}
use Rattle.nova_scenario.specs.declared.statement.Head.{Head}
use Rattle.nova_scenario.specs.declared.statement.SourceHead.{SourceHead}
use Rattle.nova_scenario.specs.declared.statement.Setting.{Setting}
use Rattle.nova_scenario.specs.declared.statement.Start.{Start}
use Rattle.nova_scenario.specs.declared.statement.Start.TheVariants.{Address, Entry}
use Rattle.nova_scenario.specs.declared.statement.Setting.TheVariants.{Cpus, Ram, Consoles, Root}
use Rattle.nova_scenario.specs.declared.statement.Statement.{Statement}
use Rattle.nova_scenario.specs.declared.statement.Statement.TheVariants.{Sets, Adds, Begins}

-- the keywords
abbrev pub keywords : List Keyword
keywords = keyword.Cpus ∷ keyword.Ram ∷ keyword.Consoles ∷ keyword.Root ∷ keyword.Source ∷ keyword.Image ∷ []

abbrev pub keyword_text : Keyword → List ℕ
keyword_text keyword.Cpus = codes "cpus"
keyword_text keyword.Ram = codes "ram"
keyword_text keyword.Consoles = codes "consoles"
keyword_text keyword.Root = codes "root"
keyword_text keyword.Source = codes "source"
keyword_text keyword.Image = codes "image"

abbrev pub keyword_named : List ℕ → Option Keyword
keyword_named text = find (λ k. bytes_eq (keyword_text k) text) keywords

-- the number of a token, or nothing where it has none. In its place is nothing where it is 2 ^ 32 or more: that is of the form
abbrev pub kept : Result ℕ NumberError → Option (Option ℕ)
kept (Ok n) = Some (Some n)
kept (Err TooLarge) = Some None
kept (Err Malformed) = None

abbrev pub number_of : List ℕ → Option (Option ℕ)
number_of text = kept (u32_of (number text))

-- the form of an image's block
abbrev pub form_of : List ℕ → Option Form
form_of text =
    if bytes_eq text (codes "hex") then Some Hex
    else (if bytes_eq text (codes "asm") then Some Asm
    else (if bytes_eq text (codes "elf") then Some Elf
    else None))

-- the operands of a line: a number
abbrev pub one_number : List Piece → Option (Option ℕ)
one_number (n ∷ []) = number_of n.text
one_number _ = None

-- where the first thread starts: PC, or `entry`
abbrev pub start_of : List ℕ → Option Start
start_of text = if bytes_eq text (codes "entry") then Some Entry else option_map Address (number_of text)

-- PC SP PRIORITY QUANTUM, or entry SP PRIORITY QUANTUM
abbrev pub root_of : Option Start → Option (Option ℕ) → Option (Option ℕ) → Option (Option ℕ) → Option Setting
root_of (Some start) (Some sp) (Some priority) (Some quantum) = Some (Root start sp priority quantum)
root_of _ _ _ _ = None

abbrev pub start_and_numbers : List Piece → Option Setting
start_and_numbers (start ∷ sp ∷ priority ∷ quantum ∷ []) = root_of (start_of start.text) (number_of sp.text) (number_of priority.text) (number_of quantum.text)
start_and_numbers _ = None

-- CPU FIRST PERIOD COUNT
abbrev pub source_head : Option (Option ℕ) → Option (Option ℕ) → Option (Option ℕ) → Option (Option ℕ) → Option SourceHead
source_head (Some cpu) (Some first) (Some period) (Some count) = Some (record { cpu = cpu; first = first; period = period; count = count })
source_head _ _ _ _ = None

abbrev pub four_numbers : List Piece → Option SourceHead
four_numbers (cpu ∷ first ∷ period ∷ count ∷ []) = source_head (number_of cpu.text) (number_of first.text) (number_of period.text) (number_of count.text)
four_numbers _ = None

-- ADDRESS hex, ADDRESS asm, or ADDRESS elf
abbrev pub head_of : Option (Option ℕ) → Option Form → Option Head
head_of (Some address) (Some form) = Some (record { address = address; form = form })
head_of _ _ = None

abbrev pub address_and_form : List Piece → Option Head
address_and_form (address ∷ form ∷ []) = head_of (number_of address.text) (form_of form.text)
address_and_form _ = None

-- the operands that each keyword has
abbrev pub statement_of : List Piece → Keyword → Option Statement
statement_of operands keyword.Cpus = option_map (λ n. Sets (Cpus n)) (one_number operands)
statement_of operands keyword.Ram = option_map (λ n. Sets (Ram n)) (one_number operands)
statement_of operands keyword.Consoles = option_map (λ n. Sets (Consoles n)) (one_number operands)
statement_of operands keyword.Root = option_map Sets (start_and_numbers operands)
statement_of operands keyword.Source = option_map Adds (four_numbers operands)
statement_of operands keyword.Image = option_map Begins (address_and_form operands)

-- what a line says, or nothing where it is blank; Syntax where it is not of the form
abbrev pub said_by : Option Statement → Result (Option Statement) Why
said_by None = Err Syntax
said_by (Some statement) = Ok (Some statement)

abbrev pub said_in : List Piece → Result (Option Statement) Why
said_in [] = Ok None
said_in (first ∷ operands) = said_by (option_and_then (statement_of operands) (keyword_named first.text))

abbrev pub said : Row → Result (Option Statement) Why
said row = if has_forbidden row.text then Err Syntax else said_in (tokens row.start row.text)
