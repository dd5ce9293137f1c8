-- An operand: the register, number, address or target that its text writes, or what is wrong with it.
use Rattle.std.specs.Prelude.{ℕ, ◌-◌, ◌*◌, ◌%◌, ◌==◌, ◌^◌, Bool, true, false, ◌&&◌, List, [], ◌∷◌, ◌++◌, find, take, drop, nat_eq, nat_lt, nat_le, codes, Option, Some, None, Result, Ok, Err, if◌then◌else◌}
use Rattle.std.specs.List.{starts_with, position_or_len}
use Rattle.std.specs.Option.{option_or}
use Rattle.std.specs.Str.{bytes_eq}
use Rattle.rv_model.specs.Words.{minus}
use Rattle.rv_model.specs.declared.instr.Operands.{Operands}
use Rattle.nova_text.specs.Number.{number, u32_of}
use Rattle.nova_text.specs.Piece.{Piece}
use Rattle.nova_text.specs.declared.number.NumberError.{NumberError}
use Rattle.nova_text.specs.declared.number.NumberError.TheVariants.{Malformed, TooLarge}
use Rattle.nova_text.specs.declared.span.Span.{Span}
use Rattle.rv_asm.specs.Register.{number_named}
use Rattle.rv_asm.specs.Syntax.{is_name}
use Rattle.rv_asm.specs.declared.fault.AsmFault.{AsmFault}
use Rattle.rv_asm.specs.declared.fault.AsmFault.TheVariants as fault
use Rattle.rv_asm.specs.declared.fault.OperandFault.{OperandFault}
use Rattle.rv_asm.specs.declared.fault.OperandFault.TheVariants.{Bad, NoLabel, OutOfRange}
use Rattle.rv_asm.specs.declared.fault.FaultyOperand.{FaultyOperand}
use Rattle.rv_asm.specs.declared.label.Label.{Label}
use Rattle.rv_asm.specs.declared.slot.Slot.{Slot}
use Rattle.rv_asm.specs.declared.slot.Slot.TheVariants.{Rd, Rs1, Rs2, Number, Upper, Address, Target}

-- the fault of an operand at a span
abbrev pub fault_at : Span → OperandFault → AsmFault
fault_at span Bad = fault.BadOperand span
fault_at span NoLabel = fault.NoLabel span
fault_at span OutOfRange = fault.OutOfRange span

-- a number that is at most a limit
abbrev pub limited : ℕ → ℕ → Result ℕ OperandFault
limited limit n = if nat_le n limit then Ok n else Err OutOfRange

-- the number that a text writes, where it is at most a limit
abbrev pub sized : ℕ → Result ℕ NumberError → Result ℕ OperandFault
sized limit (Ok n) = limited limit n
sized limit (Err Malformed) = Err Bad
sized limit (Err TooLarge) = Err OutOfRange

-- a number below zero as a word
abbrev pub negated : Result ℕ OperandFault → Result ℕ OperandFault
negated (Ok n) = Ok (minus 0 n)
negated (Err why) = Err why

-- a sign may stand in front where negative numbers are in the range
abbrev pub is_negative : ℕ → List ℕ → Bool
is_negative low text = nat_lt 0 low && starts_with nat_eq text (codes "-")

-- the number that a text writes, from -low to high, as a word
abbrev pub number_in : ℕ → ℕ → List ℕ → Result ℕ OperandFault
number_in low high text = if is_negative low text then negated (sized low (u32_of (number (drop 1 text)))) else sized high (u32_of (number text))

-- the upper twenty bits of a word
abbrev pub shifted : Result ℕ OperandFault → Result ℕ OperandFault
shifted (Ok n) = Ok (n * 2 ^ 12)
shifted (Err why) = Err why

-- an offset is even; an odd offset is no target, whatever its size
abbrev pub is_odd : Option ℕ → Bool
is_odd None = false
is_odd (Some n) = n % 2 == 1

abbrev pub unsigned : ℕ → List ℕ → List ℕ
unsigned low text = if is_negative low text then drop 1 text else text

abbrev pub offset_in : ℕ → ℕ → List ℕ → Result ℕ OperandFault
offset_in low high text = if is_odd (number (unsigned low text)) then Err Bad else number_in low high text

-- from one place in words to another, four bytes a word
abbrev pub offset_to : ℕ → ℕ → ℕ → ℕ → Result ℕ OperandFault
offset_to low high from to = if nat_lt to from then negated (limited low (4 * (from - to))) else limited high (4 * (to - from))

abbrev pub to_label : ℕ → ℕ → ℕ → Option Label → Result ℕ OperandFault
to_label low high from None = Err NoLabel
to_label low high from (Some label) = offset_to low high from label.place

-- where each label stands, or nothing
abbrev pub Labels : Type 0
Labels = List ℕ → Option Label

-- a target: a label, or an offset from the instruction's own address
abbrev pub target_in : ℕ → ℕ → Labels → ℕ → List ℕ → Result ℕ OperandFault
target_in low high labels from text = if is_name text then to_label low high from (labels text) else offset_in low high text

-- the operands with one more in its place, or what is wrong with it
abbrev pub with_rd : Operands → Option ℕ → Result Operands OperandFault
with_rd o None = Err Bad
with_rd o (Some r) = Ok (record o { rd = r })

abbrev pub with_rs1 : Operands → Option ℕ → Result Operands OperandFault
with_rs1 o None = Err Bad
with_rs1 o (Some r) = Ok (record o { rs1 = r })

abbrev pub with_rs2 : Operands → Option ℕ → Result Operands OperandFault
with_rs2 o None = Err Bad
with_rs2 o (Some r) = Ok (record o { rs2 = r })

abbrev pub with_imm : Operands → Result ℕ OperandFault → Result Operands OperandFault
with_imm o (Err why) = Err why
with_imm o (Ok n) = Ok (record o { imm = n })

-- an address is a number and then a register in brackets
abbrev pub is_opening : ℕ → Bool
is_opening b = b == 40

abbrev pub is_closing : ℕ → Bool
is_closing b = b == 41

abbrev pub with_base : Operands → Option ℕ → Result ℕ OperandFault → Result Operands OperandFault
with_base o None imm = Err Bad
with_base o (Some r) (Err why) = Err why
with_base o (Some r) (Ok n) = Ok (record o { rs1 = r; imm = n })

abbrev pub base_in : Operands → Result ℕ OperandFault → List ℕ → ℕ → Result Operands OperandFault
base_in o imm inner n = if bytes_eq (drop n inner) (codes ")") then with_base o (number_named (take n inner)) imm else Err Bad

abbrev pub address_at : Operands → List ℕ → ℕ → Result Operands OperandFault
address_at o text n =
    let inner = drop 1 (drop n text) in
    if starts_with nat_eq (drop n text) (codes "(") then base_in o (number_in 2048 2047 (take n text)) inner (position_or_len is_closing inner) else Err Bad

abbrev pub address_in : Operands → List ℕ → Result Operands OperandFault
address_in o text = address_at o text (position_or_len is_opening text)

-- the operands with that of a text in its place; labels and the place of the line tell what a target is
abbrev pub with_operand : Labels → ℕ → Slot → List ℕ → Operands → Result Operands OperandFault
with_operand labels from Rd text o = with_rd o (number_named text)
with_operand labels from Rs1 text o = with_rs1 o (number_named text)
with_operand labels from Rs2 text o = with_rs2 o (number_named text)
with_operand labels from (Number low high) text o = with_imm o (number_in low high text)
with_operand labels from Upper text o = with_imm o (shifted (number_in 0 1048575 text))
with_operand labels from Address text o = address_in o text
with_operand labels from (Target low high) text o = with_imm o (target_in low high labels from text)

-- an operand in its place, or its fault; one at fault leaves the others as they are
abbrev pub placed : Operands → Result Operands OperandFault → Operands
placed o (Ok more) = more
placed o (Err why) = o

abbrev pub fault_in : Span → Result Operands OperandFault → List FaultyOperand
fault_in span (Ok more) = []
fault_in span (Err why) = record { why = why; span = span } ∷ []

-- all operands in their places, and their faults in order
abbrev pub all_placed : Labels → ℕ → List Slot → List Piece → Operands → Operands
all_placed labels from [] pieces o = o
all_placed labels from (slot ∷ slots) [] o = o
all_placed labels from (slot ∷ slots) (piece ∷ pieces) o = all_placed labels from slots pieces (placed o (with_operand labels from slot piece.text o))

abbrev pub faults_in : Labels → ℕ → List Slot → List Piece → Operands → List FaultyOperand
faults_in labels from [] pieces o = []
faults_in labels from (slot ∷ slots) [] o = []
faults_in labels from (slot ∷ slots) (piece ∷ pieces) o =
    fault_in piece.span (with_operand labels from slot piece.text o) ++ faults_in labels from slots pieces (placed o (with_operand labels from slot piece.text o))

-- of several faults the first bad operand counts, else the first whose label is not there, else the first out of range
abbrev pub is_bad : OperandFault → Bool
is_bad Bad = true
is_bad NoLabel = false
is_bad OutOfRange = false

abbrev pub lacks_label : OperandFault → Bool
lacks_label Bad = false
lacks_label NoLabel = true
lacks_label OutOfRange = false

abbrev pub is_outside : OperandFault → Bool
is_outside Bad = false
is_outside NoLabel = false
is_outside OutOfRange = true

abbrev pub first_of : (OperandFault → Bool) → List FaultyOperand → Option FaultyOperand
first_of p faults = find (λ faulty. p faulty.why) faults

abbrev pub first_fault : List FaultyOperand → Option FaultyOperand
first_fault faults = option_or (first_of is_bad faults) (option_or (first_of lacks_label faults) (first_of is_outside faults))

abbrev pub unless_faulty : Operands → Option FaultyOperand → Result Operands FaultyOperand
unless_faulty o None = Ok o
unless_faulty o (Some faulty) = Err faulty

abbrev pub with_operands : Labels → ℕ → List Slot → List Piece → Operands → Result Operands FaultyOperand
with_operands labels from slots pieces o = unless_faulty (all_placed labels from slots pieces o) (first_fault (faults_in labels from slots pieces o))

-- which of two faults counts: the first, unless that of the operands after it is graver
abbrev pub is_graver : OperandFault → OperandFault → Bool
is_graver Bad Bad = false
is_graver Bad NoLabel = true
is_graver Bad OutOfRange = true
is_graver NoLabel Bad = false
is_graver NoLabel NoLabel = false
is_graver NoLabel OutOfRange = true
is_graver OutOfRange Bad = false
is_graver OutOfRange NoLabel = false
is_graver OutOfRange OutOfRange = false

abbrev pub gravest : FaultyOperand → Result Operands FaultyOperand → FaultyOperand
gravest first (Ok o) = first
gravest first (Err second) = if is_graver second.why first.why then second else first
