-- The program that a text is: the instructions and numbers of its lines, or its first fault.
use Rattle.std.specs.Prelude.{ℕ, ◌+◌, Bool, false, ◌||◌, is_some, List, [], ◌∷◌, ◌++◌, length, map, find, option_map, nat_eq, nat_lt, Option, Some, None, Result, Ok, Err, if◌then◌else◌}
use Rattle.std.specs.List.{list_any, before_first}
use Rattle.std.specs.Map.{update}
use Rattle.std.specs.Str.{bytes_eq}
use Rattle.rv_model.specs.declared.instr.Operands.{Operands}
use Rattle.nova_text.specs.Line.{Row, lines}
use Rattle.nova_text.specs.Piece.{Piece}
use Rattle.nova_text.specs.declared.span.Span.{Span}
use Rattle.rv_asm.specs.Syntax.{labelled, Written, written}
use Rattle.rv_asm.specs.Name.{Item, item_word, items_of, name_of, slots_of, given}
use Rattle.rv_asm.specs.Operand.{Labels, fault_at, with_operands}
use Rattle.rv_asm.specs.declared.fault.AsmFault.{AsmFault}
use Rattle.rv_asm.specs.declared.fault.AsmFault.TheVariants.{UnknownName, BadOperand, TwiceLabel}
use Rattle.rv_asm.specs.declared.fault.FaultyOperand.{FaultyOperand}
use Rattle.rv_asm.specs.declared.label.Label.{Label}
use Rattle.rv_asm.specs.declared.name.Name.{Name}

-- what a name and its operands mean
abbrev pub items_or_fault : Name → Result Operands FaultyOperand → Result (List Item) AsmFault
items_or_fault name (Ok o) = Ok (items_of name o)
items_or_fault name (Err faulty) = Err (fault_at faulty.span faulty.why)

abbrev pub statement : Labels → ℕ → Written → Option Name → Result (List Item) AsmFault
statement labels place w None = Err (UnknownName w.name.span)
statement labels place w (Some name) =
    if nat_eq (length w.operands) (length (slots_of name)) then items_or_fault name (with_operands labels place (slots_of name) w.operands (given name)) else Err (BadOperand w.name.span)

abbrev pub statement_of : Labels → ℕ → Option Written → Result (List Item) AsmFault
statement_of labels place None = Ok []
statement_of labels place (Some w) = statement labels place w (name_of w.name.text)

-- whether a label stands on a line before line `number`, and the span of a label with its colon
abbrev pub is_earlier : ℕ → Option Label → Bool
is_earlier number None = false
is_earlier number (Some label) = nat_lt label.line number

abbrev pub with_colon : Span → Span
with_colon span = record { start = span.start; end = span.end + 1 }

abbrev pub after_label : Labels → ℕ → Option Piece → Result (List Item) AsmFault → Result (List Item) AsmFault
after_label labels number None rest = rest
after_label labels number (Some piece) rest = if is_earlier number (labels piece.text) then Err (TwiceLabel (with_colon piece.span)) else rest

-- what a line means, before which `place` words stand
abbrev pub line_items : Labels → ℕ → Row → Result (List Item) AsmFault
line_items labels place row =
    let parts = labelled row in after_label labels row.number parts.label (statement_of labels place (written parts.rest))

-- how many words a line has: at fault it counts as one
abbrev pub word_count : Result (List Item) AsmFault → ℕ
word_count (Ok items) = length items
word_count (Err fault) = 1

abbrev pub no_labels : Labels
no_labels name = None

-- whether a line has a name as its label, and whether it repeats the label of one of some lines
abbrev pub has_label : List ℕ → Option Piece → Bool
has_label name None = false
has_label name (Some piece) = bytes_eq piece.text name

abbrev pub bears : List ℕ → Row → Bool
bears name row = has_label name (labelled row).label

abbrev pub repeats : List Row → Option Piece → Bool
repeats before None = false
repeats before (Some piece) = list_any (bears piece.text) before

-- how many words a line has after others. Which labels there are changes no count but that of a line which repeats one: a line whose
-- target has no label is at fault, and has one word all the same
abbrev pub count_after : List Row → Row → ℕ
count_after before row = if repeats before (labelled row).label then 1 else word_count (statement_of no_labels 0 (written (labelled row).rest))

abbrev pub count_from : List Row → List Row → ℕ
count_from before [] = 0
count_from before (row ∷ rows) = count_after before row + count_from (row ∷ before) rows

-- a name's label among lines: it stands on the first line that has it, after the words of the lines before
abbrev pub label_of : List Row → List ℕ → Option Label
label_of rows name = option_map (λ row. record { line = row.number; place = count_from [] (before_first (bears name) rows) }) (find (bears name) rows)

-- the labels of a text
unfoldable pub labels_of : List ℕ → Labels
labels_of text = label_of (lines text)

-- the labels with one more, unless it stands among them
abbrev pub added : Labels → List ℕ → Label → Option Label → Labels
added labels name label (Some old) = labels
added labels name label None = update bytes_eq labels name (Some label)

abbrev pub with_label : Labels → Option Piece → Label → Labels
with_label labels None label = labels
with_label labels (Some piece) label = added labels piece.text label (labels piece.text)

-- whether a line has a label or a statement; only a text with such a line takes memory
abbrev pub says : Row → Bool
says row = is_some (labelled row).label || is_some (written (labelled row).rest)

unfoldable pub takes_memory : List ℕ → Bool
takes_memory text = list_any says (lines text)

-- what lines mean from a place on, one after another, or the fault of the first line that has one
abbrev pub in_front : List Item → Result (List Item) AsmFault → Result (List Item) AsmFault
in_front items (Ok more) = Ok (items ++ more)
in_front items (Err fault) = Err fault

abbrev pub before_rest : Result (List Item) AsmFault → (List Item → Result (List Item) AsmFault) → Result (List Item) AsmFault
before_rest (Err fault) rest = Err fault
before_rest (Ok items) rest = in_front items (rest items)

abbrev pub items_from : Labels → ℕ → List Row → Result (List Item) AsmFault
items_from labels place [] = Ok []
items_from labels place (row ∷ rows) = before_rest (line_items labels place row) (λ items. items_from labels (place + length items) rows)

-- the program of a text
unfoldable pub program : List ℕ → Result (List Item) AsmFault
program text = items_from (labels_of text) 0 (lines text)

-- its words
abbrev pub words_of : Result (List Item) AsmFault → Result (List ℕ) AsmFault
words_of (Ok items) = Ok (map item_word items)
words_of (Err fault) = Err fault

unfoldable pub assembled : List ℕ → Result (List ℕ) AsmFault
assembled text = words_of (program text)

-- a name's label by what the lines before it mean: the first line that has it, after as many words as their items are
abbrev pub label_among : Labels → List ℕ → ℕ → List Row → Option Label
label_among labels name place [] = None
label_among labels name place (row ∷ rows) =
    if bears name row then Some (record { line = row.number; place = place }) else label_among labels name (place + word_count (line_items labels place row)) rows
