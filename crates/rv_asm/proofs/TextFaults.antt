-- No fault of a text is want of memory.
use Rattle.std.proofs.Common.{◌≡◌, ℕ, ◌+◌, Bool, true, false, List, [], ◌∷◌, length, Option, Some, None, Result, Ok, Err, ap}
use Rattle.std.specs.Prelude.{◌≢◌, nat_eq, if◌then◌else◌}
use Rattle.rv_model.specs.declared.instr.Operands.{Operands}
use Rattle.nova_text.specs.Line.{Row, lines}
use Rattle.nova_text.specs.Piece.{Piece}
use Rattle.nova_text.specs.declared.span.Span.{Span}
use Rattle.rv_asm.specs.Syntax.{labelled, Written, written}
use Rattle.rv_asm.specs.Name.{Item, name_of, slots_of, given}
use Rattle.rv_asm.specs.Operand.{Labels, fault_at, with_operands}
use Rattle.rv_asm.specs.Program.{items_or_fault, statement, statement_of, is_earlier, with_colon, after_label, line_items, in_front, before_rest, items_from, labels_of, program, words_of, assembled}
use Rattle.rv_asm.specs.declared.fault.AsmFault.{AsmFault}
use Rattle.rv_asm.specs.declared.fault.AsmFault.TheVariants.{BadOperand, TwiceLabel, Memory}
use Rattle.rv_asm.specs.declared.fault.OperandFault.{OperandFault}
use Rattle.rv_asm.specs.declared.fault.OperandFault.TheVariants.{Bad, NoLabel, OutOfRange}
use Rattle.rv_asm.specs.declared.fault.FaultyOperand.{FaultyOperand}
use Rattle.rv_asm.specs.declared.name.Name.{Name}

abbrev HasNoMemory : {A : Type 0} → Result A AsmFault → Type 0
HasNoMemory r = r ≢ Err Memory

operands : (name : Name) (r : Result Operands FaultyOperand) → HasNoMemory (items_or_fault name r)
operands name (Ok o) e = cc
operands name (Err faulty) e = go faulty.span faulty.why e where
  go : (span : Span) (why : OperandFault) → HasNoMemory {A = List Item} (Err (fault_at span why))
  go span Bad e = cc
  go span NoLabel e = cc
  go span OutOfRange e = cc

named : (labels : Labels) (place : ℕ) (w : Written) (name : Option Name) → HasNoMemory (statement labels place w name)
named labels place w None e = cc
named labels place w (Some name) e = go (nat_eq (length w.operands) (length (slots_of name))) e where
  go : (b : Bool) → HasNoMemory (if b then items_or_fault name (with_operands labels place (slots_of name) w.operands (given name)) else Err (BadOperand w.name.span))
  go true e = operands name (with_operands labels place (slots_of name) w.operands (given name)) e
  go false e = cc

stated : (labels : Labels) (place : ℕ) (w : Option Written) → HasNoMemory (statement_of labels place w)
stated labels place None e = cc
stated labels place (Some w) e = named labels place w (name_of w.name.text) e

after : (labels : Labels) (number : ℕ) (label : Option Piece) (rest : Result (List Item) AsmFault) → HasNoMemory rest → HasNoMemory (after_label labels number label rest)
after labels number None rest h e = h e
after labels number (Some piece) rest h e = go (is_earlier number (labels piece.text)) e where
  go : (b : Bool) → HasNoMemory (if b then Err (TwiceLabel (with_colon piece.span)) else rest)
  go true e = cc
  go false e = h e

line : (labels : Labels) (place : ℕ) (row : Row) → HasNoMemory (line_items labels place row)
line labels place row = after labels row.number (labelled row).label _ (stated labels place (written (labelled row).rest))

before : (r : Result (List Item) AsmFault) (rest : List Item → Result (List Item) AsmFault) → HasNoMemory r → ((items : List Item) → HasNoMemory (rest items)) → HasNoMemory (before_rest r rest)
before (Err fault) rest here more e = here e
before (Ok items) rest here more e = go (rest items) (more items) e where
  go : (r : Result (List Item) AsmFault) → HasNoMemory r → HasNoMemory (in_front items r)
  go (Ok all) h e = cc
  go (Err fault) h e = h e

rows_from : (labels : Labels) (place : ℕ) (rows : List Row) → HasNoMemory (items_from labels place rows)
rows_from labels place [] e = cc
rows_from labels place (row ∷ rows) e = before (line_items labels place row) _ (line labels place row) (λ items. rows_from labels (place + length items) rows) e

in_words : (r : Result (List Item) AsmFault) → HasNoMemory r → HasNoMemory (words_of r)
in_words (Ok items) h e = cc
in_words (Err fault) h e = h (let same : fault ≡ Memory = cc in ap Err same)

pub no_memory : (text : List ℕ) → assembled text ≢ Err Memory
unfolding program assembled
no_memory text = in_words (program text) (rows_from (labels_of text) 0 (lines text))
