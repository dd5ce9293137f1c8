use Rattle.std.proofs.Common.{◌≡◌, ◌++◌, map, drop}
use Rattle.std.specs.String.{string_bytes}
use Rattle.rv_model.specs.Table.{row_of, mnemonic_of, operands_of}
use Rattle.rv_asm.specs.Name.{row_slots}
use Rattle.rv_asm.specs.Printed.{operand_text, separated_from, printed}
use Rattle.rv_asm.proofs.printer.print.Given as goal

abbrev pub invariant-loop-index : goal.invariant-loop-index
invariant-loop-index l = string_bytes l.text ++ separated_from l.index (map (operand_text (operands_of l.instr)) (drop l.index (row_slots (row_of (mnemonic_of l.instr))))) ≡ printed l.instr
