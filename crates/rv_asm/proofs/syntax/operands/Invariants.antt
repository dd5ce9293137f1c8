use Rattle.std.proofs.Common.{◌≡◌, ◌++◌, map, option_map}
use Rattle.nova_text.specs.Line.{row_of}
use Rattle.rv_asm.specs.Syntax.{operand_of, separated}
use Rattle.rv_asm.specs.Shown.{operand_seen, parts_left, left_len}
use Rattle.rv_asm.proofs.syntax.operands.Given as goal

abbrev pub invariant-loop-left : goal.invariant-loop-left
invariant-loop-left l = map operand_seen l.operands.items ++ map operand_of (parts_left (option_map row_of l.left)) ≡ separated (row_of l.line)

abbrev pub decreases-loop-left : goal.decreases-loop-left
decreases-loop-left l = left_len (option_map row_of l.left)
