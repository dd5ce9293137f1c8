use Rattle.std.proofs.Common.{length}
use Rattle.rv_asm.proofs.statement.+with_operands.Given as goal

abbrev pub decreases-with_operands : goal.decreases-with_operands
decreases-with_operands l = length l.texts.now
