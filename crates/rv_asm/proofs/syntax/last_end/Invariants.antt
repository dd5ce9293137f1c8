use Rattle.std.proofs.Common.{◌≡◌, length}
use Rattle.nova_text.specs.Token.{tokens_left}
use Rattle.rv_asm.specs.Syntax.{last_end}
use Rattle.rv_asm.proofs.syntax.last_end.Given as goal

abbrev pub invariant-loop-token : goal.invariant-loop-token
invariant-loop-token l = last_end l.end (tokens_left l.line) ≡ last_end l.initial.end (tokens_left l.initial.line)

abbrev pub decreases-loop-token : goal.decreases-loop-token
decreases-loop-token l = length (tokens_left l.line)
