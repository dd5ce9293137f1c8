use Rattle.std.proofs.Common.{◌≡◌, length}
use Rattle.nova_text.specs.Token.{texts_of, tokens_left}
use Rattle.nova_naming.specs.Statements.{numbers_of}
use Rattle.nova_naming.proofs.Numbers.{behind}
use Rattle.nova_naming.proofs.lines.read_numbers.Given as goal

abbrev pub invariant-loop-token : goal.invariant-loop-token
invariant-loop-token l = behind l.numbers.items (numbers_of (texts_of (tokens_left l.line))) ≡ numbers_of (texts_of (tokens_left l.initial.line))

abbrev pub decreases-loop-token : goal.decreases-loop-token
decreases-loop-token l = length (tokens_left l.line)
