use Rattle.std.proofs.Common.{◌≡◌, ◌+◌, length}
use Rattle.nova_text.specs.Line.{lines}
use Rattle.nova_scenario.proofs.LineNumbers.{AreNumberedFrom}
use Rattle.nova_scenario.proofs.reader.missing.Given as goal

abbrev pub invariant-loop-line : goal.invariant-loop-line
invariant-loop-line l = record {
  numbered : AreNumberedFrom l.next l.line-iterator;
  counted : l.next + length l.line-iterator ≡ length (lines l.bytes) + 1;
}
