use Rattle.std.proofs.Common.{◌≡◌, ◌++◌, drop}
use Rattle.nova_asking.specs.Questions.{shown}
use Rattle.nova_asking.proofs.question.shown.Given as goal

-- the bytes so far and those that are left
abbrev pub invariant-loop-byte : goal.invariant-loop-byte
invariant-loop-byte l = l.bytes.items ++ shown l.console (drop l.byte-index l.log) ≡ shown l.console l.log
