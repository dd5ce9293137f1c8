use Rattle.std.proofs.Common.{◌≡◌, ◌++◌, drop}
use Rattle.nova_example.specs.Said.{bytes_of}
use Rattle.nova_example.proofs.said.bytes_of.Given as goal

-- the bytes so far, and those of the log that is left, are all
abbrev pub invariant-loop-byte : goal.invariant-loop-byte
invariant-loop-byte l = l.bytes.items ++ bytes_of l.console (drop l.byte-index l.log) ≡ bytes_of l.fn.console l.fn.log
