use Rattle.std.proofs.Common.{◌≡◌, ◌++◌, drop}
use Rattle.nova_scenario.specs.Words.{bytes_of}
use Rattle.nova_scenario.proofs.asm.bytes_of.Given as goal

abbrev pub invariant-loop-word : goal.invariant-loop-word
invariant-loop-word l = l.bytes.items ++ bytes_of (drop l.word-index l.words) ≡ bytes_of l.words
