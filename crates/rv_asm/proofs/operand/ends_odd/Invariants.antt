use Rattle.std.proofs.Common.{◌≡◌, false, drop}
use Rattle.rv_asm.specs.Digits.{ends_odd}
use Rattle.rv_asm.proofs.operand.ends_odd.Given as goal

abbrev pub invariant-loop-byte : goal.invariant-loop-byte
invariant-loop-byte l = ends_odd l.is_odd (drop l.byte-index l.text) ≡ ends_odd false l.text
