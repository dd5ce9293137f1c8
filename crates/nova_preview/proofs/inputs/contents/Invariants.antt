use Rattle.std.proofs.Common.{◌≡◌, drop, take}
use Rattle.std.specs.List.{concat}
use Rattle.nova_preview.proofs.inputs.contents.Given as goal

-- the bytes of the frames up to now
abbrev pub invariant-loop-i : goal.invariant-loop-i
invariant-loop-i l = l.bytes.items ≡ concat (take l.i (drop l.frame l.reach.memory.ram))
