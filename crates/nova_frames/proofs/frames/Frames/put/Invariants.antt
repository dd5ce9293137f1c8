use Rattle.std.proofs.Common.{◌≡◌, ◌+◌, length, drop}
use Rattle.nova_model.specs.Boot.{laid}
use Rattle.nova_frames.proofs.frames.Frames.put.Given as goal

-- what is laid so far, and then the rest, is what is to be laid
abbrev pub invariant-loop-i : goal.invariant-loop-i
invariant-loop-i l =
    (length l.self.memory.ram ≡ length l.fn.self.memory.ram)
    × (record l.self { memory = laid l.self.memory (l.address + l.i) (drop l.i l.bytes) }
    ≡ record l.fn.self { memory = laid l.fn.self.memory l.address l.bytes })
