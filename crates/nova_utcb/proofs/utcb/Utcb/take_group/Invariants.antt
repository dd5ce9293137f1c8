use Rattle.std.proofs.Common.{◌≡◌}
use Rattle.nova_utcb.specs.Groups.{with_registers}
use Rattle.nova_utcb.proofs.utcb.Utcb.take_group.Given as goal

abbrev pub invariant-loop-i : goal.invariant-loop-i
invariant-loop-i l = l.regs ≡ with_registers l.self l.fn.group l.first l.i l.fn.regs
