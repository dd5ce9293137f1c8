use Rattle.std.proofs.Common.{◌≡◌}
use Rattle.nova_utcb.specs.Groups.{with_group}
use Rattle.nova_utcb.proofs.utcb.Utcb.put_group.Given as goal

abbrev pub invariant-loop-i : goal.invariant-loop-i
invariant-loop-i l = l.self ≡ with_group l.mtd l.group l.first l.i l.regs l.fn.self
