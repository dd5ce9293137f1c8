use Rattle.std.proofs.Common.{◌≡◌, ◌≤◌, drop}
use Rattle.std.specs.Prelude.{nat_eq}
use Rattle.std.specs.Cmp.Lexicographic.{pointwise}
use Rattle.nova_twin.proofs.alike.same_registers.Given as goal

-- those from here on are equal just where all are
abbrev pub invariant-loop-i : goal.invariant-loop-i
invariant-loop-i l = (1 ≤ l.i) × (pointwise nat_eq (drop l.i l.r.x) (drop l.i l.s.x) ≡ pointwise nat_eq l.r.x l.s.x)
