use Rattle.std.proofs.Common.{◌≡◌, ◌++◌, ◌-◌, suc, string_bytes}
use Rattle.nova_judging.specs.Trails.{trail_lines}
use Rattle.nova_judging.proofs.Trailing.{lines}
use Rattle.nova_judging.proofs.trails.write_trail.Given as goal

abbrev pub invariant-loop-link : goal.invariant-loop-link
invariant-loop-link l = string_bytes l.out ++ lines (suc l.cap - l._link) l.list l.next ≡ string_bytes l.initial.out ++ trail_lines l.list l.cap
