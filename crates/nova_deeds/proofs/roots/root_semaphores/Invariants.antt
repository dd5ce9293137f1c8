use Rattle.std.proofs.Common.{◌≡◌, ◌+◌, ◌≤◌}
use Rattle.std.specs.Prelude.{None, replicate}
use Rattle.nova_deeds.proofs.roots.root_semaphores.Given as goal

-- the entries up to now hold none, and there is room for the others
abbrev pub invariant-loop-object : goal.invariant-loop-object
invariant-loop-object l = record {
  before : l.semaphores.all ≡ replicate l._object None;
  room : 3 ≤ l.semaphores.spare + l._object;
}
