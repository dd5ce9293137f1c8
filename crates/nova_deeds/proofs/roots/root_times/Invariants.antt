use Rattle.std.proofs.Common.{◌≡◌, []}
use Rattle.std.specs.Prelude.{None, replicate}
use Rattle.nova_deeds.proofs.roots.root_times.Given as goal

-- the entries up to now have no deadline
abbrev pub invariant-loop-object : goal.invariant-loop-object
invariant-loop-object l = l.times.all ≡ record { clocks = replicate l.cpus 0; deadlines = replicate l._object None; alarms = [] }
