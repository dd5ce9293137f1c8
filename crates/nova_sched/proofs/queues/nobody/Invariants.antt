use Rattle.std.proofs.Common.{◌≡◌, []}
use Rattle.std.specs.Prelude.{replicate}
use Rattle.nova_sched.proofs.queues.nobody.Given as goal

abbrev pub invariant-loop : goal.invariant-loop
invariant-loop l = l.readies.items ≡ replicate l.counter (record { items = []; room = 0 })
