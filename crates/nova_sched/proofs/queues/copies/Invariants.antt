use Rattle.std.proofs.Common.{◌≡◌, ◌++◌}
use Rattle.std.specs.Prelude.{drop}
use Rattle.nova_sched.specs.Lists.{unroomed}
use Rattle.nova_sched.proofs.queues.copies.Given as goal

abbrev pub invariant-loop-queue : goal.invariant-loop-queue
invariant-loop-queue l = l.copies.items ++ unroomed (drop l.queue-index l.queues) ≡ unroomed l.queues
