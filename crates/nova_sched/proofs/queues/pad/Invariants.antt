use Rattle.std.proofs.Common.{◌≡◌, length}
use Rattle.std.specs.Prelude.{vec_capacity}
use Rattle.nova_sched.specs.Queues.{padded}
use Rattle.nova_sched.proofs.queues.pad.Given as goal

abbrev pub invariant-loop : goal.invariant-loop
invariant-loop l = record {
  reached : length l.entries.items ≡ l.counter;
  padded : padded l.n l.entries.items ≡ padded l.n l.fn.entries.items;
  capacity : vec_capacity l.entries ≡ vec_capacity l.fn.entries;
}
