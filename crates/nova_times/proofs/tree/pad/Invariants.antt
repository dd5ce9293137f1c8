use Rattle.std.proofs.Common.{◌≡◌, ℕ, length}
use Rattle.std.specs.Prelude.{vec_capacity}
use Rattle.nova_times.specs.Trees.{leaf}
use Rattle.nova_times.proofs.tree.pad.Given as goal

abbrev pub invariant-loop : goal.invariant-loop
invariant-loop l = record {
  reached : length l.leaves.items ≡ l.counter;
  same : (n : ℕ) → leaf l.leaves.items n ≡ leaf l.fn.leaves.items n;
  capacity : vec_capacity l.leaves ≡ vec_capacity l.fn.leaves;
}
