use Rattle.std.proofs.Common.{◌≤◌, ◌+◌, ◌-◌, IfSome, length}
use Rattle.std.specs.Io.{StartsWith}
use Rattle.nova_io.specs.Files.{bytes_of}
use Rattle.nova_io.specs.Fetched.{Came, OnlyFetched}
use Rattle.nova_io.proofs.whole.fetch_all.Given as goal

abbrev pub invariant-loop-depot : goal.invariant-loop-depot
invariant-loop-depot g l = record {
  few : length l.bytes.items ≤ l.most + 1;
  front : IfSome (g.D.Depot.files l.fn.depot) (λ held. StartsWith (bytes_of held l.name) l.bytes.items);
  came : Came g.D.Depot.gave l.name l.fn.depot l.bytes.items l.depot;
  only : OnlyFetched g.D.Depot.files g.D.Depot.fetch_faults g.D.Depot.append_faults l.name l.fn.depot l.depot;
}

abbrev pub decreases-loop-depot : goal.decreases-loop-depot
decreases-loop-depot g l = l.most + 1 - length l.bytes.items
