use Rattle.std.proofs.Common.{◌≡◌, ◌+◌}
use Rattle.nova_search.specs.Searches.{AreOpen, states_of}
use Rattle.nova_search.proofs.reducing.expand_by_one.Given as goal

-- nothing was found so far, nor noted
abbrev pub invariant-loop-cpu : goal.invariant-loop-cpu
invariant-loop-cpu g l = record {
  found : l.found.items ≡ l.fn.found.items;
  notes : l.notes ≡ l.fn.notes;
  frontier : AreOpen (states_of l.found.items) (l.place + 1) l.frontier;
}
