use Rattle.std.proofs.Common.{◌≡◌, ◌+◌}
use Rattle.nova_search.specs.Edges.{AreTurnsDrawn}
use Rattle.nova_search.specs.Searches.{AreLinked, AreOfTurnsBefore, AreOpen, AreVisited, states_of}
use Rattle.nova_search.specs.declared.merging.Merging.TheVariants.{Same}
use Rattle.nova_search.proofs.expanding.expand.Given as goal

-- the turns of the processors so far
abbrev pub invariant-loop-cpu : goal.invariant-loop-cpu
invariant-loop-cpu l = record {
  visited : AreVisited l.merging (states_of l.fn.found.items) (states_of l.found.items) l.vertex l.cpu;
  frontier : AreOpen (states_of l.found.items) (l.place + 1) l.frontier;
  linked : AreLinked l.found.items;
  own : AreOfTurnsBefore l.found.items l.place l.cpu;
  drawn : l.merging ≡ Same → AreTurnsDrawn (states_of l.fn.found.items) l.fn.edges.items (states_of l.found.items) l.edges.items l.place l.cpu;
}
