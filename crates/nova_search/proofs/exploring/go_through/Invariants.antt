use Rattle.nova_search.specs.Going.{IsGoing}
use Rattle.nova_search.specs.Searches.{AreOpen, states_of}
use Rattle.nova_search.proofs.exploring.go_through.Given as goal

-- the places so far
abbrev pub invariant-loop-place : goal.invariant-loop-place
invariant-loop-place g l = record {
  going : IsGoing l.merging (g.G.Goal.met l.goal) l.opening l.limit l.found.items l.edges.items l.place l.is_whole;
  frontier : AreOpen (states_of l.found.items) l.place l.frontier;
}
