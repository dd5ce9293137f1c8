use Rattle.nova_search.specs.Notes.{AreGoneThrough}
use Rattle.nova_search.specs.Searches.{AreOpen, states_of}
use Rattle.nova_search.proofs.reducing.go_through.Given as goal

-- the places so far
abbrev pub invariant-loop-place : goal.invariant-loop-place
invariant-loop-place g l = record {
  going : AreGoneThrough g.N.Notes.Touch g.N.Notes.touched (g.N.Notes.noted l.notes) (g.N.Notes.lone l.notes) l.merging l.opening l.found.items l.place;
  frontier : AreOpen (states_of l.found.items) l.place l.frontier;
}
