use Rattle.std.proofs.Common.{ℕ, ◌<◌}
use Rattle.nova_search.specs.Notes.{IsMarked, StayNoted}
use Rattle.nova_search.proofs.reducing.note_all.Given as goal

-- the processors so far
abbrev pub invariant-loop-cpu : goal.invariant-loop-cpu
invariant-loop-cpu g l = record {
  noted : (cpu : ℕ) → cpu < l.cpu → IsMarked g.N.Notes.Touch (g.N.Notes.touched l.vertex cpu) (g.N.Notes.noted l.notes cpu);
  stay : StayNoted g.N.Notes.Touch (g.N.Notes.noted l.fn.notes) (g.N.Notes.lone l.fn.notes) (g.N.Notes.noted l.notes) (g.N.Notes.lone l.notes);
}
