use Rattle.std.proofs.Common.{arith}
use Rattle.nova_search.proofs.Alone.{marks_on, none_noted, stay_on}
use Rattle.nova_search.proofs.reducing.note_all.Goals as goal

pub loop-cpu-init : goal.loop-cpu-init
loop-cpu-init g c = record {
  noted = λ cpu less. absurd (omega (arith, less));
  stay = none_noted g.N.Notes.Touch (g.N.Notes.noted c.args.notes.now) (g.N.Notes.lone c.args.notes.now);
}

pub loop-cpu-preserved : goal.loop-cpu-preserved
loop-cpu-preserved g c = record {
  noted = marks_on g.N.Notes.Touch g.N.Notes.touched (g.N.Notes.noted c.loop-cpu.notes) (g.N.Notes.lone c.loop-cpu.notes) (g.N.Notes.noted c.note.new.self)
      (g.N.Notes.lone c.note.new.self) c.args.vertex.now c.loop-cpu.cpu c.in_ok-note.ensures.stay c.loop-cpu.invariant.noted c.in_ok-note.ensures.noted;
  stay = stay_on g.N.Notes.Touch (g.N.Notes.noted c.args.notes.now) (g.N.Notes.lone c.args.notes.now) (g.N.Notes.noted c.loop-cpu.notes) (g.N.Notes.lone c.loop-cpu.notes)
      (g.N.Notes.noted c.note.new.self) (g.N.Notes.lone c.note.new.self) c.loop-cpu.invariant.stay c.in_ok-note.ensures.stay;
}
