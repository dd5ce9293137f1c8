use Rattle.nova_search.proofs.Alone.{full_through}
use Rattle.nova_search.proofs.reducing.expand_by_all.Goals as goal

pub returns-clause-taken : goal.returns-clause-taken
returns-clause-taken g c =
    full_through g.N.Notes.Touch g.N.Notes.touched (g.N.Notes.noted c.note_all.new.notes) (g.N.Notes.lone c.note_all.new.notes) c.args.merging c.args.found.now.items
    c.expand.new.found.items c.args.place c.args.vertex.now c.in_ok-expand.ensures.visited c.in_ok-expand.ensures.linked c.in_ok-expand.ensures.own c.is_apt.ensures
    (c.states_are_one.ensures.reflexive c.args.merging c.args.vertex.now) c.requires.stay c.in_ok-note_all.ensures.noted
