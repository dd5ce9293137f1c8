use Rattle.std.proofs.Common.{rules, ◌≡◌, ◌<◌}
use Rattle.std.specs.Prelude.{Some}
use Rattle.nova_search.proofs.Alone.{lone_through}
use Rattle.nova_search.proofs.Growth.{succeeds_by}
use Rattle.nova_search.proofs.reducing.expand_alone.Goals as goal

pub returns-clause-taken : goal.returns-clause-taken
returns-clause-taken g c = λ is.
    let some : c.in_ok-next.field-0 ≡ Some c.in-Some.next = search rules in
    let later : c.args.place < c.in_ok-to.to = search rules in
    lone_through g.N.Notes.Touch g.N.Notes.touched (g.N.Notes.noted c.note_lone.new.self) (g.N.Notes.lone c.note_lone.new.self) c.args.merging c.args.found.now.items
    c.enter.new.found.items c.args.place c.args.cpu c.in_ok-to.to c.args.vertex.now c.in-Some.next c.in_ok-to.ensures.more c.in_ok-to.ensures.there later c.requires.place
    c.requires.here (succeeds_by c.args.vertex.now c.in-Some.next c.args.cpu c.in_ok-next.field-0 c.in_ok-next.ensures.next some) c.requires.cpu c.requires.turns c.requires.stay
    c.requires.linked c.requires.own c.in_ok-note_lone.ensures.noted
