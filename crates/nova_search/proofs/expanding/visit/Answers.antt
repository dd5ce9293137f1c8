use Rattle.std.proofs.Common.{rules, ◌≡◌, Some, None}
use Rattle.nova_search.specs.Searches.{states_of}
use Rattle.nova_search.proofs.Drawn.{entered_drawn, idle_drawn}
use Rattle.nova_search.proofs.Growth.{holds_here, idle_visited, idles_by, next_visited, succeeds_by}
use Rattle.nova_search.proofs.Links.{linked_here}
use Rattle.nova_search.proofs.Own.{own_here, own_idle}
use Rattle.nova_search.proofs.expanding.visit.Goals as goal

pub returns-in_default-clause-visited : goal.returns-in_default-clause-visited
returns-in_default-clause-visited c =
    let none : c.in_ok-next.field-0 ≡ None = search rules in
    idle_visited c.args.merging (states_of c.args.found.now.items) c.args.vertex.now c.args.cpu
    (holds_here c.args.found.now.items c.args.place c.args.vertex.now c.requires.place c.requires.here)
    (idles_by c.args.vertex.now c.args.cpu c.in_ok-next.field-0 c.in_ok-next.ensures.next none)
    (λ t apt is. c.states_are_one.ensures.turns c.args.merging c.args.vertex.now t c.args.cpu c.is_apt.ensures apt is c.requires.stay)

pub returns-in_default-clause-drawn : goal.returns-in_default-clause-drawn
returns-in_default-clause-drawn c = λ same.
    let none : c.in_ok-next.field-0 ≡ None = search rules in
    idle_drawn c.args.found.now.items c.args.edges.now.items c.args.place c.args.cpu c.args.vertex.now c.requires.here
    (idles_by c.args.vertex.now c.args.cpu c.in_ok-next.field-0 c.in_ok-next.ensures.next none)

pub returns-in_default-clause-own : goal.returns-in_default-clause-own
returns-in_default-clause-own c = own_idle c.args.found.now.items c.args.place c.args.cpu c.requires.own

pub returns-clause-own : goal.returns-clause-own
returns-clause-own c = own_here c.args.found.now.items c.enter.new.found.items c.args.place c.args.cpu c.in-Some.next c.in_ok-to.ensures.more c.requires.own

pub returns-clause-visited : goal.returns-clause-visited
returns-clause-visited c =
    let some : c.in_ok-next.field-0 ≡ Some c.in-Some.next = search rules in
    next_visited c.args.merging c.args.found.now.items c.enter.new.found.items c.args.place c.args.cpu c.in_ok-to.to c.args.vertex.now c.in-Some.next c.in_ok-to.ensures.more
    c.in_ok-to.ensures.there c.requires.cpu (succeeds_by c.args.vertex.now c.in-Some.next c.args.cpu c.in_ok-next.field-0 c.in_ok-next.ensures.next some)
    (holds_here c.args.found.now.items c.args.place c.args.vertex.now c.requires.place c.requires.here) (c.states_are_one.ensures.transitive c.args.merging)
    (λ t apt is. c.states_are_one.ensures.turns c.args.merging c.args.vertex.now t c.args.cpu c.is_apt.ensures apt is c.requires.stay)

pub returns-clause-linked : goal.returns-clause-linked
returns-clause-linked c =
    let some : c.in_ok-next.field-0 ≡ Some c.in-Some.next = search rules in
    linked_here c.args.found.now.items c.enter.new.found.items c.args.place c.args.cpu c.args.vertex.now c.in-Some.next c.requires.place c.requires.here
    (succeeds_by c.args.vertex.now c.in-Some.next c.args.cpu c.in_ok-next.field-0 c.in_ok-next.ensures.next some) c.requires.cpu c.requires.turns c.in_ok-to.ensures.more
    c.requires.linked

pub returns-clause-drawn : goal.returns-clause-drawn
returns-clause-drawn c = λ same.
    let some : c.in_ok-next.field-0 ≡ Some c.in-Some.next = search rules in
    entered_drawn c.args.merging same c.args.found.now.items c.enter.new.found.items c.args.edges.now.items c.draw.new.edges.items c.args.place c.args.cpu c.in_ok-to.to
    c.args.vertex.now c.in-Some.next c.requires.place c.requires.here
    (succeeds_by c.args.vertex.now c.in-Some.next c.args.cpu c.in_ok-next.field-0 c.in_ok-next.ensures.next some) c.requires.cpu c.in_ok-to.ensures.more c.in_ok-to.ensures.there
    (c.in_ok-draw.ensures same)
