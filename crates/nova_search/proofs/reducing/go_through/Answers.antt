use Rattle.std.proofs.Common.{rules, ◌≡◌, arith}
use Rattle.std.specs.Prelude.{None, Some}
use Rattle.std.proofs.lemmas.List.{length-map}
use Rattle.nova_search.specs.Searches.{state_of, states_of}
use Rattle.nova_search.proofs.Alone.{gone_first, reduction_of}
use Rattle.nova_search.proofs.Open.{none_open, taken_by}
use Rattle.nova_search.proofs.reducing.go_through.Goals as goal

pub loop-place-init : goal.loop-place-init
loop-place-init g c = record {
  going = gone_first g.N.Notes.Touch g.N.Notes.touched (g.N.Notes.noted c.args.notes.now) (g.N.Notes.lone c.args.notes.now) c.args.merging c.args.opening.now _
      c.in_ok-begin.ensures.found;
  frontier = c.in_ok-begin.ensures.frontier;
}

pub expand_or_end-ended-requires-clause-place : goal.expand_or_end-ended-requires-clause-place
expand_or_end-ended-requires-clause-place g c =
    let some : c.take.result ≡ Some c.in-Some.vertex = search rules in
    let taken = taken_by (states_of c.loop-place.found.items) c.loop-place.place c.in-Some.vertex c.loop-place.frontier c.take.new.self c.take.result c.loop-place.invariant.frontier
    c.take.ensures.taken some in
    let there = taken.there in
    let long = length-map c.loop-place.found.items state_of in
    omega (arith, there, long)

pub expand_or_end-ended-requires-clause-here : goal.expand_or_end-ended-requires-clause-here
expand_or_end-ended-requires-clause-here g c =
    let some : c.take.result ≡ Some c.in-Some.vertex = search rules in
    (taken_by (states_of c.loop-place.found.items) c.loop-place.place c.in-Some.vertex c.loop-place.frontier c.take.new.self c.take.result c.loop-place.invariant.frontier
    c.take.ensures.taken some).is

pub expand_or_end-ended-requires-clause-frontier : goal.expand_or_end-ended-requires-clause-frontier
expand_or_end-ended-requires-clause-frontier g c =
    let some : c.take.result ≡ Some c.in-Some.vertex = search rules in
    (taken_by (states_of c.loop-place.found.items) c.loop-place.place c.in-Some.vertex c.loop-place.frontier c.take.new.self c.take.result c.loop-place.invariant.frontier
    c.take.ensures.taken some).left

pub returns-in_default-clause-found : goal.returns-in_default-clause-found
returns-in_default-clause-found g c = c.loop-place.invariant.going.from

pub returns-clause-found : goal.returns-clause-found
returns-clause-found g c = c.loop-place.invariant.going.from

pub returns-in_default-clause-over : goal.returns-in_default-clause-over
returns-in_default-clause-over g c = λ is.
    let none : c.take.result ≡ None = search rules in
    reduction_of g.N.Notes.Touch g.N.Notes.touched (g.N.Notes.noted c.loop-place.notes) (g.N.Notes.lone c.loop-place.notes) c.args.merging g.N.Notes.apart c.args.opening.now
    c.loop-place.found.items c.loop-place.place c.loop-place.invariant.going
    (none_open c.loop-place.found.items c.loop-place.place c.loop-place.frontier c.loop-place.invariant.frontier (c.take.ensures.none none)) (c.in_ok-ending.ensures is)
