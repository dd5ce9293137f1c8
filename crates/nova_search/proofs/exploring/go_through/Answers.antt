use Rattle.std.proofs.Common.{rules, ◌≡◌, ◌+◌, List, Some, None, refl, arith, subst, sym}
use Rattle.std.proofs.lemmas.List.{length-map}
use Rattle.nova_model.specs.State.{KernelState}
use Rattle.nova_search.specs.declared.exploring.Passage.TheVariants.{Met, Passed, Ticks}
use Rattle.nova_search.specs.Going.{IsEnded, course_of}
use Rattle.nova_search.specs.Searches.{AreOpen, state_of, states_of}
use Rattle.nova_search.proofs.Going.{ended_by, first_so, going_first, none_so, seen_goal, seen_on, seen_ticks}
use Rattle.nova_search.proofs.Open.{none_open, taken_by}
use Rattle.nova_search.proofs.exploring.go_through.Goals as goal

pub loop-place-init : goal.loop-place-init
loop-place-init g c = record {
  going = going_first c.args.merging (g.G.Goal.met c.args.goal.now) c.args.opening.now c.args.limit _ _ c.in_ok-begin.ensures.found c.requires.edges;
  frontier = c.in_ok-begin.ensures.frontier;
}

pub see-seen-requires-clause-place : goal.see-seen-requires-clause-place
see-seen-requires-clause-place g c =
    let some : c.take.result ≡ Some c.in-Some.vertex = search rules in
    let taken = taken_by (states_of c.loop-place.found.items) c.loop-place.place c.in-Some.vertex c.loop-place.frontier c.take.new.self c.take.result c.loop-place.invariant.frontier
    c.take.ensures.taken some in
    let there = taken.there in
    let long = length-map c.loop-place.found.items state_of in
    omega (arith, there, long)

pub see-seen-requires-clause-here : goal.see-seen-requires-clause-here
see-seen-requires-clause-here g c =
    let some : c.take.result ≡ Some c.in-Some.vertex = search rules in
    (taken_by (states_of c.loop-place.found.items) c.loop-place.place c.in-Some.vertex c.loop-place.frontier c.take.new.self c.take.result c.loop-place.invariant.frontier
    c.take.ensures.taken some).is

pub see-seen-requires-clause-frontier : goal.see-seen-requires-clause-frontier
see-seen-requires-clause-frontier g c =
    let some : c.take.result ≡ Some c.in-Some.vertex = search rules in
    (taken_by (states_of c.loop-place.found.items) c.loop-place.place c.in-Some.vertex c.loop-place.frontier c.take.new.self c.take.result c.loop-place.invariant.frontier
    c.take.ensures.taken some).left

pub returns-in_default : goal.returns-in_default
returns-in_default g c =
    let none : c.take.result ≡ None = search rules in
    let many = none_open c.loop-place.found.items c.loop-place.place c.loop-place.frontier c.loop-place.invariant.frontier (c.take.ensures.none none) in
    subst (IsEnded c.args.merging (g.G.Goal.met c.args.goal.now) c.args.opening.now c.args.limit c.args.most c.loop-place.found.items c.loop-place.edges.items) (sym c.course_of.ensures) (ended_by
    c.args.merging (g.G.Goal.met c.args.goal.now) c.args.opening.now c.args.limit c.args.most c.loop-place.found.items c.loop-place.edges.items c.loop-place.place
    c.loop-place.is_whole c.loop-place.invariant.going c.states_are_one.ensures.apt (c.states_are_one.ensures.reflexive c.args.merging c.args.opening.now) c.is_apt.ensures
    (course_of (Passed c.loop-place.is_whole) c.loop-place.is_whole c.loop-place.place)
    (λ told. none_so (g.G.Goal.met c.args.goal.now) (states_of c.loop-place.found.items) c.loop-place.place
    (let long = length-map c.loop-place.found.items state_of in omega (arith, long, many)) c.loop-place.invariant.going.none)
    (λ over. many) refl (λ told goal cut. absurd (cc)) (λ same. refl))

pub returns-in-Ticks : goal.returns-in-Ticks
returns-in-Ticks g c =
    let ticks : c.in_ok-stays.field-0 ≡ Ticks = search rules in
    let seen = seen_ticks c.args.merging (g.G.Goal.met c.args.goal.now) c.args.opening.now c.args.limit c.see-seen.new.found.items c.see-seen.new.edges.items c.loop-place.place
    c.loop-place.is_whole c.in_ok-stays.field-0 c.in_ok-stays.ensures.seen ticks in
    subst (IsEnded c.args.merging (g.G.Goal.met c.args.goal.now) c.args.opening.now c.args.limit c.args.most c.see-seen.new.found.items c.see-seen.new.edges.items)
    (sym c.course_of-in-Ticks.ensures) (ended_by
    c.args.merging (g.G.Goal.met c.args.goal.now) c.args.opening.now c.args.limit c.args.most c.see-seen.new.found.items c.see-seen.new.edges.items c.loop-place.place
    c.loop-place.is_whole seen.0 c.states_are_one.ensures.apt (c.states_are_one.ensures.reflexive c.args.merging c.args.opening.now) c.is_apt.ensures
    (course_of Ticks c.loop-place.is_whole c.loop-place.place)
    (λ told. absurd (cc)) (λ over. absurd (cc)) refl (λ told goal cut. absurd (cc)) (λ same. absurd (let alike = seen.1 in cc)))

pub returns-in-Met : goal.returns-in-Met
returns-in-Met g c =
    let met : c.in_ok-stays.field-0 ≡ Met = search rules in
    let seen = seen_goal c.args.merging (g.G.Goal.met c.args.goal.now) c.args.opening.now c.args.limit c.see-seen.new.found.items c.see-seen.new.edges.items c.loop-place.place
    c.loop-place.is_whole c.in_ok-stays.field-0 c.in_ok-stays.ensures.seen met in
    subst (IsEnded c.args.merging (g.G.Goal.met c.args.goal.now) c.args.opening.now c.args.limit c.args.most c.see-seen.new.found.items c.see-seen.new.edges.items)
    (sym c.course_of-in-Met.ensures) (ended_by
    c.args.merging (g.G.Goal.met c.args.goal.now) c.args.opening.now c.args.limit c.args.most c.see-seen.new.found.items c.see-seen.new.edges.items c.loop-place.place
    c.loop-place.is_whole seen.0 c.states_are_one.ensures.apt (c.states_are_one.ensures.reflexive c.args.merging c.args.opening.now) c.is_apt.ensures
    (course_of Met c.loop-place.is_whole c.loop-place.place)
    (λ told. first_so (g.G.Goal.met c.args.goal.now) c.see-seen.new.found.items c.loop-place.place seen.2 seen.1 seen.0.none)
    (λ over. absurd (cc)) refl (λ told goal cut. absurd (cc)) (λ same. refl))

pub loop-place-preserved : goal.loop-place-preserved
loop-place-preserved g c =
    let some : c.in_ok-stays.field-0 ≡ Passed c.in-Passed.stays = search rules in
    record {
      going = seen_on c.args.merging (g.G.Goal.met c.args.goal.now) c.args.opening.now c.args.limit c.see-seen.new.found.items c.see-seen.new.edges.items c.loop-place.place
          c.loop-place.is_whole c.in_ok-stays.field-0 c.in_ok-stays.ensures.seen c.in-Passed.stays some;
      frontier = subst (λ (f : List KernelState). AreOpen (states_of c.see-seen.new.found.items) (c.loop-place.place + 1) f) (sym c.let_go.ensures) c.in_ok-stays.ensures.frontier;
    }
