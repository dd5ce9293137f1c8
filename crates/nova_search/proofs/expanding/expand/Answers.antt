use Rattle.std.proofs.Common.{arith}
use Rattle.std.proofs.lemmas.List.{length-map}
use Rattle.nova_search.specs.Searches.{state_of, states_of}
use Rattle.nova_search.proofs.Drawn.{drawn_on, none_drawn}
use Rattle.nova_search.proofs.Growth.{none_visited, stays_at, stays_there, visited_on}
use Rattle.nova_search.proofs.expanding.expand.Goals as goal

pub loop-cpu-init : goal.loop-cpu-init
loop-cpu-init c = record {
  visited = none_visited c.args.merging (states_of c.args.found.now.items) c.args.vertex.now;
  frontier = c.requires.frontier;
  linked = c.requires.linked;
  own = c.requires.own;
  drawn = λ is. none_drawn (states_of c.args.found.now.items) c.args.edges.now.items c.args.place;
}

pub visit-requires-clause-place : goal.visit-requires-clause-place
visit-requires-clause-place c = stays_there c.args.found.now.items c.loop-cpu.found.items c.args.place c.requires.place c.loop-cpu.invariant.visited.grows

pub visit-requires-clause-here : goal.visit-requires-clause-here
visit-requires-clause-here c =
    stays_at c.args.found.now.items c.loop-cpu.found.items c.args.place c.args.vertex.now c.requires.place c.loop-cpu.invariant.visited.grows c.requires.here

pub visit-requires-clause-first : goal.visit-requires-clause-first
visit-requires-clause-first c =
    let there = c.requires.place in
    stays_at c.args.found.now.items c.loop-cpu.found.items 0 c.args.opening.now (omega (arith, there)) c.loop-cpu.invariant.visited.grows c.requires.first

pub loop-cpu-preserved : goal.loop-cpu-preserved
loop-cpu-preserved c = record {
  visited = visited_on c.args.merging (states_of c.args.found.now.items) (states_of c.loop-cpu.found.items) (states_of c.visit.new.found.items) c.args.vertex.now c.loop-cpu.cpu
      c.loop-cpu.invariant.visited c.in_ok-visit.ensures.visited;
  frontier = c.in_ok-visit.ensures.frontier;
  linked = c.in_ok-visit.ensures.linked;
  own = c.in_ok-visit.ensures.own;
  drawn = λ is. drawn_on (states_of c.args.found.now.items) (states_of c.loop-cpu.found.items) (states_of c.visit.new.found.items) _ c.args.edges.now.items c.loop-cpu.edges.items
      c.visit.new.edges.items c.args.place c.loop-cpu.cpu c.in_ok-visit.ensures.visited.grows
      (let there = stays_there c.args.found.now.items c.loop-cpu.found.items c.args.place c.requires.place c.loop-cpu.invariant.visited.grows in
      let long = length-map c.loop-cpu.found.items state_of in
      omega (arith, there, long))
      (c.loop-cpu.invariant.drawn is) (c.in_ok-visit.ensures.drawn is);
}
