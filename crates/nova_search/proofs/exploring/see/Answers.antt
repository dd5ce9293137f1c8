use Rattle.std.proofs.Common.{rules, ◌≡◌, ◌<◌, ◌≤◌, false}
use Rattle.nova_search.proofs.Going.{alike_if, going_left, going_on}
use Rattle.nova_search.proofs.exploring.see.Goals as goal

pub returns-then-turns-limit-clause-seen : goal.returns-then-turns-limit-clause-seen
returns-then-turns-limit-clause-seen g c =
    let fails : g.G.Goal.met c.args.goal.now c.args.vertex.now ≡ false = search rules in
    let many : c.args.limit ≤ c.args.vertex.now.turns = search rules in
    going_left c.args.merging (g.G.Goal.met c.args.goal.now) c.args.opening.now c.args.limit c.args.found.now.items c.args.edges.now.items c.args.place c.args.vertex.now c.args.is_whole
    c.stays_whole.result c.requires.going c.requires.place c.requires.here fails many c.stays_whole.ensures.quiet c.stays_whole.ensures.still

pub returns-clause-seen : goal.returns-clause-seen
returns-clause-seen g c =
    let fails : g.G.Goal.met c.args.goal.now c.args.vertex.now ≡ false = search rules in
    let few : c.args.vertex.now.turns < c.args.limit = search rules in
    going_on c.args.merging (g.G.Goal.met c.args.goal.now) c.args.opening.now c.args.limit c.args.found.now.items c.expand.new.found.items c.args.edges.now.items c.expand.new.edges.items
    c.args.place c.args.is_whole c.args.vertex.now c.requires.going c.requires.place c.requires.here fails few c.in_ok-expand.ensures.visited c.in_ok-expand.ensures.linked
    c.in_ok-expand.ensures.own c.in_ok-expand.ensures.drawn

pub returns-then-may_part-clause-seen : goal.returns-then-may_part-clause-seen
returns-then-may_part-clause-seen g c = (c.requires.going, alike_if c.args.merging c.may_part.result c.may_part.ensures.same (search rules))

pub expand-requires-clause-stay : goal.expand-requires-clause-stay
expand-requires-clause-stay g c = c.may_part.ensures.stay (search rules)

pub expand-requires-clause-linked : goal.expand-requires-clause-linked
expand-requires-clause-linked g c = c.requires.going.linked

pub expand-requires-clause-own : goal.expand-requires-clause-own
expand-requires-clause-own g c = c.requires.going.turns

pub expand-requires-clause-first : goal.expand-requires-clause-first
expand-requires-clause-first g c = c.requires.going.first
