use Rattle.std.proofs.Common.{rules}
use Rattle.std.specs.Prelude.{Some, None}
use Rattle.nova_search.specs.Searches.{IsFirst, states_of}
use Rattle.nova_search.proofs.Open.{first_behind, none_behind}
use Rattle.nova_search.proofs.exploring.first_open.Goals as goal

pub returns-then-branch : goal.returns-then-branch
returns-then-branch g c = λ none.
    let first : IsFirst (g.G.Goal.met c.args.goal.now) c.args.frontier.now (Some c.loop-i.i) = search rules in
    first_behind (g.G.Goal.met c.args.goal.now) (states_of c.args.found.now) c.args.most c.loop-i.i c.args.frontier.now c.requires.frontier none first

pub returns : goal.returns
returns g c = λ none.
    let first : IsFirst (g.G.Goal.met c.args.goal.now) c.args.frontier.now None = search rules in
    none_behind (g.G.Goal.met c.args.goal.now) (states_of c.args.found.now) c.args.most c.args.frontier.now c.requires.frontier none first
