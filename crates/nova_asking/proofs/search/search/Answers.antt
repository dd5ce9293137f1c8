use Rattle.std.proofs.Common.{rules, ◌≡◌, false}
use Rattle.nova_search.specs.declared.merging.Merging.TheVariants.{Alike}
use Rattle.nova_asking.proofs.Told.{searched}
use Rattle.nova_asking.proofs.search.search.Goals as goal

pub returns-clause-searched : goal.returns-clause-searched
returns-clause-searched g c =
    let told : c.in_ok-explored.explored.tells_ticks ≡ false = search rules in
    searched Alike (g.G.Goal.met c.args.goal.now) c.args.opening.now c.args.limit c.args.most c.in_ok-explored.explored told c.in_ok-explored.ensures.reached
    c.in_ok-explored.ensures.nearest c.in_ok-explored.ensures.goal c.in_ok-explored.ensures.within c.in_ok-explored.ensures.all c.in_ok-explored.ensures.more c.in_ok-explored.ensures.beyond
    c.in_ok-explored.ensures.first c.in_ok-explored.ensures.linked c.in_ok-explored.ensures.own c.in_ok-explored.ensures.few
