use Rattle.std.proofs.Common.{refl}
use Rattle.nova_search.specs.declared.merging.Merging.TheVariants.{Same}
use Rattle.nova_asking.proofs.Told.{search_alike, searched}
use Rattle.nova_asking.proofs.search.search_same.Goals as goal

pub returns-clause-searched : goal.returns-clause-searched
returns-clause-searched g c =
    search_alike (record { itself = c.alikeness_is_an_equivalence.ensures.reflexive; contexts = c.alike_states_answer_alike.ensures.contexts }) Same (g.G.Goal.met c.args.goal.now)
    c.args.opening.now c.args.limit c.args.most c.in_ok-explored.explored
    (searched Same (g.G.Goal.met c.args.goal.now) c.args.opening.now c.args.limit c.args.most c.in_ok-explored.explored (c.in_ok-explored.ensures.same refl)
    c.in_ok-explored.ensures.reached c.in_ok-explored.ensures.nearest c.in_ok-explored.ensures.goal c.in_ok-explored.ensures.within c.in_ok-explored.ensures.all
    c.in_ok-explored.ensures.more c.in_ok-explored.ensures.beyond c.in_ok-explored.ensures.first c.in_ok-explored.ensures.linked c.in_ok-explored.ensures.own c.in_ok-explored.ensures.few)
