use Rattle.std.proofs.Common.{arith, rules, ◌≡◌, List, false, subst, sym}
use Rattle.nova_search.specs.Searches.{states_of}
use Rattle.nova_search.specs.declared.found.Found.{Found}
use Rattle.nova_search.specs.declared.merging.Merging.TheVariants.{Alike}
use Rattle.nova_asking.specs.Answers.{outcomes}
use Rattle.nova_asking.specs.Searched.{AreFrom}
use Rattle.nova_asking.proofs.Told.{along, beyond_where_within, counts, more_where_cut, no_goal, told_ends}
use Rattle.nova_asking.proofs.ends.ends_of.Goals as goal

pub returns-clause-all : goal.returns-clause-all
returns-clause-all c = λ k limit most given.
    let e = c.args.explored.now in
    let same : c.as_slice-found.result.now ≡ e.found.items = search rules in
    told_ends (λ _. false) k limit most e c.as_slice-found.result.now (outcomes c.in_ok-ends.ends.items) c.of-extent.result
    c.alike_states_are_as_one.ensures.quiet c.alike_states_answer_alike.ensures.outcomes given same c.in_ok-ends.ensures.all c.of-extent.ensures

pub returns-clause-states : goal.returns-clause-states
returns-clause-states c = λ k limit most given.
    let e = c.args.explored.now in
    let same : c.as_slice-found.result.now ≡ e.found.items = search rules in
    counts (record { itself = c.alikeness_is_an_equivalence.ensures.reflexive; contexts = c.alike_states_answer_alike.ensures.contexts }) (λ _. false) k limit most e
    c.as_slice-found.result.now c.of-extent.result c.in_ok-ends.ends.items given same
    (along Alike (λ _. false) k limit limit most e given (omega arith) c.of-extent.result c.of-extent.ensures)
    (more_where_cut Alike (λ _. false) k limit limit most e given (omega arith) c.of-extent.result (no_goal (states_of e.found.items) e.goal given.goal k) c.of-extent.ensures)
    (beyond_where_within Alike (λ _. false) k limit limit most e given (omega arith) c.of-extent.result c.of-extent.ensures)
    c.in_ok-ends.ensures.counted c.in_ok-ends.ensures.all

pub returns-clause-each : goal.returns-clause-each
returns-clause-each c = λ k limit most given.
    let same : c.as_slice-found.result.now ≡ c.args.explored.now.found.items = search rules in
    c.in_ok-ends.ensures.each k limit (subst (λ (l : List Found). AreFrom k limit l) (sym same) (record { first = given.first; nearest = given.nearest; few = given.few }))
