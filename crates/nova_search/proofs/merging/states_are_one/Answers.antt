use Rattle.nova_search.proofs.Ones.{apt_on, as_one, one_back, one_itself, one_through, still_as_one}
use Rattle.nova_search.proofs.merging.states_are_one.Goals as goal

pub returns-clause-reflexive : goal.returns-clause-reflexive
returns-clause-reflexive c = one_itself c.alikeness_is_an_equivalence.ensures.reflexive

pub returns-clause-symmetric : goal.returns-clause-symmetric
returns-clause-symmetric c = one_back c.alikeness_is_an_equivalence.ensures.symmetric

pub returns-clause-transitive : goal.returns-clause-transitive
returns-clause-transitive c = one_through c.alikeness_is_an_equivalence.ensures.transitive

pub returns-clause-turns : goal.returns-clause-turns
returns-clause-turns c = as_one c.alike_states_have_alike_turns.ensures.turns

pub returns-clause-apt : goal.returns-clause-apt
returns-clause-apt c = apt_on c.turns_keep_what_they_find.ensures.turns c.alike_states_have_alike_turns.ensures.given

pub returns-clause-quiet : goal.returns-clause-quiet
returns-clause-quiet c = still_as_one c.alike_states_are_as_one.ensures.quiet c.quiet_is_every_processor_idle.ensures
