use Rattle.law_forest.proofs.Under.{turn_under, under_course}
use Rattle.law_forest.proofs.nothing_joins_a_running_revoke.Goals as goal

pub returns-clause-turn : goal.returns-clause-turn
returns-clause-turn c = turn_under

pub returns-clause-steps : goal.returns-clause-steps
returns-clause-steps c = under_course
