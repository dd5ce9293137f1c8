use Rattle.law_turns.proofs.Asking.{made_as_asked, asked_is_made, calling_makes}
use Rattle.law_turns.proofs.making.a_schedule_is_made_as_asked.Goals as goal

pub returns-clause-asked : goal.returns-clause-asked
returns-clause-asked c = made_as_asked

pub returns-clause-made : goal.returns-clause-made
returns-clause-made c = asked_is_made

pub returns-clause-turns : goal.returns-clause-turns
returns-clause-turns c = calling_makes
