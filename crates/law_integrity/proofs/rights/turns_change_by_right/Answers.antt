use Rattle.law_integrity.proofs.Authorised.{authorised, authorised_by}
use Rattle.law_integrity.proofs.rights.turns_change_by_right.Goals as goal

pub returns-clause-turn : goal.returns-clause-turn
returns-clause-turn c k cpu at = rw at.is (authorised at.scenario at.before cpu)

pub returns-clause-acting : goal.returns-clause-acting
returns-clause-acting c k cpu ec at = rw at.is (authorised_by at.scenario at.before cpu ec)
