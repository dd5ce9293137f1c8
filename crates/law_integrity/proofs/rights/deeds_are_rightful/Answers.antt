use Rattle.law_origins.proofs.Origins.{makers}
use Rattle.law_integrity.proofs.Exits.{exit_becomes}
use Rattle.law_integrity.proofs.Edges.{reached_rightful}
use Rattle.law_integrity.proofs.Own.{aborts_dead}
use Rattle.law_integrity.proofs.Requests.{deed_asks_for}
use Rattle.law_integrity.proofs.rights.deeds_are_rightful.Goals as goal

pub returns-clause-rightful : goal.returns-clause-rightful
returns-clause-rightful c k ec at = rw at.is (reached_rightful at.scenario at.before ec)

pub returns-clause-exits : goal.returns-clause-exits
returns-clause-exits c = exit_becomes

pub returns-clause-aborts : goal.returns-clause-aborts
returns-clause-aborts c k cpu ec handler at = rw at.is (aborts_dead at.scenario at.before cpu ec handler)

pub returns-clause-firsts : goal.returns-clause-firsts
returns-clause-firsts c = makers

pub returns-clause-asks : goal.returns-clause-asks
returns-clause-asks c = deed_asks_for
