use Rattle.law_response.proofs.Sources.{no_rings, rings_come}
use Rattle.law_response.proofs.an_alarm_rings_once_a_period.Goals as goal

pub returns-clause-last : goal.returns-clause-last
returns-clause-last c = rings_come

pub returns-clause-none : goal.returns-clause-none
returns-clause-none c = no_rings
