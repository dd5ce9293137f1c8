use Rattle.law_integrity.proofs.Waits.{ends, sends_on}
use Rattle.law_integrity.proofs.callers.exits_of_virtual_cpus_end_by_right.Goals as goal

pub returns-clause-sent : goal.returns-clause-sent
returns-clause-sent c = sends_on

pub returns-clause-died : goal.returns-clause-died
returns-clause-died c = ends
