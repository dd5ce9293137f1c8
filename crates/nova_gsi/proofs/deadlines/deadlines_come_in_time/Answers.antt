use Rattle.nova_gsi.proofs.InTime.{comes_last, in_time, no_later, nobody_acts}
use Rattle.nova_gsi.proofs.deadlines.deadlines_come_in_time.Goals as goal

pub returns-clause-first : goal.returns-clause-first
returns-clause-first c = no_later

pub returns-clause-nobody : goal.returns-clause-nobody
returns-clause-nobody c = nobody_acts

pub returns-clause-bound : goal.returns-clause-bound
returns-clause-bound c = in_time

pub returns-clause-last : goal.returns-clause-last
returns-clause-last c = comes_last
