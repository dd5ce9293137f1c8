use Rattle.nova_utcb.proofs.ExitLaws.{itself, whole, zero_stays}
use Rattle.nova_utcb.proofs.laws.states_come_back.Goals as goal

pub returns-clause-itself : goal.returns-clause-itself
returns-clause-itself c = itself

pub returns-clause-whole : goal.returns-clause-whole
returns-clause-whole c = whole

pub returns-clause-zero : goal.returns-clause-zero
returns-clause-zero c = zero_stays
