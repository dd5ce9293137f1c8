use Rattle.nova_ec.proofs.Changes.{sending_keeps, completing_keeps}
use Rattle.nova_ec.proofs.laws.calls_keep.Goals as goal

pub returns-clause-sending : goal.returns-clause-sending
returns-clause-sending c = sending_keeps

pub returns-clause-completing : goal.returns-clause-completing
returns-clause-completing c = completing_keeps
