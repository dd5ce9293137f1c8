use Rattle.law_origins.proofs.Once.{one_last_sent}
use Rattle.law_origins.proofs.the_last_sent_is_one.Goals as goal

pub returns : goal.returns
returns c = one_last_sent
