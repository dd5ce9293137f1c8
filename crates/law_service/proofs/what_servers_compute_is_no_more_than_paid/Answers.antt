use Rattle.law_service.proofs.Computing.{computing}
use Rattle.law_service.proofs.what_servers_compute_is_no_more_than_paid.Goals as goal

pub returns : goal.returns
returns c = computing
