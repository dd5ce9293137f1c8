use Rattle.law_response.proofs.Served.{serves_in_rounds}
use Rattle.law_response.proofs.round_robin_serves_the_highest_priority.Goals as goal

pub returns : goal.returns
returns c = serves_in_rounds
