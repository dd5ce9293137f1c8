use Rattle.law_response.proofs.Rounds.{served_by_rounds}
use Rattle.law_response.proofs.round_robin_serves_each_processor.Goals as goal

pub returns : goal.returns
returns c = served_by_rounds
