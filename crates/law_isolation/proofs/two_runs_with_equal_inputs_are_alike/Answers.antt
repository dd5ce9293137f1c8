use Rattle.law_isolation.proofs.Shows.{stretches}
use Rattle.law_isolation.proofs.two_runs_with_equal_inputs_are_alike.Goals as goal

pub returns : goal.returns
returns c = stretches
