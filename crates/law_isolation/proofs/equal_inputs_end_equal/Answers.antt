use Rattle.law_isolation.proofs.Runs.{two_runs}
use Rattle.law_isolation.proofs.Showing.{same_exits}
use Rattle.law_isolation.proofs.equal_inputs_end_equal.Goals as goal

pub returns-clause-views : goal.returns-clause-views
returns-clause-views c = two_runs

pub returns-clause-exits : goal.returns-clause-exits
returns-clause-exits c = same_exits
