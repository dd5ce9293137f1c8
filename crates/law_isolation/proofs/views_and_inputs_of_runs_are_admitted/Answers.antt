use Rattle.law_isolation.proofs.Admitted.{reached_inputs, reached_ranges, reached_view}
use Rattle.law_isolation.proofs.views_and_inputs_of_runs_are_admitted.Goals as goal

pub returns-clause-ranges : goal.returns-clause-ranges
returns-clause-ranges c = reached_ranges

pub returns-clause-views : goal.returns-clause-views
returns-clause-views c = reached_view

pub returns-clause-inputs : goal.returns-clause-inputs
returns-clause-inputs c = reached_inputs
