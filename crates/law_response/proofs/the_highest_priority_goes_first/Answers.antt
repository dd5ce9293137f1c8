use Rattle.law_response.proofs.Firsts.{along_edges, goes_first}
use Rattle.law_response.proofs.the_highest_priority_goes_first.Goals as goal

pub returns-clause-first : goal.returns-clause-first
returns-clause-first c = goes_first

pub returns-clause-edges : goal.returns-clause-edges
returns-clause-edges c = along_edges
