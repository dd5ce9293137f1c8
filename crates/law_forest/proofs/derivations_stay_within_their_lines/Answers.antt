use Rattle.law_forest.proofs.Reached.{reached_within, reached_line}
use Rattle.law_forest.proofs.derivations_stay_within_their_lines.Goals as goal

pub returns-clause-within : goal.returns-clause-within
returns-clause-within c = reached_within

pub returns-clause-whole : goal.returns-clause-whole
returns-clause-whole c = reached_line
