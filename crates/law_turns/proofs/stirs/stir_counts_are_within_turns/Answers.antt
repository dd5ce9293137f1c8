use Rattle.law_turns.proofs.Stirring.{within_begins, within_kept, within_turns}
use Rattle.law_turns.proofs.stirs.stir_counts_are_within_turns.Goals as goal

pub returns-clause-begins : goal.returns-clause-begins
returns-clause-begins c = within_begins

pub returns-clause-kept : goal.returns-clause-kept
returns-clause-kept c = within_kept

pub returns-clause-reached : goal.returns-clause-reached
returns-clause-reached c = within_turns
