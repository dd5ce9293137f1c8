use Rattle.law_turns.proofs.Donation.{begins_kept, keeps, keeps_in_memory, reached_kept}
use Rattle.law_turns.proofs.keeping.turns_keep_what_they_find.Goals as goal

pub returns-clause-begins : goal.returns-clause-begins
returns-clause-begins c = begins_kept

pub returns-clause-memory : goal.returns-clause-memory
returns-clause-memory c = keeps_in_memory

pub returns-clause-turns : goal.returns-clause-turns
returns-clause-turns c = keeps

pub returns-clause-reached : goal.returns-clause-reached
returns-clause-reached c = reached_kept
