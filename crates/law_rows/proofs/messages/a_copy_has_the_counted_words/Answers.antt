use Rattle.law_rows.proofs.Telling.{behind, below, counts, given}
use Rattle.law_rows.proofs.messages.a_copy_has_the_counted_words.Goals as goal

pub returns-clause-counts : goal.returns-clause-counts
returns-clause-counts c = counts

pub returns-clause-given : goal.returns-clause-given
returns-clause-given c = given

pub returns-clause-below : goal.returns-clause-below
returns-clause-below c = below

pub returns-clause-behind : goal.returns-clause-behind
returns-clause-behind c = behind
