use Rattle.nova_utcb.proofs.ExitLaws.{exit_counts, low_stays, high_stays}
use Rattle.nova_utcb.proofs.laws.exit_messages_have_their_words.Goals as goal

pub returns-clause-counts : goal.returns-clause-counts
returns-clause-counts c = exit_counts

pub returns-clause-low : goal.returns-clause-low
returns-clause-low c = low_stays

pub returns-clause-high : goal.returns-clause-high
returns-clause-high c = high_stays
