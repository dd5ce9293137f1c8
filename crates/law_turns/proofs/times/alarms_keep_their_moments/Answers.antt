use Rattle.law_turns.proofs.Alarms.{on_time, same_alarms, source_more}
use Rattle.law_turns.proofs.times.alarms_keep_their_moments.Goals as goal

pub returns-clause-moments : goal.returns-clause-moments
returns-clause-moments c = on_time

pub returns-clause-same : goal.returns-clause-same
returns-clause-same c = same_alarms

pub returns-clause-more : goal.returns-clause-more
returns-clause-more c = source_more
