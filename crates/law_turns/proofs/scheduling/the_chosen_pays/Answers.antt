use Rattle.law_turns.proofs.Paid.{turn_free, turn_paid, new_whole}
use Rattle.law_turns.proofs.scheduling.the_chosen_pays.Goals as goal

pub returns-clause-pays : goal.returns-clause-pays
returns-clause-pays c = turn_paid

pub returns-clause-begins : goal.returns-clause-begins
returns-clause-begins c = new_whole

pub returns-clause-free : goal.returns-clause-free
returns-clause-free c = turn_free
