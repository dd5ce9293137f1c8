use Rattle.law_turns.proofs.Revoking.{all_after, begins_asked, deeds_leave, none_goes, returns_done, turns_leave}
use Rattle.law_turns.proofs.revokes.running_revokes_are_their_runners.Goals as goal

pub returns-clause-deeds : goal.returns-clause-deeds
returns-clause-deeds c = deeds_leave

pub returns-clause-all : goal.returns-clause-all
returns-clause-all c = all_after

pub returns-clause-longer : goal.returns-clause-longer
returns-clause-longer c = none_goes

pub returns-clause-turns : goal.returns-clause-turns
returns-clause-turns c = turns_leave

pub returns-clause-begins : goal.returns-clause-begins
returns-clause-begins c = begins_asked

pub returns-clause-returns : goal.returns-clause-returns
returns-clause-returns c = returns_done
