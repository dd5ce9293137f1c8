use Rattle.law_response.proofs.Reactions.{exits_in_time, jobs_in_time}
use Rattle.law_response.proofs.a_moment_reaches_a_guest_in_time.Goals as goal

pub returns-clause-exit : goal.returns-clause-exit
returns-clause-exit c = exits_in_time

pub returns-clause-job : goal.returns-clause-job
returns-clause-job c = jobs_in_time
