use Rattle.law_response.proofs.Coming.{called_in_time, late_in_time}
use Rattle.law_response.proofs.a_context_acts_in_time_after_its_moment.Goals as goal

pub returns-clause-deadline : goal.returns-clause-deadline
returns-clause-deadline c = late_in_time

pub returns-clause-alarm : goal.returns-clause-alarm
returns-clause-alarm c = called_in_time
