use Rattle.law_response.proofs.Selves.{acts_in_time, woken_itself}
use Rattle.law_response.proofs.a_context_that_waits_for_nobody_acts_in_time.Goals as goal

pub returns-clause-acts : goal.returns-clause-acts
returns-clause-acts c = acts_in_time

pub returns-clause-woken : goal.returns-clause-woken
returns-clause-woken c = woken_itself
