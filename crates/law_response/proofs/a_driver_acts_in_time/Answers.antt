use Rattle.law_response.proofs.Drivers.{called_prompt, late_prompt}
use Rattle.law_response.proofs.a_driver_acts_in_time.Goals as goal

pub returns-clause-deadline : goal.returns-clause-deadline
returns-clause-deadline c = late_prompt

pub returns-clause-alarm : goal.returns-clause-alarm
returns-clause-alarm c = called_prompt
