use Rattle.law_alike.proofs.Telling.{told_by_event, told_by_number}
use Rattle.law_alike.proofs.laws.ticks_are_told_by_one_call.Goals as goal

pub returns-clause-number : goal.returns-clause-number
returns-clause-number c = told_by_number

pub returns-clause-event : goal.returns-clause-event
returns-clause-event c = told_by_event
